use Rattle.std.proofs.Common.{◌≡◌, ◌+◌, ◌==◌, suc, ◌∙◌, ap, sym, drop, take, ◌∷◌, arith}
use Rattle.std.proofs.lemmas.Bool.{false_from_ne_true}
use Rattle.std.proofs.lemmas.List.{take_rest}
use Rattle.text_networks.specs.Proxies.{words_of}
use Rattle.text_networks.proofs.Words.{cut_at, uncut}
use Rattle.text_networks.proofs.proxies.cut.Goals as goal

pub returns-in-Some-clause-some : goal.returns-in-Some-clause-some
returns-in-Some-clause-some c =
    let text = c.args.text.now in
    let at = c.in-Some.at in
    let found = c.in-Some.ensures in
    let behind : suc at ≡ at + 1 = omega arith in
    cut_at (λ octet. octet == 32) text at found.0.high found.1 (λ k below. false_from_ne_true _ (found.0.before k (omega arith) below))
    ∙ ap (λ k. take at text ∷ words_of (drop k text)) behind
    ∙ ap (λ rest. take at text ∷ words_of rest) (sym (take_rest text (at + 1)))

pub returns-in-None-clause-none : goal.returns-in-None-clause-none
returns-in-None-clause-none c =
    uncut (λ octet. octet == 32) c.args.text.now (λ k within. false_from_ne_true _ (c.in-None.ensures k (omega arith) within))
