use Rattle.std.proofs.Common.{length, ap, sym, ◌∙◌, arith}
use Rattle.std.specs.Prelude.{◌==◌}
use Rattle.std.specs.List.{position_or_len}
use Rattle.std.proofs.lemmas.Bool.{false_from_ne_true}
use Rattle.std.proofs.lemmas.List.Sums.{position_or_len_is}
use Rattle.text_rnews.proofs.rnews_batches.line_length.Goals as goal

pub returns-in-Some : goal.returns-in-Some
returns-in-Some c =
    let found = c.in-Some.ensures in
    let front = c.first_octets-front.result.now in
    sym (position_or_len_is (λ x. x == 10) front c.in-Some.at 0 (omega (arith, found.0.high))
    (λ k below. false_from_ne_true _ (found.0.before k (omega arith) below)) (λ _. found.1))
    ∙ ap (position_or_len (λ x. x == 10)) c.first_octets-front.ensures

pub returns-in-None : goal.returns-in-None
returns-in-None c =
    let front = c.first_octets-front.result.now in
    sym (position_or_len_is (λ x. x == 10) front (length front) 0 (omega arith)
    (λ k below. false_from_ne_true _ (c.in-None.ensures k (omega arith) below)) (λ past. absurd (omega (arith, past))))
    ∙ ap (position_or_len (λ x. x == 10)) c.first_octets-front.ensures
