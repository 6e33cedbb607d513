use Rattle.std.proofs.Common.{◌≡◌, ◌∙◌, sym}
use Rattle.std.proofs.lemmas.Bool.{false≢true}
use Rattle.std.proofs.lemmas.Slice.Eq.{bytes_eq-Decides}
use Rattle.text_networks.specs.Proxies.{words_of}
use Rattle.text_networks.proofs.Families.{no_ends, no_family}
use Rattle.text_networks.proofs.proxies.read_family.Goals as goal
use Rattle.text_networks.proofs.proxies.read_family.Goals.{else-eq-2-via-then-eq-2+else-eq-3, else-eq-2-via-else-eq-2}

pub returns-in_default-clause-none : goal.returns-in_default-clause-none
returns-in_default-clause-none c =
    no_ends c.args.family.now (words_of c.args.ends.now)
    (λ is. false≢true (sym c.if-eq.false ∙ c.eq.ensures ∙ (bytes_eq-Decides _ _).1 is)) c.in_default.ensures.none

pub returns-else-eq-2-clause-none : goal.returns-else-eq-2-clause-none
returns-else-eq-2-clause-none c =
    no_family c.args.family.now (words_of c.args.ends.now)
    (λ is. false≢true (sym c.if-eq.false ∙ c.eq.ensures ∙ (bytes_eq-Decides _ _).1 is))
    c.in-Some.field-0.from c.in-Some.field-0.to c.in-Some.field-0.port c.in-Some.ensures.found
    (elim c.else-eq-2.branch [
      | else-eq-2-via-then-eq-2+else-eq-3 w ↦ λ one two.
          let same : c.args.family.now ≡ w.word_of-then-eq-2.result.now = cc (two, c.in-Some.to-is, w.word_of-then-eq-2.ensures) in
          false≢true (sym w.if-eq-3.false ∙ w.eq-then-eq-2.ensures ∙ (bytes_eq-Decides _ _).1 same)
      | else-eq-2-via-else-eq-2 w ↦ λ one two.
          let same : c.args.family.now ≡ c.word_of.result.now = cc (one, c.in-Some.from-is, c.word_of.ensures) in
          false≢true (sym w.if-eq-2.false ∙ c.eq-2.ensures ∙ (bytes_eq-Decides _ _).1 same)
    ])
