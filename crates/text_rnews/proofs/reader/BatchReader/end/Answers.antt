use Rattle.std.proofs.Common.{length, ◌∙◌, ap, arith, length-drop}
use Rattle.text_rnews.proofs.reader.BatchReader.end.Goals as goal
use Rattle.text_rnews.proofs.reader.BatchReader.end.Goals.{then-self-len-via-then-self-len, then-self-len-via-else-self-len+then-self-gt0}

pub returns-then-self-len-clause-ok : goal.returns-then-self-len-clause-ok
returns-then-self-len-clause-ok c = (
  λ is. cc,
  λ none. elim c.then-self-len.branch [
    | then-self-len-via-then-self-len w ↦ absurd (omega (
      arith,
      length-drop c.self.inside.start c.self.inside.octets.items,
      ap length (ap (λ held. held.unread.rest) c.self.view_is ∙ ap (λ unread. unread.rest) none),
      c.self.inside.octets.ok.0,
      c.len.ensures,
      w.if-self-len.true,
    ))
    | then-self-len-via-else-self-len+then-self-gt0 w ↦ absurd (omega (
      arith,
      ap (λ held. held.unread.over) c.self.view_is ∙ ap (λ unread. unread.over) none,
      w.if-self-gt0.true,
    ))
  ],
)
