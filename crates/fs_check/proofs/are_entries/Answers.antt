use Rattle.std.proofs.Common.{sym, ◌∙◌, below_more}
use Rattle.std.proofs.lemmas.Bool.{false≢true}
use Rattle.fs_check.proofs.are_entries.Goals as goal

pub loop-at-preserved : goal.loop-at-preserved
loop-at-preserved g c = below_more _ _ c.loop-at.invariant (c.is_entry.ensures.0 c.if-not-is_entry.false)

pub returns-then-not-is_entry : goal.returns-then-not-is_entry
returns-then-not-is_entry g c = (
  (λ all. absurd (false≢true all)),
  (λ all. absurd (false≢true (sym c.if-not-is_entry.true ∙ c.is_entry.ensures.1 (all c.loop-at.at c.loop-at-test.true)))),
)
