use Rattle.std.proofs.Common.{sym, ◌∙◌}
use Rattle.std.proofs.lemmas.Bool.{false≢true, OnFalse_at, OnTrue_at}
use Rattle.fs_check.proofs.Sound.{bitmap_from_rule, owners_from_rule}
use Rattle.fs_check.proofs.are_marked.Goals as goal
use Rattle.fs_check.proofs.are_marked.Goals.{then-not-mark_owners-via-then-not-mark_owners}
use Rattle.fs_check.proofs.are_marked.Goals.{then-not-mark_owners-via-else-not-mark_owners+then-not-is_bitmap}

pub returns-then-not-mark_owners-clause-refused : goal.returns-then-not-mark_owners-clause-refused
returns-then-not-mark_owners-clause-refused g c =
    let blocks = g.B.Blocks.blocks c.args.blocks.now in
    λ rule. elim c.then-not-mark_owners.branch [
      | then-not-mark_owners-via-then-not-mark_owners w ↦
          OnFalse_at w.if-not-mark_owners.true c.mark_owners.ensures.refused (owners_from_rule c.args.inodes blocks rule)
      | then-not-mark_owners-via-else-not-mark_owners+then-not-is_bitmap w ↦
          let marked = OnTrue_at w.if-not-mark_owners.false c.mark_owners.ensures.marked in
          false≢true (sym w.if-not-is_bitmap.true
          ∙ w.is_bitmap.ensures.1 (bitmap_from_rule c.args.inodes blocks rule c.mark_owners.new.marks marked.1))
    ]
