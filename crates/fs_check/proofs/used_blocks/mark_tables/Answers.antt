use Rattle.std.proofs.Common.{◌≡◌, ◌<◌, ℕ, true, [], length, map, subst, arith}
use Rattle.std.specs.List.{range_with_len}
use Rattle.model.specs.Files.{entry_of, indirect_pointer}
use Rattle.fs_layout.specs.Bits.{bit_of}
use Rattle.fs_check.specs.Checking.{Marks}
use Rattle.fs_check.proofs.MarkedLists.{marks_more, cannot_more}
use Rattle.fs_check.proofs.used_blocks.mark_tables.Goals as goal

pub returns-then-not-mark-clause-refused : goal.returns-then-not-mark-clause-refused
returns-then-not-mark-clause-refused g c =
    let blocks = g.B.Blocks.blocks c.args.blocks.now in
    cannot_more (length blocks) (λ n. indirect_pointer (entry_of blocks c.args.inode.now []) n) c.loop-p.p c.args.marks.now c.loop-p.marks
    c.loop-p.invariant
    c.args.tables c.indirect_at.result c.loop-p-test.true c.indirect_at.ensures
    (subst (λ (m : ℕ). c.indirect_at.result < m
    → bit_of c.loop-p.marks c.indirect_at.result ≡ true) c.len.ensures.count c.if-not-mark.ensures.refused)

pub loop-p-preserved : goal.loop-p-preserved
loop-p-preserved g c =
    let blocks = g.B.Blocks.blocks c.args.blocks.now in
    let marked = c.if-not-mark.ensures.marked in
    marks_more (length blocks) (λ n. indirect_pointer (entry_of blocks c.args.inode.now []) n) c.loop-p.p c.args.marks.now c.loop-p.marks
    c.loop-p.invariant
    c.indirect_at.result c.mark.new.marks c.indirect_at.ensures (subst (λ (m : ℕ). c.indirect_at.result < m) c.len.ensures.count marked.0)
    marked.1 marked.2

pub returns-clause-marked : goal.returns-clause-marked
returns-clause-marked g c =
    let blocks = g.B.Blocks.blocks c.args.blocks.now in
    let all : c.loop-p.p ≡ c.args.tables = omega arith in
    subst (λ (m : ℕ). Marks (length blocks) (map (λ n. indirect_pointer (entry_of blocks c.args.inode.now []) n) (range_with_len 0 m))
    c.args.marks.now c.loop-p.marks) all c.loop-p.invariant
