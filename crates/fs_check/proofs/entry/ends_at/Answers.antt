use Rattle.std.proofs.Common.{inl, inr, ◌-◌, ◌/◌, [], length, refl, arith}
use Rattle.std.proofs.lemmas.Bool.{cases_lt}
use Rattle.model.specs.Volume.{number_at}
use Rattle.model.specs.Files.{entry_of, first_data, indirect_for, indirect_pointer}
use Rattle.fs_check.proofs.Owning.{number_there}
use Rattle.fs_check.proofs.Pointers.{no_pointer_past}
use Rattle.fs_check.proofs.entry.ends_at.Goals as goal

pub pointer_at-requires-clause-double : goal.pointer_at-requires-clause-double
pointer_at-requires-clause-double g c high =
    number_there (first_data (length (g.B.Blocks.blocks c.args.blocks.now)) c.args.inodes)
    (length (g.B.Blocks.blocks c.args.blocks.now)) 1 (indirect_for c.args.from)
    (number_at 56 4 c.args.inode.now) (omega arith) c.requires.double (omega (arith, high, c.tables_for.ensures))

pub pointer_at-requires-clause-indirect : goal.pointer_at-requires-clause-indirect
pointer_at-requires-clause-indirect g c high =
    let blocks = g.B.Blocks.blocks c.args.blocks.now in
    let p = (c.loop-i.i - 10) / 1024 in
    number_there (first_data (length (g.B.Blocks.blocks c.args.blocks.now)) c.args.inodes) (length blocks) p (indirect_for c.args.from)
    (indirect_pointer (entry_of blocks c.args.inode.now []) p) (omega arith) (c.requires.tables p)
    (omega (arith, high, c.tables_for.ensures))

pub returns : goal.returns
returns g c =
    let blocks = g.B.Blocks.blocks c.args.blocks.now in (
      (λ all i high. elim (cases_lt i c.loop-i.i) [
        | inl less ↦ c.loop-i.invariant i high less
        | inr past ↦ no_pointer_past (first_data (length (g.B.Blocks.blocks c.args.blocks.now)) c.args.inodes)
            (indirect_for c.args.from) blocks c.args.inode.now
            c.requires.room.blocks_whole (omega arith) c.requires.tables i (omega (arith, past, c.tables_for.ensures))
      ]),
      (λ all. refl),
    )
