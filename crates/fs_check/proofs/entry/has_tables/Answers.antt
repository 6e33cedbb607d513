use Rattle.std.proofs.Common.{inl, inr, below_more, length, refl, arith}
use Rattle.std.proofs.lemmas.Bool.{cases_lt}
use Rattle.model.specs.Files.{first_data}
use Rattle.fs_check.proofs.Pointers.{no_table_past}
use Rattle.fs_check.proofs.entry.has_tables.Goals as goal

pub loop-p-preserved : goal.loop-p-preserved
loop-p-preserved g c = below_more _ _ c.loop-p.invariant (c.has_table.ensures.0 c.if-not-has_table.false)

pub returns : goal.returns
returns g c =
    let blocks = g.B.Blocks.blocks c.args.blocks.now in (
      (λ all p. elim (cases_lt p c.loop-p.p) [
        | inl less ↦ c.loop-p.invariant p less
        | inr past ↦ inr (
          omega (arith, past, c.table_places-p-end.ensures, c.requires.few),
          no_table_past (first_data (length (g.B.Blocks.blocks c.args.blocks.now)) c.args.inodes) c.args.tables blocks c.args.inode.now
              c.requires.room.blocks_whole
              (omega arith) c.table_places-p-end.result c.table_places-p-end.ensures c.requires.double p (omega (arith, past)),
        )
      ]),
      (λ all. refl),
    )
