use Rattle.std.proofs.Common.{◌≡◌, take}
use Rattle.model.specs.Files.{table}
use Rattle.fs.specs.Touches.{Touches}
use Rattle.spool_growing.specs.Calls.{AppendsFirst, IsKnown, touched_by_pieces}
use Rattle.spool_growing.proofs.file_calls.append_all.Given as goal

abbrev pub invariant-loop-piece : goal.invariant-loop-piece
invariant-loop-piece g l = record {
  appended : AppendsFirst l.inodes l.pieces l.piece-index (g.B.Blocks.blocks l.initial.blocks) (g.B.Blocks.blocks l.blocks);
  touches : Touches (touched_by_pieces (table l.inodes (g.B.Blocks.blocks l.initial.blocks)) (take l.piece-index l.pieces))
      (g.B.Blocks.blocks l.initial.blocks) (g.B.Blocks.blocks l.blocks);
  known : IsKnown l.inodes l.free (g.B.Blocks.blocks l.blocks);
  kept : g.B.Blocks.applied l.blocks ≡ g.B.Blocks.applied l.initial.blocks;
}
