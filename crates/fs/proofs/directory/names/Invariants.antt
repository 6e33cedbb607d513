use Rattle.std.proofs.Common.{◌≡◌, map, take}
use Rattle.model.specs.Files.{table}
use Rattle.fs_layout.specs.Table.{file_names}
use Rattle.fs.proofs.directory.names.Given as goal

abbrev pub invariant-loop-at : goal.invariant-loop-at
invariant-loop-at g l = map (λ name. name.items) l.names.items ≡ file_names (take l.at (table l.inodes (g.B.Blocks.blocks l.blocks)))
