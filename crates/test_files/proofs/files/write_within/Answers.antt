use Rattle.std.proofs.Common.{List, ℕ, length, ap, arith}
use Rattle.fs_layout.proofs.Tables.{there_once}
use Rattle.test_files.proofs.files.write_within.Goals as goal

pub write_at-requires-clause-place : goal.write_at-requires-clause-place
write_at-requires-clause-place c =
    λ k content is.
    let found = c.in_ok-end.ensures.found in
    let same = there_once 64 c.args.volume.now.seen c.requires.rule found.0 k c.args.name.now found.1 content found.2 is in
    omega (arith, ap (λ (o : List ℕ). length o) same, found.3)
