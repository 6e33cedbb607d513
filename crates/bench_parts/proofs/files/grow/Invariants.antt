use Rattle.bench_parts.specs.Files.{HasFiles}
use Rattle.bench_parts.proofs.files.grow.Given as goal

-- the volume stays a file system
abbrev pub invariant-loop : goal.invariant-loop
invariant-loop l = HasFiles l.volume.seen
