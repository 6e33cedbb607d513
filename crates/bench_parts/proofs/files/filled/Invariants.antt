use Rattle.bench_parts.specs.Files.{HasFiles}
use Rattle.bench_parts.proofs.files.filled.Given as goal

-- the volume stays a file system
abbrev pub invariant-loop-number : goal.invariant-loop-number
invariant-loop-number l = HasFiles l.volume.seen
