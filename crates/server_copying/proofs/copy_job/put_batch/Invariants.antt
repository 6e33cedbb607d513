use Rattle.std.proofs.Common.{◌≡◌, ◌*◌, take}
use Rattle.server_copying.proofs.copy_job.put_batch.Given as goal

abbrev pub invariant-loop-place : goal.invariant-loop-place
invariant-loop-place l =
    (l.left ≡ l.initial.left)
    × ((l.portion.numbers ≡ take l.place l.batch.numbers) × (l.portion.images ≡ take (4096 * l.place) l.batch.images))
