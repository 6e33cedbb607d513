use Rattle.std.proofs.Common.{◌≡◌, ◌*◌, [], get_or, length, take}
use Rattle.std.specs.List.{flat_map}
use Rattle.journal_volume.proofs.batch_room.gather.Given as goal

abbrev pub invariant-loop-place : goal.invariant-loop-place
invariant-loop-place l =
    (length l.images ≡ length l.initial.images)
    × (take (4096 * l.place) l.images ≡ flat_map (λ n. get_or l.cache.blocks n []) (take l.place l.numbers))
