use Rattle.std.proofs.Common.{ℕ, ◌*◌, ◌∙◌, ap}
use Rattle.model.specs.Volume.{home_place, number_at}
use Rattle.journal_gates.proofs.Looking.{all_within}
use Rattle.journal_gates.proofs.count_told.Goals as goal

pub returns-in-Some-clause-within : goal.returns-in-Some-clause-within
returns-in-Some-clause-within c =
    let its = c.in-Some.ensures.some in
    all_within c.in-Some.volume.segments (number_at 12 4 c.args.superblock.now) c.args.size its.0.low
    (its.0.exactly ∙ ap (λ (n : ℕ). 4096 * home_place n (number_at 12 4 c.args.superblock.now)) its.2)
