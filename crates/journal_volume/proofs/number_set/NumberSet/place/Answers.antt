use Rattle.std.proofs.Common.{◌≤◌, length, subst, arith}
use Rattle.std.specs.List.{Contains}
use Rattle.journal_volume.specs.Numbers.{Numbers}
use Rattle.journal_volume.proofs.Index.{past_places}
use Rattle.journal_volume.proofs.number_set.NumberSet.place.Goals as goal

pub returns-then-len-number : goal.returns-then-len-number
returns-then-len-number c =
    let s = c.self.inside in
    let past : length s.places.items ≤ c.args.number = omega arith in
    subst (λ (v : Numbers). ¬ (Contains v.members c.args.number)) c.self.view_is
    (past_places s.bound s.members.items s.places.items c.self.invariant.0 c.args.number past)
