use Rattle.std.proofs.Common.{◌≡◌, ◌<◌, ℕ, ◌+◌, List, ◌∷◌, [], ◌++◌, length, set, sym, ap, subst, arith}
use Rattle.std.specs.List.{Contains}
use Rattle.journal_volume.specs.Numbers.{Numbers, IsIndex}
use Rattle.journal_volume.proofs.Index.{has_room, inserted, members_below, members_distinct}
use Rattle.journal_volume.proofs.number_set.NumberSet.insert.Goals as goal

pub push_reserved-requires : goal.push_reserved-requires
push_reserved-requires c =
    let s = c.self.inside in
    let there : c.args.number < s.bound = omega (arith, c.requires.below, ap (λ (v : Numbers). v.bound) c.self.view_is) in
    let other = subst (λ (v : Numbers). ¬ (Contains v.members c.args.number)) (sym c.self.view_is) c.requires.other in
    let room = has_room s.bound s.members.items s.places.items c.self.invariant.0 c.args.number there other in
    omega (arith, room, c.self.invariant.1, s.members.ok.0)

pub overflow_cast-len : goal.overflow_cast-len
overflow_cast-len c =
    let s = c.self.inside in
    let there : c.args.number < s.bound = omega (arith, c.requires.below, ap (λ (v : Numbers). v.bound) c.self.view_is) in
    let other = subst (λ (v : Numbers). ¬ (Contains v.members c.args.number)) (sym c.self.view_is) c.requires.other in
    let room = has_room s.bound s.members.items s.places.items c.self.invariant.0 c.args.number there other in
    omega (arith, room, c.self.invariant.0.few, c.len.ensures, c.push_reserved.ensures.len, s.members.ok.0)

pub invariant_of-self : goal.invariant_of-self
invariant_of-self c =
    let s = c.self.inside in
    let n = c.args.number in
    let there : n < s.bound = omega (arith, c.requires.below, ap (λ (v : Numbers). v.bound) c.self.view_is) in
    let other = subst (λ (v : Numbers). ¬ (Contains v.members n)) (sym c.self.view_is) c.requires.other in
    let longer = c.reach.new.places.items in
    let index = inserted s.bound s.members.items s.places.items c.self.invariant.0 n there other longer c.reach.ensures.same
    c.reach.ensures.there in
    let size : c.len.result ≡ length s.members.items + 1 = omega (arith, c.len.ensures, c.push_reserved.ensures.len, s.members.ok.0) in (
      subst (λ (l : List ℕ). IsIndex s.bound l (set longer n c.len.result)) (sym c.push_reserved.ensures.items)
          (subst (λ (m : ℕ). IsIndex s.bound (s.members.items ++ n ∷ []) (set longer n m)) (sym size) index),
      omega (arith, c.self.invariant.1, c.push_reserved.ensures.capacity),
      omega (arith, c.self.invariant.2, c.reach.ensures.room),
    )

pub returns-clause-valid : goal.returns-clause-valid
returns-clause-valid c =
    let s = c.self.inside in
    let n = c.args.number in
    let there : n < s.bound = omega (arith, c.requires.below, ap (λ (v : Numbers). v.bound) c.self.view_is) in
    let other = subst (λ (v : Numbers). ¬ (Contains v.members n)) (sym c.self.view_is) c.requires.other in
    let longer = c.reach.new.places.items in
    let index = subst (λ (l : List ℕ). IsIndex s.bound l (set longer n (length s.members.items + 1))) (sym c.push_reserved.ensures.items)
    (inserted s.bound s.members.items s.places.items c.self.invariant.0 n there other longer c.reach.ensures.same c.reach.ensures.there) in
    record { below = members_below _ _ _ index; distinct = members_distinct _ _ _ index }
