use Rattle.std.proofs.Common.{◌≡◌, ◌<◌, ℕ, ◌+◌, ◌*◌, ◌%◌, true, List, set, sym, ap, subst, arith}
use Rattle.std.specs.List.{Contains}
use Rattle.journal_volume.specs.Numbers.{Numbers, IsNumbers}
use Rattle.journal_volume.specs.Parts.{IsPartSet}
use Rattle.journal_volume.proofs.PartIndex.{few_blocks, member_more}
use Rattle.journal_volume.proofs.block_parts.PartSet.insert.Goals as goal

pub invariant_of-self : goal.invariant_of-self
invariant_of-self c = c.flags_of.ensures.kept c.self.inside.members.items c.self.invariant

pub invariant_of-self-in_err-push : goal.invariant_of-self-in_err-push
invariant_of-self-in_err-push c =
    subst (λ (l : List ℕ). IsPartSet c.flags_of.new.blocks c.flags_of.new.flags.items l) (sym c.in_err-push.ensures.items)
    (c.flags_of.ensures.kept c.self.inside.members.items c.self.invariant)

pub overflow_mul-place : goal.overflow_mul-place
overflow_mul-place c =
    let v = c.flags_of.ensures.kept c.self.inside.members.items c.self.invariant in
    omega (arith, c.in_ok-place.ensures.place.0, few_blocks c.flags_of.new.blocks c.flags_of.new.flags.items c.self.inside.members.items v)

pub overflow_add-place : goal.overflow_add-place
overflow_add-place c =
    let v = c.flags_of.ensures.kept c.self.inside.members.items c.self.invariant in
    omega (arith, c.in_ok-place.ensures.place.0, few_blocks c.flags_of.new.blocks c.flags_of.new.flags.items c.self.inside.members.items v)

pub index_mut-requires : goal.index_mut-requires
index_mut-requires c =
    let v = c.flags_of.ensures.kept c.self.inside.members.items c.self.invariant in
    omega (arith, c.in_ok-place.ensures.place.0, v.size)

pub invariant_of-self-2 : goal.invariant_of-self-2
invariant_of-self-2 c =
    let p = c.args.number in
    let i = c.in_ok-place.place in
    let blocks = c.flags_of.new.blocks in
    let flags = c.flags_of.new.flags.items in
    let members = c.self.inside.members.items in
    let v = c.flags_of.ensures.kept members c.self.invariant in
    let at : 16 * i + p % 16 ≡ i * 16 + p % 16 = omega arith in
    let same = ap (λ (s : Numbers). s.members) c.self.view_is in
    let below : p < 16 * blocks.bound =
    omega (arith, c.requires.below, ap (λ (s : Numbers). s.bound) c.self.view_is, c.flags_of.ensures.bound) in
    subst (λ (k : ℕ). IsPartSet blocks (set flags k true) c.push.new.self.items) at
    (subst (λ (l : List ℕ). IsPartSet blocks (set flags (16 * i + p % 16) true) l) (sym c.in_ok-push.ensures.items)
    (member_more blocks flags members v i p c.in_ok-place.ensures.place.0 c.in_ok-place.ensures.place.1 below
    (subst (λ (l : List ℕ). ¬ (Contains l p)) (sym same) c.requires.other)))

pub returns-clause-valid : goal.returns-clause-valid
returns-clause-valid c =
    let p = c.args.number in
    let i = c.in_ok-place.place in
    let blocks = c.flags_of.new.blocks in
    let flags = c.flags_of.new.flags.items in
    let members = c.self.inside.members.items in
    let v = c.flags_of.ensures.kept members c.self.invariant in
    let same = ap (λ (s : Numbers). s.members) c.self.view_is in
    let below : p < 16 * blocks.bound =
    omega (arith, c.requires.below, ap (λ (s : Numbers). s.bound) c.self.view_is, c.flags_of.ensures.bound) in
    let more = member_more blocks flags members v i p c.in_ok-place.ensures.place.0 c.in_ok-place.ensures.place.1 below
    (subst (λ (l : List ℕ). ¬ (Contains l p)) (sym same) c.requires.other) in
    subst (λ (l : List ℕ). IsNumbers (record { bound = 16 * blocks.bound; members = l })) (sym c.in_ok-push.ensures.items) more.numbers
