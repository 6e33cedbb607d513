use Rattle.std.proofs.Common.{◌≡◌, inl, inr, ◌<◌, ◌≤◌, ℕ, ◌+◌, ◌*◌, ◌/◌, List, length, sym, ◌∙◌, ap, subst, arith}
use Rattle.std.specs.List.{All, Contains}
use Rattle.journal_volume.specs.Chunks.{ChunksView}
use Rattle.journal_volume.specs.Volume.{VolumeView, before}
use Rattle.journal_volume.proofs.Keeping.{there_of}
use Rattle.journal_volume.proofs.Written.{kept_is, written_is, written_before}
use Rattle.journal_volume.proofs.volume.VolumeBlocks.put_at.Goals as goal

pub invariant_of-self-in_err-keep_parts : goal.invariant_of-self-in_err-keep_parts
invariant_of-self-in_err-keep_parts c =
    let inside = c.self.inside in
    let n = c.args.number in
    let many : c.div_ceil.result ≤ 16 = omega (arith, c.requires.fits, c.div_ceil.ensures) in
    kept_is inside.blocks inside.octets.items inside.kept inside.dirty c.self.invariant c.make_room.new.self c.keep_parts.new.octets.items
    c.keep_parts.new.kept n c.make_room.ensures.blocks c.make_room.ensures.kept c.in_ok-make_room.ensures.room c.keep_parts.ensures.bound
    c.keep_parts.ensures.valid c.keep_parts.ensures.size
    (λ p member. elim (c.keep_parts.ensures.these p member) [ inl old ↦ inl old | inr new ↦ inr (omega arith, omega arith) ])

pub invariant_of-self-2 : goal.invariant_of-self-2
invariant_of-self-2 c =
    let inside = c.self.inside in
    let n = c.args.number in
    let many : c.div_ceil.result ≤ 16 = omega (arith, c.requires.fits, c.div_ceil.ensures) in
    let kept = kept_is inside.blocks inside.octets.items inside.kept inside.dirty c.self.invariant c.make_room.new.self
    c.keep_parts.new.octets.items c.keep_parts.new.kept n c.make_room.ensures.blocks c.make_room.ensures.kept
    c.in_ok-make_room.ensures.room c.keep_parts.ensures.bound c.keep_parts.ensures.valid c.keep_parts.ensures.size
    (λ p member. elim (c.keep_parts.ensures.these p member) [ inl old ↦ inl old | inr new ↦ inr (omega arith, omega arith) ]) in
    let low : n < length c.make_room.new.self.blocks =
    omega (arith, c.requires.there, ap (λ (v : VolumeView). length v.seen) c.self.view_is, ap length c.make_room.ensures.blocks) in
    written_is c.make_room.new.self c.keep_parts.new.octets.items c.keep_parts.new.kept inside.dirty kept c.put_at.new.self n c.args.at
    c.args.part.now low c.requires.fits c.put_at.ensures

pub returns-clause-kept : goal.returns-clause-kept
returns-clause-kept c =
    let inside = c.self.inside in
    let now = c.args.self.now in
    let n = c.args.number in
    let at = c.args.at in
    let part = c.args.part.now in
    let blocks = c.make_room.new.self.blocks in
    let numbers = c.keep_parts.new.kept.members in
    let octets = c.keep_parts.new.octets.items in
    let same = c.make_room.ensures.blocks in
    let low : n < length blocks =
    omega (arith, c.requires.there, ap (λ (v : VolumeView). length v.seen) c.self.view_is, ap length same) in
    let whole = subst (λ (b : List (List ℕ)). All (λ o. length o ≡ 4096) b) (sym same) c.self.invariant.whole in
    let bound : c.keep_parts.new.kept.bound ≡ 16 * length blocks =
    c.keep_parts.ensures.bound ∙ c.self.invariant.count ∙ ap (λ (b : List (List ℕ)). 16 * length b) (sym same) in
    let all : (p : ℕ) → 16 * n + at / 256 ≤ p → p < 16 * n + (at + length part + 255) / 256 → Contains numbers p =
    λ p from to. c.in_ok-keep_parts.ensures.all p (omega arith) (omega (arith, c.div_ceil.ensures)) in
    let cache : before c.put_at.new.self.blocks numbers octets ≡ now.cache =
    ap (λ (v : ChunksView). before v.blocks numbers octets) c.put_at.ensures
    ∙ written_before blocks numbers octets n at part whole (there_of c.keep_parts.new.kept blocks c.keep_parts.ensures.valid bound)
    c.keep_parts.ensures.size low c.requires.fits all
    ∙ c.keep_parts.ensures.before
    ∙ ap (λ (b : List (List ℕ)). before b inside.kept.members inside.octets.items) same
    ∙ ap (λ (v : VolumeView). v.cache) c.self.view_is in
    let dirty : inside.dirty.members ≡ now.dirty = ap (λ (v : VolumeView). v.dirty) c.self.view_is in
    let P : List (List ℕ) → List ℕ → List (List ℕ) × List ℕ = λ blocks numbers. (blocks, numbers) in
    ap (λ (l : List (List ℕ)). P l inside.dirty.members) cache ∙ ap (λ (l : List ℕ). P now.cache l) dirty
