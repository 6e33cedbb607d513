-- Slots of adjacent blocks.
use Rattle.std.proofs.Common.{◌≡◌, ◌≢◌, ◌⊎◌, inl, inr, ◌<◌, ◌≤◌, ℕ, ◌+◌, ◌-◌, ◌^◌, List, length, get_or}
use Rattle.std.proofs.Common.{Option, Some, None, refl, sym, ◌∙◌, ap, arith}
use Rattle.disk_cache.specs.Slots.{IsArranged, IsSound}
use Rattle.disk_cache.specs.declared.collected.Fill.{Fill}

-- the slots from one up to another have adjacent blocks, and the next one doesn't
pub record IsAdjacentTo (blocks : List ℕ) (slot past : ℕ) : Type 0 where
  pub low : slot < past
  pub high : past ≤ length blocks
  pub adjacent : (i : ℕ) → slot + i < past → get_or blocks (slot + i) 0 ≡ get_or blocks slot 0 + i
  pub ends : (past ≡ length blocks) ⊎ (get_or blocks past 0 ≢ get_or blocks slot 0 + (past - slot))

module _ (slot_of : ℕ → Option ℕ) (blocks : List ℕ) (fills : List Fill) (flags octets : List ℕ)
    (sound : IsSound slot_of blocks fills flags octets) (block slot past : ℕ) (has : slot_of block ≡ Some slot)
    (is : IsAdjacentTo blocks slot past) where
  pub each_block : (i : ℕ) → slot + i < past → get_or blocks (slot + i) 0 ≡ block + i
  each_block i below = let owner = sound.owner block slot has in let next = is.adjacent i below in omega (arith, owner, next)

  last_slot : slot_of (block + (past - slot - 1)) ≡ Some (past - 1)
  last_slot =
      let at_end : slot + (past - slot - 1) ≡ past - 1 = omega (arith, is.low) in
      let its = each_block (past - slot - 1) (omega (arith, is.low)) in
      ap (λ (b : ℕ). slot_of b) (sym its) ∙ ap (λ (s : ℕ). slot_of (get_or blocks s 0)) at_end
      ∙ sound.owned (past - 1) (omega (arith, is.low, is.high))

  pub few_blocks : block + (past - slot) ≤ 2 ^ 52
  few_blocks = let few = sound.few (block + (past - slot - 1)) (past - 1) last_slot in omega (arith, few, is.low)

  pub none_behind : IsArranged slot_of → slot_of (block + (past - slot)) ≡ None
  none_behind arranged = choose (slot_of (block + (past - slot))) refl
    where
      next_is : block + (past - slot) ≡ block + (past - slot - 1) + 1
      next_is = omega (arith, is.low)

      away : (s : ℕ) → s ≡ past → s < length blocks → get_or blocks s 0 ≡ block + (past - slot)
          → (past ≡ length blocks) ⊎ (get_or blocks past 0 ≢ get_or blocks slot 0 + (past - slot)) → ⊥
      away s same below its (inl at_end) = omega (arith, same, below, at_end)
      away s same below its (inr other) =
          let owner = sound.owner block slot has in
          other (ap (λ (t : ℕ). get_or blocks t 0) (sym same) ∙ its ∙ ap (λ (b : ℕ). b + (past - slot)) (sym owner))

      choose : (o : Option ℕ) → slot_of (block + (past - slot)) ≡ o → o ≡ None
      choose None is_o = refl
      choose (Some s) is_o =
          let same = arranged (block + (past - slot - 1)) (past - 1) s last_slot (ap (λ (b : ℕ). slot_of b) (sym next_is) ∙ is_o) in
          absurd (away s (omega (arith, same, is.low)) (sound.within (block + (past - slot)) s is_o)
          (sound.owner (block + (past - slot)) s is_o) is.ends)
