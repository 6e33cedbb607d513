-- Octets put into a slot.
use Rattle.std.proofs.Common.{◌≡◌, ◌≢◌, ◌⊎◌, inl, inr, ◌<◌, ◌≤◌, ℕ, ◌+◌, ◌-◌, ◌*◌, ◌/◌, ◌%◌, max, min, true, List}
use Rattle.std.proofs.Common.{length, get_or, take, drop}
use Rattle.std.proofs.Common.{length-take, length-drop, Option, Some, refl, sym, ◌∙◌, ap, subst, arith}
use Rattle.std.proofs.lemmas.List.{get_or-drop, get_or-take}
use Rattle.std.proofs.lemmas.Bool.{cases_eq, cases_order}
use Rattle.std.proofs.lemmas.Option.{same_Some}
use Rattle.disk.specs.Image.{overwritten}
use Rattle.disk.proofs.Images.{length-overwritten, overwritten_inside}
use Rattle.disk_cache.specs.Slots.{IsSound, cell, in_slot, is_collected, octet_at}
use Rattle.disk_cache.specs.declared.collected.Fill.{Fill}
use Rattle.disk_cache.proofs.Showing.{overwritten_outside}
use Rattle.disk_cache.proofs.Slots.{apart, cell_collected, cell_same, in_slot_same}

-- the octets of a write that stand in one block
pub record IsPiece (slot_of : ℕ → Option ℕ) (blocks : List ℕ) (fills : List Fill) (flags octets from piece : List ℕ)
    (at block slot low high place : ℕ) : Type 0 where
  pub sound : IsSound slot_of blocks fills flags octets
  pub slot_is : slot_of block ≡ Some slot
  pub low_is : low ≡ max at (4096 * block)
  pub high_is : high ≡ 4096 * block + min 4096 (at + length from - 4096 * block)
  pub place_is : place ≡ 4096 * slot + (low - 4096 * block)
  pub below : 4096 * block < at + length from
  pub above : at < 4096 * block + 4096
  pub size : length piece ≡ high - low
  pub each : (i : ℕ) → i < high - low → get_or piece i 0 ≡ get_or from (low - at + i) 0

-- so many octets were collected from a place on
pub record IsNoted (place n : ℕ) (fills : List Fill) (flags : List ℕ) (fills' : List Fill) (flags' : List ℕ) : Type 0 where
  pub inside : (p : ℕ) → place ≤ p → p < place + n → is_collected fills' flags' p ≡ true
  pub outside : (p : ℕ) → (p < place) ⊎ (place + n ≤ p) → is_collected fills' flags' p ≡ is_collected fills flags p
  pub fills_size : length fills' ≡ length fills
  pub flags_size : length flags' ≡ length flags

module _ (slot_of : ℕ → Option ℕ) (blocks : List ℕ) (fills : List Fill) (flags octets from piece : List ℕ)
    (at block slot low high place : ℕ)
    (is : IsPiece slot_of blocks fills flags octets from piece at block slot low high place) (fills' : List Fill) (flags' : List ℕ)
    (noted : IsNoted place (high - low) fills flags fills' flags') where
  abbrev octets' : List ℕ
  octets' = overwritten place piece octets

  octets_fit : place + length piece ≤ length octets
  octets_fit =
      let within = is.sound.within block slot is.slot_is in
      omega (
        arith,
        within,
        is.sound.room,
        is.sound.octets_room,
        is.size,
        is.low_is,
        is.high_is,
        is.place_is,
        is.below,
        is.above,
      )

  outside_same : (p : ℕ) → (p < place) ⊎ (place + length piece ≤ p) → cell fills' flags' octets' p ≡ cell fills flags octets p
  outside_same p outside =
      cell_same fills flags octets fills' flags' octets' p p
      (noted.outside p (subst (λ (n : ℕ). (p < place) ⊎ (place + n ≤ p)) is.size outside))
      (overwritten_outside place piece octets 0 octets_fit p outside)

  pub put_inside : (k : ℕ) → at ≤ k → k < at + length from → k / 4096 ≡ block
      → octet_at slot_of fills' flags' octets' k ≡ Some (get_or from (k - at) 0)
  put_inside k from_at to here =
      let not_below : low ≤ k = omega (arith, is.low_is, here, from_at) in
      let not_above : k < high = omega (arith, is.high_is, here, to) in
      let after : place ≤ 4096 * slot + k % 4096 = omega (arith, is.place_is, is.low_is, here, from_at) in
      let before : 4096 * slot + k % 4096 < place + length piece =
      omega (arith, is.place_is, is.low_is, here, from_at, is.size, not_above) in
      let step : 4096 * slot + k % 4096 - place ≡ k - low = omega (arith, is.place_is, is.low_is, here, from_at) in
      let back : low - at + (k - low) ≡ k - at = omega (arith, is.low_is, not_below, from_at) in
      ap (λ (b : ℕ). in_slot (slot_of b) fills' flags' octets' (k % 4096)) here
      ∙ ap (λ (s : Option ℕ). in_slot s fills' flags' octets' (k % 4096)) is.slot_is
      ∙ cell_collected fills' flags' octets' (4096 * slot + k % 4096)
      (noted.inside (4096 * slot + k % 4096) after (omega (arith, before, is.size)))
      ∙ ap (λ (o : ℕ). Some o)
      (overwritten_inside place piece octets octets_fit (4096 * slot + k % 4096) 0 after before
      ∙ ap (λ (i : ℕ). get_or piece i 0) step
      ∙ is.each (k - low) (omega (arith, not_below, not_above))
      ∙ ap (λ (i : ℕ). get_or from i 0) back)

  pub put_outside : (k : ℕ) → (k < at) ⊎ ((at + length from ≤ k) ⊎ (k / 4096 ≢ block))
      → octet_at slot_of fills' flags' octets' k ≡ octet_at slot_of fills flags octets k
  put_outside k outside =
      in_slot_same (slot_of (k / 4096)) fills flags octets fills' flags' octets' (k % 4096)
      (λ s has. outside_same (4096 * s + k % 4096) (away s has outside (cases_eq (k / 4096) block)))
    where
      elsewhere : (s : ℕ) → slot_of (k / 4096) ≡ Some s → (k / 4096 ≡ block → ⊥)
          → (4096 * s + k % 4096 < place) ⊎ (place + length piece ≤ 4096 * s + k % 4096)
      elsewhere s has other = elim (cases_order s slot) [
        | inl same ↦ absurd (other (apart slot_of blocks fills flags octets is.sound (k / 4096) block s has
            (is.slot_is ∙ ap (λ (n : ℕ). Some n) (sym same))))
        | inr ordered ↦ elim ordered [
          | inl before ↦ inl (omega (arith, before, is.place_is))
          | inr behind ↦ inr (omega (arith, behind, is.place_is, is.size, is.low_is, is.high_is, is.below, is.above))
        ]
      ]

      here : (s : ℕ) → slot_of (k / 4096) ≡ Some s → k / 4096 ≡ block → (k < at) ⊎ (at + length from ≤ k)
          → (4096 * s + k % 4096 < place) ⊎ (place + length piece ≤ 4096 * s + k % 4096)
      here s has same out =
          let slot_same : s ≡ slot = same_Some s slot (sym has ∙ ap (λ (b : ℕ). slot_of b) same ∙ is.slot_is) in
          elim out [
            | inl below ↦ inl (omega (arith, slot_same, below, same, is.place_is, is.low_is))
            | inr above ↦ inr (omega (arith, slot_same, above, same, is.place_is, is.low_is, is.high_is, is.size))
          ]

      away : (s : ℕ) → slot_of (k / 4096) ≡ Some s → (k < at) ⊎ ((at + length from ≤ k) ⊎ (k / 4096 ≢ block))
          → (k / 4096 ≡ block) ⊎ (k / 4096 ≡ block → ⊥)
          → (4096 * s + k % 4096 < place) ⊎ (place + length piece ≤ 4096 * s + k % 4096)
      away s has out (inr other) = elsewhere s has other
      away s has (inl below) (inl same) = here s has same (inl below)
      away s has (inr (inl above)) (inl same) = here s has same (inr above)
      away s has (inr (inr other)) (inl same) = absurd (other same)

  pub put_sound : IsSound slot_of blocks fills' flags' octets'
  put_sound =
      let room = length-overwritten place piece octets octets_fit in
      record {
        few = is.sound.few;
        within = is.sound.within;
        owner = is.sound.owner;
        owned = is.sound.owned;
        fills_room = omega (arith, noted.fills_size, is.sound.fills_room);
        room = omega (arith, noted.flags_size, is.sound.room);
        octets_room = omega (arith, noted.flags_size, room, is.sound.octets_room);
      }

-- the piece as the code cuts it
pub cut_piece : (slot_of : ℕ → Option ℕ) (blocks : List ℕ) (fills : List Fill) (flags octets from : List ℕ) (at block slot low count : ℕ)
    → IsSound slot_of blocks fills flags octets
    → slot_of block ≡ Some slot → low ≡ max at (4096 * block) → count ≡ min 4096 (at + length from - 4096 * block)
    → 4096 * block < at + length from → at < 4096 * block + 4096
    → IsPiece slot_of blocks fills flags octets from (take (4096 * block + count - at - (low - at)) (drop (low - at) from)) at block
    slot low
    (4096 * block + count) (4096 * slot + (low - 4096 * block))
cut_piece slot_of blocks fills flags octets from at block slot low count sound slot_is low_is count_is below above =
    let n : 4096 * block + count - at - (low - at) ≡ 4096 * block + count - low = omega (arith, low_is, count_is, below, above) in
    record {
      sound = sound;
      slot_is = slot_is;
      low_is = low_is;
      high_is = ap (λ (m : ℕ). 4096 * block + m) count_is;
      place_is = refl;
      below = below;
      above = above;
      size = omega (
        arith,
        n,
        length-take (4096 * block + count - at - (low - at)) (drop (low - at) from),
        length-drop (low - at) from,
        low_is,
        count_is,
        below,
        above,
      );
      each = λ i within.
          get_or-take (4096 * block + count - at - (low - at)) (drop (low - at) from) i 0 (omega (arith, within, n))
          ∙ get_or-drop (low - at) from i 0;
    }
