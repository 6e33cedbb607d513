-- The collected octets of the places of a device, as a list.
use Rattle.std.proofs.Common.{◌≡◌, ◌⊎◌, inl, inr, ◌<◌, ◌≤◌, ℕ, ◌+◌, ◌-◌, List, length, get_or, map, replicate, Option, Some, None, sym, ◌∙◌}
use Rattle.std.proofs.Common.{arith}
use Rattle.std.proofs.lemmas.List.{length-map, ext_get_or, get_or-replicate, length-replicate}
use Rattle.disk.specs.Image.{overwritten}
use Rattle.disk.proofs.Images.{length-overwritten}
use Rattle.disk_cache.specs.Slots.{places}
use Rattle.disk_cache.proofs.Blocks.{length-places, places_at, places_all}
use Rattle.disk_cache.proofs.Cached.{collected_inside, collected_outside}
use Rattle.disk_cache.proofs.Showing.{place_cases}

-- what a write collects
pub places_collected : (old new : ℕ → Option ℕ) (len at : ℕ) (from : List ℕ) → at + length from ≤ len
    → ((k : ℕ) → at ≤ k → k < at + length from → new k ≡ Some (get_or from (k - at) 0))
    → ((k : ℕ) → (k < at) ⊎ (at + length from ≤ k) → new k ≡ old k)
    → places new len ≡ overwritten at (map (λ (o : ℕ). Some o) from) (places old len)
places_collected old new len at from fits inside outside =
    ext_get_or None (places new len) (overwritten at (map (λ (o : ℕ). Some o) from) (places old len)) (length-places new len
    ∙ sym (size ∙ length-places old len))
    (λ k within. each k (let n = length-places new len in omega (arith, within, n)) (place_cases at (length from) k))
  where
    room : at + length from ≤ length (places old len)
    room = let n = length-places old len in omega (arith, n, fits)

    size : length (overwritten at (map (λ (o : ℕ). Some o) from) (places old len)) ≡ length (places old len)
    size = length-overwritten at (map (λ (o : ℕ). Some o) from) (places old len) (let n = length-map from (λ (o : ℕ). Some o) in
        omega (arith, n, room))

    each : (k : ℕ) → k < len → ((k < at) ⊎ (at + length from ≤ k)) ⊎ ((at ≤ k) × (k < at + length from))
        → get_or (places new len) k None ≡ get_or (overwritten at (map (λ (o : ℕ). Some o) from) (places old len)) k None
    each k low (inl out) =
        places_at new len k low ∙ outside k out ∙ sym (places_at old len k low)
        ∙ sym (collected_outside (places old len) at from room k out)
    each k low (inr is) = places_at new len k low ∙ inside k is.0 is.1 ∙ sym (collected_inside (places old len) at from room k is.0 is.1)

pub places_same : (old new : ℕ → Option ℕ) (len : ℕ) → ((k : ℕ) → new k ≡ old k) → places new len ≡ places old len
places_same old new len same =
    ext_get_or None (places new len) (places old len) (length-places new len ∙ sym (length-places old len))
    (λ k within. let low : k < len = (let n = length-places new len in omega (arith, within, n)) in places_at new len k low ∙ same k
    ∙ sym (places_at old len k low))

pub places_none : (taken : ℕ → Option ℕ) (len : ℕ) → ((k : ℕ) → taken k ≡ None) → places taken len ≡ replicate len None
places_none taken len none =
    ext_get_or None (places taken len) (replicate len None) (length-places taken len ∙ sym (length-replicate len None))
    (λ k within. let low : k < len = (let n = length-places taken len in omega (arith, within, n)) in places_at taken len k low ∙ none k
    ∙ sym (get_or-replicate len k None None low))

pub get_or-places_none : (taken : ℕ → Option ℕ) (len : ℕ) → ((k : ℕ) → taken k ≡ None) → (k : ℕ) → get_or (places taken len) k None ≡ None
get_or-places_none taken len none k = places_all taken len (λ j past. none j) k ∙ none k
