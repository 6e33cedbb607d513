-- What each call leaves of a cache, as a device.
use Rattle.std.proofs.Common.{◌≡◌, ◌⊎◌, inl, inr, ⊎_elim, ◌<◌, ◌≤◌, ℕ, zero, suc, ◌+◌, ◌-◌, List, [], ◌∷◌, length, get_or, map, Option}
use Rattle.std.proofs.Common.{Some, None, refl, sym, ◌∙◌, ap, subst, arith}
use Rattle.std.specs.Option.{unwrap_or}
use Rattle.std.proofs.lemmas.List.{length-map, ext_get_or}
use Rattle.disk.specs.Device.{Device}
use Rattle.disk.specs.Image.{overwritten, part, Torn}
use Rattle.disk.proofs.Images.{length-overwritten, overwritten_inside, length-part, get_or-part}
use Rattle.disk_cache.specs.Collected.{IsOver, MayBe, MayLeave, shown}
use Rattle.disk_cache.specs.Over.{length-shown, shown_at}
use Rattle.disk_cache.proofs.Showing.{over_none, overwritten_outside, place_cases}
use Rattle.disk_cache.proofs.Chain.{over_then}
use Rattle.disk_cache.proofs.Written.{all_written, written_shown}
use Rattle.disk_cache.specs.Runs.{runs_from}

-- ---- collecting

module _ (cs : List (Option ℕ)) (at : ℕ) (from : List ℕ) (fits : at + length from ≤ length cs) where
  abbrev somes : List (Option ℕ)
  somes = map (λ (o : ℕ). Some o) from

  somes_size : length somes ≡ length from
  somes_size = length-map from (λ (o : ℕ). Some o)

  somes_fit : at + length somes ≤ length cs
  somes_fit = omega (arith, somes_size, fits)

  abbrev with_from : List (Option ℕ)
  with_from = overwritten at somes cs

  mapped : (os : List ℕ) (i : ℕ) → i < length os → get_or (map (λ (o : ℕ). Some o) os) i None ≡ Some (get_or os i 0)
  mapped [] i within = absurd (omega (arith, within))
  mapped (o ∷ os) zero within = refl
  mapped (o ∷ os) (suc i) within = mapped os i (omega (arith, within))

  pub collected_inside : (k : ℕ) → at ≤ k → k < at + length from → get_or with_from k None ≡ Some (get_or from (k - at) 0)
  collected_inside k low high = overwritten_inside at somes cs somes_fit k None low (omega (arith, high, somes_size))
      ∙ mapped from (k - at) (omega (arith, low, high))

  pub collected_outside : (k : ℕ) → (k < at) ⊎ (at + length from ≤ k) → get_or with_from k None ≡ get_or cs k None
  collected_outside k out = overwritten_outside at somes cs None somes_fit k
      (subst (λ (n : ℕ). (k < at) ⊎ (at + n ≤ k)) (sym somes_size) out)

  -- what a read gives
  pub shown_collected : (xs : List ℕ) → length cs ≡ length xs → shown with_from xs ≡ overwritten at from (shown cs xs)
  shown_collected xs size =
      let shown_size = length-shown cs xs in
      let shown_fits : at + length from ≤ length (shown cs xs) = omega (arith, shown_size, fits, size) in
      ext_get_or 0 (shown with_from xs) (overwritten at from (shown cs xs)) (length-shown with_from xs
      ∙ sym (length-overwritten at from (shown cs xs) shown_fits ∙ shown_size))
      (λ k within. each shown_fits k (omega (arith, within, length-shown with_from xs)) (place_cases at (length from) k))
    where
      each : at + length from ≤ length (shown cs xs) → (k : ℕ) → k < length xs
          → ((k < at) ⊎ (at + length from ≤ k)) ⊎ ((at ≤ k) × (k < at + length from))
          → get_or (shown with_from xs) k 0 ≡ get_or (overwritten at from (shown cs xs)) k 0
      each shown_fits k within (inl out) =
          shown_at with_from xs k within
          ∙ ap (λ (c : Option ℕ). unwrap_or c (get_or xs k 0)) (collected_outside k out)
          ∙ sym (overwritten_outside at from (shown cs xs) 0 shown_fits k out ∙ shown_at cs xs k within)
      each shown_fits k within (inr is) =
          shown_at with_from xs k within
          ∙ ap (λ (c : Option ℕ). unwrap_or c (get_or xs k 0)) (collected_inside k is.0 is.1)
          ∙ sym (overwritten_inside at from (shown cs xs) shown_fits k 0 is.0 is.1)

  -- each image that a crash may leave is an earlier one, torn where octets were collected
  pub collected_torn : (octets : (i : ℕ) → get_or from i 0 < 256) (under image : List ℕ) → length cs ≡ length under
      → IsOver with_from under image → (d : List ℕ) × (IsOver cs under d × Torn at (length from) d image)
  collected_torn octets under image size over = (
    (overwritten at (part at (length from) under) image),
    (
      record {
        size = length-overwritten at (part at (length from) under) image piece_fits ∙ over.size;
        octets = λ k. over_before k (place_cases at (length from) k);
      },
      record {
        size = sym (length-overwritten at (part at (length from) under) image piece_fits);
        below = λ k low. sym (before_outside k (inl low));
        above = λ k high. sym (before_outside k (inr high));
        octets = λ k low high. torn k low high;
      },
    ),
  )
    where
      piece_size : length (part at (length from) under) ≡ length from
      piece_size = length-part at (length from) under (omega (arith, fits, size))

      piece_fits : at + length (part at (length from) under) ≤ length image
      piece_fits = omega (arith, piece_size, fits, size, over.size)

      before_outside : (k : ℕ) → (k < at) ⊎ (at + length from ≤ k)
          → get_or (overwritten at (part at (length from) under) image) k 0 ≡ get_or image k 0
      before_outside k out = overwritten_outside at (part at (length from) under) image 0 piece_fits k
          (subst (λ (n : ℕ). (k < at) ⊎ (at + n ≤ k)) (sym piece_size) out)

      before_inside : (k : ℕ) → at ≤ k → k < at + length from
          → get_or (overwritten at (part at (length from) under) image) k 0 ≡ get_or under k 0
      before_inside k low high =
          let place : at + (k - at) ≡ k = omega (arith, low) in
          overwritten_inside at (part at (length from) under) image piece_fits k 0 low (omega (arith, high, piece_size))
          ∙ get_or-part at (length from) under (k - at) 0 (omega (arith, low, high))
          ∙ ap (λ (n : ℕ). get_or under n 0) place

      same : (c : Option ℕ) (x : ℕ) → MayBe c x x
      same None x = refl
      same (Some o) x = inl refl

      over_before : (k : ℕ) → ((k < at) ⊎ (at + length from ≤ k)) ⊎ ((at ≤ k) × (k < at + length from))
          → MayBe (get_or cs k None) (get_or under k 0) (get_or (overwritten at (part at (length from) under) image) k 0)
      over_before k (inl out) =
          subst (λ (o : ℕ). MayBe (get_or cs k None) (get_or under k 0) o) (sym (before_outside k out))
          (subst (λ (c : Option ℕ). MayBe c (get_or under k 0) (get_or image k 0)) (collected_outside k out) (over.octets k))
      over_before k (inr is) = subst (λ (o : ℕ). MayBe (get_or cs k None) (get_or under k 0) o) (sym (before_inside k is.0 is.1))
          (same (get_or cs k None) (get_or under k 0))

      any : (new old o : ℕ) → o < 256 → MayBe (Some o) old new → (new ≡ old) ⊎ (new < 256)
      any new old o low (inl is) = inl is
      any new old o low (inr (inl is)) = inr (omega (arith, is, low))
      any new old o low (inr (inr below)) = inr below

      torn : (k : ℕ) → at ≤ k → k < at + length from → (get_or image k 0 ≡ get_or (overwritten at (part at (length from) under) image) k 0)
          ⊎ (get_or image k 0 < 256)
      torn k low high =
          let is = subst (λ (c : Option ℕ). MayBe c (get_or under k 0) (get_or image k 0)) (collected_inside k low high) (over.octets k) in
          subst (λ (o : ℕ). (get_or image k 0 ≡ o) ⊎ (get_or image k 0 < 256)) (sym (before_inside k low high))
          (any (get_or image k 0) (get_or under k 0) (get_or from (k - at) 0) (octets (k - at)) is)

-- ---- a read

module _ (cs : List (Option ℕ)) (old new : Device) where
  pub leaves_less : ((c : List ℕ) → new.may_leave c → old.may_leave c) → (c : List ℕ) → MayLeave new cs c → MayLeave old cs c
  leaves_less crash c left = (left.0, (crash left.0 left.1.0, left.1.1))

  pub left_less : ((c : List ℕ) → new.may_leave c → old.may_leave c)
      → ((t : ℕ) (c : List ℕ) → t ≤ old.clock → new.left_since t c → old.left_since t c)
      → (t : ℕ) (c : List ℕ) → t ≤ old.clock → new.left_since t c ⊎ MayLeave new cs c → old.left_since t c ⊎ MayLeave old cs c
  left_less crash since t c before left = ⊎_elim (λ earlier. inl (since t c before earlier)) (λ now. inr (leaves_less crash c now)) left

  -- ---- a write

  -- where octets were collected, over the same device
  pub left_collected : (cs' : List (Option ℕ)) → (Torn : List ℕ → Type 0) → ((c : List ℕ) → MayLeave old cs' c → Torn c)
      → (t : ℕ) (c : List ℕ) → old.left_since t c ⊎ MayLeave old cs' c → (old.left_since t c ⊎ MayLeave old cs c) ⊎ Torn c
  left_collected cs' Torn tears t c left = ⊎_elim (λ earlier. inl (inl earlier)) (λ now. inr (tears c now)) left

  -- ---- a sync

  -- one that was refused: what was collected stays
  pub leaves_given : ((c : List ℕ) → new.may_leave c → MayLeave old cs c) → (c : List ℕ) → MayLeave new cs c → MayLeave old cs c
  leaves_given crash c left =
      let under = crash left.0 left.1.0 in
      (under.0, (under.1.0, over_then cs under.0 left.0 c under.1.1 left.1.1))

  pub left_given : ((c : List ℕ) → new.may_leave c → MayLeave old cs c)
      → ((t : ℕ) (c : List ℕ) → t ≤ old.clock → new.left_since t c → old.left_since t c ⊎ MayLeave old cs c)
      → (t : ℕ) (c : List ℕ) → t ≤ old.clock → new.left_since t c ⊎ MayLeave new cs c → old.left_since t c ⊎ MayLeave old cs c
  left_given crash since t c before left = ⊎_elim (λ earlier. since t c before earlier) (λ now. inr (leaves_given crash c now)) left

  -- a good one: nothing is collected any more
  module _ (nones : List (Option ℕ)) (none : (k : ℕ) → get_or nones k None ≡ None) where
    under_is : (c : List ℕ) → MayLeave new nones c → new.may_leave c
    under_is c left = subst (λ (image : List ℕ). new.may_leave image) (sym (over_none nones left.0 c none left.1.1)) left.1.0

    pub leaves_durable : (image : List ℕ) → ((c : List ℕ) → new.may_leave c → c ≡ image) → (c : List ℕ) → MayLeave new nones c → c ≡ image
    leaves_durable image only c left = only c (under_is c left)

    pub leaves_synced : ((c : List ℕ) → new.may_leave c → MayLeave old cs c) → (c : List ℕ) → MayLeave new nones c → MayLeave old cs c
    leaves_synced crash c left = crash c (under_is c left)

    pub left_synced : ((c : List ℕ) → new.may_leave c → MayLeave old cs c)
        → ((t : ℕ) (c : List ℕ) → t ≤ old.clock → new.left_since t c → old.left_since t c ⊎ MayLeave old cs c)
        → (t : ℕ) (c : List ℕ) → t ≤ old.clock → new.left_since t c ⊎ MayLeave new nones c → old.left_since t c ⊎ MayLeave old cs c
    left_synced crash since t c before left = ⊎_elim (λ earlier. since t c before earlier) (λ now. inr (leaves_synced crash c now)) left

-- the image that a good sync makes durable is what a read gave
pub written_is_shown : (cs : List (Option ℕ)) (image : List ℕ) → length cs ≤ length image
    → all_written (runs_from 0 cs) image ≡ shown cs image
written_is_shown cs image few = written_shown cs 0 image (omega (arith, few))
