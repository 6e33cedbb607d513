-- One more entry after those of a buffer.
use Rattle.std.proofs.Common.{◌≡◌, ℕ, zero, suc, ◌+◌, ◌-◌, ◌≤◌, Bool, true, false, not, ◌&&◌, List, [], ◌∷◌, ◌++◌, length, take, drop, refl}
use Rattle.std.proofs.Common.{sym, ◌∙◌, ap, subst, arith, length-append, length-drop}
use Rattle.std.specs.List.{concat}
use Rattle.std.specs.Prelude.{◌==◌, map, slice_range, All, if◌then◌else◌}
use Rattle.std.proofs.lemmas.Bool.{eqb-true, and_parts}
use Rattle.std.proofs.lemmas.Bool.Decides.{nat_tests}
use Rattle.std.proofs.lemmas.List.{append-nil, map-append, nil_from_length, take-append-le, drop-append-le, take_all}
use Rattle.std.proofs.Math.Seq.{drop-append_seam}
use Rattle.std.proofs.lemmas.List.Elements.{All-head, All-tail, All-append}
use Rattle.std.proofs.lemmas.List.Folds.{concat-append}
use Rattle.std.proofs.lemmas.List.Sums.{sum_by-append, sum_by-cons}
use Rattle.kernel_outbox.specs.Queue.{HeldOutput, ReadyEntry, Giving, entry_of, octets_along, octets_in}
use Rattle.kernel_outbox.specs.Slots.{LiesWithin, entry_at, entries_in, slots_of}
use Rattle.kernel_outbox.specs.Fields.{IsGiven}
use Rattle.kernel_outbox.specs.declared.ready.Slot.{Slot}

-- a slot within the octets is not touched by those after them
slice_range-append : (octets more : List ℕ) (start end : ℕ) → start ≤ end → end ≤ length octets
    → slice_range (octets ++ more) start end ≡ slice_range octets start end
slice_range-append octets more start end order within =
    ap (take (end - start)) (drop-append-le start octets more (omega arith))
    ∙ take-append-le (end - start) (drop start octets) more (omega (arith, length-drop start octets))

entries_in-append : (octets more : List ℕ) (slots : List Slot) → All (LiesWithin (length octets)) slots
    → entries_in (octets ++ more) slots ≡ entries_in octets slots
entries_in-append octets more [] within = refl
entries_in-append octets more (slot ∷ slots) within =
    let first : LiesWithin (length octets) slot = All-head (LiesWithin (length octets)) slot slots within in
    ap (λ given. (slot.number, given, slot.ends) ∷ entries_in (octets ++ more) slots)
    (slice_range-append octets more slot.start slot.end first.order first.bound)
    ∙ ap (λ entries. entry_at octets slot ∷ entries)
    (entries_in-append octets more slots (All-tail (LiesWithin (length octets)) slot slots within))

-- the octets at the end
slice_range-end : (octets more : List ℕ) (end : ℕ) → end ≡ length octets + length more
    → slice_range (octets ++ more) (length octets) end ≡ more
slice_range-end octets more end is =
    let count : end - length octets ≡ length more = omega arith in
    (λ i. take (count i) (drop-append_seam octets more i)) ∙ take_all (length more) more (omega arith)

-- a slot is made where there are octets or the session ends
empty_or_not : (start end count : ℕ) → end ≡ start + count → (start == end) ≡ (count == 0)
empty_or_not start end count is = grind (arith, nat_tests)

made : (octets more : List ℕ) (number start end : ℕ) (ends none : Bool) → start ≡ length octets → end ≡ length octets + length more
    → entries_in (octets ++ more) (if none then [] else record { number = number; start = start; end = end; ends = ends } ∷ [])
    ≡ (if none then [] else (number, more, ends) ∷ [])
made octets more number start end ends true from to = refl
made octets more number start end ends false from to =
    ap (λ given. (number, given, ends) ∷ [])
    (ap (λ n. slice_range (octets ++ more) n end) from ∙ slice_range-end octets more end to)

-- the new entry
pub entries_in-more : (octets : List ℕ) (slots : List Slot) (number start end : ℕ) (g : Giving) → All (LiesWithin (length octets)) slots
    → start ≡ length octets → end ≡ length octets + length g.octets
    → entries_in (octets ++ g.octets) (slots ++ slots_of number start end g.ended) ≡ entries_in octets slots ++ entry_of number g
entries_in-more octets slots number start end g within from to =
    map-append (entry_at (octets ++ g.octets)) slots (slots_of number start end g.ended)
    ∙ (λ i. entries_in-append octets g.octets slots within i ++ made octets g.octets number start end g.ended
    (start == end && not g.ended) from to i)
    ∙ ap (λ none. entries_in octets slots ++ (if none && not g.ended then [] else (number, g.octets, g.ended) ∷ []))
    (empty_or_not start end (length g.octets) (omega arith))

-- the slots still lie within the octets
LiesWithin-more : (size more : ℕ) (slots : List Slot) → size ≤ more → All (LiesWithin size) slots → All (LiesWithin more) slots
LiesWithin-more size more slots le within k d below = let at = within k d below in
    record { order = at.order; bound = omega (arith, at.bound) }

slots_of-within : (number start end : ℕ) (ends : Bool) → start ≤ end → All (LiesWithin end) (slots_of number start end ends)
slots_of-within number start end ends order = go (start == end && not ends)
  where
    go : (none : Bool) → All (LiesWithin end) (if none then [] else record { number = number; start = start; end = end; ends = ends } ∷ [])
    go true k d below = absurd (omega arith)
    go false zero d below = record { order = order; bound = omega arith }
    go false (suc k) d below = absurd (omega arith)

slots_of-few : (number start end : ℕ) (ends : Bool) → length (slots_of number start end ends) ≤ 1
slots_of-few number start end ends = go (start == end && not ends)
  where
    go : (none : Bool) → (let made : List Slot =
        if none then [] else record { number = number; start = start; end = end; ends = ends } ∷ [] in length made ≤ 1)
    go true = omega arith
    go false = omega arith

pub octets_in-entry_of : (number : ℕ) (g : Giving) → octets_in (entry_of number g) ≡ length g.octets
octets_in-entry_of number g = go (length g.octets == 0 && not g.ended) refl
  where
    go : (none : Bool) → (length g.octets == 0 && not g.ended) ≡ none
        → octets_in (if none then [] else (number, g.octets, g.ended) ∷ []) ≡ length g.octets
    go true is = omega (arith, eqb-true (length g.octets) 0 (and_parts (length g.octets == 0) (not g.ended) is).0)
    go false is = sum_by-cons (λ (e : ReadyEntry). length e.1) (number, g.octets, g.ended) [] ∙ omega arith

-- all octets
octets_along-append : (front back : List ReadyEntry) → octets_along (front ++ back) ≡ octets_along front ++ octets_along back
octets_along-append front back = ap concat (map-append (λ (e : ReadyEntry). e.1) front back)
    ∙ concat-append (map (λ (e : ReadyEntry). e.1) front) (map (λ (e : ReadyEntry). e.1) back)

octets_along-entry_of : (number : ℕ) (g : Giving) → octets_along (entry_of number g) ≡ g.octets
octets_along-entry_of number g = go (length g.octets == 0 && not g.ended) refl
  where
    go : (none : Bool) → (length g.octets == 0 && not g.ended) ≡ none
        → octets_along (if none then [] else (number, g.octets, g.ended) ∷ []) ≡ g.octets
    go true is = sym (nil_from_length g.octets (eqb-true (length g.octets) 0 (and_parts (length g.octets == 0) (not g.ended) is).0))
    go false is = append-nil g.octets

-- the buffer, with what the loop gave and the session's slot
module _ (before after : List ℕ) (slots after_slots : List Slot) (number start end : ℕ) (g : Giving) (ended : Bool) (given : ℕ)
    (held : List HeldOutput)
    (within : All (LiesWithin (length before)) slots) (gives : IsGiven g ended given held before after) (from : start ≡ length before)
    (to : end ≡ length after)
    (noted : after_slots ≡ slots ++ slots_of number start end ended) where
  size : end ≡ length before + length g.octets
  size = omega (arith, ap length gives.octets_are, length-append before g.octets)

  pub given-entries : entries_in after after_slots ≡ entries_in before slots ++ entry_of number g
  given-entries =
      (λ i. entries_in (gives.octets_are i) (noted i))
      ∙ ap (λ ends. entries_in (before ++ g.octets) (slots ++ slots_of number start end ends)) gives.ended_is
      ∙ entries_in-more before slots number start end g within from size

  pub given-within : All (LiesWithin (length after)) after_slots
  given-within =
      subst (All (LiesWithin (length after))) (sym noted)
      (All-append (LiesWithin (length after)) slots (slots_of number start end ended)
      (LiesWithin-more (length before) (length after) slots (omega (arith, size)) within)
      (subst (λ n. All (LiesWithin n) (slots_of number start end ended)) to (slots_of-within number start end ended (omega (arith, size)))))

  pub given-along : octets_along (entries_in before slots) ≡ before → octets_along (entries_in after after_slots) ≡ after
  given-along along =
      ap octets_along given-entries
      ∙ octets_along-append (entries_in before slots) (entry_of number g)
      ∙ (λ i. along i ++ octets_along-entry_of number g i)
      ∙ sym gives.octets_are

  pub given-counted : octets_in (entries_in before slots) ≡ length before → octets_in (entries_in after after_slots) ≡ length after
  given-counted counted =
      ap octets_in given-entries
      ∙ sum_by-append (λ (e : ReadyEntry). length e.1) (entries_in before slots) (entry_of number g)
      ∙ omega (arith, counted, octets_in-entry_of number g, size)

  pub given-few : length after_slots ≤ length slots + 1
  given-few = omega (arith, ap length noted, length-append slots (slots_of number start end ended), slots_of-few number start end ended)

-- ---- what a session's entry adds

-- there is one or none
pub length-entry : (number : ℕ) (g : Giving) → length (entry_of number g) ≤ 1
length-entry number g = go (length g.octets == 0 && not g.ended)
  where
    go : (b : Bool) → (let entries : List ReadyEntry = (if b then [] else (number, g.octets, g.ended) ∷ []) in length entries) ≤ 1
    go true = omega arith
    go false = omega arith

pub octets_in-append : (front back : List ReadyEntry) → octets_in (front ++ back) ≡ octets_in front + octets_in back
octets_in-append front back = sum_by-append (λ (e : ReadyEntry). length e.1) front back
