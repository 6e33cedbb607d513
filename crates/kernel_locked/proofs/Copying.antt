-- Clean blocks that are put into a portion, one after another.
use Rattle.std.proofs.Common.{◌≡◌, ℕ, ◌+◌, ◌-◌, ◌<◌, ◌≤◌, Bool, true, false, List, [], ◌∷◌, ◌++◌, length, get_or, take, drop, refl, ap, sym}
use Rattle.std.proofs.Common.{◌↔◌, inl, inr, ◌∙◌, arith, append-nil, append_assoc, length-append}
use Rattle.std.specs.Prelude.{filter, if◌then◌else◌}
use Rattle.std.specs.List.{flat_map}
use Rattle.std.proofs.lemmas.Bool.{cases_lt, true≢false}
use Rattle.std.proofs.lemmas.List.{flat_map_more, length-take, length_push, take-append-drop, take-append-le, take_all}
use Rattle.std.proofs.lemmas.List.Elements.{filter-append, filter_more}
use Rattle.model.specs.Stream.{Octets}
use Rattle.copy_portions.specs.Copying.{PortionView}
use Rattle.kernel.specs.Kernel.{KernelView, is_clean}
use Rattle.kernel_locked.specs.Locked.{Copies, copied}

-- a portion that isn't full has room
pub has_room : (full : Bool) (n : ℕ) → (full ≡ true) ↔ (1024 ≤ n) → full ≡ false → n < 1024
has_room full n when short = elim (cases_lt n 1024) [
  | inl low ↦ low
  | inr high ↦ absurd (true≢false (sym (when.1 high) ∙ short))
]

-- what isn't true is false
pub is_false : (b : Bool) → (b ≡ true → ⊥) → b ≡ false
is_false true never = absurd (never refl)
is_false false never = refl

module _ (kernel : KernelView) (asked : List ℕ) (old : PortionView) where
  abbrev image : ℕ → Octets
  image n = get_or kernel.blocks n []

  abbrev room : ℕ
  room = 1024 - length old.numbers

  -- the clean ones of the first of these
  abbrev clean_of : List ℕ → List ℕ
  clean_of ns = filter (λ n. is_clean kernel n) ns

  module _ (at : ℕ) (now : PortionView) (h : Copies kernel (take at asked) old now) where
    size : length now.numbers ≡ length old.numbers + length (take room (clean_of (take at asked)))
    size = ap length h.numbers ∙ length-append old.numbers (copied kernel (take at asked) old)

    -- a portion that is full has as many as it is to have
    pub full_copied : 1024 ≤ length now.numbers → Copies kernel asked old now
    full_copied full =
        let some : room ≤ length (clean_of (take at asked)) =
        omega (arith, size, full, length-take room (clean_of (take at asked))) in
        let all : take room (clean_of asked) ≡ take room (clean_of (take at asked)) =
        ap (λ (ns : List ℕ). take room (clean_of ns)) (sym (take-append-drop at asked))
        ∙ ap (take room) (filter-append (λ n. is_clean kernel n) (take at asked) (drop at asked))
        ∙ take-append-le room (clean_of (take at asked)) (clean_of (drop at asked)) some in
        record {
          numbers = h.numbers ∙ ap (λ (ns : List ℕ). old.numbers ++ ns) (sym all);
          images = h.images ∙ ap (λ (ns : List ℕ). old.images ++ flat_map image ns) (sym all);
        }

    module _ (low : at < length asked) where
      abbrev next : ℕ
      next = get_or asked at 0

      pub one_left_out : is_clean kernel next ≡ false → Copies kernel (take (at + 1) asked) old now
      one_left_out dirty =
          let same : clean_of (take (at + 1) asked) ≡ clean_of (take at asked) =
          filter_more (λ n. is_clean kernel n) asked at 0 low
          ∙ ap (λ (b : Bool). clean_of (take at asked) ++ (if b then next ∷ [] else [])) dirty ∙ append-nil (clean_of (take at asked)) in
          record {
            numbers = h.numbers ∙ ap (λ (ns : List ℕ). old.numbers ++ take room ns) (sym same);
            images = h.images ∙ ap (λ (ns : List ℕ). old.images ++ flat_map image (take room ns)) (sym same);
          }

      pub one_copied : length now.numbers < 1024 → is_clean kernel next ≡ true → (new : PortionView) (octets : Octets)
          → octets ≡ image next → new.numbers ≡ now.numbers ++ next ∷ [] → new.images ≡ now.images ++ octets
          → Copies kernel (take (at + 1) asked) old new
      one_copied has_room clean new octets octets_are numbers images =
          let before = clean_of (take at asked) in
          let few : length before < room = omega (arith, size, has_room, length-take room before) in
          let were : take room before ≡ before = take_all room before (omega (arith, few)) in
          let more : clean_of (take (at + 1) asked) ≡ before ++ next ∷ [] =
          filter_more (λ n. is_clean kernel n) asked at 0 low
          ∙ ap (λ (b : Bool). before ++ (if b then next ∷ [] else [])) clean in
          let are : take room (clean_of (take (at + 1) asked)) ≡ before ++ next ∷ [] =
          ap (take room) more ∙ take_all room (before ++ next ∷ []) (omega (arith, few, length_push before next)) in
          record {
            numbers = numbers ∙ ap (λ (ns : List ℕ). ns ++ next ∷ []) (h.numbers ∙ ap (λ (ns : List ℕ). old.numbers ++ ns) were)
                ∙ append_assoc old.numbers before (next ∷ []) ∙ ap (λ (ns : List ℕ). old.numbers ++ ns) (sym are);
            images = images ∙ ap (λ (os : Octets). now.images ++ os) octets_are
                ∙ ap (λ (os : Octets). os ++ image next)
                (h.images ∙ ap (λ (ns : List ℕ). old.images ++ flat_map image ns) were)
                ∙ flat_map_more image old.images before next
                ∙ ap (λ (ns : List ℕ). old.images ++ flat_map image ns) (sym are);
          }
