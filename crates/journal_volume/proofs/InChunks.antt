-- Blocks whose octets stand in slots.
use Rattle.std.proofs.Common.{◌≡◌, inl, inr, ◌<◌, ◌≤◌, ℕ, refl, List, [], ◌∷◌, ◌++◌, length, get_or, set, replicate}
use Rattle.std.proofs.Common.{sym, ◌∙◌, ap, subst, arith, length-set}
use Rattle.std.specs.List.{All, Contains}
use Rattle.std.proofs.lemmas.List.{get_or-replicate, get_or_push, get_or-set_other, length-replicate, length_push, set-get_or}
use Rattle.std.proofs.lemmas.List.Elements.{All-from_get_or, All-set}
use Rattle.std.proofs.lemmas.Bool.{cases_lt}
use Rattle.model.specs.Volume.{laid_over}
use Rattle.model.proofs.Blocks.{length-laid_over}
use Rattle.fs_blocks.proofs.Distinct.{below_push, distinct_push, few_members}
use Rattle.journal_volume.specs.Numbers.{Numbers, IsNumbers}
use Rattle.journal_volume.specs.Pieces.{PiecesView, IsMade, zero_block}
use Rattle.journal_volume.specs.Chunks.{AreChunks, view_of}
use Rattle.journal_volume.proofs.InPieces.{length-zero_block}
use Rattle.journal_volume.proofs.PutBack.{not_at}
use Rattle.journal_volume.proofs.SlotsLaid.{laid_at, laid_other, laid_push, laid_set, laid_whole}

pub length-view : (made : Numbers) (slots : PiecesView) → length (view_of made slots).blocks ≡ made.bound
length-view made slots =
    length-laid_over (replicate made.bound zero_block) made.members slots.blocks ∙ length-replicate made.bound zero_block

-- no block has octets
pub none_are : (made : Numbers) (slots : PiecesView) (count : ℕ) → IsNumbers made → made.bound ≡ count → made.members ≡ []
    → slots.blocks ≡ replicate count zero_block → AreChunks made slots
none_are made slots count numbers bound none zeros = record {
  numbers = numbers;
  size = ap length zeros ∙ length-replicate count zero_block ∙ sym bound;
  whole = subst (λ (l : List (List ℕ)). All (λ b. length b ≡ 4096) l) (sym zeros)
      (All-from_get_or (λ b. length b ≡ 4096) (replicate count zero_block) [] (λ i low.
      ap length (get_or-replicate count i zero_block [] (omega (arith, length-replicate count zero_block))) ∙ length-zero_block));
  room = λ i low. absurd (omega (arith, ap length none));
  zeros = λ i past low. ap (λ (l : List (List ℕ)). get_or l i []) zeros ∙ get_or-replicate count i zero_block [] (omega (arith, bound));
}

module _ (made : Numbers) (slots : PiecesView) (are : AreChunks made slots) where
  all_below : All (λ n. n < length (replicate made.bound zero_block)) made.members
  all_below k d low = omega (arith, are.numbers.below k d low, length-replicate made.bound zero_block)

  pub members_few : length made.members ≤ made.bound
  members_few = few_members made.bound made.members are.numbers.below are.numbers.distinct

  pub view_whole : All (λ octets. length octets ≡ 4096) (view_of made slots).blocks
  view_whole =
      laid_whole 4096 (replicate made.bound zero_block) made.members slots.blocks
      (All-from_get_or (λ b. length b ≡ 4096) (replicate made.bound zero_block) [] (λ i low.
      ap length (get_or-replicate made.bound i zero_block [] (omega (arith, length-replicate made.bound zero_block)))
      ∙ length-zero_block)) are.whole

  pub slot_there : (i : ℕ) → i < length made.members → i < length slots.blocks
  slot_there i low = omega (arith, members_few, are.size)

  -- a block that has octets
  pub in_slot : (n i : ℕ) → i < length made.members → get_or made.members i 0 ≡ n
      → get_or (view_of made slots).blocks n [] ≡ get_or slots.blocks i []
  in_slot n i low is =
      ap (λ (m : ℕ). get_or (view_of made slots).blocks m []) (sym is)
      ∙ laid_at (replicate made.bound zero_block) made.members slots.blocks i are.numbers.distinct all_below low (slot_there i low)

  -- one that has none
  pub in_none : (n : ℕ) → n < made.bound → ¬ (Contains made.members n) → get_or (view_of made slots).blocks n [] ≡ zero_block
  in_none n there other =
      laid_other (replicate made.bound zero_block) made.members slots.blocks n (not_at made.members n other)
      ∙ get_or-replicate made.bound n zero_block [] there

  -- a slot more, for a block that has none
  module _ (n : ℕ) (there : n < made.bound) (other : ¬ (Contains made.members n)) where
    pub next_there : length made.members < made.bound
    next_there =
        omega (
          arith,
          few_members made.bound (made.members ++ n ∷ []) (below_push made.bound n made.members are.numbers.below there)
              (distinct_push made.members n are.numbers.distinct other),
          length_push made.members n,
        )

    module _ (now : Numbers) (slots_now : PiecesView) (added : now ≡ record { bound = made.bound; members = made.members ++ n ∷ [] })
        (same : slots_now.blocks ≡ slots.blocks) where
      pub given_blocks : (view_of now slots_now).blocks ≡ (view_of made slots).blocks
      given_blocks =
          ap (λ (m : Numbers). (view_of m slots_now).blocks) added
          ∙ ap (λ (l : List (List ℕ)). laid_over (replicate made.bound zero_block) (made.members ++ n ∷ []) l) same
          ∙ laid_push (replicate made.bound zero_block) made.members slots.blocks n (omega (arith, next_there, are.size))
          ∙ ap (λ (b : List ℕ). set (view_of made slots).blocks n b)
          (are.zeros (length made.members) (omega arith) next_there ∙ sym (in_none n there other))
          ∙ set-get_or (view_of made slots).blocks n []

      pub given_has : Contains now.members n
      given_has = subst (λ (m : Numbers). Contains m.members n) (sym added)
          (length made.members, omega (arith, length_push made.members n), get_or_push made.members n n (length made.members) refl)

      pub given_are : IsNumbers now → IsMade slots_now.made (length made.members)
          → ((i : ℕ) → IsMade slots.made i → IsMade slots_now.made i) → AreChunks now slots_now
      given_are numbers room kept =
          let bound : now.bound ≡ made.bound = ap (λ (m : Numbers). m.bound) added in
          let size : length now.members ≡ length (made.members ++ n ∷ []) = ap (λ (m : Numbers). length m.members) added in
          record {
            numbers = numbers;
            size = ap length same ∙ are.size ∙ sym bound;
            whole = subst (λ (l : List (List ℕ)). All (λ b. length b ≡ 4096) l) (sym same) are.whole;
            room = λ i low. elim (cases_lt i (length made.members)) [
              | inl earlier ↦ kept i (are.room i earlier)
              | inr past ↦
                  let last : length made.members ≡ i = omega (arith, size, length_push made.members n) in
                  subst (λ (j : ℕ). IsMade slots_now.made j) last room
            ];
            zeros = λ i past low. ap (λ (l : List (List ℕ)). get_or l i []) same
                ∙ are.zeros i (omega (arith, size, length_push made.members n)) (omega (arith, bound));
          }

  -- other octets in a slot
  module _ (n i : ℕ) (low : i < length made.members) (is : get_or made.members i 0 ≡ n) (octets : List ℕ) (slots_now : PiecesView)
      (put : slots_now ≡ record { blocks = set slots.blocks i octets; made = slots.made }) where
    pub put_view : view_of made slots_now ≡ record { blocks = set (view_of made slots).blocks n octets; made = made.members }
    put_view =
        ap (λ (s : PiecesView). view_of made s) put
        ∙ ap (λ (l : List (List ℕ)). record { blocks = l; made = made.members })
        (laid_set (replicate made.bound zero_block) made.members slots.blocks i octets are.numbers.distinct low (slot_there i low)
        ∙ ap (λ (m : ℕ). set (view_of made slots).blocks m octets) is)

    pub put_are : length octets ≡ 4096 → AreChunks made slots_now
    put_are size = subst (λ (s : PiecesView). AreChunks made s) (sym put) (record {
      numbers = are.numbers;
      size = length-set slots.blocks i octets ∙ are.size;
      whole = All-set (λ b. length b ≡ 4096) slots.blocks i octets size are.whole;
      room = are.room;
      zeros = λ j past below. get_or-set_other slots.blocks i j octets [] (λ e. omega arith) ∙ are.zeros j past below;
    })
