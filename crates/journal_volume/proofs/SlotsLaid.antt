-- Blocks of zeros with the slots of some blocks laid over them.
use Rattle.std.proofs.Common.{◌≡◌, ◌<◌, ℕ, zero, suc, List, [], ◌∷◌, ◌++◌, length, get_or, set, refl, sym, ◌∙◌, ap}
use Rattle.std.proofs.Common.{arith, length-set}
use Rattle.std.specs.List.{All}
use Rattle.std.proofs.lemmas.List.{get_or-set_same, get_or-set_other, set_comm, set-set}
use Rattle.std.proofs.lemmas.List.Elements.{All-head, All-set, All-tail}
use Rattle.model.specs.Volume.{AreDistinct, laid_over}
use Rattle.model.proofs.Distinct.{distinct_tail}
use Rattle.journal_volume.proofs.PutBack.{IsOther}

later : (n : ℕ) (ns : List ℕ) (k : ℕ) → IsOther (n ∷ ns) k → IsOther ns k
later n ns k other i low = other (suc i) (omega arith)

-- the first is none of the others
first_other : (n : ℕ) (ns : List ℕ) → AreDistinct (n ∷ ns) → IsOther ns n
first_other n ns distinct i low = distinct 0 (suc i) (omega arith) (omega arith)

-- a block that gets no slot
pub laid_other : (xs : List (List ℕ)) (ns : List ℕ) (slots : List (List ℕ)) (k : ℕ) → IsOther ns k
    → get_or (laid_over xs ns slots) k [] ≡ get_or xs k []
laid_other xs [] slots k other = refl
laid_other xs (n ∷ ns) [] k other = refl
laid_other xs (n ∷ ns) (slot ∷ slots) k other =
    laid_other (set xs n slot) ns slots k (later n ns k other) ∙ get_or-set_other xs n k slot [] (other 0 (omega arith))

-- a block that gets one
pub laid_at : (xs : List (List ℕ)) (ns : List ℕ) (slots : List (List ℕ)) (i : ℕ) → AreDistinct ns → All (λ n. n < length xs) ns
    → i < length ns → i < length slots → get_or (laid_over xs ns slots) (get_or ns i 0) [] ≡ get_or slots i []
laid_at xs [] slots i distinct there low given = absurd (omega arith)
laid_at xs (n ∷ ns) [] i distinct there low given = absurd (omega arith)
laid_at xs (n ∷ ns) (slot ∷ slots) zero distinct there low given =
    laid_other (set xs n slot) ns slots n (first_other n ns distinct)
    ∙ get_or-set_same xs n slot [] (All-head (λ m. m < length xs) n ns there)
laid_at xs (n ∷ ns) (slot ∷ slots) (suc i) distinct there low given =
    laid_at (set xs n slot) ns slots i (distinct_tail n ns distinct)
    (λ k d l. omega (arith, length-set xs n slot, All-tail (λ m. m < length xs) n ns there k d l)) (omega arith) (omega arith)

-- a slot more
pub laid_push : (xs : List (List ℕ)) (ns : List ℕ) (slots : List (List ℕ)) (n : ℕ) → length ns < length slots
    → laid_over xs (ns ++ n ∷ []) slots ≡ set (laid_over xs ns slots) n (get_or slots (length ns) [])
laid_push xs ns [] n room = absurd (omega arith)
laid_push xs [] (slot ∷ slots) n room = refl
laid_push xs (m ∷ ns) (slot ∷ slots) n room = laid_push (set xs m slot) ns slots n (omega arith)

-- a block that gets no slot, replaced before or after
pub laid_apart : (xs : List (List ℕ)) (ns : List ℕ) (slots : List (List ℕ)) (k : ℕ) (octets : List ℕ) → IsOther ns k
    → laid_over (set xs k octets) ns slots ≡ set (laid_over xs ns slots) k octets
laid_apart xs [] slots k octets other = refl
laid_apart xs (n ∷ ns) [] k octets other = refl
laid_apart xs (n ∷ ns) (slot ∷ slots) k octets other =
    ap (λ (l : List (List ℕ)). laid_over l ns slots) (set_comm xs k n octets slot (other 0 (omega arith)))
    ∙ laid_apart (set xs n slot) ns slots k octets (later n ns k other)

-- another content of a slot
pub laid_set : (xs : List (List ℕ)) (ns : List ℕ) (slots : List (List ℕ)) (i : ℕ) (octets : List ℕ) → AreDistinct ns → i < length ns
    → i < length slots → laid_over xs ns (set slots i octets) ≡ set (laid_over xs ns slots) (get_or ns i 0) octets
laid_set xs [] slots i octets distinct low given = absurd (omega arith)
laid_set xs (n ∷ ns) [] i octets distinct low given = absurd (omega arith)
laid_set xs (n ∷ ns) (slot ∷ slots) zero octets distinct low given =
    ap (λ (l : List (List ℕ)). laid_over l ns slots) (sym (set-set xs n slot octets))
    ∙ laid_apart (set xs n slot) ns slots n octets (first_other n ns distinct)
laid_set xs (n ∷ ns) (slot ∷ slots) (suc i) octets distinct low given =
    laid_set (set xs n slot) ns slots i octets (distinct_tail n ns distinct) (omega arith) (omega arith)

-- each block has as many octets
pub laid_whole : (size : ℕ) (xs : List (List ℕ)) (ns : List ℕ) (slots : List (List ℕ)) → All (λ b. length b ≡ size) xs
    → All (λ b. length b ≡ size) slots → All (λ b. length b ≡ size) (laid_over xs ns slots)
laid_whole size xs [] slots whole slots_whole = whole
laid_whole size xs (n ∷ ns) [] whole slots_whole = whole
laid_whole size xs (n ∷ ns) (slot ∷ slots) whole slots_whole =
    laid_whole size (set xs n slot) ns slots
    (All-set (λ b. length b ≡ size) xs n slot (All-head (λ b. length b ≡ size) slot slots slots_whole) whole)
    (All-tail (λ b. length b ≡ size) slot slots slots_whole)
