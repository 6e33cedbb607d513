-- Batches laid over homes that differ.
use Rattle.std.proofs.Common.{◌≡◌, ◌≢◌, ◌⊎◌, inl, inr, ◌<◌, ◌≤◌, ℕ, zero, suc, List, [], ◌∷◌, ◌++◌, length, get_or, set, refl, sym, ◌∙◌, ap}
use Rattle.std.proofs.Common.{arith, length-set}
use Rattle.std.proofs.lemmas.List.{ext_get_or, get_or-set_same, get_or-set_other, get_or_past}
use Rattle.std.proofs.lemmas.Bool.{cases_eq, cases_lt}
use Rattle.model.specs.Volume.{Batch, laid_over, all_laid_over}
use Rattle.model.proofs.Blocks.{length-laid_over}
use Rattle.journal_laws.specs.Batches.{AgreeBut, AreFull, HaveNone, IsNoneOf}

pub length-all : (bs : List Batch) (xs : List (List ℕ)) → length (all_laid_over xs bs) ≡ length xs
length-all [] xs = refl
length-all (b ∷ bs) xs = length-all bs (laid_over xs b.numbers b.images) ∙ length-laid_over xs b.numbers b.images

-- a block of which the batch has no image stays
laid_kept : (ns : List ℕ) (images xs : List (List ℕ)) (k : ℕ) → IsNoneOf k ns → get_or (laid_over xs ns images) k [] ≡ get_or xs k []
laid_kept [] images xs k none = refl
laid_kept (n ∷ ns) [] xs k none = refl
laid_kept (n ∷ ns) (image ∷ images) xs k none =
    laid_kept ns images (set xs n image) k (λ i within. none (suc i) (omega arith))
    ∙ get_or-set_other xs n k image [] (none zero (omega arith))

pub all_kept : (bs : List Batch) (xs : List (List ℕ)) (k : ℕ) → HaveNone k bs → get_or (all_laid_over xs bs) k [] ≡ get_or xs k []
all_kept [] xs k none = refl
all_kept (b ∷ bs) xs k none = all_kept bs (laid_over xs b.numbers b.images) k none.1 ∙ laid_kept b.numbers b.images xs k none.0

-- a block of which it has one doesn't matter
laid_same : (ns : List ℕ) (images xs ys : List (List ℕ)) (k : ℕ) → length ns ≤ length images → length xs ≡ length ys
    → (IsNoneOf k ns → get_or xs k [] ≡ get_or ys k []) → get_or (laid_over xs ns images) k [] ≡ get_or (laid_over ys ns images) k []
laid_same [] images xs ys k enough size same = same (λ i within. absurd (omega arith))
laid_same (n ∷ ns) [] xs ys k enough size same = absurd (omega arith)
laid_same (n ∷ ns) (image ∷ images) xs ys k enough size same =
    laid_same ns images (set xs n image) (set ys n image) k (omega arith) (length-set xs n image ∙ size ∙ sym (length-set ys n image))
    (λ none. each none (cases_eq k n) (cases_lt k (length xs)))
  where
    apart : k ≢ n → IsNoneOf k ns → IsNoneOf k (n ∷ ns)
    apart other none zero within = other
    apart other none (suc i) within = none i (omega arith)

    each : IsNoneOf k ns → (k ≡ n) ⊎ (k ≡ n → ⊥) → (k < length xs) ⊎ (length xs ≤ k)
        → get_or (set xs n image) k [] ≡ get_or (set ys n image) k []
    each none (inl is) (inl within) =
        ap (λ (j : ℕ). get_or (set xs j image) k []) (sym is)
        ∙ get_or-set_same xs k image [] within ∙ sym (get_or-set_same ys k image [] (omega (arith, size, within)))
        ∙ ap (λ (j : ℕ). get_or (set ys j image) k []) is
    each none (inl is) (inr past) =
        get_or_past (set xs n image) k [] (omega (arith, length-set xs n image, past))
        ∙ sym (get_or_past (set ys n image) k [] (omega (arith, size, length-set ys n image, past)))
    each none (inr other) place = get_or-set_other xs n k image [] other ∙ same (apart other none)
        ∙ sym (get_or-set_other ys n k image [] other)

all_same_at : (bs : List Batch) (xs ys : List (List ℕ)) → AreFull bs → length xs ≡ length ys
    → ((k : ℕ) → HaveNone k bs → get_or xs k [] ≡ get_or ys k []) → (k : ℕ)
    → get_or (all_laid_over xs bs) k [] ≡ get_or (all_laid_over ys bs) k []
all_same_at [] xs ys full size same k = same k tt
all_same_at (b ∷ bs) xs ys full size same k =
    all_same_at bs (laid_over xs b.numbers b.images) (laid_over ys b.numbers b.images) full.1 (length-laid_over xs b.numbers b.images ∙ size
    ∙ sym (length-laid_over ys b.numbers b.images))
    (λ j none. laid_same b.numbers b.images xs ys j full.0 size (λ here. same j (here, none))) k

-- homes that differ only where some batch has an image stand for the same blocks
pub all_same : (bs : List Batch) (old new : List (List ℕ)) → AreFull bs → AgreeBut bs old new → all_laid_over new bs ≡ all_laid_over old bs
all_same bs old new full agree =
    ext_get_or [] (all_laid_over new bs) (all_laid_over old bs) (length-all bs new ∙ agree.size ∙ sym (length-all bs old))
    (λ k within. all_same_at bs new old full agree.size agree.same k)

pub all_append : (bs cs : List Batch) (xs : List (List ℕ)) → all_laid_over xs (bs ++ cs) ≡ all_laid_over (all_laid_over xs bs) cs
all_append [] cs xs = refl
all_append (b ∷ bs) cs xs = all_append bs cs (laid_over xs b.numbers b.images)

-- batches that were carried home may be laid over once more
pub all_again : (bs : List Batch) (xs : List (List ℕ)) → AreFull bs → all_laid_over (all_laid_over xs bs) bs ≡ all_laid_over xs bs
all_again bs xs full = all_same bs xs (all_laid_over xs bs) full
    (record { size = length-all bs xs; same = λ k none. all_kept bs xs k none })

full_back : (bs cs : List Batch) → AreFull (bs ++ cs) → AreFull cs
full_back [] cs full = full
full_back (b ∷ bs) cs full = full_back bs cs full.1

-- and so may the last of them, once the first are closed
pub last_again : (bs cs : List Batch) (xs : List (List ℕ)) → AreFull (bs ++ cs)
    → all_laid_over (all_laid_over xs (bs ++ cs)) cs ≡ all_laid_over xs (bs ++ cs)
last_again bs cs xs full =
    ap (λ (home : List (List ℕ)). all_laid_over home cs) (all_append bs cs xs)
    ∙ all_again cs (all_laid_over xs bs) (full_back bs cs full)
    ∙ sym (all_append bs cs xs)

-- a home on the way: the first batches are there, and the first images of the next
pub on_the_way : (bs cs : List Batch) (b : Batch) (xs : List (List ℕ)) (numbers : List ℕ) (images : List (List ℕ))
    → ((k : ℕ) → IsNoneOf k b.numbers → IsNoneOf k numbers) → AgreeBut (bs ++ b ∷ cs) xs (laid_over (all_laid_over xs bs) numbers images)
on_the_way bs cs b xs numbers images fewer = record {
  size = length-laid_over (all_laid_over xs bs) numbers images ∙ length-all bs xs;
  same = λ k none. laid_kept numbers images (all_laid_over xs bs) k (fewer k (here bs k none)) ∙ all_kept bs xs k (front bs k none);
}
  where
    here : (bs : List Batch) (k : ℕ) → HaveNone k (bs ++ b ∷ cs) → IsNoneOf k b.numbers
    here [] k none = none.0
    here (c ∷ bs) k none = here bs k none.1

    front : (bs : List Batch) (k : ℕ) → HaveNone k (bs ++ b ∷ cs) → HaveNone k bs
    front [] k none = tt
    front (c ∷ bs) k none = (none.0, front bs k none.1)
