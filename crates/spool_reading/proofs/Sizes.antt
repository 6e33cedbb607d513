-- The sizes of lines that are counted one after the other.
use Rattle.std.proofs.Common.{◌≡◌, ◌<◌, ℕ, zero, suc, ◌+◌, List, [], ◌∷◌, ◌++◌, length, get_or, refl, sym, ◌∙◌, ap, subst, arith, inl, inr}
use Rattle.std.proofs.Common.{length-append}
use Rattle.std.proofs.lemmas.Bool.{cases_lt}
use Rattle.std.proofs.lemmas.List.{get_or_read}
use Rattle.model.specs.Stream.{Octets}

pub name_here : (here : List Octets) (j : ℕ) (x name : Octets) → j < length here → name ≡ x → x ≡ get_or here j x → name ≡ get_or here j []
name_here here j x name low same is = same ∙ get_or_read here j x low is []

push_before : (sizes : List ℕ) (n k : ℕ) → k < length sizes → get_or (sizes ++ n ∷ []) k 0 ≡ get_or sizes k 0
push_before [] n k low = absurd (omega arith)
push_before (m ∷ sizes) n zero low = refl
push_before (m ∷ sizes) n (suc k) low = push_before sizes n k (omega arith)

push_last : (sizes : List ℕ) (n : ℕ) → get_or (sizes ++ n ∷ []) (length sizes) 0 ≡ n
push_last [] n = refl
push_last (m ∷ sizes) n = push_last sizes n

pub sizes_more : (f : ℕ → ℕ) (sizes new : List ℕ) (n j : ℕ) → new ≡ sizes ++ n ∷ [] → length sizes ≡ j
    → ((k : ℕ) → k < j → get_or sizes k 0 ≡ f k) → n ≡ f j → (k : ℕ) → k < j + 1 → get_or new k 0 ≡ f k
sizes_more f sizes new n j is count before here k low = elim (cases_lt k j) [
  | inl less ↦ ap (λ (ns : List ℕ). get_or ns k 0) is ∙ push_before sizes n k (omega arith) ∙ before k less
  | inr more ↦
      let same : k ≡ length sizes = omega arith in
      let place : j ≡ k = omega arith in
      ap (λ (ns : List ℕ). get_or ns k 0) is ∙ ap (λ (m : ℕ). get_or (sizes ++ n ∷ []) m 0) same ∙ push_last sizes n ∙ here ∙ ap f place
]

all_push : (limit : ℕ) (sizes : List ℕ) (n : ℕ) → ((k d : ℕ) → k < length sizes → get_or sizes k d < limit) → n < limit → (k d : ℕ)
    → k < length (sizes ++ n ∷ []) → get_or (sizes ++ n ∷ []) k d < limit
all_push limit [] n all small zero d low = small
all_push limit [] n all small (suc k) d low = absurd (omega arith)
all_push limit (m ∷ sizes) n all small zero d low = all 0 d (omega arith)
all_push limit (m ∷ sizes) n all small (suc k) d low =
    all_push limit sizes n (λ j e less. all (suc j) e (omega arith)) small k d (omega arith)

pub all_more : (limit : ℕ) (sizes new : List ℕ) (n : ℕ) → new ≡ sizes ++ n ∷ [] → ((k d : ℕ) → k < length sizes → get_or sizes k d < limit)
    → n < limit → (k d : ℕ) → k < length new → get_or new k d < limit
all_more limit sizes new n is all small =
    subst (λ (ns : List ℕ). (k d : ℕ) → k < length ns → get_or ns k d < limit) (sym is) (all_push limit sizes n all small)

pub count_more : (sizes new : List ℕ) (n j : ℕ) → new ≡ sizes ++ n ∷ [] → length sizes ≡ j → length new ≡ j + 1
count_more sizes new n j is count = ap (λ (ns : List ℕ). length ns) is ∙ length-append sizes (n ∷ []) ∙ omega arith
