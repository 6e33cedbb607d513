-- Batches in rising number, whatever their places.
use Rattle.std.proofs.Common.{◌≡◌, ◌<◌, ◌≤◌, ltb, if◌then◌else◌, ℕ, Bool, true, false, List, [], ◌∷◌, ◌++◌, refl, ◌∙◌, ap, arith}
use Rattle.std.proofs.lemmas.Bool.{lt-ltb, le-ltb}
use Rattle.model.specs.Volume.{Batch, insert, rising}
use Rattle.journal_laws.specs.Batches.{AreAbove, AreBelow}

behind : (x b : Batch) (l : List Batch) → b.number < x.number → insert x (b ∷ l) ≡ b ∷ insert x l
behind x b l below = ap (λ (t : Bool). if t then b ∷ insert x l else x ∷ b ∷ l) (lt-ltb b.number x.number below)

in_front : (x b : Batch) (l : List Batch) → x.number ≤ b.number → insert x (b ∷ l) ≡ x ∷ b ∷ l
in_front x b l above = ap (λ (t : Bool). if t then b ∷ insert x l else x ∷ b ∷ l) (le-ltb b.number x.number above)

-- either test keeps what both do
either : (P : List Batch → Type 0) (x y : List Batch) (t : Bool) → P x → P y → P (if t then x else y)
either P x y true p q = p
either P x y false p q = q

-- ---- the least

insert_above : (x : Batch) (l : List Batch) (n : ℕ) → n < x.number → AreAbove n l → AreAbove n (insert x l)
insert_above x [] n low above = (low, tt)
insert_above x (y ∷ l) n low above =
    either (AreAbove n) (y ∷ insert x l) (x ∷ y ∷ l) (ltb y.number x.number) (above.0, insert_above x l n low above.1) (low, above)

rising_above : (l : List Batch) (n : ℕ) → AreAbove n l → AreAbove n (rising l)
rising_above [] n above = tt
rising_above (x ∷ l) n above = insert_above x (rising l) n above.0 (rising_above l n above.1)

least : (b : Batch) (l : List Batch) → AreAbove b.number l → insert b l ≡ b ∷ l
least b [] above = refl
least b (y ∷ l) above = in_front b y l (omega (arith, above.0))

-- the least comes first
pub least_first : (ys zs : List Batch) (b : Batch) → AreAbove b.number ys → AreAbove b.number zs
    → rising (ys ++ b ∷ zs) ≡ b ∷ rising (ys ++ zs)
least_first [] zs b above below = least b (rising zs) (rising_above zs b.number below)
least_first (y ∷ ys) zs b above below = ap (λ (l : List Batch). insert y l) (least_first ys zs b above.1 below)
    ∙ behind y b (rising (ys ++ zs)) above.0

-- ---- the greatest

insert_below : (x : Batch) (l : List Batch) (n : ℕ) → x.number < n → AreBelow n l → AreBelow n (insert x l)
insert_below x [] n low below = (low, tt)
insert_below x (y ∷ l) n low below =
    either (AreBelow n) (y ∷ insert x l) (x ∷ y ∷ l) (ltb y.number x.number) (below.0, insert_below x l n low below.1) (low, below)

rising_below : (l : List Batch) (n : ℕ) → AreBelow n l → AreBelow n (rising l)
rising_below [] n below = tt
rising_below (x ∷ l) n below = insert_below x (rising l) n below.0 (rising_below l n below.1)

greatest : (b : Batch) (l : List Batch) → AreBelow b.number l → insert b l ≡ l ++ b ∷ []
greatest b [] below = refl
greatest b (y ∷ l) below = behind b y l below.0 ∙ ap (λ (m : List Batch). y ∷ m) (greatest b l below.1)

-- a greater one stays at the end
same_ends : (x y b : Batch) (l m n : List Batch) (t : Bool) → m ≡ n ++ b ∷ []
    → (if t then y ∷ m else x ∷ y ∷ (l ++ b ∷ [])) ≡ (if t then y ∷ n else x ∷ y ∷ l) ++ b ∷ []
same_ends x y b l m n true is = ap (λ (k : List Batch). y ∷ k) is
same_ends x y b l m n false is = refl

insert_last : (x b : Batch) (l : List Batch) → x.number < b.number → insert x (l ++ b ∷ []) ≡ insert x l ++ b ∷ []
insert_last x b [] below = in_front x b [] (omega (arith, below))
insert_last x b (y ∷ l) below = same_ends x y b l (insert x (l ++ b ∷ [])) (insert x l) (ltb y.number x.number) (insert_last x b l below)

-- the greatest comes last
pub greatest_last : (ys zs : List Batch) (b : Batch) → AreBelow b.number ys → AreBelow b.number zs
    → rising (ys ++ b ∷ zs) ≡ rising (ys ++ zs) ++ b ∷ []
greatest_last [] zs b below above = greatest b (rising zs) (rising_below zs b.number above)
greatest_last (y ∷ ys) zs b below above = ap (λ (l : List Batch). insert y l) (greatest_last ys zs b below.1 above)
    ∙ insert_last y b (rising (ys ++ zs)) below.0
