-- Octets that say how long they are, and the parts of what follows them.
use Rattle.std.proofs.Common.{◌≡◌, ℕ, ◌<◌, ◌^◌, List, [], ◌∷◌, ◌++◌, refl, sym, ◌∙◌, ap, arith}
use Rattle.std.specs.Prelude.{length, flat_map}
use Rattle.std.proofs.lemmas.List.{append_assoc, append-nil}
use Rattle.model.specs.Stream.{Octets}
use Rattle.byteorder.specs.Endian.{little_bytes, little_from, little_number}
use Rattle.byteorder.specs.Numbers.{length-bytes_low_first, little_number-reads_back}

-- two lists that begin with parts of one length
pub append_split : {X : Type 0} (xs ys front back : List X) → length xs ≡ length ys → xs ++ front ≡ ys ++ back → (xs ≡ ys) × (front ≡ back)
append_split [] [] front back same is = (refl, is)
append_split [] (y ∷ ys) front back same is = absurd (omega arith)
append_split (x ∷ xs) [] front back same is = absurd (omega arith)
append_split (x ∷ xs) (y ∷ ys) front back same is =
    let heads : x ≡ y = cc in
    let tails : xs ++ front ≡ ys ++ back = cc in
    let parts = append_split xs ys front back (omega arith) tails in
    ((λ i. heads i ∷ parts.0 i), parts.1)

pub length-little : (size n : ℕ) → length (little_bytes size n) ≡ size
length-little size n = length-bytes_low_first 0 size n

little_value-little : (size n : ℕ) → n < 256 ^ size → little_number size (little_bytes size n) ≡ n
little_value-little size n below =
    ap (little_from 0 size) (sym (append-nil (little_bytes size n))) ∙ little_number-reads_back size n [] below

pub little_split : (size n m : ℕ) (front back : Octets) → n < 256 ^ size → m < 256 ^ size
    → little_bytes size n ++ front ≡ little_bytes size m ++ back → (n ≡ m) × (front ≡ back)
little_split size n m front back small small' is =
    let parts = append_split (little_bytes size n) (little_bytes size m) front back (length-little size n
    ∙ sym (length-little size m)) is in
    (sym (little_value-little size n small) ∙ ap (little_number size) parts.0 ∙ little_value-little size m small', parts.1)

-- a list after its length
pub counted_split : (xs ys front back : Octets) → length xs ∷ xs ++ front ≡ length ys ∷ ys ++ back → (xs ≡ ys) × (front ≡ back)
counted_split xs ys front back is =
    let counts : length xs ≡ length ys = cc in
    let rest : xs ++ front ≡ ys ++ back = cc in
    append_split xs ys front back counts rest

pub counted_lists : (xs ys : List Octets) (front back : Octets) → length xs ≡ length ys
    → flat_map (λ g. length g ∷ g) xs ++ front ≡ flat_map (λ g. length g ∷ g) ys ++ back → (xs ≡ ys) × (front ≡ back)
counted_lists [] [] front back same is = (refl, is)
counted_lists [] (y ∷ ys) front back same is = absurd (omega arith)
counted_lists (x ∷ xs) [] front back same is = absurd (omega arith)
counted_lists (x ∷ xs) (y ∷ ys) front back same is =
    let regrouped : length x ∷ x ++ (flat_map (λ g. length g ∷ g) xs ++ front) ≡ length y ∷ y ++ (flat_map (λ g. length g ∷ g) ys ++ back) =
    sym (append_assoc (length x ∷ x) (flat_map (λ g. length g ∷ g) xs) front) ∙ is
    ∙ append_assoc (length y ∷ y) (flat_map (λ g. length g ∷ g) ys) back in
    let first = counted_split x y _ _ regrouped in
    let rest = counted_lists xs ys front back (omega arith) first.1 in
    ((λ i. first.0 i ∷ rest.0 i), rest.1)
