-- What the entries of a file system own: how many blocks, and how many octets these are.
use Rattle.std.proofs.Common.{◌≡◌, ◌≢◌, inl, inr, ◌<◌, ◌≤◌, ℕ, zero, suc, ◌+◌, ◌*◌, ◌/◌, cond, eqb, Bool, List, [], ◌∷◌, ◌++◌, length}
use Rattle.std.proofs.Common.{get_or, map, drop, refl, ◌∙◌, ap, subst, arith, length-append}
use Rattle.std.specs.List.{All, Contains, range_with_len, flat_map}
use Rattle.std.proofs.lemmas.List.{get_or_past, get_or-drop, length-take-le}
use Rattle.std.proofs.lemmas.List.Elements.{Contains-append_right, Contains-get_or}
use Rattle.std.proofs.lemmas.List.FromFn.{length-map-range_with_len, get_or-map-range_with_len}
use Rattle.std.proofs.lemmas.Bool.{cases_lt, ne_eqb, eq-eqb}
use Rattle.byteorder.specs.Endian.{little_from}
use Rattle.model.specs.Stream.{Octets}
use Rattle.model.specs.Volume.{number_at}
use Rattle.model.specs.Files.{FileEntry, IsFree, kind, size, block_count, double_blocks, double_pointer, indirect_blocks, indirect_count}
use Rattle.model.specs.Files.{indirect_for, indirect_pointer, pointer, owned, content_of}

-- ---- zeros

pub zero_at : (octets : Octets) (i : ℕ) → All (λ o. o ≡ 0) octets → get_or octets i 0 ≡ 0
zero_at octets i zeros = elim (cases_lt i (length octets)) [
  | inl inside ↦ zeros i 0 inside
  | inr past ↦ get_or_past octets i 0 past
]

pub zero_number : (at n : ℕ) (octets : Octets) → All (λ o. o ≡ 0) octets → number_at at n octets ≡ 0
unfolding number_at
zero_number at n octets zeros = from 0 n
  where
    from : (i n : ℕ) → little_from i n (drop at octets) ≡ 0
    from i zero = refl
    from i (suc n) =
        let first : get_or (drop at octets) i 0 ≡ 0 = get_or-drop at octets i 0 ∙ zero_at octets (at + i) zeros in
        let rest = from (suc i) n in
        omega arith

pub free_kind : (e : FileEntry) → IsFree e → kind e ≡ 0
free_kind e free = zero_number 0 4 e.inode free.inode_zeros

pub free_owns : (e : FileEntry) → IsFree e → owned e ≡ []
free_owns e free =
    let no_double = zero_number 56 4 e.inode free.inode_zeros in
    let no_size = zero_number 4 8 e.inode free.inode_zeros in
    ap (λ (n : ℕ). cond (eqb n 0) [] (n ∷ []) ++ (indirect_blocks e ++ map (λ i. pointer e i) (range_with_len 0 (block_count e)))) no_double
    ∙ ap (λ (n : ℕ). map (λ p. indirect_pointer e p) (range_with_len 0 (indirect_for ((n + 4095) / 4096))) ++ map (λ i. pointer e i)
    (range_with_len 0 ((n + 4095) / 4096))) no_size

-- ---- how many blocks

no_double : (e : FileEntry) → double_pointer e ≡ 0 → length (double_blocks e) ≡ 0
no_double e none = ap (λ (b : Bool). length (cond b [] (double_pointer e ∷ []))) (eq-eqb (double_pointer e) 0 none)

one_double : (e : FileEntry) → double_pointer e ≢ 0 → length (double_blocks e) ≡ 1
one_double e some = ap (λ (b : Bool). length (cond b [] (double_pointer e ∷ []))) (ne_eqb (double_pointer e) 0 some)

pub owned_count : (e : FileEntry) → length (owned e) ≡ length (double_blocks e) + indirect_count e + block_count e
owned_count e =
    let its_pointers = map (λ i. pointer e i) (range_with_len 0 (block_count e)) in
    omega (
      arith,
      length-append (double_blocks e) (indirect_blocks e ++ its_pointers),
      length-append (indirect_blocks e) its_pointers,
      length-map-range_with_len (λ i. pointer e i) 0 (block_count e),
      length-map-range_with_len (λ p. indirect_pointer e p) 0 (indirect_count e),
    )

pub owned_without : (e : FileEntry) → double_pointer e ≡ 0 → length (owned e) ≡ block_count e + indirect_count e
owned_without e none = omega (arith, owned_count e, no_double e none)

pub owned_with : (e : FileEntry) → double_pointer e ≢ 0 → length (owned e) ≡ block_count e + indirect_count e + 1
owned_with e some = omega (arith, owned_count e, one_double e some)

-- ---- how many octets

pub owns_pointer : (e : FileEntry) (i : ℕ) → i < block_count e → Contains (owned e) (pointer e i)
owns_pointer e i low =
    Contains-append_right (double_blocks e) (indirect_blocks e ++ map (λ i. pointer e i) (range_with_len 0 (block_count e))) (pointer e i)
    (Contains-append_right (indirect_blocks e) (map (λ i. pointer e i) (range_with_len 0 (block_count e))) (pointer e i)
    (subst (λ (n : ℕ). Contains (map (λ i. pointer e i) (range_with_len 0 (block_count e))) n)
    (get_or-map-range_with_len (λ i. pointer e i) 0 (block_count e) i i 0 low (omega arith))
    (Contains-get_or (map (λ i. pointer e i) (range_with_len 0 (block_count e))) i 0
    (omega (arith, length-map-range_with_len (λ i. pointer e i) 0 (block_count e))))))

joined_size : (f : ℕ → Octets) (a n : ℕ) → ((i : ℕ) → a ≤ i → i < a + n → length (f i) ≡ 4096)
    → length (flat_map f (range_with_len a n)) ≡ 4096 * n
joined_size f a zero whole = refl
joined_size f a (suc n) whole =
    omega (
      arith,
      length-append (f a) (flat_map f (range_with_len (a + 1) n)),
      whole a (omega arith) (omega arith),
      joined_size f (a + 1) n (λ i low high. whole i (omega arith) (omega arith)),
    )

pub content_size : (blocks : List Octets) (e : FileEntry) → All (λ b. length b ≡ 4096) blocks
    → ((b : ℕ) → Contains (owned e) b → b < length blocks) → length (content_of blocks e) ≡ size e
content_size blocks e whole within =
    let f : ℕ → Octets = λ i. get_or blocks (pointer e i) [] in
    let many : length (flat_map f (range_with_len 0 (block_count e))) ≡ 4096 * block_count e =
    joined_size f 0 (block_count e) (λ i low high. whole (pointer e i) [] (within (pointer e i) (owns_pointer e i (omega arith)))) in
    length-take-le (size e) (flat_map f (range_with_len 0 (block_count e))) (omega (arith, many))
