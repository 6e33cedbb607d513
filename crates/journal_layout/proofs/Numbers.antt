-- Numbers in a block, after writes.
use Rattle.std.proofs.Common.{◌≡◌, ◌⊎◌, inl, ◌<◌, ◌≤◌, ℕ, zero, suc, ◌+◌, ◌-◌, ◌*◌, ◌^◌, List, [], ◌∷◌, ◌++◌, length, get_or, take, drop}
use Rattle.std.proofs.Common.{map, replicate, refl, sym, ◌∙◌, ap, arith, append_assoc, length-append, length-take-le}
use Rattle.std.specs.List.{All, flat_map, range_with_len}
use Rattle.std.proofs.lemmas.List.{drop_at, drop-drop, drop-replicate, take_at}
use Rattle.std.proofs.lemmas.List.Elements.{All-head, All-tail}
use Rattle.std.proofs.lemmas.List.FromFn.{fill_by_all}
use Rattle.byteorder.specs.Endian.{little_number, little_bytes}
use Rattle.byteorder.specs.Numbers.{little_number-reads_back}
use Rattle.disk.specs.Image.{overwritten}
use Rattle.disk.proofs.Images.{length-overwritten, part-overwritten_apart}
use Rattle.model.specs.Volume.{number_at, listed, descriptor_of}
use Rattle.disk_numbers.proofs.Numbers.{after, number_at_apart, number_at_written}

nth : (ns rest : List ℕ) (k : ℕ) → k < length ns → All (λ n. n < 256 ^ 4) ns
    → little_number 4 (drop (4 * k) (flat_map (λ x. little_bytes 4 x) ns ++ rest)) ≡ get_or ns k 0
nth [] rest k within fits = absurd (omega arith)
nth (n ∷ ns) rest zero within fits =
    let nothing : 4 * 0 ≡ 0 = refl in
    ap (λ (l : List ℕ). little_number 4 l) (append_assoc (little_bytes 4 n) (flat_map (λ x. little_bytes 4 x) ns) rest)
    ∙ little_number-reads_back 4 n (flat_map (λ x. little_bytes 4 x) ns ++ rest) (All-head (λ m. m < 256 ^ 4) n ns fits)
nth (n ∷ ns) rest (suc k) within fits =
    let more : 4 * suc k ≡ 4 + 4 * k = omega arith in
    ap (λ (m : ℕ). little_number 4 (drop m (flat_map (λ x. little_bytes 4 x) (n ∷ ns) ++ rest))) more
    ∙ ap (λ (l : List ℕ). little_number 4 l) (sym (drop-drop (4 * k) 4 (flat_map (λ x. little_bytes 4 x) (n ∷ ns) ++ rest)))
    ∙ nth ns rest k (omega arith) (All-tail (λ m. m < 256 ^ 4) n ns fits)

pub length-flat_map : (ns : List ℕ) → length (flat_map (λ x. little_bytes 4 x) ns) ≡ 4 * length ns
length-flat_map [] = refl
length-flat_map (n ∷ ns) = omega (arith, length-append (little_bytes 4 n) (flat_map (λ x. little_bytes 4 x) ns), length-flat_map ns)

number_at_nth : (ns xs : List ℕ) (k : ℕ) → 24 ≤ length xs → k < length ns → All (λ n. n < 256 ^ 4) ns
    → number_at (24 + 4 * k) 4 (overwritten 24 (flat_map (λ x. little_bytes 4 x) ns) xs) ≡ get_or ns k 0
unfolding number_at
number_at_nth ns xs k fits within small =
    let bytes = flat_map (λ x. little_bytes 4 x) ns in
    ap (λ (l : List ℕ). little_number 4 l) (sym (drop-drop (4 * k) 24 (overwritten 24 bytes xs))
    ∙ ap (λ (l : List ℕ). drop (4 * k) l) (after 24 bytes xs fits))
    ∙ nth ns (drop (24 + length bytes) xs) k within small

-- a list of numbers that was written
pub listed_written : (ns xs : List ℕ) → 24 + 4 * length ns ≤ length xs → All (λ n. n < 256 ^ 4) ns → number_at 16 4 xs ≡ length ns
    → listed (overwritten 24 (flat_map (λ x. little_bytes 4 x) ns) xs) ≡ ns
listed_written ns xs fits small count =
    let bytes = flat_map (λ x. little_bytes 4 x) ns in
    let ys = overwritten 24 bytes xs in
    ap (λ (n : ℕ). map (λ i. number_at (24 + 4 * i) 4 ys) (range_with_len 0 n))
    (number_at_apart 24 bytes xs (omega (arith, length-flat_map ns)) 16 4 (inl (omega arith)) ∙ count)
    ∙ sym (fill_by_all (λ i. number_at (24 + 4 * i) 4 ys) ns (length ns) 0 refl
    (λ k within. sym (number_at_nth ns xs k (omega arith) within small)))

-- a descriptor as it is written, over whatever stood there
module _ (old : List ℕ) (number last : ℕ) (ns : List ℕ) (whole : length old ≡ 4096) (few : length ns ≤ 512)
    (small_number : number < 256 ^ 8) (small_last : last < 256 ^ 8) (small : All (λ n. n < 256 ^ 4) ns) where
  abbrev first : List ℕ
  first = overwritten 0 (little_bytes 8 number) old

  abbrev second : List ℕ
  second = overwritten 8 (little_bytes 8 last) first

  abbrev third : List ℕ
  third = overwritten 16 (little_bytes 4 (length ns)) second

  abbrev fourth : List ℕ
  fourth = overwritten 20 (little_bytes 4 0) third

  abbrev pub described : List ℕ
  described = overwritten 24 (flat_map (λ x. little_bytes 4 x) ns) fourth

  size1 : length first ≡ 4096
  size1 = length-overwritten 0 (little_bytes 8 number) old (omega arith) ∙ whole

  size2 : length second ≡ 4096
  size2 = length-overwritten 8 (little_bytes 8 last) first (omega (arith, size1)) ∙ size1

  size3 : length third ≡ 4096
  size3 = length-overwritten 16 (little_bytes 4 (length ns)) second (omega (arith, size2)) ∙ size2

  size4 : length fourth ≡ 4096
  size4 = length-overwritten 20 (little_bytes 4 0) third (omega (arith, size3)) ∙ size3

  numbers_fit : 24 + length (flat_map (λ x. little_bytes 4 x) ns) ≤ length fourth
  numbers_fit = omega (arith, size4, length-flat_map ns)

  pub length-described : length described ≡ 4096
  length-described = length-overwritten 24 (flat_map (λ x. little_bytes 4 x) ns) fourth numbers_fit ∙ size4

  described_number : number_at 0 8 described ≡ number
  described_number =
      number_at_apart 24 (flat_map (λ x. little_bytes 4 x) ns) fourth numbers_fit 0 8 (inl (omega arith))
      ∙ number_at_apart 20 (little_bytes 4 0) third (omega (arith, size3)) 0 8 (inl (omega arith))
      ∙ number_at_apart 16 (little_bytes 4 (length ns)) second (omega (arith, size2)) 0 8 (inl (omega arith))
      ∙ number_at_apart 8 (little_bytes 8 last) first (omega (arith, size1)) 0 8 (inl (omega arith))
      ∙ number_at_written 0 8 number old (omega arith) small_number

  described_last : number_at 8 8 described ≡ last
  described_last =
      number_at_apart 24 (flat_map (λ x. little_bytes 4 x) ns) fourth numbers_fit 8 8 (inl (omega arith))
      ∙ number_at_apart 20 (little_bytes 4 0) third (omega (arith, size3)) 8 8 (inl (omega arith))
      ∙ number_at_apart 16 (little_bytes 4 (length ns)) second (omega (arith, size2)) 8 8 (inl (omega arith))
      ∙ number_at_written 8 8 last first (omega (arith, size1)) small_last

  count4 : number_at 16 4 fourth ≡ length ns
  count4 =
      number_at_apart 20 (little_bytes 4 0) third (omega (arith, size3)) 16 4 (inl (omega arith))
      ∙ number_at_written 16 4 (length ns) second (omega (arith, size2)) (omega (arith, few))

  described_count : number_at 16 4 described ≡ length ns
  described_count = number_at_apart 24 (flat_map (λ x. little_bytes 4 x) ns) fourth numbers_fit 16 4 (inl (omega arith)) ∙ count4

  described_zero : number_at 20 4 described ≡ 0
  described_zero =
      number_at_apart 24 (flat_map (λ x. little_bytes 4 x) ns) fourth numbers_fit 20 4 (inl (omega arith))
      ∙ number_at_written 20 4 0 third (omega (arith, size3)) (omega arith)

  described_listed : listed described ≡ ns
  described_listed = listed_written ns fourth (omega (arith, size4, few)) small count4

-- a write right after a prefix, into zeros
behind : (at : ℕ) (front octets image : List ℕ) (m : ℕ) → image ≡ front ++ replicate m 0 → length front ≡ at
    → overwritten at octets image ≡ front ++ octets ++ replicate (m - length octets) 0
behind at front octets image m is size =
    let rest : drop (at + length octets) (front ++ replicate m 0) ≡ replicate (m - length octets) 0 =
    sym (drop-drop (length octets) at (front ++ replicate m 0))
    ∙ ap (λ (l : List ℕ). drop (length octets) l) (drop_at front (replicate m 0) at size) ∙ drop-replicate (length octets) m 0 in
    ap (λ (l : List ℕ). overwritten at octets l) is
    ∙ ap (λ (l : List ℕ). l ++ (octets ++ drop (at + length octets) (front ++ replicate m 0))) (take_at front (replicate m 0) at size)
    ∙ ap (λ (l : List ℕ). front ++ (octets ++ l)) rest
    ∙ sym (append_assoc front octets (replicate (m - length octets) 0))

-- a descriptor that is written into zeros is the whole block
described_whole : (old : List ℕ) (number last : ℕ) (ns : List ℕ) (whole : length old ≡ 4096) (few : length ns ≤ 512)
    (small_number : number < 256 ^ 8) (small_last : last < 256 ^ 8) (small : All (λ n. n < 256 ^ 4) ns) → old ≡ replicate (length old) 0
    → described old number last ns whole few small_number small_last small ≡ descriptor_of number last ns
described_whole old number last ns whole few small_number small_last small clear =
    let a = little_bytes 8 number in
    let b = little_bytes 8 last in
    let c = little_bytes 4 (length ns) in
    let d = little_bytes 4 0 in
    let e = flat_map (λ n. little_bytes 4 n) ns in
    let m = length old in
    let one = behind 0 [] a old m clear refl in
    let two = behind 8 a b (overwritten 0 a old) (m - length a) one refl in
    let three = behind 16 (a ++ b) c (overwritten 8 b (overwritten 0 a old)) (m - length a - length b) two refl in
    let four = behind 20 (a ++ b ++ c) d (overwritten 16 c (overwritten 8 b (overwritten 0 a old)))
    (m - length a - length b - length c) three refl in
    let five = behind 24 (a ++ b ++ c ++ d) e (overwritten 20 d (overwritten 16 c (overwritten 8 b (overwritten 0 a old))))
    (m - length a - length b - length c - length d) four refl in
    let left : m - length a - length b - length c - length d - length e ≡ 4096 - (24 + 4 * length ns) =
    omega (arith, whole, length-flat_map ns) in
    five ∙ ap (λ (k : ℕ). a ++ b ++ c ++ d ++ e ++ replicate k 0) left

-- what such a block says
pub record IsDescribed (number last : ℕ) (ns old new : List ℕ) : Type 0 where
  pub number_is : number_at 0 8 new ≡ number
  pub last_is : number_at 8 8 new ≡ last
  pub count : number_at 16 4 new ≡ length ns
  pub zero : number_at 20 4 new ≡ 0
  pub listed_are : listed new ≡ ns
  pub block : old ≡ replicate (length old) 0 → new ≡ descriptor_of number last ns

pub is_described : (old : List ℕ) (number last : ℕ) (ns : List ℕ) (whole : length old ≡ 4096) (few : length ns ≤ 512)
    (small_number : number < 256 ^ 8) (small_last : last < 256 ^ 8) (small : All (λ n. n < 256 ^ 4) ns) (new : List ℕ)
    → new ≡ described old number last ns whole few small_number small_last small → IsDescribed number last ns old new
is_described old number last ns whole few small_number small_last small new is = record {
  number_is = ap (number_at 0 8) is ∙ described_number old number last ns whole few small_number small_last small;
  last_is = ap (number_at 8 8) is ∙ described_last old number last ns whole few small_number small_last small;
  count = ap (number_at 16 4) is ∙ described_count old number last ns whole few small_number small_last small;
  zero = ap (number_at 20 4) is ∙ described_zero old number last ns whole few small_number small_last small;
  listed_are = ap listed is ∙ described_listed old number last ns whole few small_number small_last small;
  block = λ clear. is ∙ described_whole old number last ns whole few small_number small_last small clear;
}
