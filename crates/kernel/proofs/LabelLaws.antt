-- What is read of a label is what was written, and what is read in one that has its form makes it again.
use Rattle.std.proofs.Common.{◌≡◌, ◌<◌, ◌≤◌, ℕ, zero, suc, ◌+◌, ◌-◌, ◌/◌, ◌%◌, ◌==◌, Bool, true, false, [], ◌∷◌, ◌++◌, length, get_or, take}
use Rattle.std.proofs.Common.{drop, replicate, refl, sym, ◌∙◌, ap, arith, length-append, length-drop}
use Rattle.std.specs.Prelude.{nat_le}
use Rattle.std.specs.List.{list_all}
use Rattle.std.proofs.lemmas.Bool.{leb-true, eqb-true, and_parts}
use Rattle.std.proofs.lemmas.List.{take_at, drop_at, drop-drop, length-replicate, length-take-le, take_all, take-append-drop}
use Rattle.byteorder.specs.Endian.{little_bytes, little_number}
use Rattle.byteorder.specs.Numbers.{little_number-reads_back}
use Rattle.model.specs.Stream.{Octets}
use Rattle.model.specs.Names.{is_host}
use Rattle.model.specs.Layout.{IsLabel, label_octets}
use Rattle.kernel.specs.Label.{HasRoom}

abbrev pub is_zero : ℕ → Bool
is_zero octet = octet == 0

-- where the host ends, by the octet that counts it
abbrev pub host_end : Octets → ℕ
host_end label = 5 + get_or label 4 0

abbrev pub host_in : Octets → Octets
host_in label = take (host_end label - 5) (drop 5 label)

pub differ : (b test : Bool) → b ≡ test → test ≡ true → b ≡ false → ⊥
differ b test is holds fails = let both : true ≡ false = sym holds ∙ sym is ∙ fails in cc

-- ---- zeros

zeros_pass : (n : ℕ) → list_all is_zero (replicate n 0) ≡ true
zeros_pass zero = refl
zeros_pass (suc n) = zeros_pass n

are_zeros : (xs : Octets) → list_all is_zero xs ≡ true → xs ≡ replicate (length xs) 0
are_zeros [] h = refl
are_zeros (x ∷ xs) h =
    let parts = and_parts (is_zero x) (list_all is_zero xs) h in
    let first : x ≡ 0 = eqb-true x 0 parts.0 in
    let rest = are_zeros xs parts.1 in
    λ i. first i ∷ rest i

-- ---- a number read in four octets is written so

four_octets : (a b c d : ℕ) (rest : Octets) → a < 256 → b < 256 → c < 256 → d < 256
    → little_bytes 4 (little_number 4 (a ∷ b ∷ c ∷ d ∷ rest)) ≡ a ∷ b ∷ c ∷ d ∷ []
four_octets a b c d rest low second third high =
    let n : ℕ = little_number 4 (a ∷ b ∷ c ∷ d ∷ rest) in
    let is0 : n % 256 ≡ a = omega arith in
    let is1 : n / 256 % 256 ≡ b = omega arith in
    let is2 : n / 65536 % 256 ≡ c = omega arith in
    let is3 : n / 16777216 % 256 ≡ d = omega arith in
    λ i. is0 i ∷ is1 i ∷ is2 i ∷ is3 i ∷ []

-- a part that runs to the end
pub to_the_end : (at : ℕ) (xs : Octets) → take (length xs - at) (drop at xs) ≡ drop at xs
to_the_end at xs = take_all (length xs - at) (drop at xs) (omega (arith, length-drop at xs))

-- ---- what a label says is read in it

module _ (label : Octets) (blocks inodes : ℕ) (host : Octets) (is : IsLabel label blocks inodes host) where
  short : length host ≤ 64
  short = leb-true (length host) 64 (and_parts (nat_le (length host) 64) _ is.host_is).0

  pub label_size : length label ≡ 128
  label_size = ap length is.octets
      ∙ omega (arith, short, length-append host (replicate (123 - length host) 0), length-replicate {A = ℕ} (123 - length host) 0)

  pub reads_inodes : little_number 4 label ≡ inodes
  reads_inodes = ap (little_number 4) is.octets
      ∙ little_number-reads_back 4 inodes (length host ∷ host ++ replicate (123 - length host) 0) (omega (arith, is.few))

  counts_host : get_or label 4 0 ≡ length host
  counts_host = ap (λ (l : Octets). get_or l 4 0) is.octets

  pub host_short : get_or label 4 0 ≤ 64
  host_short = omega (arith, counts_host, short)

  behind : drop 5 label ≡ host ++ replicate (123 - length host) 0
  behind = ap (drop 5) is.octets

  pub reads_host : is_host (host_in label) ≡ true
  reads_host =
      let size : host_end label - 5 ≡ length host = omega (arith, counts_host) in
      let same : host_in label ≡ host = ap (λ (n : ℕ). take n (drop 5 label)) size ∙ ap (take (length host)) behind
      ∙ take_at host (replicate (123 - length host) 0) (length host) refl in
      ap is_host same ∙ is.host_is

  pub reads_zeros : list_all is_zero (drop (host_end label) label) ≡ true
  reads_zeros =
      let end : host_end label ≡ 5 + length host = omega (arith, counts_host) in
      ap (λ (n : ℕ). list_all is_zero (drop n label)) end
      ∙ ap (list_all is_zero) (sym (drop-drop (length host) 5 label) ∙ ap (drop (length host)) behind
      ∙ drop_at host (replicate (123 - length host) 0) (length host) refl)
      ∙ zeros_pass (123 - length host)

-- ---- and what has its form is a label

pub makes_label : (label : Octets) (blocks : ℕ) → length label ≡ 128 → ((k : ℕ) → get_or label k 0 < 256)
    → HasRoom (little_number 4 label) blocks
    → is_host (host_in label) ≡ true → get_or label 4 0 ≤ 64 → list_all is_zero (drop (host_end label) label) ≡ true
    → IsLabel label blocks (little_number 4 label) (host_in label)
makes_label [] blocks size octets room named short zeros = absurd (omega (arith, size))
makes_label (a ∷ []) blocks size octets room named short zeros = absurd (omega (arith, size))
makes_label (a ∷ b ∷ []) blocks size octets room named short zeros = absurd (omega (arith, size))
makes_label (a ∷ b ∷ c ∷ []) blocks size octets room named short zeros = absurd (omega (arith, size))
makes_label (a ∷ b ∷ c ∷ d ∷ []) blocks size octets room named short zeros = absurd (omega (arith, size))
makes_label (a ∷ b ∷ c ∷ d ∷ n ∷ rest) blocks size octets room named short zeros = record {
  octets = sym made;
  host_is = named;
  some = room.some;
  few = room.few;
  whole = room.whole;
  room = room.room;
}
  where
    cut : host_in (a ∷ b ∷ c ∷ d ∷ n ∷ rest) ≡ take n rest
    cut = let end : 5 + n - 5 ≡ n = omega arith in ap (λ (m : ℕ). take m rest) end

    counts : length (host_in (a ∷ b ∷ c ∷ d ∷ n ∷ rest)) ≡ n
    counts = ap length cut ∙ length-take-le n rest (omega (arith, size, short))

    ends : drop n rest ≡ replicate (123 - n) 0
    ends =
        let same : drop n rest ≡ drop (5 + n) (a ∷ b ∷ c ∷ d ∷ n ∷ rest) = drop-drop n 5 (a ∷ b ∷ c ∷ d ∷ n ∷ rest) in
        let left : length (drop n rest) ≡ 123 - n = length-drop n rest ∙ (omega (arith, size)) in
        are_zeros (drop n rest) (ap (list_all is_zero) same ∙ zeros) ∙ ap (λ (m : ℕ). replicate m 0) left

    made : label_octets (little_number 4 (a ∷ b ∷ c ∷ d ∷ n ∷ rest)) (host_in (a ∷ b ∷ c ∷ d ∷ n ∷ rest)) ≡ a ∷ b ∷ c ∷ d ∷ n ∷ rest
    made =
        ap (λ (l : Octets). l ++ length (host_in (a ∷ b ∷ c ∷ d ∷ n ∷ rest)) ∷ host_in (a ∷ b ∷ c ∷ d ∷ n ∷ rest) ++ replicate
        (123 - length (host_in (a ∷ b ∷ c ∷ d ∷ n ∷ rest))) 0)
        (four_octets a b c d (n ∷ rest) (octets 0) (octets 1) (octets 2) (octets 3))
        ∙ ap (λ (m : ℕ). a ∷ b ∷ c ∷ d ∷ m ∷ (host_in (a ∷ b ∷ c ∷ d ∷ n ∷ rest) ++ replicate (123 - m) 0)) counts
        ∙ ap (λ (l : Octets). a ∷ b ∷ c ∷ d ∷ n ∷ (l ++ replicate (123 - n) 0)) cut
        ∙ ap (λ (l : Octets). a ∷ b ∷ c ∷ d ∷ n ∷ (take n rest ++ l)) (sym ends)
        ∙ ap (λ (l : Octets). a ∷ b ∷ c ∷ d ∷ n ∷ l) (take-append-drop n rest)
