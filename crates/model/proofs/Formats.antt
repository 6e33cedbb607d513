-- Format 1, defined on its own.
use Rattle.std.proofs.Common.{◌≡◌, ◌≢◌, inl, inr, ◌<◌, ◌≤◌, ℕ, zero, suc, ◌+◌, ◌-◌, ◌*◌, ◌/◌, ◌%◌, cond, eqb, ltb, Bool, true, false}
use Rattle.std.proofs.Common.{List, [], ◌∷◌, ◌++◌, get_or, map, take, drop, refl, sym, ◌∙◌, ap, subst, arith}
use Rattle.std.specs.List.{flat_map, range_with_len}
use Rattle.std.proofs.lemmas.Bool.{cases_eq, cases_lt, eq-eqb, ne_eqb, le-ltb, lt-ltb}
use Rattle.std.proofs.lemmas.List.{get_or-drop}
use Rattle.std.proofs.lemmas.List.Elements.{All-nil}
use Rattle.byteorder.specs.Endian.{little_from}
use Rattle.model.specs.Stream.{Octets}
use Rattle.model.specs.Volume.{number_at}
use Rattle.model.specs.Files.{FileEntry, IsFile, block_count, content_of, double_pointer, entry_of, indirect_count, indirect_of}
use Rattle.model.specs.Files.{indirect_pointer, owned, pointer, size, largest_file_one}
use Rattle.model.specs.Laws.Formats.{EntryOne, FilesOfFormatOne, IsFileOne, ReadAsFormatOne, content_one, count_one, entry_one}
use Rattle.model.specs.Laws.Formats.{indirect_one, owned_one, pointer_one}
use Rattle.model.proofs.Owning.{zero_number}

-- ---- numbers of zeros

zeros_of : (octets : Octets) (i n : ℕ) → little_from i n octets ≡ 0 → (k : ℕ) → i ≤ k → k < i + n → get_or octets k 0 ≡ 0
zeros_of octets i zero none k low high = absurd (omega (arith, low, high))
zeros_of octets i (suc n) none k low high = elim (cases_eq k i) [
  | inl is ↦ ap (λ (j : ℕ). get_or octets j 0) is ∙ omega (arith, none)
  | inr other ↦ zeros_of octets (suc i) n (omega (arith, none)) k (omega (arith, low, other)) (omega (arith, high))
]

from_zeros : (octets : Octets) (i n : ℕ) → ((k : ℕ) → i ≤ k → k < i + n → get_or octets k 0 ≡ 0) → little_from i n octets ≡ 0
from_zeros octets i zero all = refl
from_zeros octets i (suc n) all =
    let first : get_or octets i 0 ≡ 0 = all i (omega arith) (omega arith) in
    let rest : little_from (suc i) n octets ≡ 0 =
    from_zeros octets (suc i) n (λ k low high. all k (omega (arith, low)) (omega (arith, high))) in
    omega (arith, first, rest)

-- a number is zero exactly if its octets are
octets_of : (at n : ℕ) (octets : Octets) → number_at at n octets ≡ 0 → (k : ℕ) → k < n → get_or octets (at + k) 0 ≡ 0
unfolding number_at
octets_of at n octets none k low = sym (get_or-drop at octets k 0) ∙ zeros_of (drop at octets) 0 n none k (omega arith) (omega (arith, low))

number_of : (at n : ℕ) (octets : Octets) → ((k : ℕ) → k < n → get_or octets (at + k) 0 ≡ 0) → number_at at n octets ≡ 0
unfolding number_at
number_of at n octets all = from_zeros (drop at octets) 0 n (λ k low high. get_or-drop at octets k 0 ∙ all k (omega (arith, high)))

spare_parts : (octets : Octets) → number_at 56 8 octets ≡ 0 → (number_at 56 4 octets ≡ 0) × (number_at 60 4 octets ≡ 0)
spare_parts octets none = (
  number_of 56 4 octets (λ k low. octets_of 56 8 octets none k (omega (arith, low))),
  number_of 60 4 octets (λ k low.
      let place : 56 + (4 + k) ≡ 60 + k = omega arith in
      ap (λ (j : ℕ). get_or octets j 0) (sym place) ∙ octets_of 56 8 octets none (4 + k) (omega (arith, low))),
)

spare_whole : (octets : Octets) → number_at 56 4 octets ≡ 0 → number_at 60 4 octets ≡ 0 → number_at 56 8 octets ≡ 0
spare_whole octets low high = number_of 56 8 octets (λ k within. elim (cases_lt k 4) [
  | inl first ↦ octets_of 56 4 octets low k first
  | inr second ↦
      let place : 60 + (k - 4) ≡ 56 + k = omega (arith, second) in
      ap (λ (j : ℕ). get_or octets j 0) (sym place) ∙ octets_of 60 4 octets high (k - 4) (omega (arith, within, second))
])

-- ---- what is named

pub no_block : (blocks : List Octets) (n : ℕ) → n ≡ 0 → indirect_of blocks n ≡ []
no_block blocks n is = ap (λ (b : Bool). cond b [] (get_or blocks n [])) (eq-eqb n 0 is)

pub none_number : (at : ℕ) → number_at at 4 [] ≡ 0
none_number at = zero_number at 4 [] (All-nil (λ o. o ≡ 0))

module _ (blocks : List Octets) (inode slot : Octets) where
  abbrev e : FileEntry
  e = entry_of blocks inode slot

  abbrev o : EntryOne
  o = entry_one blocks inode slot

  -- the pointers that both have
  same_pointer : (i : ℕ) → i < 1034 → pointer e i ≡ pointer_one o i
  same_pointer i low = elim (cases_lt i 10) [
    | inl direct ↦
        let test : ltb i 10 ≡ true = lt-ltb i 10 direct in
        ap (λ (b : Bool). cond b (number_at (12 + 4 * i) 4 inode) (number_at (4 * ((i - 10) % 1024)) 4 (e.pointers ((i - 10) / 1024)))) test
        ∙ sym (ap (λ (b : Bool). cond b (number_at (12 + 4 * i) 4 inode) (number_at (4 * (i - 10)) 4 o.indirect)) test)
    | inr behind ↦
        let test : ltb i 10 ≡ false = le-ltb i 10 behind in
        let first : (i - 10) / 1024 ≡ 0 = omega (arith, low) in
        let place : (i - 10) % 1024 ≡ i - 10 = omega (arith, low) in
        ap (λ (b : Bool). cond b (number_at (12 + 4 * i) 4 inode) (number_at (4 * ((i - 10) % 1024)) 4 (e.pointers ((i - 10) / 1024)))) test
        ∙ ap (λ (p : ℕ). number_at (4 * ((i - 10) % 1024)) 4 (e.pointers p)) first
        ∙ ap (λ (p : ℕ). number_at (4 * p) 4 o.indirect) place
        ∙ sym (ap (λ (b : Bool). cond b (number_at (12 + 4 * i) 4 inode) (number_at (4 * (i - 10)) 4 o.indirect)) test)
  ]

  -- without a double-indirect block there is at most one block of pointers
  module _ (no_double : number_at 56 4 inode ≡ 0) where
    none_behind : (p : ℕ) → 0 < p → indirect_pointer e p ≡ 0
    none_behind p some =
        ap (λ (b : Bool). cond b (number_at 52 4 inode) (number_at (4 * (p - 1)) 4 (indirect_of blocks (number_at 56 4 inode))))
        (ne_eqb p 0 (λ is. absurd (omega (arith, is, some))))
        ∙ ap (number_at (4 * (p - 1)) 4) (no_block blocks (number_at 56 4 inode) no_double) ∙ none_number (4 * (p - 1))

    no_pointer : (i : ℕ) → 1034 ≤ i → pointer e i ≡ 0
    no_pointer i far =
        let test : ltb i 10 ≡ false = le-ltb i 10 (omega (arith, far)) in
        ap (λ (b : Bool). cond b (number_at (12 + 4 * i) 4 inode) (number_at (4 * ((i - 10) % 1024)) 4 (e.pointers ((i - 10) / 1024)))) test
        ∙ ap (number_at (4 * ((i - 10) % 1024)) 4)
        (no_block blocks (indirect_pointer e ((i - 10) / 1024)) (none_behind ((i - 10) / 1024) (omega (arith, far))))
        ∙ none_number (4 * ((i - 10) % 1024))

  first_is : indirect_pointer e 0 ≡ indirect_one o
  first_is = refl

  -- from both formats to format 1
  small_double : IsFile e → size e ≤ largest_file_one → number_at 56 4 inode ≡ 0
  small_double file small = elim (cases_eq (double_pointer e) 0) [
    | inl none ↦ none
    | inr some ↦ absurd (let many = file.double_where.1 some in omega (arith, many, small))
  ]

  to_one : IsFile e → size e ≤ largest_file_one → IsFileOne o
  to_one file small =
      let no_double = small_double file small in
      record {
        kind_is = file.kind_is;
        small = small;
        spare = spare_whole inode no_double file.spare;
        indirect_where = (
          λ many. (file.indirect_where 0).0 (omega (arith, many)),
          λ some. let low = (file.indirect_where 0).1 some in
              omega (arith, low),
        );
        no_other_pointer = λ i past low. sym (same_pointer i low) ∙ file.no_other_pointer i past;
        name_some = file.name_some;
        name_few = file.name_few;
        slot_is = file.slot_is;
      }

  -- from format 1 to both formats
  from_one : IsFileOne o → IsFile e
  from_one file =
      let parts = spare_parts inode file.spare in
      let few : indirect_count e ≤ 1 = omega (arith, file.small) in
      record {
        kind_is = file.kind_is;
        small = omega (arith, file.small);
        spare = parts.1;
        double_where = (λ many. absurd (omega (arith, few, many)), λ some. absurd (some parts.0));
        indirect_where = λ p. elim (cases_eq p 0) [
          | inl is ↦
              subst (λ (q : ℕ). (q < indirect_count e → indirect_pointer e q ≢ 0) × (indirect_pointer e q ≢ 0 → q < indirect_count e))
              (sym is)
              ((λ low. file.indirect_where.0 (omega (arith, low))), (λ some. let many = file.indirect_where.1 some in omega (arith, many)))
          | inr other ↦ (
            (λ low. absurd (omega (arith, few, low, other))),
            (λ some. absurd (some (none_behind parts.0 p (omega (arith, other))))),
          )
        ];
        no_other_pointer = λ i past. elim (cases_lt i 1034) [
          | inl low ↦ same_pointer i low ∙ file.no_other_pointer i past low
          | inr far ↦ no_pointer parts.0 i far
        ];
        name_some = file.name_some;
        name_few = file.name_few;
        slot_is = file.slot_is;
      }

-- ---- what is owned, and what is read

map_same : (f g : ℕ → ℕ) (a n : ℕ) → ((i : ℕ) → a ≤ i → i < a + n → f i ≡ g i) → map f (range_with_len a n) ≡ map g (range_with_len a n)
map_same f g a zero same = refl
map_same f g a (suc n) same =
    ap (λ (x : ℕ). x ∷ map f (range_with_len (a + 1) n)) (same a (omega arith) (omega arith))
    ∙ ap (λ (l : List ℕ). g a ∷ l) (map_same f g (a + 1) n (λ i low high. same i (omega (arith, low)) (omega (arith, high))))

pub flat_map_same : (f g : ℕ → Octets) (a n : ℕ) → ((i : ℕ) → a ≤ i → i < a + n → f i ≡ g i)
    → flat_map f (range_with_len a n) ≡ flat_map g (range_with_len a n)
flat_map_same f g a zero same = refl
flat_map_same f g a (suc n) same =
    ap (λ (l : Octets). l ++ flat_map f (range_with_len (a + 1) n)) (same a (omega arith) (omega arith))
    ∙ ap (λ (l : Octets). g a ++ l) (flat_map_same f g (a + 1) n (λ i low high. same i (omega (arith, low)) (omega (arith, high))))

module _ (blocks : List Octets) (inode slot : Octets) (file : IsFileOne (entry_one blocks inode slot)) where
  abbrev ee : FileEntry
  ee = entry_of blocks inode slot

  abbrev oo : EntryOne
  oo = entry_one blocks inode slot

  abbrev its_data : List ℕ
  its_data = map (λ i. pointer ee i) (range_with_len 0 (block_count ee))

  double_is : number_at 56 4 inode ≡ 0
  double_is = (spare_parts inode file.spare).0

  same_data : map (λ i. pointer ee i) (range_with_len 0 (block_count ee)) ≡ map (λ i. pointer_one oo i) (range_with_len 0 (count_one oo))
  same_data = map_same (λ i. pointer ee i) (λ i. pointer_one oo i) 0 (block_count ee)
      (λ i low high. same_pointer blocks inode slot i (omega (arith, high, file.small)))

  same_indirect : map (λ p. indirect_pointer ee p) (range_with_len 0 (indirect_count ee)) ≡ cond (eqb (indirect_one oo) 0) []
      (indirect_one oo ∷ [])
  same_indirect = elim (cases_eq (indirect_one oo) 0) [
    | inl none ↦
        let zero_count : indirect_count ee ≡ 0 =
        elim (cases_lt 10 (count_one oo)) [ inl many ↦ absurd (file.indirect_where.0 many none) | inr few ↦ omega (arith, few) ] in
        ap (λ (n : ℕ). map (λ p. indirect_pointer ee p) (range_with_len 0 n)) zero_count
        ∙ sym (ap (λ (b : Bool). cond b [] (indirect_one oo ∷ [])) (eq-eqb (indirect_one oo) 0 none))
    | inr some ↦
        let one_count : indirect_count ee ≡ 1 = let many = file.indirect_where.1 some in omega (arith, many, file.small) in
        ap (λ (n : ℕ). map (λ p. indirect_pointer ee p) (range_with_len 0 n)) one_count
        ∙ sym (ap (λ (b : Bool). cond b [] (indirect_one oo ∷ [])) (ne_eqb (indirect_one oo) 0 some))
  ]

  same_owned : owned ee ≡ owned_one oo
  same_owned =
      ap (λ (n : ℕ). cond (eqb n 0) [] (n ∷ []) ++ (map (λ p. indirect_pointer ee p) (range_with_len 0 (indirect_count ee)) ++ its_data))
      double_is
      ∙ ap (λ (l : List ℕ). l ++ its_data) same_indirect
      ∙ ap (λ (l : List ℕ). cond (eqb (indirect_one oo) 0) [] (indirect_one oo ∷ []) ++ l) same_data

  same_content : content_of blocks ee ≡ content_one blocks oo
  same_content =
      ap (λ (l : Octets). take (size ee) l)
      (flat_map_same (λ i. get_or blocks (pointer ee i) []) (λ i. get_or blocks (pointer_one oo i) []) 0 (block_count ee)
      (λ i low high. ap (λ (n : ℕ). get_or blocks n []) (same_pointer blocks inode slot i (omega (arith, high, file.small)))))

pub files_of_one : FilesOfFormatOne
files_of_one blocks inode slot = ((λ both. to_one blocks inode slot both.0 both.1), (λ file. (from_one blocks inode slot file, file.small)))

pub read_as_one : ReadAsFormatOne
read_as_one blocks inode slot file = (same_owned blocks inode slot file, same_content blocks inode slot file)
