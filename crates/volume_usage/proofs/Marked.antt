-- The marks of a bitmap, and their sum.
use Rattle.std.proofs.Common.{◌≡◌, ◌<◌, inl, inr, ℕ, ◌+◌, List, get_or, length, map, set, ap, arith, sym, ◌∙◌}
use Rattle.std.specs.List.{range_with_len, sum_by}
use Rattle.std.proofs.lemmas.Bool.{cases_eq}
use Rattle.std.proofs.lemmas.List.{ext_get_or, get_or-set_other, get_or-set_same}
use Rattle.std.proofs.lemmas.List.FromFn.{get_or-map-range_with_len, length-map-range_with_len, sum_by-map-range_with_len_more}
use Rattle.model.specs.Stream.{Octets}
use Rattle.volume_usage.specs.Marks.{AreMarks}
use Rattle.volume_usage.specs.Usage.{all_marked, marked, sum_of}
use Rattle.volume_usage.specs.declared.tables.BitmapMarks.{BitmapMarks}

-- what each of the first numbers gives is what counts
pub same_sum : (f g : ℕ → ℕ) (count : ℕ) → ((n : ℕ) → n < count → f n ≡ g n) → sum_of f count ≡ sum_of g count
same_sum f g count same =
    ap (sum_by (λ n. n)) (ext_get_or 0 (map f (range_with_len 0 count)) (map g (range_with_len 0 count))
    (length-map-range_with_len f 0 count ∙ sym (length-map-range_with_len g 0 count))
    (λ n within.
    let low : n < count = omega (arith, within, length-map-range_with_len f 0 count) in
    get_or-map-range_with_len f 0 count n n 0 low (omega arith) ∙ same n low
    ∙ sym (get_or-map-range_with_len g 0 count n n 0 low (omega arith))))

-- so the sum of a bitmap's marks is the number of its bits that are set
pub all_are : (marks : BitmapMarks) (blocks : List Octets) → AreMarks marks blocks
    → sum_of (λ t. get_or marks.bits t 0) marks.tables ≡ all_marked blocks
all_are marks blocks are =
    same_sum (λ t. get_or marks.bits t 0) (marked blocks) marks.tables are.bits ∙ ap (sum_of (marked blocks)) are.tables

-- one more place has what it should
pub one_more : (f : ℕ → ℕ) (now : List ℕ) (place value : ℕ) → ((t : ℕ) → t < place → get_or now t 0 ≡ f t) → place < length now
    → value ≡ f place → (t : ℕ) → t < place + 1 → get_or (set now place value) t 0 ≡ f t
one_more f now place value so_far there is t low = elim (cases_eq t place) [
  | inl here ↦
      ap (λ (k : ℕ). get_or (set now place value) k 0) here ∙ get_or-set_same now place value 0 there ∙ is ∙ ap f (sym here)
  | inr other ↦ get_or-set_other now place t value 0 other ∙ so_far t (omega (arith, low, other))
]

-- one more number, and what it gives
pub sum_more : (f : ℕ → ℕ) (count sum value : ℕ) → sum ≡ sum_of f count → value ≡ f count → sum + value ≡ sum_of f (count + 1)
sum_more f count sum value so_far is =
    let more = sum_by-map-range_with_len_more (λ n. n) f 0 count count (omega arith) in
    omega (arith, more, so_far, is)
