-- Blocks that are taken, one after the other.
use Rattle.std.proofs.Common.{◌≡◌, ◌≢◌, inl, inr, ◌<◌, ◌≤◌, ℕ, ◌+◌, true, false, List, [], ◌∷◌, ◌++◌, length, get_or}
use Rattle.std.proofs.Common.{set, replicate, refl, sym, ◌∙◌, ap, arith, length-append, length-set}
use Rattle.std.specs.List.{Contains}
use Rattle.std.proofs.lemmas.List.{length-replicate, get_or-set_same, get_or-set_other}
use Rattle.std.proofs.lemmas.List.Elements.{Contains-append_left, Contains-append_right, Contains-append_cases, All-set}
use Rattle.std.proofs.lemmas.Bool.{cases_Bool, cases_eq, cases_lt, false≢true}
use Rattle.model.specs.Stream.{Octets}
use Rattle.model.specs.Files.{is_marked_used}
use Rattle.model.specs.Files.{bitmap_bits, bitmap_blocks, most_blocks}
use Rattle.fs_inodes.specs.Growing.{IsTaken, TakesBlocks, TakesZeros}
use Rattle.fs_layout.specs.Marks.{NoneFreeBelow, TakesBlock}
use Rattle.fs_layout.proofs.Keeps.{marks_same}
use Rattle.fs_layout.proofs.Marking.{one_less_free, same_free}
use Rattle.model.proofs.Distinct.{distinct_append, distinct_none, distinct_one}
use Rattle.fs_layout.proofs.Touching.{one_number}
use Rattle.fs_inodes.proofs.Owners.{contained}

pub takes_one : (number : ℕ) (old mid : List Octets) → length old ≤ most_blocks → TakesBlock number old mid
    → TakesBlocks (number ∷ []) old mid
takes_one number old mid few first = record {
  free = λ b has. let is = one_number number b has in
      (omega (arith, first.lowest.below), ap (λ (n : ℕ). is_marked_used old n) is ∙ first.lowest.free);
  marked = λ b has. ap (λ (n : ℕ). is_marked_used mid n) (one_number number b has) ∙ first.sets.here;
  other = λ b small lacks. first.sets.other b small (λ same. lacks (0, omega arith, sym same));
  lowest = λ b c low_b low_c was now free. elim (cases_eq b number) [
    | inr apart ↦ absurd (false≢true (sym was ∙ sym (first.sets.other b (omega (arith, first.sets.count)) apart) ∙ now))
    | inl is ↦ elim (cases_lt b c) [
      | inl below ↦ below
      | inr above ↦ elim (cases_eq c number) [
        | inl same ↦ absurd (false≢true (sym free ∙ ap (λ (n : ℕ). is_marked_used mid n) same ∙ first.sets.here))
        | inr differs ↦ absurd (false≢true (sym free ∙ first.sets.other c (omega (arith, first.sets.count)) differs
            ∙ first.lowest.lower c (omega arith)))
      ]
    ]
  ];
  distinct = distinct_one number;
  fewer = one_less_free number old mid first;
}

-- no block is taken
pub takes_none : (old : List Octets) → TakesBlocks [] old old
takes_none old = record {
  free = λ b has. absurd (omega (arith, has.1));
  marked = λ b has. absurd (omega (arith, has.1));
  other = λ b small lacks. refl;
  lowest = λ b c low_b low_c was now free. absurd (false≢true (sym was ∙ now));
  distinct = distinct_none;
  fewer = omega arith;
}

-- what was marked stays marked
pub takes_keep : (fresh : List ℕ) (old new : List Octets) → TakesBlocks fresh old new → (b : ℕ) → b < bitmap_bits (length old)
    → is_marked_used old b ≡ true
    → is_marked_used new b ≡ true
takes_keep fresh old new takes b small marked = elim (contained fresh b) [
  | inl has ↦ takes.marked b has
  | inr lacks ↦ takes.other b small lacks ∙ marked
]

-- some blocks, and then others
pub takes_both : (xs ys : List ℕ) (old mid new : List Octets) → length old ≤ most_blocks → length mid ≡ length old → length new ≡ length mid
    → TakesBlocks xs old mid → TakesBlocks ys mid new → TakesBlocks (ys ++ xs) old new
takes_both xs ys old mid new few count_mid count first second = record {
  free = λ b has. elim (Contains-append_cases ys xs b has) [
    | inl later ↦ (
      omega (arith, count_mid, (second.free b later).0),
      sym (first.other b (small b later) (not_first b later))
          ∙ (second.free b later).1,
    )
    | inr before ↦ first.free b before
  ];
  marked = λ b has. elim (Contains-append_cases ys xs b has) [
    | inl later ↦ second.marked b later
    | inr before ↦ takes_keep ys mid new second b (omega (arith, count_mid, (first.free b before).0)) (first.marked b before)
  ];
  other = λ b small_b lacks. second.other b (omega (arith, small_b, count_mid)) (λ has. lacks (Contains-append_left ys xs b has))
      ∙ first.other b small_b (λ has. lacks (Contains-append_right ys xs b has));
  lowest = λ b c low_b low_c was now free.
      let c_free : is_marked_used mid c ≡ false = (elim (cases_Bool (is_marked_used mid c)) [
        | inl marked ↦ absurd (false≢true (sym free ∙ takes_keep ys mid new second c (omega (arith, few, count, count_mid, low_c)) marked))
        | inr clear ↦ clear
      ]) in
      elim (cases_Bool (is_marked_used mid b)) [
        | inl marked ↦ first.lowest b c (omega (arith, count, low_b)) (omega (arith, count, low_c)) was marked c_free
        | inr clear ↦ second.lowest b c low_b low_c clear now free
      ];
  distinct = distinct_append ys xs second.distinct first.distinct (λ b later before. not_first b later before);
  fewer = omega (arith, length-append ys xs, first.fewer, second.fewer);
}
  where
    small : (b : ℕ) → Contains ys b → b < bitmap_bits (length old)
    small b later = omega (arith, few, count_mid, (second.free b later).0)

    not_first : (b : ℕ) → Contains ys b → ¬ (Contains xs b)
    not_first b later before = false≢true (sym (second.free b later).1 ∙ first.marked b before)

-- blocks after the bitmap change
pub takes_then : (fresh : List ℕ) (old mid new : List Octets) → length old ≤ most_blocks → length mid ≡ length old → length new ≡ length mid
    → ((b : ℕ) → b < bitmap_bits (length old) → is_marked_used new b ≡ is_marked_used mid b) → TakesBlocks fresh old mid
    → TakesBlocks fresh old new
takes_then fresh old mid new few count_mid count same takes = record {
  free = takes.free;
  marked = λ b has. same b (omega (arith, few, (takes.free b has).0)) ∙ takes.marked b has;
  other = λ b small lacks. same b small ∙ takes.other b small lacks;
  lowest = λ b c low_b low_c was now free. takes.lowest b c (omega (arith, count, low_b)) (omega (arith, count, low_c)) was
      (sym (same b (omega (arith, few, count_mid, count, low_b))) ∙ now) (sym (same c (omega (arith, few, count_mid, count, low_c)))
      ∙ free);
  distinct = takes.distinct;
  fewer = ap (λ (n : ℕ). n + length fresh) (same_free mid new count (λ b inside. same b (omega (arith, few, count_mid, inside))))
      ∙ takes.fewer;
}

-- still no block below this number is free
pub none_still : (n : ℕ) (fresh : List ℕ) (old new : List Octets) → length old ≤ most_blocks → length new ≡ length old
    → TakesBlocks fresh old new
    → NoneFreeBelow n old → NoneFreeBelow n new
none_still n fresh old new few count takes none b less low =
    takes_keep fresh old new takes b (omega (arith, few, count, low)) (none b less (omega (arith, count, low)))

-- no block of the bitmap is free
pub taken_past : (fresh : List ℕ) (old new : List Octets) → TakesBlocks fresh old new
    → ((b : ℕ) → b < bitmap_blocks (length old) → is_marked_used old b ≡ true)
    → (b : ℕ) → Contains fresh b → bitmap_blocks (length old) ≤ b
taken_past fresh old new takes reserved b has = elim (cases_lt b (bitmap_blocks (length old))) [
  | inr past ↦ past
  | inl low ↦ absurd (false≢true (sym (takes.free b has).1 ∙ reserved b low))
]

pub fresh_taken : (number : ℕ) (old new : List Octets) → length new ≡ length old → TakesBlocks (number ∷ []) old new
    → ((b : ℕ) → b < bitmap_blocks (length old) → is_marked_used old b ≡ true) → IsTaken new number
fresh_taken number old new count takes reserved = record {
  some = omega (arith, count, taken_past (number ∷ []) old new takes reserved number (0, omega arith, refl));
  there = omega (arith, count, (takes.free number (0, omega arith, refl)).0);
  marked = takes.marked number (0, omega arith, refl);
}

pub taken_still : (fresh : List ℕ) (old new : List Octets) → length old ≤ most_blocks → length new ≡ length old → TakesBlocks fresh old new
    → (b : ℕ) → IsTaken old b → IsTaken new b
taken_still fresh old new few count takes b taken = record {
  some = omega (arith, taken.some, count);
  there = omega (arith, count, taken.there);
  marked = takes_keep fresh old new takes b (omega (arith, few, taken.there)) taken.marked;
}

-- a block that was free is not one that was taken
pub fresh_apart : (fresh : List ℕ) (old new : List Octets) → TakesBlocks fresh old new → (b c : ℕ) → Contains fresh b → IsTaken old c
    → c ≢ b
fresh_apart fresh old new takes b c has taken same =
    false≢true (sym (takes.free b has).1 ∙ ap (λ (n : ℕ). is_marked_used old n) (sym same) ∙ taken.marked)

-- the block that is taken gets zeros
pub takes_zeros : (number : ℕ) (old mid : List Octets) → length old ≤ most_blocks → TakesBlock number old mid
    → ((b : ℕ) → b < bitmap_blocks (length old) → is_marked_used old b ≡ true) → TakesZeros number old (set mid number (replicate 4096 0))
takes_zeros number old mid few taken reserved = record {
  count = length-set mid number (replicate 4096 0) ∙ taken.sets.count;
  whole = λ all. All-set (λ b. length b ≡ 4096) mid number (replicate 4096 0) (length-replicate {A = ℕ} 4096 0) (taken.sets.whole all);
  takes = takes_then (number ∷ []) old mid (set mid number (replicate 4096 0)) few taken.sets.count
      (length-set mid number (replicate 4096 0))
      (marks_same mid (set mid number (replicate 4096 0)) (bitmap_blocks (length old)) untouched) one;
  zeros = get_or-set_same mid number (replicate 4096 0) [] (omega (arith, taken.sets.count, taken.lowest.below));
  blocks = λ b some other. get_or-set_other mid number b (replicate 4096 0) [] other ∙ taken.sets.blocks b some;
}
  where
    one : TakesBlocks (number ∷ []) old mid
    one = takes_one number old mid few taken

    past : bitmap_blocks (length old) ≤ number
    past = taken_past (number ∷ []) old mid one reserved number (0, omega arith, refl)

    untouched : (b : ℕ) → b < bitmap_blocks (length old) → get_or (set mid number (replicate 4096 0)) b [] ≡ get_or mid b []
    untouched b low = get_or-set_other mid number b (replicate 4096 0) [] (λ same. absurd (omega (arith, past, low, same)))
