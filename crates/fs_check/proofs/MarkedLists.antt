-- Blocks that are marked one after the other.
use Rattle.std.proofs.Common.{◌≡◌, ◌⊎◌, inl, inr, ◌<◌, ℕ, ◌+◌, IsTrue, true, false, List, [], ◌∷◌, ◌++◌, length, get_or, map}
use Rattle.std.proofs.Common.{refl, sym, ◌∙◌, ap, subst, arith}
use Rattle.std.specs.List.{Contains, range_with_len}
use Rattle.std.proofs.lemmas.List.{get_or_default}
use Rattle.std.proofs.lemmas.List.Elements.{Contains-append_left, Contains-append_right, Contains-append_cases, Contains-get_or}
use Rattle.std.proofs.lemmas.List.FromFn.{length-map-range_with_len, get_or-map-range_with_len, map-range_with_len_more}
use Rattle.std.proofs.lemmas.Bool.{cases_eq, false≢true, false_from_ne_true}
use Rattle.model.specs.Stream.{Octets}
use Rattle.fs_blocks.proofs.Distinct.{distinct_push}
use Rattle.fs_layout.specs.Bits.{bit_of, SetsBit}
use Rattle.model.proofs.Distinct.{distinct_apart, distinct_append, distinct_left, distinct_right}
use Rattle.fs_layout.proofs.Touching.{one_number}
use Rattle.fs_check.specs.Checking.{CanMark, Marks}

contains_one : (x : ℕ) → Contains (x ∷ []) x
contains_one x = (0, omega arith, refl)

not_none : (b : ℕ) → ¬ (Contains [] b)
not_none b has = omega (arith, has.1)

pub marks_none : (count : ℕ) (old : Octets) → Marks count [] old old
marks_none count old = record {
  can = record {
    distinct = λ i j less low. absurd (omega arith);
    within = λ b has. absurd (not_none b has);
    clear = λ b has. absurd (not_none b has);
  };
  marked = λ b. ((λ was. inl was), (λ now. elim now [ inl was ↦ was | inr has ↦ absurd (not_none b has) ]));
}

-- one more block
module _ (count : ℕ) (numbers : List ℕ) (x : ℕ) (old mid new : Octets) (marks : Marks count numbers old mid) (exists : x < count)
    (clear : bit_of mid x ≡ false) (sets : SetsBit x true mid new) where
  not_before : ¬ (Contains numbers x)
  not_before has = false≢true (sym clear ∙ (marks.marked x).1 (inr has))

  was_clear : bit_of old x ≡ false
  was_clear = false_from_ne_true (bit_of old x) (λ was. false≢true (sym clear ∙ (marks.marked x).1 (inl was)))

  now : (b : ℕ) → IsTrue (bit_of new b) → IsTrue (bit_of old b) ⊎ Contains (numbers ++ x ∷ []) b
  now b set = elim (cases_eq b x) [
    | inl same ↦ inr (Contains-append_right numbers (x ∷ []) b (subst (λ (n : ℕ). Contains (x ∷ []) n) (sym same) (contains_one x)))
    | inr other ↦ elim ((marks.marked b).0 (sym (sets.other b other) ∙ set)) [
      | inl was ↦ inl was
      | inr has ↦ inr (Contains-append_left numbers (x ∷ []) b has)
    ]
  ]

  before : (b : ℕ) → IsTrue (bit_of old b) ⊎ Contains numbers b → IsTrue (bit_of new b)
  before b was = elim (cases_eq b x) [
    | inl same ↦ ap (λ (n : ℕ). bit_of new n) same ∙ sets.here
    | inr other ↦ sets.other b other ∙ (marks.marked b).1 was
  ]

  pub marks_push : Marks count (numbers ++ x ∷ []) old new
  marks_push = record {
    can = record {
      distinct = distinct_push numbers x marks.can.distinct not_before;
      within = λ b has. elim (Contains-append_cases numbers (x ∷ []) b has) [
        | inl earlier ↦ marks.can.within b earlier
        | inr last ↦ subst (λ (n : ℕ). n < count) (sym (one_number x b last)) exists
      ];
      clear = λ b has. elim (Contains-append_cases numbers (x ∷ []) b has) [
        | inl earlier ↦ marks.can.clear b earlier
        | inr last ↦ ap (λ (n : ℕ). bit_of old n) (one_number x b last) ∙ was_clear
      ];
    };
    marked = λ b. (
      now b,
      (λ either. elim either [
        | inl was ↦ before b (inl was)
        | inr has ↦ elim (Contains-append_cases numbers (x ∷ []) b has) [
          | inl earlier ↦ before b (inr earlier)
          | inr last ↦ ap (λ (n : ℕ). bit_of new n) (one_number x b last) ∙ sets.here
        ]
      ]),
    );
  }

-- a list whose next block is refused
pub cannot_mark : (count : ℕ) (numbers whole : List ℕ) (old mid : Octets) → Marks count numbers old mid → length numbers < length whole
    → ((j : ℕ) → j < length numbers → get_or numbers j 0 ≡ get_or whole j 0) → (x : ℕ) → get_or whole (length numbers) 0 ≡ x
    → (x < count → bit_of mid x ≡ true) → ¬ (CanMark count whole old)
cannot_mark count numbers whole old mid marks more same x is refused can =
    let among : Contains whole x = subst (λ (n : ℕ). Contains whole n) is (Contains-get_or whole (length numbers) 0 more) in
    elim ((marks.marked x).0 (refused (can.within x among))) [
      | inl was ↦ false≢true (sym (can.clear x among) ∙ was)
      | inr (i, low, there) ↦ can.distinct i (length numbers) low more (sym (same i low) ∙ get_or_default numbers i 0 x low ∙ there
          ∙ sym is)
    ]

-- ---- some blocks, and then others

pub cannot_left : (count : ℕ) (xs ys : List ℕ) (old : Octets) → ¬ (CanMark count xs old) → ¬ (CanMark count (xs ++ ys) old)
cannot_left count xs ys old cannot can = cannot (record {
  distinct = distinct_left xs ys can.distinct;
  within = λ b has. can.within b (Contains-append_left xs ys b has);
  clear = λ b has. can.clear b (Contains-append_left xs ys b has);
})

module _ (count : ℕ) (xs ys : List ℕ) (old mid : Octets) (first : Marks count xs old mid) where
  pub marks_append : (new : Octets) → Marks count ys mid new → Marks count (xs ++ ys) old new
  marks_append new second = record {
    can = record {
      distinct = distinct_append xs ys first.can.distinct second.can.distinct
          (λ b one other. false≢true (sym (second.can.clear b other) ∙ (first.marked b).1 (inr one)));
      within = λ b has. elim (Contains-append_cases xs ys b has) [
        | inl one ↦ first.can.within b one
        | inr other ↦ second.can.within b other
      ];
      clear = λ b has. elim (Contains-append_cases xs ys b has) [
        | inl one ↦ first.can.clear b one
        | inr other ↦ false_from_ne_true (bit_of old b) (λ was. false≢true (sym (second.can.clear b other) ∙ (first.marked b).1 (inl was)))
      ];
    };
    marked = λ b. (
      (λ set. elim ((second.marked b).0 set) [
        | inl halfway ↦ elim ((first.marked b).0 halfway) [ inl was ↦ inl was | inr one ↦ inr (Contains-append_left xs ys b one) ]
        | inr other ↦ inr (Contains-append_right xs ys b other)
      ]),
      (λ either. (second.marked b).1 (elim either [
        | inl was ↦ inl ((first.marked b).1 (inl was))
        | inr has ↦ elim (Contains-append_cases xs ys b has) [ inl one ↦ inl ((first.marked b).1 (inr one)) | inr other ↦ inr other ]
      ])),
    );
  }

  pub cannot_right : ¬ (CanMark count ys mid) → ¬ (CanMark count (xs ++ ys) old)
  cannot_right cannot can = cannot (record {
    distinct = distinct_right xs ys can.distinct;
    within = λ b has. can.within b (Contains-append_right xs ys b has);
    clear = λ b has. false_from_ne_true (bit_of mid b) (λ set. elim ((first.marked b).0 set) [
      | inl was ↦ false≢true (sym (can.clear b (Contains-append_right xs ys b has)) ∙ was)
      | inr one ↦ distinct_apart xs ys can.distinct b one has
    ]);
  })

-- one block alone
pub marks_one : (count x : ℕ) (old new : Octets) → x < count → bit_of old x ≡ false → SetsBit x true old new → Marks count (x ∷ []) old new
marks_one count x old new exists clear sets = marks_push count [] x old old new (marks_none count old) exists clear sets

pub cannot_one : (count x : ℕ) (old : Octets) → (x < count → bit_of old x ≡ true) → ¬ (CanMark count (x ∷ []) old)
cannot_one count x old refused can = false≢true (sym (can.clear x (contains_one x)) ∙ refused (can.within x (contains_one x)))

-- ---- the values of a function, in turn

module _ (count : ℕ) (f : ℕ → ℕ) (i : ℕ) (old mid : Octets) (marks : Marks count (map f (range_with_len 0 i)) old mid) where
  pub marks_more : (x : ℕ) (new : Octets) → x ≡ f i → x < count → bit_of mid x ≡ false → SetsBit x true mid new
      → Marks count (map f (range_with_len 0 (i + 1))) old new
  marks_more x new is exists clear sets =
      subst (λ (l : List ℕ). Marks count l old new)
      (ap (λ (n : ℕ). map f (range_with_len 0 i) ++ n ∷ []) is ∙ sym (map-range_with_len_more f 0 i i (omega arith)))
      (marks_push count (map f (range_with_len 0 i)) x old mid new marks exists clear sets)

  pub cannot_more : (some x : ℕ) → i < some → x ≡ f i → (x < count → bit_of mid x ≡ true)
      → ¬ (CanMark count (map f (range_with_len 0 some)) old)
  cannot_more some x low is refused =
      let long = length-map-range_with_len f 0 some in
      let short = length-map-range_with_len f 0 i in
      cannot_mark count (map f (range_with_len 0 i)) (map f (range_with_len 0 some)) old mid marks (omega arith)
      (λ j below. get_or-map-range_with_len f 0 i j j 0 (omega arith) (omega arith)
      ∙ sym (get_or-map-range_with_len f 0 some j j 0 (omega arith) (omega arith)))
      x (ap (λ (n : ℕ). get_or (map f (range_with_len 0 some)) n 0) short ∙ get_or-map-range_with_len f 0 some i i 0 low (omega arith)
      ∙ sym is) refused
