-- One change more, and its moment.
use Rattle.std.proofs.Common.{◌≡◌, ◌⊎◌, ℕ, zero, suc, ◌+◌, ◌<◌, ◌≤◌, List, [], ◌∷◌, ◌++◌, ◌-◌, length, refl, sym, ◌∙◌, ap, arith}
use Rattle.std.proofs.Common.{add-one, inl, inr, pos, negsuc}
use Rattle.std.specs.Prelude.{Option, Some, None, IfSome, ℤ, true, false, max, nat_lt, option_map, slice_get, slice_index, unwrap_or}
use Rattle.std.specs.Int.{FitsUnsignedBits}
use Rattle.std.specs.Option.{option_and_then}
use Rattle.std.proofs.Math.IntN.{nat_abs}
use Rattle.std.proofs.lemmas.Bool.{cases_lt, le-leb, leb-false, lt-leb, ltb-false, ltb-true}
use Rattle.std.proofs.lemmas.List.{get_or_append_left, get_or_past, length-append}
use Rattle.std.proofs.lemmas.Option.{same_Some, unwrap_or-slice_get}
use Rattle.std.proofs.Math.Nat.{le-max_left, le-max_right}
use Rattle.std.proofs.Math.Seq.{get_or-append_seam}
use Rattle.model.specs.Answer.{is_since}
use Rattle.model.specs.Spool.{Spool, SpoolEntry, NewsArticle, article_filed}
use Rattle.session_lookups.specs.Held.{article_with}
use Rattle.spool_index.specs.Finding.{entry_with}
use Rattle.spool_index.specs.Latest.{AreLatest}
use Rattle.spool_index.specs.Notes.{moment_in}
use Rattle.spool_index.specs.Kept.{kept}
use Rattle.spool_index.specs.View.{IndexView, Indexes}
use Rattle.spool_index.specs.declared.note.Note.{Note}
use Rattle.spool_index.proofs.Serials.{each_moment, noted, said}

pub none_latest : (moments : List ℕ) (notes : List Note) → moments ≡ [] → notes ≡ [] → AreLatest moments notes
none_latest [] [] none nothing =
    record {
      each = refl;
      rise = λ i j order low. absurd (omega arith);
      reach = λ k n moment is at. absurd (cc);
      its = λ k low. absurd (omega arith);
    }
none_latest [] (n ∷ ns) none nothing = absurd (cc)
none_latest (m ∷ ms) notes none nothing = absurd (cc)

-- the last one, or one of those before
pushed_get : {X : Type 0} (xs : List X) (last x : X) (k : ℕ) → slice_get (xs ++ last ∷ []) k ≡ Some x
    → ((k < length xs) × (slice_get xs k ≡ Some x)) ⊎ ((k ≡ length xs) × (x ≡ last))
pushed_get [] last x zero is = inr (refl, sym (same_Some last x is))
pushed_get [] last x (suc k) is = absurd (cc)
pushed_get (y ∷ ys) last x zero is = inl (omega arith, is)
pushed_get (y ∷ ys) last x (suc k) is =
    elim (pushed_get ys last x k is) [ inl there ↦ inl (omega (arith, there.0), there.1) | inr here ↦ inr (ap suc here.0, here.1) ]

kept_get : {X : Type 0} (xs : List X) (last x : X) (k : ℕ) → slice_get xs k ≡ Some x → slice_get (xs ++ last ∷ []) k ≡ Some x
kept_get [] last x k is = absurd (cc)
kept_get (y ∷ ys) last x zero is = is
kept_get (y ∷ ys) last x (suc k) is = kept_get ys last x k is

pushed_last : {X : Type 0} (xs : List X) (last : X) (k : ℕ) → k ≡ length xs → slice_get (xs ++ last ∷ []) k ≡ Some last
pushed_last [] last zero is = refl
pushed_last [] last (suc k) is = absurd (omega (arith, is))
pushed_last (y ∷ ys) last zero is = absurd (omega (arith, is))
pushed_last (y ∷ ys) last (suc k) is = pushed_last ys last k (omega (arith, is))

pub latest_pushed : (moments : List ℕ) (notes : List Note) (note : Note) (top : ℕ)
    → ((k : ℕ) → k < length moments → slice_index moments k ≤ top) → ((moment : ℕ) → moment_in note ≡ Some moment → moment ≤ top)
    → (top ≡ 0) ⊎ ((moment_in note ≡ Some top) ⊎ ((0 < length moments) × (top ≡ slice_index moments (length moments - 1))))
    → AreLatest moments notes → AreLatest (moments ++ top ∷ []) (notes ++ note ∷ [])
latest_pushed moments notes note top above its which latest = record {
  each = omega (arith, length-append moments (top ∷ []), length-append notes (note ∷ []), latest.each);
  rise = λ i j order low. elim (cases_lt j (length moments)) [
    | inl less ↦ omega (arith, latest.rise i j order less, before i (omega arith), before j less)
    | inr more ↦
        let at_last : j ≡ length moments = omega (arith, low, length-append moments (top ∷ [])) in
        elim (cases_lt i (length moments)) [
          | inl less ↦ omega (arith, above i less, before i less, last j at_last)
          | inr same ↦ omega (arith, last j at_last, last i (omega arith))
        ]
  ];
  reach = λ k n moment is says. elim (pushed_get notes note n k is) [
    | inl there ↦ omega (arith, latest.reach k n moment there.1 says, before k (omega (arith, there.0, latest.each)))
    | inr here ↦ omega (arith, its moment (ap moment_in (sym here.1) ∙ says), last k (here.0 ∙ sym latest.each))
  ];
  its = λ k low. elim (cases_lt k (length moments)) [
    | inl less ↦ earlier k (slice_index moments k) (before k less) less (latest.its k less)
    | inr more ↦ by_last k (omega (arith, low, length-append moments (top ∷ []), more)) which
  ];
}
  where
    before : (k : ℕ) → k < length moments → slice_index (moments ++ top ∷ []) k ≡ slice_index moments k
    before k less = get_or_append_left moments (top ∷ []) 0 k less

    last : (k : ℕ) → k ≡ length moments → slice_index (moments ++ top ∷ []) k ≡ top
    last k is = ap (slice_index (moments ++ top ∷ [])) is ∙ get_or-append_seam moments top [] 0

    Its : ℕ → Type 0
    Its k = (slice_index (moments ++ top ∷ []) k ≡ 0)
        ⊎ ((j : ℕ) × (n : Note) × (j ≤ k) × (slice_get (notes ++ note ∷ []) j ≡ Some n)
        × (moment_in n ≡ Some (slice_index (moments ++ top ∷ []) k)))

    within : (j : ℕ) (n : Note) → slice_get notes j ≡ Some n → slice_get (notes ++ note ∷ []) j ≡ Some n
    within j n is = kept_get notes note n j is

    earlier : (k m : ℕ) → slice_index (moments ++ top ∷ []) k ≡ m → k < length moments
        → (m ≡ 0) ⊎ ((j : ℕ) × (n : Note) × (j ≤ k) × (slice_get notes j ≡ Some n) × (moment_in n ≡ Some m)) → Its k
    earlier k m same less found = elim found [
      | inl none ↦ inl (same ∙ none)
      | inr there ↦ inr (there.0, there.1, there.2, within there.0 there.1 there.3, there.4 ∙ ap Some (sym same))
    ]

    up_to_last : (k : ℕ) → k ≡ length moments → 0 < length moments
        → slice_index (moments ++ top ∷ []) k ≡ slice_index moments (length moments - 1)
        → (slice_index moments (length moments - 1) ≡ 0)
        ⊎ ((j : ℕ) × (n : Note) × (j ≤ length moments - 1) × (slice_get notes j ≡ Some n)
        × (moment_in n ≡ Some (slice_index moments (length moments - 1)))) → Its k
    up_to_last k is some same found = elim found [
      | inl none ↦ inl (same ∙ none)
      | inr there ↦ inr (there.0, there.1, omega (arith, there.2, is), within there.0 there.1 there.3, there.4 ∙ ap Some (sym same))
    ]

    by_last : (k : ℕ) → k ≡ length moments
        → (top ≡ 0) ⊎ ((moment_in note ≡ Some top) ⊎ ((0 < length moments) × (top ≡ slice_index moments (length moments - 1)))) → Its k
    by_last k is found = elim found [
      | inl none ↦ inl (last k is ∙ none)
      | inr some ↦ elim some [
        | inl own ↦ inr (k, note, omega arith, pushed_last notes note k (is ∙ latest.each), own ∙ ap Some (sym (last k is)))
        | inr old ↦ up_to_last k is old.0 (last k is ∙ old.1) (latest.its (length moments - 1) (omega (arith, old.0)))
      ]
    ]

latest_which : (moments : List ℕ) (note : Note) (last its top : ℕ) → last ≡ slice_index moments (length moments - 1)
    → its ≡ unwrap_or (moment_in note) 0 → top ≡ max its last
    → (top ≡ 0) ⊎ ((moment_in note ≡ Some top) ⊎ ((0 < length moments) × (top ≡ slice_index moments (length moments - 1))))
latest_which moments note last its top last_is its_is top_is = elim (cases_lt its last) [
  | inl less ↦ elim (cases_lt 0 (length moments)) [
    | inl some ↦ inr (inr (some, omega (arith, top_is, last_is)))
    | inr none ↦ inl (omega (arith, top_is, last_is, get_or_past moments (length moments - 1) 0 (omega arith)))
  ]
  | inr more ↦ by_moment more (moment_in note) refl its_is
]
  where
    by_moment : last ≤ its → (o : Option ℕ) → moment_in note ≡ o → its ≡ unwrap_or o 0
        → (top ≡ 0) ⊎ ((moment_in note ≡ Some top) ⊎ ((0 < length moments) × (top ≡ slice_index moments (length moments - 1))))
    by_moment more None is none = inl (omega (arith, top_is, none, more))
    by_moment more (Some m) is some = inr (inl (is ∙ ap Some (omega (arith, top_is, some, more))))

-- after the last one stands the later of it and the moment of the change
pub latest_later : (moments : List ℕ) (notes : List Note) (note : Note) (last its top : ℕ)
    → last ≡ unwrap_or (slice_get moments (length moments - 1)) 0 → its ≡ unwrap_or (moment_in note) 0 → top ≡ max its last
    → AreLatest moments notes → AreLatest (moments ++ top ∷ []) (notes ++ note ∷ [])
latest_later moments notes note last its top last_is its_is top_is latest =
    latest_pushed moments notes note top
    (λ k less. omega (
      arith,
      latest.rise k (length moments - 1) (omega arith) (omega arith),
      unwrap_or-slice_get moments (length moments - 1) 0,
      last_is,
      le-max_right its last,
      top_is,
    ))
    (λ moment says. omega (arith, its_is, ap (λ (o : Option ℕ). unwrap_or o 0) says, le-max_left its last, top_is))
    (latest_which moments note last its top (last_is ∙ unwrap_or-slice_get moments (length moments - 1) 0) its_is top_is)
    latest

-- ---- what is older than a moment

later_note : (S : Spool) (x : IndexView) (k : ℕ) (a : NewsArticle) → Indexes S x → article_with S (suc k) ≡ Some a
    → (n : Note) × (slice_get x.notes k ≡ Some n) × (moment_in n ≡ Some a.moment)
later_note S x k a is at = by_entry (entry_with S (suc k)) (noted S x (suc k) is) at where
  by_entry : (o : Option SpoolEntry) → slice_get x.notes k ≡ option_map kept o
      → option_and_then article_filed o ≡ Some a → (n : Note) × (slice_get x.notes k ≡ Some n) × (moment_in n ≡ Some a.moment)
  by_entry None got none = absurd (cc)
  by_entry (Some e) got filed = (kept e, got, each_moment e ∙ ap (option_map (λ (b : NewsArticle). b.moment)) filed)

-- where the latest moments of the first changes are below this one, no article among them is of it or later
pub all_older : (S : Spool) (x : IndexView) (moments : List ℕ) (count : ℕ) (from : ℤ) (moment : ℕ) → FitsUnsignedBits 64 from
    → moment ≡ nat_abs from → AreLatest moments x.notes → Indexes S x
    → ((k : ℕ) → k < count → nat_lt (slice_index moments k) moment ≡ true) → (serial : ℕ) → serial ≤ count
    → IfSome (article_with S serial) (λ a. is_since from a.moment ≡ false)
all_older S x moments count (negsuc m) moment fits same latest is below serial low = absurd fits
all_older S x moments count (pos m) moment fits same latest is below zero low = tt
all_older S x moments count (pos m) moment fits same latest is below (suc k) low = by_article (article_with S (suc k)) refl where
  by_article : (o : Option NewsArticle) → article_with S (suc k) ≡ o → IfSome o (λ a. is_since (pos m) a.moment ≡ false)
  by_article None at = tt
  by_article (Some a) at =
      let found = later_note S x k a is at in
      lt-leb m a.moment (omega (
        arith,
        same,
        latest.reach k found.0 a.moment found.1 found.2,
        ltb-true (slice_index moments k) moment (below k (omega arith)),
      ))

-- the next change is an article of this moment or later, where the latest moment up to it is not below it
pub next_since : (S : Spool) (x : IndexView) (moments : List ℕ) (count : ℕ) (from : ℤ) (moment : ℕ) → FitsUnsignedBits 64 from
    → moment ≡ nat_abs from → AreLatest moments x.notes → Indexes S x → is_since from 0 ≡ false
    → ((k : ℕ) → k < count → nat_lt (slice_index moments k) moment ≡ true) → count < length moments
    → nat_lt (slice_index moments count) moment ≡ false
    → option_map (λ (a : NewsArticle). is_since from a.moment) (article_with S (count + 1)) ≡ Some true
next_since S x moments count (negsuc p) moment fits same latest is later below low at = absurd fits
next_since S x moments count (pos p) moment fits same latest is later below low at = rw add-one (elim (latest.its count low) [
  | inl none ↦ absurd (omega (arith, same, none, leb-false p 0 later, ltb-false (slice_index moments count) moment at))
  | inr found ↦ elim (cases_lt found.0 count) [
    | inl less ↦ absurd (omega (
      arith,
      same,
      latest.reach found.0 found.1 (slice_index moments count) found.3 found.4,
      ltb-true (slice_index moments found.0) moment (below found.0 less),
      ltb-false (slice_index moments count) moment at,
    ))
    | inr more ↦
        let here : found.0 ≡ count = omega (arith, more, found.2) in
        let got : slice_get x.notes count ≡ Some found.1 = ap (slice_get x.notes) (sym here) ∙ found.3 in
        by_article (article_with S (suc count))
        (sym (said moment_in (λ (a : NewsArticle). a.moment) each_moment S (suc count) found.1 (sym got ∙ noted S x (suc count) is))
        ∙ found.4)
  ]
])
  where
    by_article : (o : Option NewsArticle) → option_map (λ (a : NewsArticle). a.moment) o ≡ Some (slice_index moments count)
        → option_map (λ (a : NewsArticle). is_since (pos p) a.moment) o ≡ Some true
    by_article None none = absurd (cc)
    by_article (Some a) some = ap Some
        (le-leb p a.moment (omega (
          arith,
          same,
          same_Some a.moment (slice_index moments count) some,
          ltb-false (slice_index moments count) moment at,
        )))
