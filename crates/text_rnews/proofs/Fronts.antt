-- What a prefix of a batch says, however the batch continues.
use Rattle.std.proofs.Common.{◌≡◌, ℕ, zero, suc, ◌+◌, ◌-◌, ◌<◌, ◌≤◌, [], ◌∷◌, ◌++◌, refl, sym, ◌∙◌, ap, arith, inl, inr, Bool, true, false}
use Rattle.std.proofs.Common.{length-append, length-drop}
use Rattle.std.specs.Prelude.{length, take, drop, nat_eq, nat_le, nat_lt, not, ◌==◌, Option, Some, None, Result, Ok, Err}
use Rattle.std.specs.List.{list_all, position_or_len, prefix_len, starts_with}
use Rattle.std.proofs.lemmas.Bool.{and_parts, eq-eqb, ne_eqb, lt-ltb, le-ltb, le-leb, lt-leb, cases_lt, cond-true, cond-false}
use Rattle.std.proofs.lemmas.List.{take-append-le, drop-append-le, take_all, length-take}
use Rattle.std.proofs.lemmas.List.Folds.{prefix_len-append}
use Rattle.std.proofs.lemmas.List.Sums.{prefix_len-le-length}
use Rattle.std.proofs.Math.Seq.{take-append_seam, take-append-add, drop-append-add}
use Rattle.model.specs.Stream.{Octets, block_limit}
use Rattle.text_rnews.specs.Batch.{Found, Member, Unread, fed, first, line_length, next, size_of, split, text, too_long, whole, without}
use Rattle.text_rnews.specs.declared.rnews_batches.BatchCause.{BatchCause}
use Rattle.text_rnews.proofs.Passing.{fed_twice, fed_whole}

abbrev pub is_no_lf : ℕ → Bool
is_no_lf x = not (x == 10)

-- octets without an LF, and then an LF
line_of : (m : ℕ) (front rest : Octets) → list_all is_no_lf front ≡ true → length front < m →
    position_or_len (λ x. x == 10) (take m (front ++ 10 ∷ rest)) ≡ length front
line_of zero front rest pass below = absurd (omega arith)
line_of (suc m) [] rest pass below = refl
line_of (suc m) (x ∷ front) rest pass below =
    let both = and_parts (is_no_lf x) (list_all is_no_lf front) pass in
    let here = cond-true (is_no_lf x) (1 + position_or_len (λ y. y == 10) (take m (front ++ 10 ∷ rest))) 0 both.0 in
    let later = line_of m front rest both.1 (omega arith) in
    here ∙ omega (arith, later)

-- what is read where the line ends within the octets, and where it doesn't
pub first-line : (octets : Octets) → line_length octets < length octets → first octets ≡ split (drop (line_length octets + 1) octets)
    (size_of (take (line_length octets) octets))
unfolding first
first-line octets within = cond-true (nat_lt (line_length octets) (length octets)) _ _ (lt-ltb _ _ within)

pub first-wanted : (octets : Octets) → length octets ≤ line_length octets → first octets ≡ Ok None
unfolding first
first-wanted octets short = cond-false (nat_lt (line_length octets) (length octets)) _ _ (le-ltb _ _ short)

-- what is read of a header line and what follows it
pub first-header : (front rest : Octets) → list_all is_no_lf front ≡ true → length front < 26 →
    first (front ++ 10 ∷ rest) ≡ split rest (size_of front)
first-header front rest pass short =
    let size : line_length (front ++ 10 ∷ rest) ≡ length front = line_of 26 front rest pass short in
    first-line (front ++ 10 ∷ rest) (omega (arith, size, length-append front (10 ∷ rest)))
    ∙ ap (λ n. split (drop (n + 1) (front ++ 10 ∷ rest)) (size_of (take n (front ++ 10 ∷ rest)))) size
    ∙ ap (λ r. split r (size_of (take (length front) (front ++ 10 ∷ rest)))) (drop-append-add front (10 ∷ rest) 1)
    ∙ ap (λ l. split rest (size_of l)) (take-append_seam front (10 ∷ rest))

-- a line that ends within the octets is the line of all of them
line_stays : (octets more : Octets) → line_length octets < length octets → line_length (octets ++ more) ≡ line_length octets
line_stays octets more within =
    elim (cases_lt (length octets) 26) [
      | inr long ↦ ap (position_or_len (λ x. x == 10)) (take-append-le 26 octets more long)
      | inl short ↦
          let whole = take_all 26 octets (omega arith) in
          let size : line_length octets ≡ prefix_len is_no_lf octets = ap (prefix_len is_no_lf) whole in
          ap (prefix_len is_no_lf) (front_of short)
          ∙ prefix_len-append is_no_lf octets (take (26 - length octets) more)
          ∙ cond-false (prefix_len is_no_lf octets == length octets) _ _ (not_all size)
          ∙ sym size
    ]
  where
    front_of : length octets < 26 → take 26 (octets ++ more) ≡ octets ++ take (26 - length octets) more
    front_of short = let whole : 26 ≡ length octets + (26 - length octets) = omega arith in ap (λ n. take n (octets ++ more)) whole
        ∙ take-append-add octets more (26 - length octets)

    not_all : line_length octets ≡ prefix_len is_no_lf octets → (prefix_len is_no_lf octets == length octets) ≡ false
    not_all size = ne_eqb (prefix_len is_no_lf octets) (length octets) (λ is. omega (arith, size, is, within))

-- what is read of more octets, where the line ends within those that have come
pub first-more : (octets more : Octets) → line_length octets < length octets →
    first (octets ++ more) ≡ split (drop (line_length octets + 1) octets ++ more) (size_of (take (line_length octets) octets))
first-more octets more within =
    let same = line_stays octets more within in
    first-line (octets ++ more) (omega (arith, same, length-append octets more))
    ∙ ap (λ n. split (drop (n + 1) (octets ++ more)) (size_of (take n (octets ++ more)))) same
    ∙ ap (λ r. split r (size_of (take (line_length octets) (octets ++ more))))
    (drop-append-le (line_length octets + 1) octets more (omega arith))
    ∙ ap (λ l. split (drop (line_length octets + 1) octets ++ more) (size_of l))
    (take-append-le (line_length octets) octets more (omega arith))

-- what was found
pub one_found : (r : Found) (a b : Member × Unread) → r ≡ Ok (Some a) → r ≡ Ok (Some b) → a ≡ b
one_found r a b is also = cc

pub found_not_wanted : (r : Found) (a : Member × Unread) → r ≡ Ok None → r ≡ Ok (Some a) → ⊥
found_not_wanted r a none some = cc

found_not_refused : (r : Found) (a : Member × Unread) (cause : BatchCause) → r ≡ Err cause → r ≡ Ok (Some a) → ⊥
found_not_refused r a cause none some = cc

wanted_not_refused : (r : Found) (cause : BatchCause) → r ≡ Err cause → r ≡ Ok None → ⊥
wanted_not_refused r cause none some = cc

-- what is split off: one that is too long, a text of which all is there, and one of which it isn't
pub split-long : (octets : Octets) (size : ℕ) → block_limit < size → split octets (Ok size) ≡ Ok (Some (too_long size, without size octets))
split-long octets size long = cond-true (nat_lt block_limit size) _ _ (lt-ltb _ _ long)

pub split-all : (octets : Octets) (size : ℕ) → size ≤ block_limit → size ≤ length octets → split octets (Ok size) ≡ Ok
    (Some (text (take size octets), whole (drop size octets)))
split-all octets size short there =
    cond-false (nat_lt block_limit size) _ _ (le-ltb _ _ short) ∙ cond-true (nat_le size (length octets)) _ _ (le-leb _ _ there)

split-wanted : (octets : Octets) (size : ℕ) → size ≤ block_limit → length octets < size → split octets (Ok size) ≡ Ok None
split-wanted octets size short missing =
    cond-false (nat_lt block_limit size) _ _ (le-ltb _ _ short) ∙ cond-false (nat_le size (length octets)) _ _ (lt-leb _ _ missing)

-- a member that is there stays
split-more : (octets more : Octets) (found : Member × Unread) (size : Result ℕ BatchCause) → split octets size ≡ Ok (Some found) →
    split (octets ++ more) size ≡ Ok (Some (found.0, fed found.1 more))
split-more octets more found (Err cause) is = cc
split-more octets more found (Ok size) is =
    elim (cases_lt block_limit size) [
      | inl long ↦
          split-long (octets ++ more) size long
          ∙ ap (λ u. Ok (Some (too_long size, u))) (sym (fed_twice (record { over = size; rest = [] }) octets more))
          ∙ ap (λ (p : Member × Unread). Ok (Some (p.0, fed p.1 more)))
          (one_found (split octets (Ok size)) (too_long size, without size octets) found (split-long octets size long) is)
      | inr short ↦ elim (cases_lt (length octets) size) [
        | inl missing ↦ absurd (found_not_wanted (split octets (Ok size)) found (split-wanted octets size short missing) is)
        | inr there ↦
            split-all (octets ++ more) size short (omega (arith, there, length-append octets more))
            ∙ ap (λ t. Ok (Some (text t, whole (drop size (octets ++ more))))) (take-append-le size octets more there)
            ∙ ap (λ r. Ok (Some (text (take size octets), whole r))) (drop-append-le size octets more there)
            ∙ ap (λ u. Ok (Some (text (take size octets), u))) (sym (fed_whole (drop size octets) more))
            ∙ ap (λ (p : Member × Unread). Ok (Some (p.0, fed p.1 more)))
            (one_found (split octets (Ok size)) (text (take size octets), whole (drop size octets)) found
            (split-all octets size short there) is)
      ]
    ]

first_stays : (octets more : Octets) (found : Member × Unread) → first octets ≡ Ok (Some found) →
    first (octets ++ more) ≡ Ok (Some (found.0, fed found.1 more))
first_stays octets more found is =
    elim (cases_lt (line_length octets) (length octets)) [
      | inl within ↦ first-more octets more within ∙ split-more (drop (line_length octets + 1) octets) more found
          (size_of (take (line_length octets) octets)) (sym (first-line octets within) ∙ is)
      | inr short ↦ absurd (found_not_wanted (first octets) found (first-wanted octets short) is)
    ]

-- where nothing is to be passed over, the first member is the next one; else nothing is found
first-next : (unread : Unread) → unread.over ≡ 0 → next unread ≡ first unread.rest
first-next unread none = cond-true (unread.over == 0) _ _ (eq-eqb _ _ none)

none-next : (unread : Unread) (n : ℕ) → unread.over ≡ suc n → next unread ≡ Ok None
none-next unread n some = cond-false (unread.over == 0) _ _ (ne_eqb unread.over 0 (λ none. omega (arith, none, some)))

next-fed : (unread : Unread) (more : Octets) → unread.over ≡ 0 → next (fed unread more) ≡ first (unread.rest ++ more)
next-fed unread more none =
    ap next (ap (λ n. fed (record { over = n; rest = unread.rest }) more) none ∙ fed_whole unread.rest more)

pub member_stays : (unread later : Unread) (m : Member) (more : Octets) → next unread ≡ Ok (Some (m, later)) →
    next (fed unread more) ≡ Ok (Some (m, fed later more))
member_stays unread later m more is =
    elim (cases_lt 0 unread.over) [
      | inl some ↦ absurd (found_not_wanted (next unread) (m, later)
          (none-next unread (unread.over - 1) (omega (arith, some))) is)
      | inr none ↦
          let zero : unread.over ≡ 0 = omega (arith, none) in
          next-fed unread more zero ∙ first_stays unread.rest more (m, later) (sym (first-next unread zero) ∙ is)
    ]

split-cause : (octets more : Octets) (cause : BatchCause) (size : Result ℕ BatchCause) → split octets size ≡ Err cause →
    split (octets ++ more) size ≡ Err cause
split-cause octets more cause (Err other) is = is
split-cause octets more cause (Ok size) is =
    elim (cases_lt block_limit size) [
      | inl long ↦ absurd (found_not_refused (split octets (Ok size)) (too_long size, without size octets) cause is
          (split-long octets size long))
      | inr short ↦ elim (cases_lt (length octets) size) [
        | inl missing ↦ absurd (wanted_not_refused (split octets (Ok size)) cause is (split-wanted octets size short missing))
        | inr there ↦ absurd (found_not_refused (split octets (Ok size)) (text (take size octets), whole (drop size octets)) cause is
            (split-all octets size short there))
      ]
    ]

first_cause : (octets more : Octets) (cause : BatchCause) → first octets ≡ Err cause → first (octets ++ more) ≡ Err cause
first_cause octets more cause is =
    elim (cases_lt (line_length octets) (length octets)) [
      | inl within ↦ first-more octets more within ∙ split-cause (drop (line_length octets + 1) octets) more cause
          (size_of (take (line_length octets) octets)) (sym (first-line octets within) ∙ is)
      | inr short ↦ absurd (wanted_not_refused (first octets) cause is (first-wanted octets short))
    ]

pub cause_stays : (unread : Unread) (more : Octets) (cause : BatchCause) → next unread ≡ Err cause → next (fed unread more) ≡ Err cause
cause_stays unread more cause is =
    elim (cases_lt 0 unread.over) [
      | inl some ↦ absurd (wanted_not_refused (next unread) cause is (none-next unread (unread.over - 1) (omega (arith, some))))
      | inr none ↦
          let zero : unread.over ≡ 0 = omega (arith, none) in
          next-fed unread more zero ∙ first_cause unread.rest more cause (sym (first-next unread zero) ∙ is)
    ]

-- where more octets are wanted, few have come
split-bound : (octets : Octets) (size : Result ℕ BatchCause) → split octets size ≡ Ok None → length octets < block_limit
split-bound octets (Err cause) is = cc
split-bound octets (Ok size) is =
    elim (cases_lt block_limit size) [
      | inl long ↦ absurd (found_not_wanted (split octets (Ok size)) (too_long size, without size octets) is (split-long octets size long))
      | inr short ↦ elim (cases_lt (length octets) size) [
        | inl missing ↦ omega (arith, missing, short)
        | inr there ↦ absurd (found_not_wanted (split octets (Ok size)) (text (take size octets), whole (drop size octets)) is
            (split-all octets size short there))
      ]
    ]

pub first-bound : (octets : Octets) → first octets ≡ Ok None → length octets ≤ 262_170
first-bound octets is =
    let most = prefix_len-le-length is_no_lf (take 26 octets) in
    let front = length-take 26 octets in
    elim (cases_lt (line_length octets) (length octets)) [
      | inr short ↦ omega (arith, most, front)
      | inl within ↦
          let left = split-bound (drop (line_length octets + 1) octets) (size_of (take (line_length octets) octets))
          (sym (first-line octets within) ∙ is) in
          omega (arith, most, front, left, length-drop (line_length octets + 1) octets)
    ]
