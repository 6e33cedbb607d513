-- The date and the time that NEWGROUPS and NEWNEWS are asked for.
use Rattle.std.proofs.Common.{◌≡◌, ◌⊎◌, ℕ, suc, ◌+◌, ◌-◌, ◌*◌, ◌/◌, ◌%◌, ◌<◌, ◌≤◌, List, [], ◌∷◌, refl, sym, ◌∙◌, ap, arith, inl, inr}
use Rattle.std.proofs.Common.{Bool, true, false, cond, ◌&&◌, ◌||◌}
use Rattle.std.specs.Prelude.{None, Some, Option, length, nat_le, nat_lt, ◌==◌, ℤ, pos, negsuc, ◌-ℤ◌, int_le}
use Rattle.std.proofs.lemmas.Bool.{true≢false, and_parts, and_from, or_cases, cases_lt, leb-true, leb-false, le-leb, lt-leb, lt-ltb, ltb-true}
use Rattle.std.proofs.lemmas.Bool.{eqb-true}
use Rattle.std.proofs.lemmas.Int.{ints}
use Rattle.model.specs.Stream.{Octets}
use Rattle.model.specs.Calendar.{Date, IsDate, IsDateAt, are_digits, date_at, date_of_text, day_number, days_in_month, epoch, full_year}
use Rattle.model.specs.Calendar.{is_date, is_leap_year, is_time, moment_of, since, two_at, year_of}
use Rattle.model.proofs.CalendarLaws.{Date-equal, date_at-is, year_since}
use Rattle.model_rfc.specs.Grammar.{has_digits}
use Rattle.model_rfc.specs.Syntax.{is_since}
use Rattle.model_rfc.specs.Times.{IsShortYear, IsSince, number_at, seconds_at}

-- ---- since then

-- a moment is since then, by signed numbers or from the year 0 on
pub since_is : (seconds start m : ℕ) → int_le (pos seconds -ℤ pos start) (pos m) ≡ nat_le seconds (m + start)
since_is seconds start m = by_sign (pos seconds -ℤ pos start) refl where
  by_sign : (z : ℤ) → pos seconds -ℤ pos start ≡ z → int_le z (pos m) ≡ nat_le seconds (m + start)
  by_sign (pos k) is =
      let same : seconds ≡ k + start = omega (arith, ints) in
      elim (cases_lt m k) [
        | inl below ↦ lt-leb k m below ∙ sym (lt-leb seconds (m + start) (omega arith))
        | inr from ↦ le-leb k m from ∙ sym (le-leb seconds (m + start) (omega arith))
      ]
  by_sign (negsuc k) is =
      let same : seconds + suc k ≡ start = omega (arith, ints) in
      sym (le-leb seconds (m + start) (omega arith))

-- ---- dates

date_from_test : (d : Date) → is_date d ≡ true → IsDate d
date_from_test d is =
    let one = and_parts (nat_le d.year 9999) _ is in
    let two = and_parts (nat_le 1 d.month && nat_le d.month 12) _ one.1 in
    let three = and_parts (nat_le 1 d.month) (nat_le d.month 12) two.0 in
    let four = and_parts (nat_le 1 d.day) _ two.1 in
    record {
      year = leb-true d.year 9999 one.0;
      month_low = leb-true 1 d.month three.0;
      month_high = leb-true d.month 12 three.1;
      day_low = leb-true 1 d.day four.0;
      day_high = leb-true d.day (days_in_month (is_leap_year d.year) d.month) four.1;
    }

date_to_test : (d : Date) → IsDate d → is_date d ≡ true
date_to_test d is =
    and_from (nat_le d.year 9999) _ (le-leb d.year 9999 is.year)
    (and_from (nat_le 1 d.month && nat_le d.month 12) _
    (and_from (nat_le 1 d.month) (nat_le d.month 12) (le-leb 1 d.month is.month_low) (le-leb d.month 12 is.month_high))
    (and_from (nat_le 1 d.day) _ (le-leb 1 d.day is.day_low) (le-leb d.day (days_in_month (is_leap_year d.year) d.month) is.day_high)))

-- ---- years of two digits

short_is : (current digits : ℕ) → 1970 ≤ current → IsShortYear current digits (full_year current digits)
short_is current digits late = by_test (nat_le digits (current % 100)) refl where
  by_test : (b : Bool) → nat_le digits (current % 100) ≡ b
      → IsShortYear current digits (cond b (current - current % 100 + digits) (current - current % 100 + digits - 100))
  by_test true is = let few : digits ≤ current % 100 = leb-true digits (current % 100) is in
      (λ within. omega arith, λ above. absurd (omega arith))
  by_test false is = let many : current % 100 < digits = leb-false digits (current % 100) is in
      (λ within. absurd (omega arith), λ above. omega arith)

short_one : (current digits year : ℕ) → 1970 ≤ current → IsShortYear current digits year → year ≡ full_year current digits
short_one current digits year late is =
    let own = short_is current digits late in
    elim (cases_lt (current % 100) digits) [
      | inl above ↦ let one = is.1 above in let two = own.1 above in omega (arith, one, two)
      | inr within ↦ is.0 within ∙ sym (own.0 within)
    ]

-- ---- what the words mean

abbrev forms : Octets → Bool
forms date = are_digits 6 date || are_digits 8 date

-- six digits, or eight
sizes : (date : Octets) → forms date ≡ true → (length date ≡ 6) ⊎ (length date ≡ 8)
sizes date is = elim (or_cases (are_digits 6 date) (are_digits 8 date) is) [
  | inl six ↦ inl (eqb-true (length date) 6 (and_parts (length date == 6) _ six).0)
  | inr eight ↦ inr (eqb-true (length date) 8 (and_parts (length date == 8) _ eight).0)
]

six_year : (current : ℕ) (date : Octets) → length date ≡ 6 → year_of current date ≡ full_year current (number_at 0 2 date)
six_year current date six =
    ap (λ n. cond (n == 6) (full_year current (number_at 0 2 date)) (number_at 0 4 date)) six

eight_year : (current : ℕ) (date : Octets) → length date ≡ 8 → year_of current date ≡ number_at 0 4 date
eight_year current date eight =
    ap (λ n. cond (n == 6) (full_year current (number_at 0 2 date)) (number_at 0 4 date)) eight

abbrev seconds_of : Date → Octets → ℕ
seconds_of day time = day_number day * 86_400 + two_at 0 time * 3_600 + two_at 2 time * 60 + two_at 4 time

module _ (today : Date) (t : ℕ) (at : IsDateAt t today) (date time : Octets) (good : is_since (date ∷ time ∷ []) ≡ true) where
  late : 1970 ≤ today.year
  late = year_since t today at

  both : ((has_digits 6 date || has_digits 8 date) ≡ true) × (has_digits 6 time ≡ true)
  both = and_parts (has_digits 6 date || has_digits 8 date) (has_digits 6 time)
      (and_parts ((has_digits 6 date || has_digits 8 date) && has_digits 6 time) true good).0

  abbrev day : Date
  day = date_of_text today.year date

  since_parts : since date time t ≡ cond (is_date day && is_time time) (Some (moment_of day time)) None
  since_parts =
      ap (λ (d : Date). cond (forms date && (are_digits 6 time && (is_date (date_of_text d.year date) && is_time time)))
      (Some (moment_of (date_of_text d.year date) time)) None) (date_at-is t today at)
      ∙ ap (λ b. cond (b && (are_digits 6 time && (is_date day && is_time time))) (Some (moment_of day time)) None) both.0
      ∙ ap (λ b. cond (b && (is_date day && is_time time)) (Some (moment_of day time)) None) both.1

  -- the date and the time are good
  meant : is_date day ≡ true → is_time time ≡ true → IsSince today date time (seconds_of day time)
  meant dated timed =
      let hours = and_parts (nat_lt (two_at 0 time) 24) _ timed in
      let minutes = and_parts (nat_lt (two_at 2 time) 60) (nat_lt (two_at 4 time) 60) hours.1 in
      record {
        at = day;
        is_date = date_from_test day dated;
        long_year = λ eight. eight_year today.year date eight;
        short_year = λ six.
            let own = short_is today.year (number_at 0 2 date) late in
            let same = six_year today.year date six in
            (λ within. same ∙ own.0 within, λ above. ap (λ y. y + 100) same ∙ own.1 above);
        month = refl;
        day = refl;
        clock = (ltb-true (two_at 0 time) 24 hours.0, ltb-true (two_at 2 time) 60 minutes.0, ltb-true (two_at 4 time) 60 minutes.1);
        seconds_are = refl;
      }

  -- and they are, where the words mean something
  good_day : (seconds : ℕ) → IsSince today date time seconds → (is_date day && is_time time) ≡ true
  good_day seconds is =
      let year : is.at.year ≡ day.year = elim (sizes date both.0) [
        | inl six ↦
            short_one today.year (number_at 0 2 date) is.at.year late (is.short_year six) ∙ sym (six_year today.year date six)
        | inr eight ↦ is.long_year eight ∙ sym (eight_year today.year date eight)
      ] in
      and_from (is_date day) (is_time time)
      (ap is_date (sym (Date-equal is.at day year is.month is.day)) ∙ date_to_test is.at is.is_date)
      (and_from (nat_lt (two_at 0 time) 24) _ (lt-ltb (two_at 0 time) 24 is.clock.0)
      (and_from (nat_lt (two_at 2 time) 60) _ (lt-ltb (two_at 2 time) 60 is.clock.1) (lt-ltb (two_at 4 time) 60 is.clock.2)))

  pub since_means : ((seconds : ℕ) × IsSince today date time seconds × (since date time t ≡ Some (pos seconds -ℤ pos (epoch * 86_400))))
      ⊎ (((seconds : ℕ) → IsSince today date time seconds → ⊥) × (since date time t ≡ None))
  since_means = by_tests (is_date day && is_time time) refl where
    by_tests : (b : Bool) → (is_date day && is_time time) ≡ b
        → ((seconds : ℕ) × IsSince today date time seconds × (since date time t ≡ Some (pos seconds -ℤ pos (epoch * 86_400))))
        ⊎ (((seconds : ℕ) → IsSince today date time seconds → ⊥) × (since date time t ≡ None))
    by_tests true is =
        let parts = and_parts (is_date day) (is_time time) is in
        inl (seconds_of day time, meant parts.0 parts.1, since_parts ∙ ap (λ b. cond b (Some (moment_of day time)) None) is)
    by_tests false is = inr (
      λ seconds means. true≢false (sym (good_day seconds means) ∙ is),
      since_parts ∙ ap (λ b. cond b (Some (moment_of day time)) None) is,
    )
