-- The dates of `jiff` are those of the calendar.
use Rattle.std.specs.Prelude.{◌≡◌, ℕ, zero, suc, ◌+◌, ◌-◌, ◌/◌, ◌≤◌, true, ◌&&◌, nat_le, ℤ, pos, negsuc, ◌+ℤ◌, ◌-ℤ◌, unsigned_abs}
use Rattle.std.proofs.Common.{sym, ◌∙◌, ap, subst, inl, inr, refl, arith}
use Rattle.std.proofs.lemmas.Int.{ints}
use Rattle.std.proofs.lemmas.Bool.{cases_lt, and_from, and_parts, le-leb, leb-true}
use lib.Dec.{T}
use lib.Signed.{non_neg}
use Rattle.jiff_core.specs.Calendar as civil
use Rattle.model.specs.Calendar.{Date, IsDate, is_leap_year, days_in_year, days_in_month, days_of_months, days_before_year, day_number}
use Rattle.model.specs.Calendar.{date_at, epoch, is_date}
use Rattle.model.proofs.CalendarLaws.{days_before_year-epoch, days_of_months-suc, days_of_months-zero, day_of_year-below, date_at-is}
use Rattle.model.proofs.CalendarLaws.{year_since}

-- months have the same days
months_same : (year : ℤ) (months : ℕ) → civil.days_of_months year months ≡ days_of_months (civil.is_leap_year year) months
unfolding civil.days_of_months
months_same year zero = sym (days_of_months-zero (civil.is_leap_year year))
months_same year (suc months) =
    ap (λ n. n + days_in_month (civil.is_leap_year year) (suc months)) (months_same year months)
    ∙ sym (days_of_months-suc (civil.is_leap_year year) months)

-- one more year, counted from the year -10000 on
years_suc : (n : ℕ) → civil.days_of_years (suc n) ≡ civil.days_of_years n + days_in_year (civil.is_leap_year (pos n -ℤ pos 10000))
unfolding civil.days_of_years
years_suc n = refl

years_mono : (a b : ℕ) → a ≤ b → civil.days_of_years a ≤ civil.days_of_years b
years_mono a zero within = let same : a ≡ 0 = omega arith in
    subst (λ n. civil.days_of_years n ≤ civil.days_of_years 0) (sym same) (omega arith)
years_mono a (suc b) within =
    elim (cases_lt b a) [
      | inr less ↦ omega (arith, years_mono a b less, years_suc b)
      | inl all ↦ let same : a ≡ suc b = omega arith in
          subst (λ n. civil.days_of_years n ≤ civil.days_of_years (suc b)) (sym same) (omega arith)
    ]

-- years since the year 0 have the same days
years_same : (year : ℕ) → civil.days_of_years (year + 10000) ≡ civil.days_of_years 10000 + days_before_year year
unfolding days_before_year
years_same zero = ap civil.days_of_years (let e : 0 + 10000 ≡ 10000 = omega arith in e)
    ∙ (let e : civil.days_of_years 10000 ≡ civil.days_of_years 10000 + 0 = omega arith in e)
years_same (suc year) =
    let next : suc year + 10000 ≡ suc (year + 10000) = omega arith in
    let same : pos (year + 10000) -ℤ pos 10000 ≡ pos year = omega (arith, ints) in
    ap civil.days_of_years next ∙ years_suc (year + 10000)
    ∙ ap (λ y. civil.days_of_years (year + 10000) + days_in_year (civil.is_leap_year y)) same
    ∙ (let e : civil.days_of_years (year + 10000) + days_in_year (is_leap_year year) ≡ civil.days_of_years 10000 +
    (days_before_year year + days_in_year (is_leap_year year)) = omega (arith, years_same year) in e)

-- the day of 1 January 1970
epoch_same : civil.day_count (pos 1970) 1 1 ≡ civil.days_of_years 10000 + epoch
unfolding civil.day_count
epoch_same =
    let first : civil.days_of_months (pos 1970) (1 - 1) ≡ 0 = ap (civil.days_of_months (pos 1970)) (let e : 1 - 1 ≡ 0 = omega arith in e)
    ∙ months_same (pos 1970) 0 ∙ days_of_months-zero (civil.is_leap_year (pos 1970)) in
    let years : civil.days_of_years (unsigned_abs (pos 1970 +ℤ pos 10000)) ≡ civil.days_of_years 10000 + days_before_year 1970 =
    ap civil.days_of_years (let e : unsigned_abs (pos 1970 +ℤ pos 10000) ≡ 1970 + 10000 = refl in e) ∙ years_same 1970 in
    omega (arith, first, years, days_before_year-epoch)

-- a civil date as a date of the calendar
abbrev pub date_of : ℤ → ℕ → ℕ → Date
date_of year month day = record { year = unsigned_abs year; month = month; day = day }

-- a civil date since 1970 is the date of its day
pub record IsDateOfDay (n : ℕ) (year : ℤ) (month day : ℕ) : Type 0 where
  pub since : T (non_neg year)
  pub is : IsDate (date_of year month day)
  pub number : day_number (date_of year month day) ≡ epoch + n

pub is_date_of_day : (n : ℕ) (year : ℤ) (month day : ℕ) → civil.IsYear year → 1 ≤ month → month ≤ 12 → 1 ≤ day
    → day ≤ civil.days_in_month year month → civil.days_from_civil year month day ≡ pos n → IsDateOfDay n year month day
unfolding civil.days_from_civil civil.day_count
is_date_of_day n (pos year) month day in_range low high some within same =
    let years : civil.days_of_years (unsigned_abs (pos year +ℤ pos 10000)) ≡ civil.days_of_years 10000 + days_before_year year =
    years_same year in
    record {
      since = tt;
      is = record { year = omega (arith, ints, in_range.1); month_low = low; month_high = high; day_low = some; day_high = within };
      number = omega (arith, ints, same, years, epoch_same, months_same (pos year) (month - 1));
    }
is_date_of_day n (negsuc before) month day in_range low high some within same =
    let near : before ≤ 9998 = omega (arith, ints, in_range.0) in
    let place : negsuc before +ℤ pos 10000 ≡ pos (9999 - before) = omega (arith, ints, near) in
    let year : pos (9999 - before) -ℤ pos 10000 ≡ negsuc before = omega (arith, ints, near) in
    let here : civil.days_of_years (unsigned_abs (negsuc before +ℤ pos 10000)) ≡ civil.days_of_years (9999 - before) =
    ap (λ y. civil.days_of_years (unsigned_abs y)) place in
    let after : civil.days_of_years (suc (9999 - before)) ≡ civil.days_of_years (9999 - before) + days_in_year
    (civil.is_leap_year (negsuc before)) =
    years_suc (9999 - before) ∙ ap (λ y. civil.days_of_years (9999 - before) + days_in_year (civil.is_leap_year y)) year in
    let below : civil.days_of_years (suc (9999 - before)) ≤ civil.days_of_years 10000 =
    years_mono (suc (9999 - before)) 10000 (omega arith) in
    let of_year : days_of_months (civil.is_leap_year (negsuc before)) (month - 1) + day
    ≤ days_in_year (civil.is_leap_year (negsuc before)) =
    day_of_year-below (civil.is_leap_year (negsuc before)) month day low high some within in
    absurd (omega (arith, ints, same, here, after, below, of_year, epoch_same, months_same (negsuc before) (month - 1)))

-- 1 January 1970 is the day 0
pub first_day : (year : ℤ) (month day : ℕ) → year ≡ pos 1970 → month ≡ 1 → day ≡ 1 → civil.days_from_civil year month day ≡ pos 0
unfolding civil.days_from_civil
first_day year month day y m d =
    ap (λ k. civil.days_from_civil k month day) y ∙ ap (λ k. civil.days_from_civil (pos 1970) k day) m
    ∙ ap (λ k. civil.days_from_civil (pos 1970) 1 k) d
    ∙ (let e : pos (civil.day_count (pos 1970) 1 1) -ℤ pos (civil.day_count (pos 1970) 1 1) ≡ pos 0 = omega (arith, ints) in e)

-- a civil date of a moment's day is the moment's date
pub date_at-civil : (moment : ℕ) (year : ℤ) (month day : ℕ) → IsDateOfDay (moment / 86_400) year month day
    → date_of year month day ≡ date_at moment
date_at-civil moment year month day is = sym (date_at-is moment (date_of year month day) (record { is = is.is; day = is.number }))

-- since the year 0 the days are counted alike
pub days_alike : (year month day : ℕ) → 1 ≤ day
    → civil.days_from_civil (pos year) month day ≡ pos (day_number (date_of (pos year) month day)) -ℤ pos epoch
unfolding civil.days_from_civil civil.day_count
days_alike year month day some =
    let years : civil.days_of_years (unsigned_abs (pos year +ℤ pos 10000)) ≡ civil.days_of_years 10000 + days_before_year year =
    years_same year in
    omega (arith, ints, years, epoch_same, months_same (pos year) (month - 1))

-- the two calendars have the same dates since the year 0
pub is_date-from_civil : (year month day : ℕ) → year ≤ 9999 → civil.IsDate (pos year) (pos month) (pos day)
    → is_date (date_of (pos year) month day) ≡ true
is_date-from_civil year month day near is =
    and_from _ _ (le-leb year 9999 near)
    (and_from _ _ (and_from _ _ (le-leb 1 month (omega (arith, ints, is.1.0))) (le-leb month 12 (omega (arith, ints, is.1.1))))
    (and_from _ _ (le-leb 1 day (omega (arith, ints, is.2.0))) (le-leb day _ (omega (arith, ints, is.2.1)))))

pub is_date-to_civil : (year month day : ℕ) → is_date (date_of (pos year) month day) ≡ true → civil.IsDate (pos year) (pos month) (pos day)
is_date-to_civil year month day is =
    let both = and_parts (nat_le year 9999) _ is in
    let months_days = and_parts (nat_le 1 month && nat_le month 12) _ both.1 in
    let months = and_parts (nat_le 1 month) (nat_le month 12) months_days.0 in
    let days = and_parts (nat_le 1 day) (nat_le day (days_in_month (is_leap_year year) month)) months_days.1 in
    let year_high : year ≤ 9999 = leb-true _ _ both.0 in
    let month_low : 1 ≤ month = leb-true _ _ months.0 in
    let month_high : month ≤ 12 = leb-true _ _ months.1 in
    let day_low : 1 ≤ day = leb-true _ _ days.0 in
    let day_high : day ≤ days_in_month (is_leap_year year) month = leb-true _ _ days.1 in
    ((omega (arith, ints), omega (arith, ints)), (omega (arith, ints), omega (arith, ints)), (omega (arith, ints), omega (arith, ints)))

-- the civil date of a moment is in no year before 1970
pub year_since-civil : (moment : ℕ) (year : ℤ) (month day : ℕ) → IsDateOfDay (moment / 86_400) year month day → 1970 ≤ unsigned_abs year
year_since-civil moment year month day is = year_since moment (date_of year month day) (record { is = is.is; day = is.number })
