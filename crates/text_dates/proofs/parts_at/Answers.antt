use Rattle.std.proofs.Common.{arith, ◌∙◌, ◌/◌, ◌≤◌, ap, sym, subst, ℤ, w8, w16, w64, Fits, FitsSigned}
use Rattle.std.proofs.lemmas.Int.{ints, to_z-of_z}
use Rattle.std.specs.Prelude.{unsigned_abs}
use lib.Dec.{T}
use lib.Signed.{non_neg}
use Rattle.text_dates.proofs.CivilDates.{is_date_of_day, date_at-civil, year_since-civil}
use Rattle.text_dates.proofs.parts_at.Goals as goal

pub overflow_cast-result : goal.overflow_cast-result
overflow_cast-result c =
    let d = c.date_at-date.result in
    let is = is_date_of_day (c.args.moment / 86_400) d.year d.month d.day d.year_in d.month_in.0 d.month_in.1 d.day_in.0 d.day_in.1
    c.date_at-date.ensures in
    let fits : FitsSigned w16 c.year.result = omega (arith, ints, c.year.type_inv) in
    subst (λ (y : ℤ). T (non_neg y) × Fits w64 (unsigned_abs y)) (sym (to_z-of_z w16 c.year.result fits ∙ c.year.ensures))
    (is.since, omega (arith, is.is.year))

pub returns-clause-date : goal.returns-clause-date
returns-clause-date c =
    let d = c.date_at-date.result in
    let is = is_date_of_day (c.args.moment / 86_400) d.year d.month d.day d.year_in d.month_in.0 d.month_in.1 d.day_in.0 d.day_in.1
    c.date_at-date.ensures in
    let fits_year : FitsSigned w16 c.year.result = omega (arith, ints, c.year.type_inv) in
    let fits_month : FitsSigned w8 c.month.result = omega (arith, ints, c.month.type_inv) in
    let fits_day : FitsSigned w8 c.day.result = omega (arith, ints, c.day.type_inv) in
    let year = ap unsigned_abs (to_z-of_z w16 c.year.result fits_year ∙ c.year.ensures) in
    let month = ap unsigned_abs (to_z-of_z w8 c.month.result fits_month ∙ c.month.ensures) in
    let day = ap unsigned_abs (to_z-of_z w8 c.day.result fits_day ∙ c.day.ensures) in
    (λ i. record { year = year i; month = month i; day = day i }) ∙ date_at-civil c.args.moment d.year d.month d.day is

pub returns-clause-year_low : goal.returns-clause-year_low
returns-clause-year_low c =
    let d = c.date_at-date.result in
    let is = is_date_of_day (c.args.moment / 86_400) d.year d.month d.day d.year_in d.month_in.0 d.month_in.1 d.day_in.0 d.day_in.1
    c.date_at-date.ensures in
    let fits_year : FitsSigned w16 c.year.result = omega (arith, ints, c.year.type_inv) in
    subst (λ y. 1970 ≤ unsigned_abs y) (sym (to_z-of_z w16 c.year.result fits_year ∙ c.year.ensures))
    (year_since-civil c.args.moment d.year d.month d.day is)
