use Rattle.std.proofs.Common.{arith, ◌≡◌, ◌∙◌, ◌^◌, ◌<◌, ap, refl, sym, subst, pos, ℤ, ◌-ℤ◌, w8, w16, w32, w64, to_z, of_z, FitsSigned}
use Rattle.std.specs.Prelude.{Some, None}
use Rattle.std.proofs.lemmas.Bool.{cond-true}
use Rattle.std.proofs.lemmas.Int.{ints, to_z_pos, to_z-of_z}
use Rattle.jiff_core.specs.Calendar as civil
use Rattle.jiff.specs.Words.{epoch_day}
use Rattle.model.specs.Calendar as calendar
use Rattle.text_dates.proofs.CivilDates.{date_of, days_alike, is_date-from_civil}
use Rattle.text_dates.proofs.days_since.Goals as goal

pub returns-clause-value : goal.returns-clause-value
returns-clause-value c =
    let year = c.args.parts.year in
    let month = c.args.parts.month in
    let day = c.args.parts.day in
    let of_year = to_z_pos w16 year (let e : year < 2 ^ 15 = omega (arith, c.requires.year) in e) in
    let of_month = to_z_pos w8 month (let e : month < 2 ^ 7 = omega (arith, c.requires.month) in e) in
    let of_day = to_z_pos w8 day (let e : day < 2 ^ 7 = omega (arith, c.requires.day) in e) in
    let civil_date : civil.IsDate (pos year) (pos month) (pos day) =
    subst (λ (y : ℤ). civil.IsDate y (pos month) (pos day)) of_year
    (subst (λ (m : ℤ). civil.IsDate (to_z w16 year) m (pos day)) of_month
    (subst (λ (d : ℤ). civil.IsDate (to_z w16 year) (to_z w8 month) d) of_day (c.in-Ok.ensures.succeeds.0 refl))) in
    let is = is_date-from_civil year month day c.requires.year civil_date in
    let n = c.to_unix_epoch_day.result in
    let small : FitsSigned w32 n = omega (arith, ints, c.to_unix_epoch_day.type_inv) in
    let wide : FitsSigned w64 n = omega (arith, ints, c.to_unix_epoch_day.type_inv) in
    let same_date = c.in-Ok.ensures.value in
    let same_year : c.in-Ok.date.year ≡ pos year = same_date.0 ∙ of_year in
    let same_month : c.in-Ok.date.month ≡ month = omega (arith, ints, same_date.1, of_month) in
    let same_day : c.in-Ok.date.day ≡ day = omega (arith, ints, same_date.2, of_day) in
    let value : n ≡ pos (calendar.day_number (date_of (pos year) month day)) -ℤ pos calendar.epoch =
    c.to_unix_epoch_day.ensures.value ∙ ap epoch_day c.to_plain.ensures
    ∙ ap (λ y. civil.days_from_civil y c.in-Ok.date.month c.in-Ok.date.day) same_year
    ∙ ap (λ m. civil.days_from_civil (pos year) m c.in-Ok.date.day) same_month
    ∙ ap (civil.days_from_civil (pos year) month) same_day
    ∙ days_alike year month day (omega (arith, ints, civil_date.2.0)) in
    ap (λ z. Some (to_z w64 (of_z w64 z))) (to_z-of_z w32 n small) ∙ ap Some (to_z-of_z w64 n wide) ∙ ap Some value
    ∙ sym (cond-true (calendar.is_date (date_of (pos year) month day))
    (Some (pos (calendar.day_number (date_of (pos year) month day)) -ℤ pos calendar.epoch)) None is)
