-- A moment is that of a day and of a time of day.
use Rattle.std.specs.Prelude.{◌≡◌, ℕ, ◌+◌, ◌*◌, Bool, true, false, ◌&&◌, ◌||◌, cond, ℤ, pos, ◌+ℤ◌, ◌-ℤ◌, ◌*ℤ◌, Option, Some, None}
use Rattle.std.proofs.Common.{ap, refl, arith}
use Rattle.std.proofs.lemmas.Int.{ints}
use Rattle.model.specs.Stream.{Octets}
use Rattle.model.specs.Calendar.{are_digits, date_at, date_of_text, day_number, epoch, is_date, is_time, moment_of, since, two_at}
use Rattle.text_dates.specs.Since.{days_of_text, seconds_of_text}

-- the moment of a day and of the seconds in it
abbrev pub joined : Option ℤ → Option ℕ → Option ℤ
joined None seconds = None
joined (Some days) None = None
joined (Some days) (Some seconds) = Some (days *ℤ pos 86_400 +ℤ pos seconds)

moments_add : (number start hours minutes seconds : ℕ)
    → pos (number * 86_400 + hours * 3_600 + minutes * 60 + seconds) -ℤ pos (start * 86_400)
    ≡ (pos number -ℤ pos start) *ℤ pos 86_400 +ℤ pos (hours * 3_600 + minutes * 60 + seconds)
moments_add number start hours minutes seconds = omega (arith, ints)

by_tests : (date_form time_form date time : Bool) (moment days : ℤ) (seconds : ℕ) → moment ≡ days *ℤ pos 86_400 +ℤ pos seconds
    → cond (date_form && (time_form && (date && time))) (Some moment) None ≡ joined (cond date_form (cond date (Some days) None) None)
    (cond (time_form && time) (Some seconds) None)
by_tests true true true true moment days seconds same = ap Some same
by_tests true true true false moment days seconds same = refl
by_tests true true false true moment days seconds same = refl
by_tests true true false false moment days seconds same = refl
by_tests true false true true moment days seconds same = refl
by_tests true false true false moment days seconds same = refl
by_tests true false false true moment days seconds same = refl
by_tests true false false false moment days seconds same = refl
by_tests false true date time moment days seconds same = refl
by_tests false false date time moment days seconds same = refl

pub since-parts : (date time : Octets) (moment : ℕ)
    → since date time moment ≡ joined (days_of_text (date_at moment).year date) (seconds_of_text time)
since-parts date time moment =
    let day = date_of_text (date_at moment).year date in
    by_tests (are_digits 6 date || are_digits 8 date) (are_digits 6 time) (is_date day) (is_time time) (moment_of day time)
    (pos (day_number day) -ℤ pos epoch)
    (two_at 0 time * 3_600 + two_at 2 time * 60 + two_at 4 time)
    (moments_add (day_number day) epoch (two_at 0 time) (two_at 2 time) (two_at 4 time))
