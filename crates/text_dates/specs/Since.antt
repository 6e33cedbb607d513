-- The two halves of a moment since which a client asks.
use Rattle.std.specs.Prelude.{ℕ, ◌+◌, ◌*◌, ◌&&◌, ◌||◌, if◌then◌else◌, Option, Some, None, ℤ, pos, ◌-ℤ◌}
use Rattle.model.specs.Stream.{Octets}
use Rattle.model.specs.Calendar.{Date, are_digits, date_of_text, day_number, epoch, is_date, is_time, two_at}

-- the number of days from 1 January 1970 to a date, if the calendar has it
abbrev pub days_since : Date → Option ℤ
days_since date = if is_date date then Some (pos (day_number date) -ℤ pos epoch) else None

-- the same for a date's text in this current year
abbrev pub days_of_text : ℕ → Octets → Option ℤ
days_of_text current date =
    if are_digits 6 date || are_digits 8 date then days_since (date_of_text current date) else None

-- the number of seconds from midnight to a time of day, if the text is one
abbrev pub seconds_of_text : Octets → Option ℕ
seconds_of_text time =
    if are_digits 6 time && is_time time then Some (two_at 0 time * 3_600 + two_at 2 time * 60 + two_at 4 time) else None
