-- Dates and times of day in text (RFC 3977, sections 7.1 to 7.4).
use Rattle.std.specs.Prelude.{◌≡◌, ℕ, ◌+◌, ◌-◌, ◌*◌, ◌/◌, ◌%◌, ◌<◌, ◌≤◌, length, take, drop}
use Rattle.std.specs.Str.Parse.{digits_value}
use Rattle.model.specs.Stream.{Octets}
use Rattle.model.specs.Calendar.{Date, IsDate, day_number, epoch}

-- the number that so many digits of a text write, from a place on
abbrev pub number_at : ℕ → ℕ → Octets → ℕ
number_at place size text = digits_value 10 (take size (drop place text))

-- yyyymmddhhmmss is this moment, in seconds since 1970, in UTC (7.1.2)
pub record IsTimeOf (moment : ℕ) (text : Octets) : Type 0 where
  pub date : Date
  pub is_date : IsDate date
  pub year : date.year ≡ number_at 0 4 text
  pub month : date.month ≡ number_at 4 2 text
  pub day : date.day ≡ number_at 6 2 text
  pub clock : (number_at 8 2 text < 24) × (number_at 10 2 text < 60) × (number_at 12 2 text < 60)
  pub moment_is : moment + epoch * 86_400
      ≡ day_number date * 86_400 + number_at 8 2 text * 3_600 + number_at 10 2 text * 60 + number_at 12 2 text

-- ---- since when

-- how many seconds lie between 1 January of the year 0 and a moment, in UTC
abbrev pub seconds_at : ℕ → ℕ
seconds_at moment = moment + epoch * 86_400

-- the year that two digits mean: of the current century if they are no greater than those of the current year, else of the one before
-- (7.3.2)
abbrev pub IsShortYear : ℕ → ℕ → ℕ → Type 0
IsShortYear current digits year =
    (digits ≤ current % 100 → year ≡ current / 100 * 100 + digits) × (current % 100 < digits → year + 100 ≡ current / 100 * 100 + digits)

-- [xx]yymmdd and hhmmss mean so many seconds after 1 January of the year 0, today and in UTC (7.3.2). Here a second of 60, which the RFC
-- has for leap seconds, is none
pub record IsSince (today : Date) (date time : Octets) (seconds : ℕ) : Type 0 where
  pub at : Date
  pub is_date : IsDate at
  pub long_year : length date ≡ 8 → at.year ≡ number_at 0 4 date
  pub short_year : length date ≡ 6 → IsShortYear today.year (number_at 0 2 date) at.year
  pub month : at.month ≡ number_at (length date - 4) 2 date
  pub day : at.day ≡ number_at (length date - 2) 2 date
  pub clock : (number_at 0 2 time < 24) × (number_at 2 2 time < 60) × (number_at 4 2 time < 60)
  pub seconds_are : seconds ≡ day_number at * 86_400 + number_at 0 2 time * 3_600 + number_at 2 2 time * 60 + number_at 4 2 time
