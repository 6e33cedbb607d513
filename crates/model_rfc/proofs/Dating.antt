-- DATE tells the moment.
use Rattle.std.proofs.Common.{◌≡◌, ℕ, ◌/◌, ◌%◌, ◌<◌, ◌≤◌, ◌++◌, refl, sym, arith, Bool, true, false, cond, ◌||◌}
use Rattle.std.specs.Prelude.{◌==◌}
use Rattle.std.specs.Str.Parse.{digits_value}
use Rattle.model.specs.Calendar.{Date, IsDate, IsDateAt, date_at, date_reply, hour_at, minute_at}
use Rattle.model.specs.Calendar.{second_at}
use Rattle.model.specs.Calendar.{days_in_month, is_leap_year, two_digits}
use Rattle.model.specs.Answer.{command_answer}
use Rattle.model.proofs.CalendarLaws.{date_at-date}
use Rattle.model_rfc.specs.Laws.{DateTells}
use Rattle.model_rfc.specs.Times.{number_at}
use Rattle.model_rfc.proofs.Sessions.{digit_is}

two_value : (n : ℕ) → n < 100 → digits_value 10 (two_digits n) ≡ n
two_value n below = rw (digit_is (n / 10 % 10) (omega arith), digit_is (n % 10) (omega arith)) (omega arith)

four_value : (n : ℕ) → n < 10000 → digits_value 10 (two_digits (n / 100) ++ two_digits n) ≡ n
four_value n below =
    rw (
      digit_is (n / 100 / 10 % 10) (omega arith),
      digit_is (n / 100 % 10) (omega arith),
      digit_is (n / 10 % 10) (omega arith),
      digit_is (n % 10) (omega arith),
    ) (omega arith)

-- a month has at most 31 days
few_days : (feb leap short : Bool) → cond feb (cond leap 29 28) (cond short 30 31) ≤ 31
few_days true true short = omega arith
few_days true false short = omega arith
few_days false leap true = omega arith
few_days false leap false = omega arith

days_few : (d : Date) → days_in_month (is_leap_year d.year) d.month ≤ 31
days_few d = few_days (d.month == 2) (is_leap_year d.year) (d.month == 4 || d.month == 6 || d.month == 9 || d.month == 11)

pub date_tells : DateTells
unfolding command_answer
date_tells host S x t within = (
  date_reply t,
  refl,
  record {
    date = date_at t;
    is_date = is;
    year = sym (four_value (date_at t).year (omega (arith, is.year)));
    month = sym (two_value (date_at t).month (omega (arith, is.month_high)));
    day = sym (two_value (date_at t).day (omega (arith, is.day_high, days_few (date_at t))));
    clock = (omega (arith, hours), omega (arith, minutes), omega (arith, seconds));
    moment_is = omega (arith, hours, minutes, seconds, at.day);
  },
)
  where
    at : IsDateAt t (date_at t)
    at = date_at-date t within

    is : IsDate (date_at t)
    is = at.is

    hours : number_at 8 2 (date_reply t) ≡ hour_at t
    hours = two_value (hour_at t) (omega arith)

    minutes : number_at 10 2 (date_reply t) ≡ minute_at t
    minutes = two_value (minute_at t) (omega arith)

    seconds : number_at 12 2 (date_reply t) ≡ second_at t
    seconds = two_value (second_at t) (omega arith)
