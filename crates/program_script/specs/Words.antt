-- Words of a script's line (this project's rule).
use Rattle.std.specs.Prelude.{ℕ, Bool, ◌+◌, ◌^◌, ◌==◌, ◌&&◌, ◌||◌, nat_le, nat_lt, if◌then◌else◌, [], ◌∷◌, take, drop, get_or, Option, Some}
use Rattle.std.specs.Prelude.{None}
use Rattle.std.specs.Prelude.{bytes_eq, codes, option_and_then, option_map}
use Rattle.std.specs.List.{list_all, position}
use Rattle.std.specs.Result.{result_ok}
use Rattle.std.specs.Char.{is_ascii_digit}
use Rattle.std.specs.Str.Parse.{digits_value}
use Rattle.hex.specs.Hex.{decode_of, decode_sized}
use Rattle.model.specs.Stream.{Octets}
use Rattle.model.specs.Names as article
use Rattle.model.specs.Names.{is_run_of}
use Rattle.model.specs.Calendar.{moment_limit}
use Rattle.model.specs.Spool.{status_octet}
use Rattle.model.specs.declared.values.Status.{Status}
use Rattle.model.specs.declared.values.Status.TheVariants.{Open, Closed}

-- the parts before and after the first of these octets
abbrev pub split_at : ℕ → Octets → Option (Octets × Octets)
split_at octet text = option_map (λ i. (take i text, drop (i + 1) text)) (position (λ x. x == octet) text)

-- the parts before and after the first SP
abbrev pub split_word : Octets → Option (Octets × Octets)
split_word text = split_at 32 text

-- the number that digits write, if it is below 2^64
abbrev pub within_u64 : Octets → Option ℕ
within_u64 digits = if nat_lt (digits_value 10 digits) (2 ^ 64) then Some (digits_value 10 digits) else None

-- the number below 2^64 that one or more digits write
abbrev pub number_of : Octets → Option ℕ
number_of word = if is_run_of is_ascii_digit word then within_u64 word else None

-- the moment that digits write, before the year 10000
abbrev pub moment_of : Octets → Option ℕ
moment_of word = option_and_then (λ n. if nat_lt n moment_limit then Some n else None) (number_of word)

-- the moment that a word writes: for `now` the present one, where there is one
unfoldable pub moment_at : Option ℕ → Octets → Option ℕ
moment_at now word = if bytes_eq word (codes "now") then now else moment_of word

-- the days that digits write: from 1 to 36,500
abbrev pub days_of : Octets → Option ℕ
days_of word = option_and_then (λ n. if nat_le 1 n && nat_le n 36500 then Some n else None) (number_of word)

-- the status that `y` or `n` writes
unfoldable pub status_of : Octets → Option Status
status_of [] = None
status_of (octet ∷ []) =
    if octet == status_octet Open then Some Open else (if octet == status_octet Closed then Some Closed else None)
status_of (octet ∷ other ∷ more) = None

-- the number up to which an expiry removes articles, by 1 to 16 digits; it is 0 for 0 and for a number of 2^32 or more,
-- which no article has
abbrev pub expiry_number_of : Octets → Option ℕ
expiry_number_of word = option_map (λ n. if nat_lt n (2 ^ 32) then n else 0) (article.number_of word)

-- the octet that two hexadecimal digits write, in either case
abbrev pub hex_octet : Octets → Option ℕ
hex_octet digits = option_map (λ octets. get_or octets 0 0) (result_ok (decode_sized digits 1))

-- the octets that pairs of hexadecimal digits write
abbrev pub hex_octets : Octets → Option Octets
hex_octets digits = result_ok (decode_of digits)

-- a text that shows nothing: it is empty, or each of its octets is SP or TAB
abbrev pub is_blank : Octets → Bool
is_blank text = list_all (λ x. x == 32 || x == 9) text
