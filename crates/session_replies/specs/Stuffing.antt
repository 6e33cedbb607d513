-- Dot-stuffing octet by octet: what is sent for an octet depends on the two octets before it.
use Rattle.std.specs.Prelude.{◌≡◌, ℕ, ◌+◌, ◌<◌, ◌&&◌, ◌==◌, false, if◌then◌else◌, [], ◌∷◌, ◌++◌, length, take, drop}
use Rattle.model.specs.Stream.{Octets}
use Rattle.session_replies.specs.declared.stuffing.Stuffing.{Stuffing}

-- the state after one more octet: a line begins after CRLF
abbrev pub step : Stuffing → ℕ → Stuffing
step s x = record { fresh = s.after_cr && (x == 10); after_cr = x == 13 }

-- the state after some more octets
abbrev pub after : Stuffing → Octets → Stuffing
after s [] = s
after s (x ∷ rest) = after (step s x) rest

-- what is sent for an octet: a dot that begins a line gets another dot before it (RFC 3977, section 3.1.1)
abbrev pub dotted : Stuffing → ℕ → Octets
dotted s x = if s.fresh && (x == 46) then 46 ∷ x ∷ [] else x ∷ []

-- what is sent for some octets
abbrev pub stuffed_from : Stuffing → Octets → Octets
stuffed_from s [] = []
stuffed_from s (x ∷ rest) = dotted s x ++ stuffed_from (step s x) rest

-- the state after an octet inside a line that is no CR
abbrev pub inside : Stuffing
inside = record { fresh = false; after_cr = false }

-- the first dot that begins a line: the octets up to it are sent as they are, and so is it, and then another dot
pub record IsFirstDoubled (s : Stuffing) (octets : Octets) (at : ℕ) : Type 0 where
  pub within : at < length octets
  pub sent : stuffed_from s octets ≡ take (at + 1) octets ++ (46 ∷ stuffed_from inside (drop (at + 1) octets))
  pub state : after s octets ≡ after inside (drop (at + 1) octets)
