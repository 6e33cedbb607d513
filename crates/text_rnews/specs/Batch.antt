-- A batch of articles: what it is, and what is read of its octets.
use Rattle.std.specs.Prelude.{◌≡◌, ℕ, ◌+◌, ◌-◌, ◌≤◌, ◌==◌, nat_eq, nat_le, nat_lt, if◌then◌else◌, List, [], ◌∷◌, ◌++◌, length, take, drop}
use Rattle.std.specs.Prelude.{flat_map, codes, decimal, Option, Some, None, Result, Ok, Err}
use Rattle.std.specs.List.{position_or_len, starts_with}
use Rattle.model.specs.Stream.{Octets, block_limit}
use Rattle.model.specs.Names.{number_of}
use Rattle.text_rnews.specs.declared.rnews_batches.BatchCause.{BatchCause}
use Rattle.text_rnews.specs.declared.rnews_batches.BatchCause.TheVariants.{NoHeader, NoNumber}
use Rattle.text_rnews.specs.declared.rnews_batches.Front.{Front}
use Rattle.text_rnews.specs.declared.rnews_batches.Front.TheVariants.{Text, TooLong}

-- what each header line begins with
abbrev pub keyword : Octets
keyword = codes "#! rnews "

-- the line that states the number of octets of the text after it
abbrev pub header : ℕ → Octets
header size = keyword ++ decimal size ++ 10 ∷ []

-- a text with its header line, as in a batch
abbrev pub entry : Octets → Octets
entry text = header (length text) ++ text

-- the batch of these texts, one after the other
abbrev pub batch : List Octets → Octets
batch texts = flat_map entry texts

-- what is read of a text: the text, or the number of its octets if these are too many for an article
pub data Member : Type 0 where
  text : Octets → Member
  too_long : ℕ → Member

abbrev pub member : Octets → Member
member octets = if nat_le (length octets) block_limit then text octets else too_long (length octets)

-- what is not read yet: so many octets that are passed over as they come, and then these
pub record Unread : Type 0 where
  pub over : ℕ
  pub rest : Octets

-- octets of which none are passed over, and of which the first n are
abbrev pub whole : Octets → Unread
whole octets = record { over = 0; rest = octets }

abbrev pub without : ℕ → Octets → Unread
without n octets = record { over = n - length octets; rest = drop n octets }

-- and when more octets come
abbrev pub fed : Unread → Octets → Unread
fed unread more = record { over = unread.over - length more; rest = unread.rest ++ drop unread.over more }

-- the size that a header line names, without its LF: the number of 1 to 16 digits that follows the keyword
abbrev pub size_in : Option ℕ → Result ℕ BatchCause
size_in None = Err NoNumber
size_in (Some size) = Ok size

abbrev pub size_of : Octets → Result ℕ BatchCause
size_of line = if starts_with nat_eq line keyword then size_in (number_of (drop 9 line)) else Err NoHeader

-- what a batch begins with: a member and what is unread after it; `None` if more octets are needed; or why no batch begins
-- with these octets
abbrev pub Found : Type 0
Found = Result (Option (Member × Unread)) BatchCause

-- a text of this size and what follows it, once all of it has arrived. One that is too long is passed over
abbrev pub split : Octets → Result ℕ BatchCause → Found
split octets (Ok size) =
    if nat_lt block_limit size then Ok (Some (too_long size, without size octets))
    else if nat_le size (length octets) then Ok (Some (text (take size octets), whole (drop size octets))) else Ok None
split octets (Err cause) = Err cause

-- the number of octets before the first LF; for 26 octets without one it is 26, too many for a header line
abbrev pub line_length : Octets → ℕ
line_length octets = position_or_len (λ octet. octet == 10) (take 26 octets)

-- the first member of these octets
unfoldable pub first : Octets → Found
first octets =
    let end = line_length octets in
    if nat_lt end (length octets) then split (drop (end + 1) octets) (size_of (take end octets)) else Ok None

-- the next member. While octets are to be passed over, more are needed
abbrev pub next : Unread → Found
next unread = if unread.over == 0 then first unread.rest else Ok None

-- the first text begins and ends at these places, or begins at this place and is too long
abbrev pub IsFront : Octets → Front → Type 0
IsFront octets (Text start end) =
    (start ≤ end) × (end ≤ length octets)
    × (first octets ≡ Ok (Some (text (take (end - start) (drop start octets)), whole (drop end octets))))
IsFront octets (TooLong start size) =
    (start ≤ length octets) × (first octets ≡ Ok (Some (too_long size, without size (drop start octets))))

-- these members are read, up to the end
abbrev pub IsReadAs : List Member → Unread → Type 0
IsReadAs [] unread = unread ≡ whole []
IsReadAs (m ∷ members) unread = (later : Unread) × (next unread ≡ Ok (Some (m, later))) × IsReadAs members later
