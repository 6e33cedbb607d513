-- What an import makes of the octets that it reads.
use Rattle.std.specs.Prelude.{◌≡◌, ◌⊎◌, ℕ, ◌+◌, ◌-◌, ◌^◌, min, Bool, true, false, if◌then◌else◌, List, [], ◌∷◌, ◌++◌, map, replicate}
use Rattle.std.specs.Prelude.{Option, Some, None, Ok}
use Rattle.std.specs.Io.KnownBytes.{Consumes, IsAtEnd}
use Rattle.model.specs.Stream.{Octets}
use Rattle.model.specs.declared.cause.Cause.TheVariants.{Long}
use Rattle.text_rnews.specs.Batch.{Member, Unread, fed, next, text, too_long, whole}
use Rattle.text_rnews.specs.LineEnds.{with_crlf}
use Rattle.spool.specs.View.{SpoolView}
use Rattle.volume_store.specs.Filing.{Becomes}
use Rattle.volume_store.specs.declared.outcome.TextOutcome.{TextOutcome}
use Rattle.volume_store.specs.declared.outcome.TextOutcome.TheVariants.{Filed, Here, NoGroup, Refused, Full}
use Rattle.volume_store.specs.declared.outcome.TextRefusal.TheVariants.{NotAnArticle}
use Rattle.volume_importing.specs.declared.batch_filing.ImportCounts.{ImportCounts}
use Rattle.volume_importing.specs.declared.batch_filing.ImportStop.{ImportStop}

-- a member of a batch, the moment at which it was tried, and what became of it
pub record Tried : Type 0 where
  pub member : Member
  pub moment : ℕ
  pub outcome : TextOutcome

-- the same changes, of which more may be durable
abbrev pub IsSame : SpoolView → SpoolView → Type 0
IsSame old new = new ≡ record old { dirty = new.dirty }

-- a text is filed as a transfer would be, with lines that end in CRLF; one that is too long is refused
abbrev pub BecomesOf : SpoolView → SpoolView → Member → ℕ → TextOutcome → Type 0
BecomesOf old new (text octets) moment outcome = Becomes old new (with_crlf octets) moment outcome
BecomesOf old new (too_long size) moment outcome = (outcome ≡ Refused (NotAnArticle Long)) × (new ≡ old)

-- each member was tried in turn, on what those before it had left
abbrev pub Tries : SpoolView → List Tried → SpoolView → Type 0
Tries old [] new = IsSame old new
Tries old (t ∷ more) new =
    (now later : SpoolView) × IsSame old now × BecomesOf now later t.member t.moment t.outcome × Tries later more new

-- what is unread begins with these members, and this is left
abbrev pub IsReadTo : List Member → Unread → Unread → Type 0
IsReadTo [] unread left = unread ≡ left
IsReadTo (m ∷ members) unread left = (later : Unread) × (next unread ≡ Ok (Some (m, later))) × IsReadTo members later left

-- ---- counts

abbrev pub is_filed : TextOutcome → Bool
is_filed (Filed serial) = true
is_filed Here = false
is_filed NoGroup = false
is_filed (Refused why) = false
is_filed Full = false

abbrev pub is_here : TextOutcome → Bool
is_here (Filed serial) = false
is_here Here = true
is_here NoGroup = false
is_here (Refused why) = false
is_here Full = false

abbrev pub has_no_group : TextOutcome → Bool
has_no_group (Filed serial) = false
has_no_group Here = false
has_no_group NoGroup = true
has_no_group (Refused why) = false
has_no_group Full = false

-- a text for which one of its groups has no room counts as refused
abbrev pub is_refused : TextOutcome → Bool
is_refused (Filed serial) = false
is_refused Here = false
is_refused NoGroup = false
is_refused (Refused why) = true
is_refused Full = true

-- a count that goes on with these outcomes, and stops at 2^64 - 1
abbrev pub counted : (TextOutcome → Bool) → ℕ → List TextOutcome → ℕ
counted counts n [] = n
counted counts n (outcome ∷ more) = counted counts (if counts outcome then min (n + 1) (2 ^ 64 - 1) else n) more

-- the counts after these outcomes
pub record AreCounted (before : ImportCounts) (outcomes : List TextOutcome) (after : ImportCounts) : Type 0 where
  pub filed : after.filed ≡ counted is_filed before.filed outcomes
  pub here : after.here ≡ counted is_here before.here outcomes
  pub no_group : after.no_group ≡ counted has_no_group before.no_group outcomes
  pub refused : after.refused ≡ counted is_refused before.refused outcomes

-- no text yet
abbrev pub none_counted : ImportCounts
none_counted = record { filed = 0; here = 0; no_group = 0; refused = 0; by_cause = replicate 10 0 }

-- ---- an import

-- the text counts, or there was no room for it and it doesn't
abbrev pub IsNoted : ImportCounts → TextOutcome → ImportCounts → Type 0
IsNoted before outcome after = AreCounted before (outcome ∷ []) after ⊎ ((outcome ≡ Full) × (after ≡ before))

-- of what is unread some members were read and tried, in order, and counted
pub record Imports (old new : SpoolView) (unread left : Unread) (before after : ImportCounts) : Type 0 where
  pub tried : List Tried
  pub read : IsReadTo (map (λ (t : Tried). t.member) tried) unread left
  pub filed : Tries old tried new
  pub counted : AreCounted before (map (λ (t : Tried). t.outcome) tried) after

-- of an input with these octets before and after some were read, and of those that were held, the same
pub record HasRead (old new : SpoolView) (before now : Option (List ℕ)) (held left : Unread) (counts after : ImportCounts) : Type 0 where
  pub octets : Octets
  pub consumed : Consumes before now octets
  pub imports : Imports old new (fed held octets) left counts after

-- an import from such an input: where it came to no stop, all octets were read, as whole texts and those that are too long
pub record HasImported (old new : SpoolView) (before now : Option (List ℕ)) (counts : ImportCounts) (stop : Option ImportStop)
    : Type 0 where
  pub left : Unread
  pub reads : HasRead old new before now (whole []) left none_counted counts
  pub ended : stop ≡ None → (left ≡ whole []) × IsAtEnd now

-- an import from such an input that failed: what it read, tried and filed until then
abbrev pub HasTried : SpoolView → SpoolView → Option (List ℕ) → Option (List ℕ) → Type 0
HasTried old new before now = (left : Unread) × (counts : ImportCounts) × HasRead old new before now (whole []) left none_counted counts
