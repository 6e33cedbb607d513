-- The kernel as its callers see it, and what each call does.
use Rattle.std.specs.Prelude.{All, bytes_eq, slice_index_or, ◌≡◌, ◌⊎◌, ℕ, ◌+◌, ◌-◌, ◌^◌, ◌≤◌, ◌<◌, Bool, true, false, not, ◌&&◌, ◌||◌, ◌==◌}
use Rattle.std.specs.Prelude.{nat_lt, nat_le, if◌then◌else◌, List, [], ◌∷◌, ◌++◌, map, filter, find, length, Option, Some, None, is_none}
use Rattle.model.specs.Files.{bitmap_blocks}
use Rattle.std.specs.Prelude.{is_some, Result, Ok, Err, MatchResult}
use Rattle.std.specs.List.{list_any}
use Rattle.std.specs.Option.{option_to_list}
use Rattle.model.specs.Stream.{Octets}
use Rattle.model.specs.Spool.{Spool, is_here}
use Rattle.model.specs.Answer.{answer, is_long}
use Rattle.model.specs.Room.{is_full}
use Rattle.model.specs.Service.{mode_of}
use Rattle.model.specs.Volume.{laid_over, AreDistinct}
use Rattle.model.specs.declared.change.Change.{Change}
use Rattle.model.specs.declared.change.Change.TheVariants as change
use Rattle.model.specs.declared.message.Message.{Message}
use Rattle.model.specs.declared.message.Message.TheVariants as message
use Rattle.model.specs.declared.message.Mark.{Mark}
use Rattle.model.specs.declared.message.Mark.TheVariants as mark
use Rattle.model.specs.declared.message.Mode.{Mode}
use Rattle.model.specs.declared.message.Mode.TheVariants as mode
use Rattle.model.specs.declared.session.Session.{Session}
use Rattle.session.specs.Served.{refusal_in}
use Rattle.spool.specs.Refusals.{has_number}
use Rattle.kernel_outbox.specs.Queue.{ReadyEntry, buffered as octets_held}
use Rattle.kernel_seats.specs.declared.Outcome.{Outcome}
use Rattle.kernel_seats.specs.Seats.{Seat, answered_by, new_seat, ready, ready_of, with_seat}

pub record KernelView : Type 0 where
  pub host : Octets
  pub inodes : ℕ
  -- the accepted changes
  pub spool : Spool
  -- the cached blocks, and the numbers of those that changed since the last batch was taken
  pub blocks : List Octets
  pub dirty : List ℕ
  -- the last serial that is known to be on disk, and the last serial of the batch in flight
  pub durable : ℕ
  pub in_flight : Option ℕ
  pub halted : Bool
  -- the most sessions that it may have
  pub most : ℕ
  -- the number that was last given to a session
  pub joined : ℕ
  -- the sessions that exist, in rising number
  pub seats : List Seat

-- the number of dirty blocks with more than which no change is made: a batch has at most 512, and a change dirties at most 254 and
-- those of the bitmap
abbrev pub most_dirty : ℕ → ℕ
most_dirty count = 258 - bitmap_blocks count

-- ---- which test fails first

pub data Refusal : Type 0 where
  Halted : Refusal
  TooManySessions : Refusal
  LaterDirty : Refusal
  LaterOut : Refusal
  NoSession : Refusal
  Exists : Refusal
  NotFound : Refusal
  Full : Refusal

abbrev pub first_failing : List (Bool × Refusal) → Option Refusal
first_failing [] = None
first_failing (test ∷ tests) = if test.0 then Some test.1 else first_failing tests

abbrev pub seat_of : KernelView → ℕ → Option Seat
seat_of kernel number = find (λ (seat : Seat). seat.number == number) kernel.seats

abbrev pub mode_at : KernelView → ℕ → Option Mode
mode_at kernel number = mode_in (seat_of kernel number) where
  mode_in : Option Seat → Option Mode
  mode_in None = None
  mode_in (Some seat) = mode_of seat.session.awaits

abbrev pub buffered : KernelView → ℕ → ℕ
buffered kernel number = buffered_in (seat_of kernel number) where
  buffered_in : Option Seat → ℕ
  buffered_in None = 0
  buffered_in (Some seat) = octets_held seat.held

abbrev pub is_block : Message → Bool
is_block (message.Block text) = true
is_block m = false

-- the message is one that framing hands out in this mode: a line of at most 510 octets, or a text of at most 262,144
abbrev pub FitsMode : Option Mode → Message → Type 0
FitsMode (Some mode.Line) (message.Line text) = length text ≤ 510
FitsMode (Some mode.Block) (message.Block text) = length text ≤ 262144
FitsMode (Some m) message.TooLong = Unit {0}
FitsMode None m = Unit {0}
FitsMode (Some m) other = ⊥

abbrev pub join_refusal : KernelView → Option Refusal
join_refusal kernel = first_failing
    ((kernel.halted, Halted) ∷ (nat_le kernel.most (length kernel.seats) || kernel.joined == 2 ^ 64 - 1, TooManySessions) ∷ [])

abbrev pub exec_refusal : KernelView → ℕ → Message → Option Refusal
exec_refusal kernel number m =
    first_failing ((is_none (mode_at kernel number), NoSession) ∷ (nat_le 1048576 (buffered kernel number), LaterOut) ∷
    (not kernel.halted && is_block m && nat_lt (most_dirty (length kernel.blocks)) (length kernel.dirty), LaterDirty) ∷ [])

-- ---- exec

-- the mark that an entry gets
abbrev pub mark_for : KernelView → Session → Message → ℕ → Mark
mark_for kernel x m t =
    if kernel.halted then mark.Stopped
    else if is_long kernel.host kernel.spool x m then mark.Long
    else if is_full kernel.blocks kernel.inodes kernel.spool (answer kernel.host kernel.spool x m t mark.Served).change then
    mark.Full
    else mark.Served

abbrev pub answered : KernelView → Message → ℕ → Mark → Seat → Seat
answered kernel m t mark seat = answered_by kernel.host kernel.spool m t mark seat

-- whether this block changed since the last batch was taken
abbrev pub is_dirty : KernelView → ℕ → Bool
is_dirty kernel k = list_any (λ (n : ℕ). n == k) kernel.dirty

-- whether there is a block of this number, and it didn't change since then
abbrev pub is_clean : KernelView → ℕ → Bool
is_clean kernel k = nat_lt k (length kernel.blocks) && not (is_dirty kernel k)

-- such a block, with its octets
pub record IsClean (kernel : KernelView) (k : ℕ) (octets : Octets) : Type 0 where
  pub clean : is_clean kernel k ≡ true
  pub octets_are : octets ≡ slice_index_or kernel.blocks k []
  pub whole : length octets ≡ 4096

-- the dirty blocks are those that were dirty, and those that differ now; one change dirties at most 254 and those of the bitmap
pub record Dirties (old new : KernelView) : Type 0 where
  pub size : length new.blocks ≡ length old.blocks
  pub exactly : (k : ℕ) → k < length new.blocks →
      is_dirty new k ≡ (is_dirty old k || not (bytes_eq (slice_index_or old.blocks k []) (slice_index_or new.blocks k [])))
  pub few : length new.dirty ≤ length old.dirty + (254 + bitmap_blocks (length old.blocks))

-- the plain server's answer on the present spool, with this mark
pub record Executed (old new : KernelView) (seat : Seat) (m : Message) (t : ℕ) (mark : Mark) : Type 0 where
  pub host : new.host ≡ old.host
  pub inodes : new.inodes ≡ old.inodes
  pub spool : new.spool ≡ old.spool ++ option_to_list (answer old.host old.spool seat.session m t mark).change
  pub seats : new.seats ≡ with_seat old.seats (answered old m t mark seat)
  pub durable : new.durable ≡ old.durable
  pub in_flight : new.in_flight ≡ old.in_flight
  pub halted : new.halted ≡ old.halted
  pub most : new.most ≡ old.most
  pub joined : new.joined ≡ old.joined
  pub blocks : Dirties old new
  -- an answer without a change leaves each block as it was
  pub still : (answer old.host old.spool seat.session m t mark).change ≡ None → (new.blocks ≡ old.blocks) × (new.dirty ≡ old.dirty)

-- ---- take_batch

abbrev pub has_batch : KernelView → Bool
has_batch kernel = not (length kernel.dirty == 0 || is_some kernel.in_flight || kernel.halted)

abbrev pub taken : KernelView → KernelView
taken kernel = record kernel { dirty = []; in_flight = Some (length kernel.spool) }

-- ---- tests in their order

-- if a test fails, that refusal, and nothing changes; if none does, the call is done, or memory is refused and nothing
-- changes
abbrev pub Tested : {A E V : Type 0} → (Refusal → E) → E → Option Refusal → V → V → Result A E → (A → Type 0) → Type 0
Tested as_error memory (Some refusal) old new result done = (result ≡ Err (as_error refusal)) × (new ≡ old)
Tested as_error memory None old new result done = MatchResult result done (λ error. (error ≡ memory) × (new ≡ old))

-- the same, but memory may be refused before a test is reached, though not before one of the early tests
abbrev pub TestedOrMemory : {A E V : Type 0} → (Refusal → E) → E → Option Refusal → Option Refusal → V → V → Result A E → (A → Type 0)
    → Type 0
TestedOrMemory as_error memory early refusal old new result done =
    MatchResult result
    (λ answer. (refusal ≡ None) × done answer)
    (λ error. (((error ≡ memory) × (early ≡ None)) ⊎ ((r : Refusal) × (refusal ≡ Some r) × (error ≡ as_error r))) × (new ≡ old))

-- the answer of a call that tests and does nothing else
abbrev pub only_tested : {E : Type 0} → (Refusal → E) → Option Refusal → Result (Unit {0}) E
only_tested as_error None = Ok tt
only_tested as_error (Some refusal) = Err (as_error refusal)

-- blocks that are the cached ones except for the dirty ones
pub record AgreesBehind (kernel : KernelView) (base : List Octets) : Type 0 where
  pub size : length base ≡ length kernel.blocks
  pub clean : (k : ℕ) → k < length kernel.blocks → is_dirty kernel k ≡ false → slice_index_or base k [] ≡ slice_index_or kernel.blocks k []

-- what take_batch hands out: the dirty blocks. Laid over those of the last batch, they give the cached blocks
pub record Takes (old new : KernelView) (numbers : List ℕ) (images : List Octets) (last : ℕ) : Type 0 where
  pub last_is : last ≡ length old.spool
  pub kernel : new ≡ taken old
  pub numbers_are : numbers ≡ old.dirty
  pub some : 1 ≤ length numbers
  pub few : length numbers ≤ 512
  pub below : All (λ n. n < length old.blocks) numbers
  pub distinct : AreDistinct numbers
  pub images_are : images ≡ map (λ n. slice_index_or old.blocks n []) numbers
  pub lays : (base : List Octets) → AgreesBehind old base → laid_over base numbers images ≡ old.blocks

-- ---- the small calls

abbrev pub joined : KernelView → KernelView
joined kernel = record kernel { joined = kernel.joined + 1; seats = kernel.seats ++ new_seat kernel.host (kernel.joined + 1) ∷ [] }

abbrev pub left : KernelView → ℕ → KernelView
left kernel number = record kernel { seats = filter (λ (seat : Seat). not (seat.number == number)) kernel.seats }

abbrev pub made_durable : KernelView → ℕ → KernelView
made_durable kernel last = record kernel { durable = last; in_flight = None }

abbrev pub halted_for_good : KernelView → KernelView
halted_for_good kernel = record kernel { halted = true }

abbrev pub released : KernelView → KernelView
released kernel = record kernel { seats = (ready kernel.durable 65536 kernel.seats).seats }

-- one session gives what is ready, after these entries
abbrev pub released_of : KernelView → List ReadyEntry → ℕ → KernelView
released_of kernel entries number = record kernel { seats = (ready_of kernel.durable entries number kernel.seats).seats }

-- what exec does to a session that exists: it answers what is read next, the mark, whether a change was accepted, and why an article
-- isn't filed
pub record Execs (old new : KernelView) (number : ℕ) (m : Message) (t : ℕ) (outcome : Outcome) : Type 0 where
  pub seat : Seat
  pub is_there : seat_of old number ≡ Some seat
  pub mark_is : outcome.mark ≡ mark_for old seat.session m t
  pub executed : Executed old new seat m t outcome.mark
  pub refusal : outcome.refusal ≡ refusal_in old.host old.spool seat.session m outcome.mark
  pub accepted : outcome.has_accepted ≡ is_some (answer old.host old.spool seat.session m t outcome.mark).change
  pub next : outcome.next ≡ mode_at new number

-- the tests of admin and expire that come before any growth
abbrev pub early_refusal : KernelView → Option Refusal
early_refusal kernel = first_failing ((kernel.halted, Halted)
    ∷ (nat_lt (most_dirty (length kernel.blocks)) (length kernel.dirty), LaterDirty) ∷ [])

-- whether a group with the name that the change gives exists already
abbrev pub makes_again : Spool → Change → Bool
makes_again S (change.Group g) = is_here S g.name
makes_again S (change.Article f) = false
makes_again S (change.Expire e) = false

-- all of its tests: a group with that name exists, or there is no room for the change
abbrev pub admin_refusal_of : KernelView → Change → Option Refusal
admin_refusal_of kernel c =
    first_failing (
    (kernel.halted, Halted) ∷ (nat_lt (most_dirty (length kernel.blocks)) (length kernel.dirty), LaterDirty)
    ∷ (makes_again kernel.spool c, Exists)
    ∷ (is_full kernel.blocks kernel.inodes kernel.spool (Some c), Full) ∷ [])

-- whether the change removes a number that the group does not have
abbrev pub takes_none : Spool → Change → Bool
takes_none S (change.Group g) = false
takes_none S (change.Article f) = false
takes_none S (change.Expire e) = not (has_number S e.group e.number)

-- all tests of expire: the group does not exist or does not have the number, or there is no room for the change
abbrev pub expire_refusal_of : KernelView → Change → Option Refusal
expire_refusal_of kernel c =
    first_failing (
    (kernel.halted, Halted) ∷ (nat_lt (most_dirty (length kernel.blocks)) (length kernel.dirty), LaterDirty)
    ∷ (takes_none kernel.spool c, NotFound)
    ∷ (is_full kernel.blocks kernel.inodes kernel.spool (Some c), Full) ∷ [])

-- the operator's change is accepted: a group is made, or articles are removed from one
pub record Administers (old new : KernelView) (change : Change) (serial : ℕ) : Type 0 where
  pub serial_is : serial ≡ length old.spool + 1
  pub spool : new.spool ≡ old.spool ++ change ∷ []
  pub blocks : Dirties old new
  pub rest : (new.host ≡ old.host) × (new.inodes ≡ old.inodes) × (new.seats ≡ old.seats) × (new.durable ≡ old.durable)
      × (new.in_flight ≡ old.in_flight) × (new.halted ≡ old.halted) × (new.joined ≡ old.joined)
      × (new.most ≡ old.most)
