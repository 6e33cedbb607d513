-- Each call keeps what the lock keeps.
use Rattle.std.proofs.Common.{◌≡◌, ◌≢◌, ◌⊎◌, inl, inr, ℕ, zero, suc, ◌+◌, ◌-◌, ◌≤◌, ◌<◌, ◌==◌, Bool, true, false, List, [], ◌∷◌, ◌++◌}
use Rattle.std.proofs.Common.{length, refl, ap, sym, ◌∙◌, subst, arith, get_or, set, length-append, append-nil}
use Rattle.std.specs.Prelude.{find, Option, Some, None, is_some, IsSome, IfSome, filter, not, slice_get, All, if◌then◌else◌}
use Rattle.std.specs.Option.{option_to_list}
use Rattle.std.specs.List.{Contains}
use Rattle.std.proofs.lemmas.Bool.{cases_lt}
use Rattle.std.proofs.lemmas.List.{get_or_default, get_or_past, length-set}
use Rattle.std.proofs.lemmas.List.Elements.{All-from_get_or, All-get_or, All-head, All-tail, All-weaker, All-push, All-set, All-filter}
use Rattle.model.specs.Stream.{Octets}
use Rattle.model.specs.Spool.{Spool}
use Rattle.model.specs.Replies.{greeting}
use Rattle.model.specs.Service.{mode_of}
use Rattle.model.proofs.LawfulLaws.{session_stays}
use Rattle.model.proofs.ServiceLaws.{news_lawful as lawful, news_blocks_change as its_changes}
use Rattle.model.specs.declared.change.Change.{Change}
use Rattle.model.specs.declared.message.Message.{Message}
use Rattle.model.specs.declared.message.Message.TheVariants.{Line, Block, TooLong}
use Rattle.model.specs.declared.message.Mark.{Mark}
use Rattle.model.specs.declared.message.Mode.{Mode}
use Rattle.model.specs.declared.session.Session.{Session}
use Rattle.kernel_outbox.specs.Queue.{ReadyEntry, HeldOutput, octets_in}
use Rattle.spool.specs.View.{Dirties, IsSpool, SpoolView}
use Rattle.journal_volume.specs.Volume.{Differs}
use Rattle.kernel.specs.Kernel.{most_dirty, KernelView, is_block, mode_at}
use Rattle.kernel_seats.specs.Seats.{Seat, answered_by, given_of, new_seat, ready, ready_by, ready_of, seat_given, with_seat}
use Rattle.kernel.specs.Kept.{IsKept}
use Rattle.kernel_seats.specs.Kept.{IsSeat, RiseFrom, StillAwaits}
use Rattle.kernel.specs.Serving.{answer_in, Grows}
use Rattle.kernel.specs.Stored.{kernel_of}
use Rattle.kernel_seats.proofs.Keeping.{SeatIsKept-answered}
use Rattle.kernel_seats.proofs.Releasing.{ready_seats, ready_rises, ready_few, seat_gives}
use Rattle.kernel_seats.proofs.SeatsLaws.{RiseFrom-filter, RiseFrom-push, RiseFrom-set, find_at, find_place, seats_more, with_seat_set}
use Rattle.synchrony.proofs.Released.{filled_length}

-- what holds of each session holds of the one at a place
pub all_at : (P : Seat → Type 0) (at : ℕ) (seats : List Seat) (seat : Seat) → All P seats → slice_get seats at ≡ Some seat → P seat
all_at P at [] seat h is = absurd (cc is)
all_at P zero (first ∷ seats) seat h is = let same : first ≡ seat = cc is in subst P same (All-head P first seats h)
all_at P (suc at) (first ∷ seats) seat h is = all_at P at seats seat (All-tail P first seats h) is

pub place_within : (at : ℕ) (seats : List Seat) (seat : Seat) → slice_get seats at ≡ Some seat → at < length seats
place_within at [] seat is = absurd (cc is)
place_within zero (first ∷ seats) seat is = omega arith
place_within (suc at) (first ∷ seats) seat is = omega (arith, place_within at seats seat is)

-- ---- the spool grows

pub record Grown (s s' : SpoolView) (more : List Change) : Type 0 where
  pub host : s'.host ≡ s.host
  pub changes : s'.changes ≡ s.changes ++ more

pub grown : (s s' : SpoolView) (c : Option Change) → Grows s s' c → Grown s s' (option_to_list c)
grown s s' None is = record {
  host = ap (λ (r : SpoolView). r.host) is;
  changes = ap (λ (r : SpoolView). r.changes) is
      ∙ sym (append-nil s.changes);
}
grown s s' (Some c) adds = record { host = adds.host; changes = adds.changes }

flying_more : (f : Option ℕ) (d n m : ℕ) → n ≤ m → IfSome f (λ last. (d ≤ last) × (last ≤ n)) → IfSome f (λ last. (d ≤ last) × (last ≤ m))
flying_more None d n m le h = tt
flying_more (Some last) d n m le h = (h.0, omega (arith, h.1))

-- no block behind the last is dirty
all_below : (s s' : SpoolView) → Dirties s.blocks s'.blocks s.dirty s'.dirty → All (λ n. n < length s.blocks) s.dirty
    → All (λ n. n < length s'.blocks) s'.dirty
all_below s s' dirties below = All-from_get_or (λ n. n < length s'.blocks) s'.dirty 0
    (λ i low. at (get_or s'.dirty i 0)
    ((dirties.exactly (get_or s'.dirty i 0)).0 (i, low, get_or_default s'.dirty i (get_or s'.dirty i 0) 0 low))) where
      at : (k : ℕ) → Contains s.dirty k ⊎ Differs s.blocks s'.blocks k → k < length s'.blocks
      at k (inl was) = omega (
        arith,
        dirties.size,
        subst (λ n. n < length s.blocks) (get_or_default s.dirty was.0 0 k was.1
            ∙ was.2) (All-get_or (λ n. n < length s.blocks) s.dirty was.0 0 was.1 below),
      )
      at k (inr differs) = elim (cases_lt k (length s'.blocks)) [
        | inl low ↦ low
        | inr high ↦ absurd (differs (get_or_past s.blocks k [] (omega (arith, high, dirties.size))
            ∙ sym (get_or_past s'.blocks k [] (omega (arith, high)))))
      ]

-- all but the sessions, after a change or none
pub kept_grown : (s s' : SpoolView) (d : ℕ) (f : Option ℕ) (halted : Bool) (most j : ℕ) (seats : List Seat) (c : Option Change)
    → (IsSome c → length s.dirty ≤ most_dirty (length s.blocks)) → (IsSome c → IsSpool s') → Grows s s' c
    → IsKept (kernel_of s d f halted most j seats) → IsKept (kernel_of s' d f halted most j seats)
kept_grown s s' d f halted most j seats None room sound is h = subst (λ (r : SpoolView). IsKept (kernel_of r d f halted most j seats))
    (sym is) h
kept_grown s s' d f halted most j seats (Some c) room sound adds h =
    let size : length s'.changes ≡ length s.changes + 1 = omega (arith, ap length adds.changes, length-append s.changes (c ∷ [])) in
    let clean = room refl in
    record {
      cache = (sound refl).held;
      durable = omega (arith, h.durable);
      flying = flying_more f d (length s.changes) (length s'.changes) (omega arith) h.flying;
      few_dirty = omega (arith, adds.dirties.few, clean, (sound refl).room.count_few, adds.dirties.size);
      below = all_below s s' adds.dirties h.below;
      distinct = adds.dirties.distinct;
      few_seats = h.few_seats;
      few = h.few;
      seats = subst (λ (p : Octets × Spool). All (IsSeat p.0 p.1 j) seats) (λ i. (sym adds.host i, sym adds.changes i))
          (seats_more s.host s.changes (c ∷ []) j seats h.seats);
      rising = h.rising;
    }

-- ---- exec

some_awaits : (held : List HeldOutput) (output : HeldOutput) (x : Session) → StillAwaits (held ++ output ∷ []) x
some_awaits [] output x = tt
some_awaits (first ∷ held) output x = tt

pub kept_served : (s s' : SpoolView) (d : ℕ) (f : Option ℕ) (halted : Bool) (most j : ℕ) (seats : List Seat) (at : ℕ) (seat seat' : Seat)
    (m : Message) (t : ℕ) (mark : Mark)
    → slice_get seats at ≡ Some seat → IsSome (mode_of seat.session.awaits)
    → (IsSome (answer_in s seat.session m t mark).change → length s.dirty ≤ most_dirty (length s.blocks))
    → (IsSome (answer_in s seat.session m t mark).change → IsSpool s') → Grows s s' (answer_in s seat.session m t mark).change
    → seat' ≡ answered_by s.host s.changes m t mark seat → IsKept (kernel_of s d f halted most j seats)
    → IsKept (kernel_of s' d f halted most j (set seats at seat'))
kept_served s s' d f halted most j seats at seat seat' m t mark place awaited room sound grows is h =
    let k = kept_grown s s' d f halted most j seats (answer_in s seat.session m t mark).change room sound grows h in
    let g = grown s s' (answer_in s seat.session m t mark).change grows in
    let was = all_at (IsSeat s.host s.changes j) at seats seat h.seats place in
    let full = filled_length (answer_in s seat.session m t mark).reply ((lawful s.host).replies s.changes seat.session m t mark) in
    let outputs = SeatIsKept-answered s.host s.changes seat.session m t mark seat.given seat.held awaited full was.outputs in
    let now : IsSeat s.host (s.changes ++ option_to_list (answer_in s seat.session m t mark).change) j
    (answered_by s.host s.changes m t mark seat) =
    record {
      outputs = outputs;
      awaits = some_awaits seat.held _ _;
      lawful = session_stays s.host s.changes seat.session m t mark was.lawful;
      some = was.some;
      spent = was.spent;
    } in
    let here : IsSeat s'.host s'.changes j seat' =
    subst (λ (p : Octets × Spool × Seat). IsSeat p.0 p.1 j p.2) (λ i. (sym g.host i, sym g.changes i, sym is i)) now in
    record {
      cache = k.cache;
      durable = k.durable;
      flying = k.flying;
      few_dirty = k.few_dirty;
      below = k.below;
      distinct = k.distinct;
      few_seats = omega (arith, k.few_seats, length-set seats at seat');
      few = k.few;
      seats = All-set (IsSeat s'.host s'.changes j) seats at seat' here k.seats;
      rising = RiseFrom-set 0 at seats seat seat' h.rising place (ap (λ (x : Seat). x.number) is);
    }

no_block : (m : Message) → is_block m ≡ false → (text : Octets) → m ≢ Block text
no_block (Line line) is text same = cc same
no_block (Block block) is text same = cc is
no_block TooLong is text same = cc same

-- only a block makes a change
pub only_blocks_change : (s : SpoolView) (x : Session) (m : Message) (t : ℕ) (mark : Mark) → is_block m ≡ false
    → IsSome (answer_in s x m t mark).change → ⊥
only_blocks_change s x m t mark other some = let none = its_changes s.host s.changes x m t mark (no_block m other) in
    cc (some, ap (λ (o : Option Change). is_some o) none)

-- ---- join, leave, take_ready

-- a session that has just begun
new_is_kept : (host : Octets) (S : Spool) (j : ℕ) → IsSeat host S (j + 1) (new_seat host (j + 1))
new_is_kept host S j =
    record {
      outputs = inl (
        0,
        record {
          cut_within = filled_length (greeting host) (lawful host).greets;
          octets = refl;
          dependency = refl;
          ends = refl;
          first_output = refl;
        },
        refl,
      );
      awaits = tt;
      lawful = tt;
      some = omega arith;
      spent = omega arith;
    }

length-filter-le : (p : Seat → Bool) (seats : List Seat) → length (filter p seats) ≤ length seats
length-filter-le p [] = omega arith
length-filter-le p (seat ∷ seats) = go (p seat) (length-filter-le p seats)
  where
    go : (b : Bool) → length (filter p seats) ≤ length seats
        → length (if b then seat ∷ filter p seats else filter p seats) ≤ suc (length seats)
    go true le = omega arith
    go false le = omega arith

pub kept_joined : (s : SpoolView) (d : ℕ) (f : Option ℕ) (halted : Bool) (most j : ℕ) (seats : List Seat) (new : Seat)
    → new ≡ new_seat s.host (j + 1) → length seats < most
    → IsKept (kernel_of s d f halted most j seats) → IsKept (kernel_of s d f halted most (j + 1) (seats ++ new ∷ []))
kept_joined s d f halted most j seats new is few h =
    let this : IsSeat s.host s.changes (j + 1) new = subst (IsSeat s.host s.changes (j + 1)) (sym is) (new_is_kept s.host s.changes j) in
    let others : All (IsSeat s.host s.changes (j + 1)) seats =
    All-weaker (IsSeat s.host s.changes j) (IsSeat s.host s.changes (j + 1)) (λ seat k. record {
      outputs = k.outputs;
      awaits = k.awaits;
      lawful = k.lawful;
      some = k.some;
      spent = omega (arith, k.spent);
    }) seats h.seats in
    record {
      cache = h.cache;
      durable = h.durable;
      flying = h.flying;
      few_dirty = h.few_dirty;
      below = h.below;
      distinct = h.distinct;
      few_seats = omega (arith, length-append seats (new ∷ []));
      few = h.few;
      seats = All-push (IsSeat s.host s.changes (j + 1)) seats new others this;
      rising = RiseFrom-push 0 seats new h.rising (omega (arith, ap (λ (x : Seat). x.number) is))
          (λ k seat place. omega (
            arith,
            (all_at (IsSeat s.host s.changes j) k seats seat h.seats place).spent,
            ap (λ (x : Seat). x.number) is,
          ));
    }

pub kept_left : (s : SpoolView) (d : ℕ) (f : Option ℕ) (halted : Bool) (most j : ℕ) (seats : List Seat) (p : Seat → Bool)
    → IsKept (kernel_of s d f halted most j seats) → IsKept (kernel_of s d f halted most j (filter p seats))
kept_left s d f halted most j seats p h =
    record {
      cache = h.cache;
      durable = h.durable;
      flying = h.flying;
      few_dirty = h.few_dirty;
      below = h.below;
      distinct = h.distinct;
      few_seats = omega (arith, length-filter-le p seats, h.few_seats);
      few = h.few;
      seats = All-filter p (IsSeat s.host s.changes j) seats h.seats;
      rising = RiseFrom-filter p 0 seats h.rising;
    }

pub kept_released : (s : SpoolView) (d : ℕ) (f : Option ℕ) (halted : Bool) (most j : ℕ) (seats : List Seat)
    → IsKept (kernel_of s d f halted most j seats) → IsKept (kernel_of s d f halted most j (ready d 65536 seats).seats)
kept_released s d f halted most j seats h =
    record {
      cache = h.cache;
      durable = h.durable;
      flying = h.flying;
      few_dirty = h.few_dirty;
      below = h.below;
      distinct = h.distinct;
      few_seats = omega (arith, ready_few d 65536 seats, h.few_seats);
      few = h.few;
      seats = ready_seats s.host s.changes j d 65536 seats h.seats;
      rising = ready_rises 0 d 65536 seats h.rising;
    }

-- one session gives
pub kept_gave : (s : SpoolView) (d : ℕ) (f : Option ℕ) (halted : Bool) (most j : ℕ) (seats : List Seat) (entries : List ReadyEntry)
    (number : ℕ)
    → IsKept (kernel_of s d f halted most j seats) → IsKept (kernel_of s d f halted most j (ready_of d entries number seats).seats)
kept_gave s d f halted most j seats entries number h = go (find (λ (seat : Seat). seat.number == number) seats) refl
  where
    after : (seat : Seat) (at : ℕ) → slice_get seats at ≡ Some seat → (ended : Bool) → (given_of d entries seat).ended ≡ ended
        → IsKept (kernel_of s d f halted most j
        (if ended then filter (λ (other : Seat). not (other.number == seat.number)) seats else with_seat seats
        (seat_given seat (given_of d entries seat))))
    after seat at place true is = kept_left s d f halted most j seats (λ (other : Seat). not (other.number == seat.number)) h
    after seat at place false is =
        let new : Seat = seat_given seat (given_of d entries seat) in
        let this : IsSeat s.host s.changes j new =
        seat_gives s.host s.changes j d (65536 - octets_in entries) seat
        (all_at (IsSeat s.host s.changes j) at seats seat h.seats place) is in
        subst (λ (xs : List Seat). IsKept (kernel_of s d f halted most j xs)) (with_seat_set 0 at seats seat new h.rising place refl)
        (record {
          cache = h.cache;
          durable = h.durable;
          flying = h.flying;
          few_dirty = h.few_dirty;
          below = h.below;
          distinct = h.distinct;
          few_seats = omega (arith, h.few_seats, length-set seats at new);
          few = h.few;
          seats = All-set (IsSeat s.host s.changes j) seats at new this h.seats;
          rising = RiseFrom-set 0 at seats seat new h.rising place refl;
        })

    go : (o : Option Seat) → find (λ (seat : Seat). seat.number == number) seats ≡ o
        → IsKept (kernel_of s d f halted most j (ready_by d entries seats o).seats)
    go None is = h
    go (Some seat) is = let place = find_place number seats seat is in after seat place.0 place.1 (given_of d entries seat).ended refl

-- a read gives the session at a place
pub same_place : (at : ℕ) (seats : List Seat) (a b : Seat) → slice_get seats at ≡ Some b → a ≡ get_or seats at a → a ≡ b
same_place at [] a b is read = absurd (cc is)
same_place zero (first ∷ seats) a b is read = let same : first ≡ b = cc is in read ∙ same
same_place (suc at) (first ∷ seats) a b is read = same_place at seats a b is read

-- ---- one session found, or none

abbrev mode_by : Option Seat → Option Mode
mode_by None = None
mode_by (Some seat) = mode_of seat.session.awaits

pub mode_found : (k : KernelView) (at : ℕ) (seat : Seat) → RiseFrom 0 k.seats → slice_get k.seats at ≡ Some seat
    → mode_at k seat.number ≡ mode_of seat.session.awaits
mode_found k at seat rise place = ap mode_by (find_at 0 at k.seats seat rise place)

pub mode_missing : (k : KernelView) (sid : ℕ) → find (λ (s : Seat). s.number == sid) k.seats ≡ None → mode_at k sid ≡ None
mode_missing k sid none = ap mode_by none

pub filter_missing : (sid : ℕ) (seats : List Seat) → find (λ (s : Seat). s.number == sid) seats ≡ None
    → filter (λ (s : Seat). not (s.number == sid)) seats ≡ seats
filter_missing sid [] none = refl
filter_missing sid (first ∷ seats) none = go (λ h. filter_missing sid seats h) (first.number == sid) refl none
  where
    go : (find (λ (s : Seat). s.number == sid) seats ≡ None → filter (λ (s : Seat). not (s.number == sid)) seats ≡ seats) → (b : Bool)
        → (first.number == sid) ≡ b → (if b then Some first else find (λ (s : Seat). s.number == sid) seats) ≡ None
        → (if not (first.number == sid) then first ∷ filter (λ (s : Seat). not (s.number == sid)) seats else filter
        (λ (s : Seat). not (s.number == sid)) seats) ≡ first ∷ seats
    go later true is h = absurd (cc h)
    go later false is h = ap (λ (b : Bool). if not b then first ∷ filter (λ (s : Seat). not (s.number == sid)) seats else filter
        (λ (s : Seat). not (s.number == sid)) seats) is ∙ ap (λ (ss : List Seat). first ∷ ss) (later h)
