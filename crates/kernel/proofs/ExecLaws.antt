-- What `exec` does, from its parts.
use Rattle.std.proofs.Common.{◌≡◌, ◌≢◌, ◌⊎◌, inl, inr, ℕ, zero, suc, ◌≤◌, Bool, true, false, List, [], ◌∷◌, length, refl, ap, sym, ◌∙◌}
use Rattle.std.proofs.Common.{◌<◌, subst, arith, get_or, set}
use Rattle.std.specs.Prelude.{Option, Some, None, Result, Ok, Err, MatchResult, IsSome, is_none, is_some, not, ◌||◌, ◌&&◌, bytes_eq, nat_le}
use Rattle.std.specs.Prelude.{nat_lt, slice_get, slice_index_or, if◌then◌else◌}
use Rattle.std.proofs.Math.Bool.{or-false, or-true}
use Rattle.std.proofs.lemmas.Bool.{le-leb, lt-leb, ltb-false, or_cases}
use Rattle.std.proofs.lemmas.List.Elements.{All-set}
use Rattle.std.specs.Option.{option_to_list}
use Rattle.model.specs.declared.session.Answer.{Answer}
use Rattle.model.specs.declared.session.Session.{Session}
use Rattle.model.proofs.Joined.{bytes_same}
use Rattle.model.proofs.ServiceLaws.{news_stopped as stopped_answer}
use Rattle.model.specs.Answer.{answer, is_long}
use Rattle.model.specs.Lawful.{IsLawfulSession}
use Rattle.model.specs.Room.{is_full}
use Rattle.kernel_outbox.specs.Queue.{buffered as octets_held}
use Rattle.kernel_outbox.specs.Lines.{octets_waiting, plain}
use Rattle.kernel_outbox.specs.declared.made_lines.Lines.{Lines}
use Rattle.kernel_outbox.proofs.LinesLaws.{waiting_is}
use Rattle.kernel.specs.Errors.{of_exec}
use Rattle.kernel_shared.specs.declared.errors.ExecError.{ExecError}
use Rattle.kernel_shared.specs.declared.errors.ExecError.TheVariants.{Memory}
use Rattle.std.proofs.lemmas.Slice.Eq.{bytes_eq-Decides}
use Rattle.model.specs.Stream.{Octets}
use Rattle.model.specs.Service.{mode_of}
use Rattle.model.specs.Spool.{Spool}
use Rattle.model.specs.declared.change.Change.{Change}
use Rattle.model.specs.declared.message.Message.{Message}
use Rattle.model.specs.declared.message.Mark.{Mark}
use Rattle.model.specs.declared.message.Mark.TheVariants as mark
use Rattle.model.specs.declared.message.Mode.{Mode}
use Rattle.session.specs.Served.{lacks_room_for, refusal_in}
use Rattle.session_posting.specs.declared.refusals.Refusal.TheVariants.{Stopped}
use Rattle.spool.specs.View.{Adds, IsSpool, SpoolView}
use Rattle.spool.specs.View as changed
use Rattle.std.specs.Cmp.{both_ways}
use Rattle.std.specs.List.{Contains}
use Rattle.journal_volume.specs.Volume.{Differs}
use Rattle.kernel.specs.Kernel.{most_dirty, KernelView, Refusal, NoSession, LaterOut, LaterDirty, Dirties, Executed, Execs, Tested}
use Rattle.kernel.specs.Kernel.{exec_refusal}
use Rattle.kernel.specs.Kernel.{first_failing, is_block, is_dirty, mark_for, mode_at, seat_of, buffered}
use Rattle.kernel_seats.specs.declared.Outcome.{Outcome}
use Rattle.kernel_seats.specs.Seats.{Seat, answered_by, with_seat}
use Rattle.kernel_seats.specs.Kept.{IsSeat, RiseFrom}
use Rattle.kernel_seats.specs.Serving.{SeatServed}
use Rattle.kernel.specs.Serving.{Grows, answer_in, mark_in}
use Rattle.kernel.specs.Stored.{AreKept, kernel_of, seen_kernel}
use Rattle.kernel_seats.specs.Lined.{LinedSeat, SeatIsLined, all_seen, answered_with, seen}
use Rattle.kernel_seats.proofs.SeatLaws.{lined_answered, seen_answered}
use Rattle.kernel_seats.proofs.Seeing.{seen_at, seen_place}
use Rattle.spool_texts.specs.Parts.{HasLines, lines_of}
use Rattle.kernel.specs.Kept.{IsKept}
use Rattle.kernel.specs.declared.Kernel.TheInside.{Inside}
use Rattle.kernel.proofs.KernelLaws.{all_at, grown, kept_served, mode_found, only_blocks_change, same_place}
use Rattle.kernel.proofs.Lined.{lined_at, lined_grown, seat_stays, seat_still_lined, seen_set}
use Rattle.kernel_seats.proofs.SeatsLaws.{RiseFrom-set, find_at, set_get, with_seat_set}
use Rattle.kernel.proofs.TakingLaws.{among, contained}

-- ---- tests in their order

pub tested_refused : {A E V : Type 0} (as_error : Refusal → E) (memory : E) (refusal : Option Refusal) (r : Refusal) (old new : V)
    (result : Result A E) (done : A → Type 0)
    → refusal ≡ Some r → result ≡ Err (as_error r) → new ≡ old → Tested as_error memory refusal old new result done
tested_refused as_error memory None r old new result done is said same = absurd (cc is)
tested_refused as_error memory (Some q) r old new result done is said same = let this : r ≡ q = cc is in
    (said ∙ ap (λ (x : Refusal). Err (as_error x)) this, same)

pub tested_done : {A E V : Type 0} (as_error : Refusal → E) (memory : E) (refusal : Option Refusal) (old new : V) (result : Result A E)
    (done : A → Type 0)
    → refusal ≡ None → MatchResult result done (λ error. (error ≡ memory) × (new ≡ old))
    → Tested as_error memory refusal old new result done
tested_done as_error memory None old new result done is h = h
tested_done as_error memory (Some q) old new result done is h = absurd (cc is)

module _ (k : KernelView) (sid : ℕ) (m : Message) where
  abbrev by_tests : Bool → Bool → Bool → Option Refusal
  by_tests a b c = first_failing ((a, NoSession) ∷ (b, LaterOut) ∷ (c, LaterDirty) ∷ [])

  pub no_session : mode_at k sid ≡ None → exec_refusal k sid m ≡ Some NoSession
  no_session is = ap (λ (o : Option Mode). by_tests (is_none o) (nat_le 1048576 (buffered k sid))
      (not k.halted && is_block m && nat_lt (most_dirty (length k.blocks)) (length k.dirty))) is

  pub later_out : is_none (mode_at k sid) ≡ false → nat_le 1048576 (buffered k sid) ≡ true → exec_refusal k sid m ≡ Some LaterOut
  later_out there many = λ i. by_tests (there i) (many i)
      (not k.halted && is_block m && nat_lt (most_dirty (length k.blocks)) (length k.dirty))

  pub later_dirty : is_none (mode_at k sid) ≡ false → nat_le 1048576 (buffered k sid) ≡ false
      → (not k.halted && is_block m && nat_lt (most_dirty (length k.blocks)) (length k.dirty)) ≡ true → exec_refusal k sid m
      ≡ Some LaterDirty
  later_dirty there few many = λ i. by_tests (there i) (few i) (many i)

  pub none_fails : is_none (mode_at k sid) ≡ false → nat_le 1048576 (buffered k sid) ≡ false
      → (not k.halted && is_block m && nat_lt (most_dirty (length k.blocks)) (length k.dirty)) ≡ false → exec_refusal k sid m ≡ None
  none_fails there few clean = λ i. by_tests (there i) (few i) (clean i)

-- ---- what is done

-- no change dirties nothing
same_dirties : (s : SpoolView) (d : ℕ) (f : Option ℕ) (h : Bool) (most j : ℕ) (seats seats' : List Seat)
    → Dirties (kernel_of s d f h most j seats) (kernel_of s d f h most j seats')
same_dirties s d f h most j seats seats' =
    record {
      size = refl;
      exactly = λ k inside. sym (ap (λ (b : Bool). is_dirty (kernel_of s d f h most j seats) k || not b)
          (bytes_same (slice_index_or s.blocks k [])) ∙ or-false (is_dirty (kernel_of s d f h most j seats) k));
      few = omega arith;
    }

-- the test for another block
is_other : (xs ys : Octets) → xs ≢ ys → not (bytes_eq xs ys) ≡ true
is_other xs ys other = go (bytes_eq xs ys) refl where
  go : (b : Bool) → bytes_eq xs ys ≡ b → not b ≡ true
  go true is = absurd (other ((bytes_eq-Decides xs ys).0 is))
  go false is = refl

differ : (xs ys : Octets) → not (bytes_eq xs ys) ≡ true → xs ≢ ys
differ xs ys is same = absurd (cc (is, (bytes_eq-Decides xs ys).1 same))

-- the dirty blocks as the spool says them
pub changed_dirties : (s s' : SpoolView) (d : ℕ) (f : Option ℕ) (h : Bool) (most j : ℕ) (seats seats' : List Seat)
    → changed.Dirties s.blocks s'.blocks s.dirty s'.dirty
    → Dirties (kernel_of s d f h most j seats) (kernel_of s' d f h most j seats')
changed_dirties s s' d f h most j seats seats' is =
    record {
      size = is.size;
      exactly = λ k inside. both_ways (is_dirty new k) (is_dirty old k || other k)
          (λ now. from k ((is.exactly k).0 (contained k s'.dirty now))) (λ said. among k s'.dirty ((is.exactly k).1 (to k said)));
      few = is.few;
    } where
      old : KernelView
      old = kernel_of s d f h most j seats

      new : KernelView
      new = kernel_of s' d f h most j seats'

      other : ℕ → Bool
      other k = not (bytes_eq (slice_index_or s.blocks k []) (slice_index_or s'.blocks k []))

      from : (k : ℕ) → Contains s.dirty k ⊎ Differs s.blocks s'.blocks k → (is_dirty old k || other k) ≡ true
      from k (inl was) = ap (λ (b : Bool). b || other k) (among k s.dirty was)
      from k (inr differs) = ap (λ (b : Bool). is_dirty old k || b)
          (is_other (slice_index_or s.blocks k []) (slice_index_or s'.blocks k []) differs) ∙ or-true (is_dirty old k)

      to : (k : ℕ) → (is_dirty old k || other k) ≡ true → Contains s.dirty k ⊎ Differs s.blocks s'.blocks k
      to k said = elim (or_cases (is_dirty old k) (other k) said) [
        | inl was ↦ inl (contained k s.dirty was)
        | inr now ↦ inr (differ (slice_index_or s.blocks k []) (slice_index_or s'.blocks k []) now)
      ]

grown_dirties : (s s' : SpoolView) (d : ℕ) (f : Option ℕ) (h : Bool) (most j : ℕ) (seats seats' : List Seat) (c : Option Change) → Grows s
    s' c
    → Dirties (kernel_of s d f h most j seats) (kernel_of s' d f h most j seats')
grown_dirties s s' d f h most j seats seats' None is =
    subst (λ (r : SpoolView). Dirties (kernel_of s d f h most j seats) (kernel_of r d f h most j seats')) (sym is)
    (same_dirties s d f h most j seats seats')
grown_dirties s s' d f h most j seats seats' (Some c) adds = changed_dirties s s' d f h most j seats seats' adds.dirties

grown_inodes : (s s' : SpoolView) (c : Option Change) → Grows s s' c → s'.inodes ≡ s.inodes
grown_inodes s s' None is = ap (λ (r : SpoolView). r.inodes) is
grown_inodes s s' (Some c) adds = adds.inodes

grown_still : (s s' : SpoolView) (c : Option Change) → Grows s s' c → c ≡ None → (s'.blocks ≡ s.blocks) × (s'.dirty ≡ s.dirty)
grown_still s s' None is none = (ap (λ (r : SpoolView). r.blocks) is, ap (λ (r : SpoolView). r.dirty) is)
grown_still s s' (Some c) adds none = absurd (cc none)

pub executes : (s s' : SpoolView) (d : ℕ) (f : Option ℕ) (h : Bool) (most j : ℕ) (seats : List Seat) (at : ℕ) (seat seat' : Seat)
    (m : Message)
    (t : ℕ) (mark : Mark) → RiseFrom 0 seats → slice_get seats at ≡ Some seat
    → Grows s s' (answer_in s seat.session m t mark).change → seat' ≡ answered_by s.host s.changes m t mark seat
    → Executed (kernel_of s d f h most j seats) (kernel_of s' d f h most j (set seats at seat')) seat m t mark
executes s s' d f h most j seats at seat seat' m t mark rise place grows is =
    let g = grown s s' (answer_in s seat.session m t mark).change grows in
    record {
      host = g.host;
      inodes = grown_inodes s s' (answer_in s seat.session m t mark).change grows;
      spool = g.changes;
      seats = with_seat_set 0 at seats seat seat' rise place (ap (λ (x : Seat). x.number) is) ∙ ap (with_seat seats) is;
      durable = refl;
      in_flight = refl;
      halted = refl;
      most = refl;
      joined = refl;
      blocks = grown_dirties s s' d f h most j seats (set seats at seat') (answer_in s seat.session m t mark).change grows;
      still = grown_still s s' (answer_in s seat.session m t mark).change grows;
    }

-- ---- the session after it

pub set_same : (at : ℕ) (seats : List Seat) (seat new : Seat) → slice_get seats at ≡ Some seat → new ≡ seat → set seats at new ≡ seats
set_same at [] seat new is same = absurd (cc is)
set_same zero (first ∷ seats) seat new is same = let this : new ≡ first = cc (is, same) in ap (λ (x : Seat). x ∷ seats) this
set_same (suc at) (first ∷ seats) seat new is same = ap (λ (xs : List Seat). first ∷ xs) (set_same at seats seat new is same)

-- ---- what the code finds of an option

some_of : {T : Type 0} (b : Bool) (o : Option T) → is_some o ≡ not b → b ≡ false → IsSome o
some_of b o is off = is ∙ ap not off

not_none : {T : Type 0} (o : Option T) → IsSome o → is_none o ≡ false
not_none None is = absurd (cc is)
not_none (Some x) is = refl

none_of : {T : Type 0} (b : Bool) (o : Option T) → is_some o ≡ not b → b ≡ true → o ≡ None
none_of b None is yes_it = refl
none_of b (Some x) is yes_it = absurd (cc (is, ap not yes_it))

-- ---- answers that change nothing

-- a session that is told that the service ends changes nothing
stopped_stays : (s : SpoolView) (x : Session) (m : Message) (t : ℕ) → Grows s s (answer_in s x m t mark.Stopped).change
stopped_stays s x m t = subst (λ (a : Answer). Grows s s a.change) (sym (stopped_answer s.host s.changes x m t)) refl

stopped_changes_nothing : (s : SpoolView) (x : Session) (m : Message) (t : ℕ) → IsSome (answer_in s x m t mark.Stopped).change → ⊥
stopped_changes_nothing s x m t some = let none = ap (λ (a : Answer). is_some a.change) (stopped_answer s.host s.changes x m t) in
    cc (some, none)

stopped_accepts : (s : SpoolView) (x : Session) (m : Message) (t : ℕ) → false ≡ is_some (answer_in s x m t mark.Stopped).change
stopped_accepts s x m t = sym (ap (λ (a : Answer). is_some a.change) (stopped_answer s.host s.changes x m t))

stopped_mode : (s : SpoolView) (m : Message) (t : ℕ) (before after : Seat)
    → after ≡ answered_by s.host s.changes m t mark.Stopped before → None ≡ mode_of after.session.awaits
stopped_mode s m t before after is =
    sym (ap (λ (x : Seat). mode_of x.session.awaits) is
    ∙ ap (λ (a : Answer). mode_of a.next.awaits) (stopped_answer s.host s.changes before.session m t))

-- where an article comes, there are few dirty blocks
room_for : (s : SpoolView) (x : Session) (m : Message) (t : ℕ) (mark : Mark)
    → (is_block m && nat_lt (most_dirty (length s.blocks)) (length s.dirty)) ≡ false
    → IsSome (answer_in s x m t mark).change → length s.dirty ≤ most_dirty (length s.blocks)
room_for s x m t mark early some = go (is_block m) (nat_lt (most_dirty (length s.blocks)) (length s.dirty)) refl refl early
  where
    go : (a b : Bool) → is_block m ≡ a → nat_lt (most_dirty (length s.blocks)) (length s.dirty) ≡ b → (a && b) ≡ false
        → length s.dirty ≤ most_dirty (length s.blocks)
    go true true is lt both = absurd (cc both)
    go true false is lt both = ltb-false (most_dirty (length s.blocks)) (length s.dirty) lt
    go false b is lt both = absurd (only_blocks_change s x m t mark is some)

-- ---- one session's message

-- the sessions as callers see them
abbrev pub seen_in : Inside → List Seat
seen_in inside = all_seen (lines_of inside.spool.changes) inside.seats.items

-- A message that comes to a session: the kernel's fields, which are kept, the session's place and number, the message, the moment,
-- and the session as callers see it and as the code reads it.
pub record Case : Type 0 where
  pub inside : Inside
  pub at : ℕ
  pub sid : ℕ
  pub message : Message
  pub moment : ℕ
  pub seat : Seat
  pub read : LinedSeat
  pub kept : AreKept inside.spool inside.durable inside.in_flight inside.halted inside.most inside.joined inside.seats.items
  pub place : slice_get (seen_in inside) at ≡ Some seat
  pub number : seat.number ≡ sid
  pub same : seen (lines_of inside.spool.changes) read ≡ seat
  pub lined : SeatIsLined (HasLines inside.spool.changes) read

abbrev pub case_of : (inside : Inside) (items : List LinedSeat) (at sid : ℕ) (m : Message) (t : ℕ) (read : LinedSeat)
    → AreKept inside.spool inside.durable inside.in_flight inside.halted inside.most inside.joined inside.seats.items
    → items ≡ inside.seats.items → (x : LinedSeat) × (slice_get items at ≡ Some x) × (x.number ≡ sid)
    → read ≡ get_or inside.seats.items at read → Case
case_of inside items at sid m t read kept here its from =
    let made = lines_of inside.spool.changes in
    let found = seen_place made inside.seats.items at sid
    (subst (λ (xs : List LinedSeat). (x : LinedSeat) × (slice_get xs at ≡ Some x) × (x.number ≡ sid)) here its) in
    record {
      inside = inside;
      at = at;
      sid = sid;
      message = m;
      moment = t;
      seat = found.0;
      read = read;
      kept = kept;
      place = found.1;
      number = found.2;
      same = same_place at (seen_in inside) (seen made read) found.0 found.1 (sym (seen_at made inside.seats.items at read from));
      lined = lined_at (HasLines inside.spool.changes) inside.seats.items items at sid read kept.lined here its from;
    }

room_is : (blocks : List Octets) (inodes : ℕ) (S : Spool) (change : Option Change)
    → lacks_room_for (λ c. is_full blocks inodes S (Some c)) change ≡ is_full blocks inodes S change
room_is blocks inodes S None = refl
room_is blocks inodes S (Some c) = refl

module _ (k : Case) where
  abbrev i : Inside
  i = k.inside

  abbrev made : Lines → Octets
  made = lines_of i.spool.changes

  abbrev pub was : KernelView
  was = kernel_of i.spool i.durable i.in_flight i.halted i.most i.joined (seen_in i)

  -- the kernel with another spool, and another session in this one's place
  abbrev with_one : SpoolView → Seat → KernelView
  with_one s seat = kernel_of s i.durable i.in_flight i.halted i.most i.joined (set (seen_in i) k.at seat)

  -- as the code leaves it
  abbrev left_with : SpoolView → LinedSeat → KernelView
  left_with s seat = seen_kernel s i.durable i.in_flight i.halted i.most i.joined (set i.seats.items k.at seat)

  abbrev LeavesKept : SpoolView → LinedSeat → Type 0
  LeavesKept s seat = AreKept s i.durable i.in_flight i.halted i.most i.joined (set i.seats.items k.at seat)

  abbrev Answers : KernelView → KernelView → Result Outcome ExecError → Type 0
  Answers old new result =
      Tested of_exec Memory (exec_refusal old k.sid k.message) old new result (Execs old new k.sid k.message k.moment)

  abbrev answer_to : Session → Mark → Answer
  answer_to x mark = answer_in i.spool x k.message k.moment mark

  abbrev by_answer : Mark → Seat → Seat
  by_answer mark seat = answered_by i.spool.host i.spool.changes k.message k.moment mark seat

  abbrev Awaited : Type 0
  Awaited = IsSome (mode_of k.seat.session.awaits)

  -- whether an article comes while too many blocks are dirty, and where this counts
  abbrev late_if : Bool → Bool
  late_if halted = not halted && is_block k.message && nat_lt (most_dirty (length i.spool.blocks)) (length i.spool.dirty)

  abbrev is_late : Bool
  is_late = is_block k.message && nat_lt (most_dirty (length i.spool.blocks)) (length i.spool.dirty)

  abbrev Passes : Type 0
  Passes = exec_refusal was k.sid k.message ≡ None

  as_left : (s : SpoolView) (c : Option Change) (seat : LinedSeat) → Grows i.spool s c
      → with_one s (seen (lines_of s.changes) seat) ≡ left_with s seat
  as_left s c seat grows = ap (kernel_of s i.durable i.in_flight i.halted i.most i.joined)
      (sym (seen_set i.spool s c i.seats.items k.at seat grows k.kept.lined))

  left_so : (old new left : KernelView) (result : Result Outcome ExecError) → was ≡ old → new ≡ left → Answers was new result
      → Answers old left result
  left_so old new left result v is h =
      subst (λ (o : KernelView). Answers o left result) v (subst (λ (n : KernelView). Answers was n result) is h)

  mode_is : mode_at was k.sid ≡ mode_of k.seat.session.awaits
  mode_is = ap (mode_at was) (sym k.number) ∙ mode_found was k.at k.seat k.kept.seen.rising k.place

  is_there : seat_of was k.sid ≡ Some k.seat
  is_there = ap (seat_of was) (sym k.number) ∙ find_at 0 k.at (seen_in i) k.seat k.kept.seen.rising k.place

  pub lawful : IsLawfulSession i.spool.host k.read.session
  lawful = subst (λ (x : Seat). IsLawfulSession i.spool.host x.session) (sym k.same)
      (all_at (IsSeat i.spool.host i.spool.changes i.joined) k.at (seen_in i) k.seat k.kept.seen.seats k.place).lawful

  -- ---- the tests, as the code makes them

  pub closed : (none : Bool) (mode : Option Mode) → mode ≡ mode_of k.read.session.awaits → is_some mode ≡ not none → none ≡ true
      → mode_at was k.sid ≡ None
  closed none mode reads is on =
      mode_is ∙ ap (λ (x : Seat). mode_of x.session.awaits) (sym k.same) ∙ sym reads ∙ none_of none mode is on

  pub awaits : (none : Bool) (mode : Option Mode) → mode ≡ mode_of k.read.session.awaits → is_some mode ≡ not none → none ≡ false
      → Awaited
  awaits none mode reads is off =
      subst (λ (x : Seat). IsSome (mode_of x.session.awaits)) k.same
      (subst (λ (o : Option Mode). IsSome o) reads (some_of none mode is off))

  there : Awaited → is_none (mode_at was k.sid) ≡ false
  there awaited = not_none (mode_at was k.sid) (subst (λ (o : Option Mode). IsSome o) (sym mode_is) awaited)

  size : (held : ℕ) → held ≡ octets_waiting k.read.held → buffered was k.sid ≡ held
  size held is =
      ap buffered_by is_there ∙ (ap (λ (x : Seat). octets_held x.held) (sym k.same)
      ∙ sym (is ∙ waiting_is made (HasLines i.spool.changes)
      (λ (lines : Lines) (h : HasLines i.spool.changes lines). h.octets) k.read.held k.lined))
    where
      buffered_by : Option Seat → ℕ
      buffered_by None = 0
      buffered_by (Some x) = octets_held x.held

  few : (held : ℕ) → held ≡ octets_waiting k.read.held → held < 1048576 → nat_le 1048576 (buffered was k.sid) ≡ false
  few held is below = let same : buffered was k.sid ≡ held = size held is in lt-leb 1048576 (buffered was k.sid) (omega arith)

  -- too many octets are held
  pub held_many : (held : ℕ) → Awaited → held ≡ octets_waiting k.read.held → 1048576 ≤ held
      → exec_refusal was k.sid k.message ≡ Some LaterOut
  held_many held awaited is above =
      let same : buffered was k.sid ≡ held = size held is in
      later_out was k.sid k.message (there awaited) (le-leb 1048576 (buffered was k.sid) (omega arith))

  -- by what the code reads for it
  pub late_is : (m : Message) (blocks dirty : ℕ) (late answer : Bool) → m ≡ k.message → blocks ≡ length i.spool.blocks
      → dirty ≡ length i.spool.dirty → late ≡ (is_block m && nat_lt (most_dirty blocks) dirty) → late ≡ answer → is_late ≡ answer
  late_is m blocks dirty late answer message count few is says =
      (λ j. is_block (sym message j) && nat_lt (most_dirty (sym count j)) (sym few j)) ∙ (sym is ∙ says)

  -- an article comes too late
  pub comes_late : (held : ℕ) → Awaited → held ≡ octets_waiting k.read.held → held < 1048576 → i.halted ≡ false
      → is_late ≡ true → exec_refusal was k.sid k.message ≡ Some LaterDirty
  comes_late held awaited is below going late =
      later_dirty was k.sid k.message (there awaited) (few held is below) (ap late_if going ∙ late)

  -- no test fails
  pub passes_halted : (held : ℕ) → Awaited → held ≡ octets_waiting k.read.held → held < 1048576 → i.halted ≡ true
      → Passes
  passes_halted held awaited is below halted =
      none_fails was k.sid k.message (there awaited) (few held is below) (ap late_if halted)

  pub passes : (held : ℕ) → Awaited → held ≡ octets_waiting k.read.held → held < 1048576 → i.halted ≡ false
      → is_late ≡ false → Passes
  passes held awaited is below going early =
      none_fails was k.sid k.message (there awaited) (few held is below) (ap late_if going ∙ early)

  -- ---- the answers

  -- a test fails
  pub refused : (old : KernelView) (r : Refusal) → was ≡ old → exec_refusal was k.sid k.message ≡ Some r
      → Answers old (left_with i.spool k.read) (Err (of_exec r))
  refused old r v fails =
      let new : KernelView = with_one i.spool (seen made k.read) in
      left_so old new (left_with i.spool k.read) (Err (of_exec r)) v (as_left i.spool None k.read refl)
      (tested_refused of_exec Memory (exec_refusal was k.sid k.message) r was new (Err (of_exec r)) (Execs was new k.sid k.message k.moment)
      fails refl (ap (λ (xs : List Seat). kernel_of i.spool i.durable i.in_flight i.halted i.most i.joined xs)
      (set_same k.at (seen_in i) k.seat (seen made k.read) k.place k.same)))

  -- memory is refused
  pub out_of_memory : (old : KernelView) (s : SpoolView) (seat : LinedSeat) → was ≡ old → seat ≡ k.read → s ≡ i.spool
      → Passes → Answers old (left_with s seat) (Err Memory)
  out_of_memory old s seat v same spool none =
      let after : Seat = seen (lines_of s.changes) seat in
      let new : KernelView = with_one s after in
      let is : after ≡ k.seat = (λ j. seen (lines_of (spool j).changes) (same j)) ∙ k.same in
      left_so old new (left_with s seat) (Err Memory) v (as_left s None seat spool)
      (tested_done of_exec Memory (exec_refusal was k.sid k.message) was new (Err Memory) (Execs was new k.sid k.message k.moment) none (
        refl,
        λ j. kernel_of (spool j) i.durable i.in_flight i.halted i.most i.joined
            (set_same k.at (seen_in i) k.seat after k.place is j),
      ))

  answered_seat : (seat : Seat) (mark : Mark) → seat ≡ by_answer mark (seen made k.read) → seat ≡ by_answer mark k.seat
  answered_seat seat mark is = is ∙ ap (by_answer mark) k.same

  -- the session has its answer
  done : (old : KernelView) (s : SpoolView) (seat : LinedSeat) (outcome : Outcome) → was ≡ old → Passes
      → outcome.mark ≡ mark_for was k.seat.session k.message k.moment
      → Grows i.spool s (answer_to k.seat.session outcome.mark).change
      → seen (lines_of s.changes) seat ≡ by_answer outcome.mark (seen made k.read)
      → outcome.next ≡ mode_of seat.session.awaits
      → outcome.refusal ≡ refusal_in i.spool.host i.spool.changes k.seat.session k.message outcome.mark
      → outcome.has_accepted ≡ is_some (answer_to k.seat.session outcome.mark).change
      → Answers old (left_with s seat) (Ok outcome)
  done old s seat outcome v none marked grows told next why accepts =
      let after : Seat = seen (lines_of s.changes) seat in
      let new : KernelView = with_one s after in
      let is = answered_seat after outcome.mark told in
      let same : after.number ≡ k.seat.number = ap (λ (x : Seat). x.number) is in
      let read = mode_found new k.at after (RiseFrom-set 0 k.at (seen_in i) k.seat after k.kept.seen.rising k.place same)
      (set_get k.at (seen_in i) k.seat after k.place) in
      left_so old new (left_with s seat) (Ok outcome) v (as_left s (answer_to k.seat.session outcome.mark).change seat grows)
      (tested_done of_exec Memory (exec_refusal was k.sid k.message) was new (Ok outcome) (Execs was new k.sid k.message k.moment) none
      (record {
        seat = k.seat;
        is_there = is_there;
        mark_is = marked;
        executed = executes i.spool s i.durable i.in_flight i.halted i.most i.joined (seen_in i) k.at k.seat after k.message k.moment
            outcome.mark k.kept.seen.rising k.place grows is;
        refusal = why;
        accepted = accepts;
        next = next ∙ (sym read ∙ ap (mode_at new) (same ∙ k.number));
      }))

  -- the callers' view is still kept after an answer
  kept_answered : (s : SpoolView) (seat : LinedSeat) (mark : Mark) → Awaited
      → (IsSome (answer_to k.seat.session mark).change → length i.spool.dirty ≤ most_dirty (length i.spool.blocks))
      → (IsSome (answer_to k.seat.session mark).change → IsSpool s)
      → Grows i.spool s (answer_to k.seat.session mark).change
      → seen (lines_of s.changes) seat ≡ by_answer mark (seen made k.read)
      → IsKept (left_with s seat)
  kept_answered s seat mark awaited room sound grows told =
      let after : Seat = seen (lines_of s.changes) seat in
      subst IsKept (as_left s (answer_to k.seat.session mark).change seat grows)
      (kept_served i.spool s i.durable i.in_flight i.halted i.most i.joined (seen_in i) k.at k.seat after k.message k.moment mark k.place
      awaited room sound grows (answered_seat after mark told) k.kept.seen)

  -- the mark, where the kernel is halted and where it is not
  abbrev mark_by : Bool → Mark
  mark_by halted =
      if halted then mark.Stopped else if is_long i.spool.host i.spool.changes k.seat.session k.message then mark.Long else if is_full
      i.spool.blocks i.spool.inodes i.spool.changes (answer_to k.seat.session mark.Served).change then mark.Full else mark.Served

  served_mark : i.halted ≡ false → mark_in i.spool k.seat.session k.message k.moment ≡ mark_for was k.seat.session k.message k.moment
  served_mark is =
      ap (λ (b : Bool). if is_long i.spool.host i.spool.changes k.seat.session k.message then mark.Long else if b then mark.Full
      else mark.Served)
      (room_is i.spool.blocks i.spool.inodes i.spool.changes (answer_to k.seat.session mark.Served).change) ∙ sym (ap mark_by is)

  -- ---- a session that is told that the service ends, whatever its message says

  abbrev StoppedSo : LinedSeat → Type 0
  StoppedSo seat = (host : Octets) (S : Spool) (m : Message) (t : ℕ)
      → seat ≡ answered_with (plain (answer host S k.read.session m t mark.Stopped).reply) host S m t mark.Stopped k.read

  abbrev stopped_outcome : Outcome
  stopped_outcome = record { next = None; mark = mark.Stopped; refusal = Some Stopped; has_accepted = false }

  told_stopped : (seat : LinedSeat) → StoppedSo seat → seen made seat ≡ by_answer mark.Stopped (seen made k.read)
  told_stopped seat is =
      ap (seen made) (is i.spool.host i.spool.changes k.message k.moment)
      ∙ seen_answered made (plain (answer_to k.read.session mark.Stopped).reply) i.spool.host i.spool.changes k.message
      k.moment mark.Stopped k.read refl

  pub stopped : (old : KernelView) (seat : LinedSeat) → was ≡ old → i.halted ≡ true → Passes → StoppedSo seat
      → Answers old (left_with i.spool seat) (Ok stopped_outcome)
  stopped old seat v halted none is =
      done old i.spool seat stopped_outcome v none
      (sym (ap mark_by halted)) (stopped_stays i.spool k.seat.session k.message k.moment) (told_stopped seat is)
      (stopped_mode i.spool k.message k.moment (seen made k.read) (seen made seat) (told_stopped seat is)) refl
      (stopped_accepts i.spool k.seat.session k.message k.moment)

  pub kept_stopped : (seat : LinedSeat) → Awaited → StoppedSo seat → LeavesKept i.spool seat
  kept_stopped seat awaited is =
      let nothing = stopped_changes_nothing i.spool k.seat.session k.message k.moment in
      record {
        seen = kept_answered i.spool seat mark.Stopped awaited (λ some. absurd (nothing some)) (λ some. absurd (nothing some))
            (stopped_stays i.spool k.seat.session k.message k.moment) (told_stopped seat is);
        lined = All-set (SeatIsLined (HasLines i.spool.changes)) i.seats.items k.at seat
            (subst (SeatIsLined (HasLines i.spool.changes)) (sym (is i.spool.host i.spool.changes k.message k.moment))
            (lined_answered (HasLines i.spool.changes) (plain (answer_to k.read.session mark.Stopped).reply) i.spool.host i.spool.changes
            k.message k.moment mark.Stopped k.read tt k.lined)) k.kept.lined;
      }

  -- ---- a session that is served

  abbrev ServedSo : SpoolView → LinedSeat → Outcome → Type 0
  ServedSo s seat outcome =
      SeatServed i.spool.host i.spool.changes (λ c. is_full i.spool.blocks i.spool.inodes i.spool.changes (Some c)) (Adds i.spool s)
      (s ≡ i.spool) (seen (lines_of s.changes) k.read) (seen (lines_of s.changes) seat) k.message k.moment outcome

  module _ (s : SpoolView) (seat : LinedSeat) (outcome : Outcome) (r : ServedSo s seat outcome) where
    abbrev change : Option Change
    change = (answer_to k.seat.session outcome.mark).change

    grows : Grows i.spool s change
    grows = subst (λ (x : Seat). Grows i.spool s (answer_to x.session outcome.mark).change) k.same r.spool

    told : seen (lines_of s.changes) seat ≡ by_answer outcome.mark (seen made k.read)
    told = r.seat ∙ ap (by_answer outcome.mark)
        (seat_stays i.spool.changes s.changes (option_to_list change) (grown i.spool s change grows).changes k.read k.lined)

    pub served : (old : KernelView) → was ≡ old → i.halted ≡ false → Passes → Answers old (left_with s seat) (Ok outcome)
    served old v going none =
        done old s seat outcome v none
        (r.mark ∙ ap (λ (x : Seat). mark_in i.spool x.session k.message k.moment) k.same ∙ served_mark going) grows told r.next
        (r.refusal ∙ ap (λ (x : Seat). refusal_in i.spool.host i.spool.changes x.session k.message outcome.mark) k.same)
        (r.accepted ∙ ap (λ (x : Seat). is_some (answer_to x.session outcome.mark).change) k.same)

    pub keeps_on : Awaited → is_late ≡ false → IsSpool s
        → (SeatIsLined (HasLines s.changes) k.read → SeatIsLined (HasLines s.changes) seat) → LeavesKept s seat
    keeps_on awaited early sound lines =
        record {
          seen = kept_answered s seat outcome.mark awaited
              (room_for i.spool k.seat.session k.message k.moment outcome.mark early) (λ _. sound) grows told;
          lined = All-set (SeatIsLined (HasLines s.changes)) i.seats.items k.at seat
              (lines (seat_still_lined i.spool.changes s.changes (option_to_list change) (grown i.spool s change grows).changes k.read
              k.lined)) (lined_grown i.spool s change i.seats.items grows k.kept.lined);
        }
