-- Releases, until nothing is held.
use Rattle.std.proofs.Common.{◌≡◌, ◌≢◌, ◌⊎◌, inl, inr, ⊎_elim, ℕ, suc, ◌+◌, ◌-◌, ◌<◌, ◌≤◌, Bool, true, false, List, [], ◌∷◌, ◌++◌}
use Rattle.std.proofs.Common.{length, Some, None, Option, refl, ap, sym, ◌∙◌, subst, arith, length-append, take, drop, All}
use Rattle.std.specs.Prelude.{◌==◌, ◌&&◌, ◌||◌, ◌↔◌, OnOk, if◌then◌else◌, max, nat_lt, not, option_map, slice_get, slice_index_or}
use Rattle.std.specs.Prelude.{unwrap_or, IsTrue, Result}
use Rattle.std.specs.Prelude.{Ok, Err}
use Rattle.std.specs.List.{concat}
use Rattle.std.proofs.lemmas.Bool.{cases_lt, eqb-true, eqb-false, true≢false}
use Rattle.std.proofs.lemmas.List.{append-nil, get_or_default, length-take, nil_from_length}
use Rattle.std.proofs.lemmas.Option.{slice_get_read}
use Rattle.std.proofs.lemmas.List.Elements.{All-cons, All-nil, All-head, All-tail}
use Rattle.disk.specs.Device.{Device}
use Rattle.kernel.specs.Kernel.{KernelView, seat_of}
use Rattle.kernel.proofs.KernelLaws.{all_at}
use Rattle.model.specs.News.{service}
use Rattle.model.proofs.NewsLaws.{lawful}
use Rattle.kernel_outbox.specs.Queue.{Giving, HeldOutput, ReadyEntry, buffered, entry_of, give, nothing_more}
use Rattle.kernel_outbox.proofs.GivingLaws.{give-buffered, give-cut, give-whole}
use Rattle.kernel_seats.specs.Kept.{RiseFrom}
use Rattle.kernel_seats.specs.Seats.{Ready, Seat, given_by, ready, seat_given}
use Rattle.kernel_seats.proofs.SeatsLaws.{find_at, find_place}
use Rattle.synchrony.specs.Dependency.{Output, greatest}
use Rattle.synchrony.specs.Progress.{EachFilled, unreleased}
use Rattle.synchrony.specs.Server.{sync}
use Rattle.synchrony.proofs.Cut.{IsCut, sync_cut}
use Rattle.synchrony.proofs.Filled.{EachFilled-unreleased, outputs_are_filled}
use Rattle.kernel_trace.specs.Events.{releases, with_kernel, with_released}
use Rattle.kernel_trace.specs.Traced.{FollowsPlain, IsPresent, IsServed, IsSession, Sent, TracedView, account, arrived_at}
use Rattle.kernel_trace.specs.Traced.{first_spool, nobody, octets_of_held, released_at, replies_to, session_at, without_ends}
use Rattle.kernel_trace.proofs.Sessions.{ready_known, sent_more, with_released-at}
use Rattle.kernel_trace.proofs.Standing.{there_joined}
use Rattle.kernel_trace.specs.Fields.{given_in}
use Rattle.world.specs.Draining.{AsksNothing, CostsToSettle, IsHindered, IsSettled, IsStill, ReleasesSome, RunsInner, SendsAll}
use Rattle.world.specs.Draining.{with_progress}
use Rattle.world.specs.Events.{Did}
use Rattle.world.specs.Images.{EachNow, EachSince, Fits, LeftFits}
use Rattle.world.specs.Tied.{IsWorld}
use Rattle.world.specs.World.{WorldView, kernel_of, with_served}
use Rattle.world.specs.declared.events.Event.TheVariants as event
use Rattle.world.specs.declared.events.StepAnswer.{StepAnswer}
use Rattle.world.specs.declared.events.StepError.{StepError}
use Rattle.world.specs.declared.events.StepError.TheVariants as error
use Rattle.world.proofs.Fitting.{now_fits}
use Rattle.world.proofs.Inner.{inner_as, inner_one, inner_then}
use Rattle.world.proofs.Settled.{Settles}

-- ---- nothing is asked

pub asks_progress : (old new : TracedView) (kernel : KernelView) → new ≡ with_kernel old (with_progress old.kernel kernel)
    → AsksNothing old new
asks_progress old new kernel is =
    subst (AsksNothing old) (sym is) (record {
      host = refl;
      first = refl;
      spool = refl;
      trace = refl;
      arrived = λ number. refl;
      left = λ number. refl;
    })

pub asks_then : (old now new : TracedView) → AsksNothing old now → AsksNothing now new → AsksNothing old new
asks_then old now new a b = record {
  host = b.host ∙ a.host;
  first = b.first ∙ a.first;
  spool = b.spool ∙ a.spool;
  trace = b.trace ∙ a.trace;
  arrived = λ number. b.arrived number ∙ a.arrived number;
  left = λ number. b.left number ∙ a.left number;
}

-- what a session was given changes neither what arrived for it nor whether it left
module _ (octets : List ℕ) where
  more_arrived : (o : Option Sent) → (unwrap_or (option_map (sent_more octets) o) nobody).arrived ≡ (unwrap_or o nobody).arrived
  more_arrived None = refl
  more_arrived (Some sent) = refl

  more_left : (o : Option Sent)
      → option_map (λ (sent : Sent). sent.left) (option_map (sent_more octets) o) ≡ option_map (λ (sent : Sent). sent.left) o
  more_left None = refl
  more_left (Some sent) = refl

pub asks_releases : {D : Type 0} (device : D → Device) (world : WorldView D) → IsWorld device world
    → AsksNothing world.served (releases world.served)
asks_releases device world h = record {
  host = refl;
  first = refl;
  spool = refl;
  trace = refl;
  arrived = λ number. ap (λ (o : Option Sent). (unwrap_or o nobody).arrived) (at number)
      ∙ more_arrived (given_in number entries) (session_at world.served.sessions number);
  left = λ number. ap (option_map (λ (sent : Sent). sent.left)) (at number)
      ∙ more_left (given_in number entries) (session_at world.served.sessions number);
}
  where
    kernel : KernelView
    kernel = kernel_of world

    entries : List ReadyEntry
    entries = (ready kernel.durable 65536 kernel.seats).entries

    at : (number : ℕ) → session_at (with_released world.served.sessions entries) number
        ≡ option_map (sent_more (given_in number entries)) (session_at world.served.sessions number)
    at = with_released-at world.served.sessions entries
        (ready_known kernel.host kernel.spool kernel.joined kernel.durable 65536 world.served.sessions kernel.seats h.served.numbers
        h.kernel.seats)

-- the replies to what was asked are the same
pub replies_still : (old new : TracedView) → AsksNothing old new → (number : ℕ) → replies_to new number ≡ replies_to old number
replies_still old new h number =
    λ i. concat ((sync (service (h.host i)) (take (h.first i) (h.spool i)) (λ k. h.arrived k i) (h.trace i)).connections number).replies

-- ---- how much is held

-- the octets that are held, and one more for each session
abbrev pub held_in : List Seat → ℕ
held_in [] = 0
held_in (seat ∷ seats) = suc (buffered seat.held) + held_in seats

one_if : Bool → ℕ
one_if true = 1
one_if false = 0

entry_short : (number : ℕ) (g : Giving) → length (entry_of number g) ≤ length g.octets + one_if g.ended
unfolding one_if
entry_short number g = go (length g.octets == 0) g.ended refl where
  go : (none ended : Bool) → (length g.octets == 0) ≡ none
      → length (if◌then◌else◌ {A = List ReadyEntry} (none && not ended) [] ((number, g.octets, g.ended) ∷ []))
      ≤ length g.octets + one_if ended
  go true true is = omega arith
  go true false is = omega arith
  go false true is = omega arith
  go false false is = let some : length g.octets ≢ 0 = eqb-false (length g.octets) 0 is in omega (arith, some)

kept_short : (seat : Seat) (g : Giving) (later : List Seat)
    → held_in (if g.ended then later else seat_given seat g ∷ later) + one_if g.ended ≤ suc (buffered g.held) + held_in later
unfolding one_if
kept_short seat g later = go g.ended where
  go : (ended : Bool) → held_in (if ended then later else seat_given seat g ∷ later) + one_if ended
      ≤ suc (buffered g.held) + held_in later
  go true = omega arith
  go false = omega arith

-- each entry takes something of what is held
pub ready_falls : (p room : ℕ) (seats : List Seat)
    → held_in (ready p room seats).seats + length (ready p room seats).entries ≤ held_in seats
ready_falls p room [] = omega arith
ready_falls p room (seat ∷ seats) =
    let g : Giving = give p room seat.given seat.held in
    let later : Ready = ready p g.room seats in
    omega (
      arith,
      ready_falls p g.room seats,
      entry_short seat.number g,
      kept_short seat g later.seats,
      give-buffered p room seat.given seat.held,
      length-append (entry_of seat.number g) later.entries,
    )

-- ---- nothing is given

-- the first output that a session holds, if any, is not empty and may be given
abbrev pub CanGo : ℕ → Seat → Type 0
CanGo p seat = (front : HeldOutput) (rest : List HeldOutput) → seat.held ≡ front ∷ rest → (front.dependency ≤ p) × (front.octets ≢ [])

abbrev pub HoldsNothing : Seat → Type 0
HoldsNothing seat = seat.held ≡ []

no_front : {A : Type 0} (xs ys : List A) → xs ++ ys ≡ [] → (xs ≡ []) × (ys ≡ [])
no_front [] ys is = (refl, is)
no_front (x ∷ xs) ys is = absurd (cc is)

given_some : (p room given : ℕ) (front : HeldOutput) (rest : List HeldOutput) → 0 < room → front.dependency ≤ p → front.octets ≢ []
    → (give p room given (front ∷ rest)).octets ≢ []
given_some p room given front rest some near filled is = ⊎_elim
    (λ (long : room < length front.octets).
    let e : take room front.octets ≡ [] = sym (ap (λ (g : Giving). g.octets) (give-cut p room given front rest near some long)) ∙ is in
    absurd (omega (arith, some, long, ap length e, length-take room front.octets)))
    (λ (short : length front.octets ≤ room).
    filled (no_front front.octets _ (sym (ap (λ (g : Giving). g.octets) (give-whole p room given front rest near some short)) ∙ is)).0)
    (cases_lt room (length front.octets))

no_entry : (number : ℕ) (g : Giving) → entry_of number g ≡ [] → g.octets ≡ []
no_entry number g is = go (length g.octets == 0) refl is where
  go : (none : Bool) → (length g.octets == 0) ≡ none
      → if◌then◌else◌ {A = List ReadyEntry} (none && not g.ended) [] ((number, g.octets, g.ended) ∷ []) ≡ [] → g.octets ≡ []
  go true none e = nil_from_length g.octets (eqb-true (length g.octets) 0 none)
  go false some e = absurd (cc e)

-- if nothing is given of outputs that may be given, nothing was held
pub nothing_held : (p room : ℕ) (seats : List Seat) → 0 < room → All (CanGo p) seats → (ready p room seats).entries ≡ []
    → All HoldsNothing (ready p room seats).seats
nothing_held p room [] some can none = All-nil HoldsNothing
nothing_held p room (seat ∷ seats) some can none =
    go seat.held refl (nothing_held p room seats some (All-tail (CanGo p) seat seats can))
  where
    gives : Giving → Ready
    gives g = given_by seat g (ready p g.room seats)

    go : (held : List HeldOutput) → seat.held ≡ held
        → ((ready p room seats).entries ≡ [] → All HoldsNothing (ready p room seats).seats)
        → All HoldsNothing (gives (give p room seat.given seat.held)).seats
    go [] is rest =
        let same : give p room seat.given seat.held ≡ nothing_more room seat.given [] = ap (give p room seat.given) is in
        let later : (ready p room seats).entries ≡ [] = subst (λ (g : Giving). (gives g).entries ≡ []) same none in
        subst (λ (g : Giving). All HoldsNothing (gives g).seats) (sym same)
        (All-cons HoldsNothing (seat_given seat (nothing_more room seat.given [])) (ready p room seats).seats refl (rest later))
    go (front ∷ others) is rest =
        let may = All-head (CanGo p) seat seats can front others is in
        let entry : entry_of seat.number (give p room seat.given seat.held) ≡ [] = (no_front _ _ none).0 in
        absurd (given_some p room seat.given front others some may.0 may.1
        (subst (λ (held : List HeldOutput). (give p room seat.given held).octets ≡ []) is
        (no_entry seat.number (give p room seat.given seat.held) entry)))

first_within : (count : ℕ) (outputs : List Output) (front : Output) (rest : List Output) → unreleased count outputs ≡ front ∷ rest
    → front.dependency ≤ greatest outputs
first_within count [] front rest is = absurd (cc is)
first_within count (output ∷ outputs) front rest is =
    go (nat_lt count (length output.octets)) is (first_within (count - length output.octets) outputs front rest)
  where
    go : (b : Bool) → (if b then record { octets = drop count output.octets; dependency = output.dependency } ∷ outputs
        else unreleased (count - length output.octets) outputs) ≡ front ∷ rest
        → (unreleased (count - length output.octets) outputs ≡ front ∷ rest → front.dependency ≤ greatest outputs)
        → front.dependency ≤ max output.dependency (greatest outputs)
    go true e later =
        let same : ◌≡◌ {A = Output} (record { octets = drop count output.octets; dependency = output.dependency }) front = cc e in
        omega (arith, ap (λ (o : Output). o.dependency) same)
    go false e later = omega (arith, later e)

-- once all changes are durable, the first output of each session may be given
module _ (served : TracedView) (h : IsServed served) (all : served.kernel.durable ≡ length served.kernel.spool)
    (rising : RiseFrom 0 served.kernel.seats) where
  bounded : (number : ℕ) → greatest ((account served).outputs number) ≤ served.kernel.durable
  bounded number =
      let cut : IsCut (length (first_spool served)) _ _ _ _ =
      (sync_cut (service served.kernel.host) (lawful served.kernel.host) (length (first_spool served)) (first_spool served)
      (arrived_at served) served.trace (omega arith)).each number in
      omega (arith, cut.bounded, ap length h.spool, all)

  filled : (number : ℕ) → EachFilled ((account served).outputs number)
  filled number = outputs_are_filled (service served.kernel.host) (lawful served.kernel.host) (first_spool served) (arrived_at served)
      served.trace number

  seat_can : (seat : Seat) → seat_of served.kernel seat.number ≡ Some seat → CanGo served.kernel.durable seat
  seat_can seat is front rest held =
      let outputs = (account served).outputs seat.number in
      let known = there_joined served.kernel.host served.kernel.durable (session_at served.sessions seat.number) seat
      ((account served).server.connections seat.number) outputs
      (subst (λ (o : Option Seat). IsSession served.kernel.host served.kernel.durable (session_at served.sessions seat.number) o
      ((account served).server.connections seat.number) outputs) is (h.each seat.number)) in
      let present : IsPresent seat known.0 ((account served).server.connections seat.number) outputs = known.2.there in
      let count = length known.0.released in
      let front_is : unreleased count outputs ≡ without_ends (front ∷ rest) = sym present.held ∙ ap without_ends held in (
        omega (arith, bounded seat.number, first_within count outputs _ _ front_is),
        (subst EachFilled front_is (EachFilled-unreleased count outputs (filled seat.number))).0,
      )

  pub all_can : All (CanGo served.kernel.durable) served.kernel.seats
  all_can k d low =
      let seats = served.kernel.seats in
      let seat : Seat = slice_index_or seats k d in
      let at : slice_get seats k ≡ Some seat = slice_get_read seats (length seats) k seat refl low (get_or_default seats k d seat low) in
      seat_can seat (find_at 0 k seats seat rising at)

-- ---- the end

some_left : (o : Option Sent) → option_map (λ (sent : Sent). sent.left) o ≡ Some false
    → (sent : Sent) × (o ≡ Some sent) × (sent.left ≡ false)
some_left None is = absurd (cc is)
some_left (Some sent) is = (sent, refl, cc is)

-- once nothing is held, each session was sent all
pub sends_all : (old new : TracedView) → AsksNothing old new → FollowsPlain new → All HoldsNothing new.kernel.seats → SendsAll old new
sends_all old new asks plain empty number sent is stays = go (seat_of new.kernel number) refl where
  now : (sent : Sent) × (session_at new.sessions number ≡ Some sent) × (sent.left ≡ false)
  now = some_left (session_at new.sessions number) (asks.left number ∙ ap (option_map (λ (sent : Sent). sent.left)) is ∙ ap Some stays)

  released : released_at new number ≡ now.0.released
  released = ap (λ (o : Option Sent). (unwrap_or o nobody).released) now.1

  go : (o : Option Seat) → seat_of new.kernel number ≡ o → released_at new number ≡ replies_to old number
  go None gone = released ∙ plain.ended number now.0 now.1 now.2 gone ∙ replies_still old new asks number
  go (Some seat) there =
      let place = find_place number new.kernel.seats seat there in
      let none : seat.held ≡ [] = all_at HoldsNothing place.0 new.kernel.seats seat empty place.1 in
      sym (append-nil (released_at new number))
      ∙ ap (λ (held : List HeldOutput). released_at new number ++ octets_of_held held) (sym none)
      ∙ plain.there number seat there ∙ replies_still old new asks number

-- ---- the loop

pub record DrainsOn {D : Type 0} (device : D → Device) (write_grows sync_grows : Bool) (old now : WorldView D) (gives : Bool) : Type 0 where
  pub inner : RunsInner {A = Unit {0}} device write_grows sync_grows old (Ok tt) now
  pub keeps : IsWorld device now
  pub asked : AsksNothing old.served now.served
  pub settled : IsSettled device (kernel_of old).halted now
  pub still : IsStill device old now
  pub cost : CostsToSettle device old (device now.journal.disk)
  pub empty : gives ≡ false → IsTrue (device now.journal.disk).tells → All HoldsNothing (kernel_of now).seats

-- how much is left, and whether a release is yet to come
abbrev pub left_to_give : {D : Type 0} → WorldView D → Bool → ℕ
left_to_give world gives = held_in (kernel_of world).seats + (if gives then 1 else 0)

module _ {D : Type 0} (device : D → Device) (write_grows sync_grows : Bool) (old now new : WorldView D) where
  pub drains_first : RunsInner {A = Unit {0}} device write_grows sync_grows old (Ok tt) now → IsWorld device now
      → now.served ≡ with_kernel old.served (with_progress (kernel_of old) (kernel_of now))
      → IsSettled device (kernel_of old).halted now → IsStill device old now
      → CostsToSettle device old (device now.journal.disk) → DrainsOn device write_grows sync_grows old now true
  drains_first inner keeps served settled still cost = record {
    inner = inner;
    keeps = keeps;
    asked = asks_progress old.served now.served (kernel_of now) served;
    settled = settled;
    still = still;
    cost = cost;
    empty = λ is. absurd (cc is);
  }

  module _ (so_far : DrainsOn device write_grows sync_grows old now true) where
    all_gone : IsTrue (device now.journal.disk).tells → length (releases now.served).ready ≡ 0
        → All HoldsNothing (releases now.served).kernel.seats
    all_gone tells none =
        nothing_held (kernel_of now).durable 65536 (kernel_of now).seats (omega arith)
        (all_can now.served so_far.keeps.served (so_far.settled.durable tells) so_far.keeps.kernel.rising)
        (nil_from_length (releases now.served).ready none)

    pub drains_more : (gave : Bool) → ReleasesSome device write_grows sync_grows now (Ok gave) new
        → DrainsOn device write_grows sync_grows old new gave
    drains_more gave h =
        let same : with_served now (releases now.served) ≡ new = sym h.did.0 in
        record {
          inner = inner_then device write_grows sync_grows old now new tt (Ok tt) so_far.inner
              (inner_as device write_grows sync_grows now new (Ok gave) (Ok tt) (λ _ is. cc) h.inner);
          keeps = h.keeps;
          asked = subst (λ (w : WorldView D). AsksNothing old.served w.served) same
              (asks_then old.served now.served (releases now.served) so_far.asked (asks_releases device now so_far.keeps));
          settled = subst (λ (w : WorldView D). IsSettled device (kernel_of old).halted w) same (record {
            ready = so_far.settled.ready;
            halted = so_far.settled.halted;
            none = so_far.settled.none;
            clean = so_far.settled.clean;
            told = so_far.settled.told;
            durable = so_far.settled.durable;
          });
          still = subst (λ (w : WorldView D). IsStill device old w) same
              (record { ran = so_far.still.ran; failures = so_far.still.failures });
          cost = subst (λ (w : WorldView D). CostsToSettle device old (device w.journal.disk)) same so_far.cost;
          empty = λ is. subst (λ (w : WorldView D). IsTrue (device w.journal.disk).tells → All HoldsNothing (kernel_of w).seats) same
              (λ tells. all_gone tells (no_more is));
        }
      where
        no_more : gave ≡ false → length (releases now.served).ready ≡ 0
        no_more is = go (length new.served.ready == 0) refl where
          go : (b : Bool) → (length new.served.ready == 0) ≡ b → length (releases now.served).ready ≡ 0
          go true none = ap (λ (w : WorldView D). length w.served.ready) (sym h.did.0) ∙ eqb-true (length new.served.ready) 0 none
          go false some = absurd (let no : false ≡ true = sym is ∙ h.did.1 ∙ ap not some in cc)

    pub drains_fewer : (gave : Bool) → ReleasesSome device write_grows sync_grows now (Ok gave) new
        → left_to_give new gave < left_to_give now true
    drains_fewer gave h = go gave refl where
      falls : held_in (kernel_of new).seats + length new.served.ready ≤ held_in (kernel_of now).seats
      falls = subst (λ (w : WorldView D). held_in (kernel_of w).seats + length w.served.ready ≤ held_in (kernel_of now).seats)
          (sym h.did.0) (ready_falls (kernel_of now).durable 65536 (kernel_of now).seats)

      go : (b : Bool) → gave ≡ b → held_in (kernel_of new).seats + (if b then 1 else 0) < held_in (kernel_of now).seats + 1
      go false is = omega (arith, falls)
      go true is =
          let some : (length new.served.ready == 0) ≡ false = was_some (length new.served.ready == 0) (sym h.did.1 ∙ is) in
          omega (arith, falls, eqb-false (length new.served.ready) 0 some)
        where
          was_some : (b : Bool) → not b ≡ true → b ≡ false
          was_some true e = absurd (cc e)
          was_some false e = refl

-- ---- one release

module _ {D : Type 0} (device : D → Device) (write_grows sync_grows : Bool) (now new : WorldView D) where
  module _ (world : IsWorld device new) (during : EachSince (device now.journal.disk) (device new.journal.disk) (Fits now))
      (since : LeftFits (device now.journal.disk) (device new.journal.disk) (Fits now)) where
    pub release_refused : (e : StepError) → Did device write_grows sync_grows now event.Release (Err e) new
        → ReleasesSome device write_grows sync_grows now (Err e) new
    release_refused e d =
        let one = inner_one device write_grows sync_grows now new event.Release (Err e) (Err e) tt (λ fine. λ is. fine (cc)) d world
        during since in
        record { inner = one; keeps = world; did = d }

    pub released_some : (a : StepAnswer) (gave : Bool) → Did device write_grows sync_grows now event.Release (Ok a) new
        → gave ≡ not (length new.served.ready == 0) → ReleasesSome device write_grows sync_grows now (Ok gave) new
    released_some a gave d is = record {
      inner = inner_one device write_grows sync_grows now new event.Release (Ok a) (Ok gave) tt (λ _ no. cc) d world during since;
      keeps = world;
      did = (d.1, is);
    }

-- ---- what a call says of its end

module _ {D : Type 0} (device : D → Device) (old new : WorldView D) (why : Type 0) where
  pub fault_of : (e : StepError) → IsHindered device old new why e
      → (◌≡◌ {A = Result (Unit {0}) StepError} (Err e) (Err error.Fault))
      ↔ ((device new.journal.disk).failures ≢ (device old.journal.disk).failures)
  fault_of e (inl (runs, is, fails)) = (λ _. fails, λ _. ap Err is)
  fault_of e (inr (inl (stopped, is, same))) = (
    λ other. absurd (let no : error.Halted ≡ error.Fault = sym is ∙ cc other in cc),
    λ differs. absurd (differs (ap (λ (w : WorldView D). (device w.journal.disk).failures) same)),
  )
  fault_of e (inr (inr (runs, is, same, reason))) = (
    λ other. absurd (let no : error.Memory ≡ error.Fault = sym is ∙ cc other in cc),
    λ differs. absurd (differs same),
  )

  pub halted_of : (e : StepError) → IsHindered device old new why e
      → (◌≡◌ {A = Result (Unit {0}) StepError} (Err e) (Err error.Halted)) ↔ (old.journal.halted ≡ true)
  halted_of e (inl (runs, is, fails)) = (
    λ other. absurd (let no : error.Fault ≡ error.Halted = sym is ∙ cc other in cc),
    λ stopped. absurd (true≢false (sym stopped ∙ runs)),
  )
  halted_of e (inr (inl (stopped, is, same))) = (λ _. stopped, λ _. ap Err is)
  halted_of e (inr (inr (runs, is, same, reason))) = (
    λ other. absurd (let no : error.Memory ≡ error.Halted = sym is ∙ cc other in cc),
    λ stopped. absurd (true≢false (sym stopped ∙ runs)),
  )

  pub stays_of : (e : StepError) → IsHindered device old new why e
      → ◌≡◌ {A = Result (Unit {0}) StepError} (Err e) (Err error.Halted) → new ≡ old
  stays_of e (inl (runs, is, fails)) other = absurd (let no : error.Fault ≡ error.Halted = sym is ∙ cc other in cc)
  stays_of e (inr (inl (stopped, is, same))) other = same
  stays_of e (inr (inr (runs, is, same, reason))) other = absurd (let no : error.Memory ≡ error.Halted = sym is ∙ cc other in cc)

  pub memory_of : (e : StepError) → IsHindered device old new why e
      → ◌≡◌ {A = Result (Unit {0}) StepError} (Err e) (Err error.Memory) → why
  memory_of e (inl (runs, is, fails)) other = absurd (let no : error.Fault ≡ error.Memory = sym is ∙ cc other in cc)
  memory_of e (inr (inl (stopped, is, same))) other = absurd (let no : error.Halted ≡ error.Memory = sym is ∙ cc other in cc)
  memory_of e (inr (inr (runs, is, same, reason))) other = reason

  pub still_fault : IsStill device old new → (◌≡◌ {A = Result (Unit {0}) StepError} (Ok tt) (Err error.Fault))
      ↔ ((device new.journal.disk).failures ≢ (device old.journal.disk).failures)
  still_fault still = (λ e. absurd (cc e), λ differs. absurd (differs still.failures))

  pub still_halted : IsStill device old new → (◌≡◌ {A = Result (Unit {0}) StepError} (Ok tt) (Err error.Halted))
      ↔ (old.journal.halted ≡ true)
  still_halted still = (λ e. absurd (cc e), λ stopped. absurd (true≢false (sym stopped ∙ still.ran)))

module _ {D : Type 0} (device : D → Device) (write_grows sync_grows : Bool) (old now new : WorldView D) where
  -- a device that takes no memory is no hindrance for want of it
  pub weaker_hindrance : (first second : Type 0) (e : StepError) → (first → second) → IsHindered device old new first e
      → IsHindered device old new second e
  weaker_hindrance first second e f (inl fault) = inl fault
  weaker_hindrance first second e f (inr (inl halted)) = inr (inl halted)
  weaker_hindrance first second e f (inr (inr (runs, is, same, reason))) = inr (inr (runs, is, same, f reason))

  module _ (so_far : DrainsOn device write_grows sync_grows old now true) (e : StepError)
      (h : ReleasesSome device write_grows sync_grows now (Err e) new) where
    pub refused_inner : RunsInner {A = Unit {0}} device write_grows sync_grows old (Err e) new
    refused_inner = inner_then device write_grows sync_grows old now new tt (Err e) so_far.inner
        (inner_as device write_grows sync_grows now new (Err e) (Err e) (λ fine is. fine (cc)) h.inner)

    pub refused_asks : AsksNothing old.served new.served
    refused_asks = subst (λ (w : WorldView D). AsksNothing old.served w.served) (sym h.did.1) so_far.asked

    pub refused_hindered : (first : Type 0) → IsHindered device old new (first ⊎ IsSettled device (kernel_of old).halted new) e
    refused_hindered first = inr (inr (
      so_far.still.ran,
      h.did.0,
      ap (λ (w : WorldView D). (device w.journal.disk).failures) h.did.1 ∙ so_far.still.failures,
      inr (subst (λ (w : WorldView D). IsSettled device (kernel_of old).halted w) (sym h.did.1) so_far.settled),
    ))

-- ---- all that is said of a drain

pub record Drains {D : Type 0} (device : D → Device) (write_grows sync_grows : Bool) (old : WorldView D)
    (result : Result (Unit {0}) StepError) (new : WorldView D) : Type 0 where
  pub inner : RunsInner device write_grows sync_grows old result new
  pub now : EachNow (device new.journal.disk) (Fits new)
  pub keeps : IsWorld device new
  pub asked : AsksNothing old.served new.served
  pub ok : OnOk result (IsSettled device (kernel_of old).halted new)
  pub all : IsTrue (device old.journal.disk).tells → OnOk result (SendsAll old.served new.served)
  pub cost : OnOk result (CostsToSettle device old (device new.journal.disk))
  pub fault : (result ≡ Err error.Fault) ↔ ((device new.journal.disk).failures ≢ (device old.journal.disk).failures)
  pub halted : (result ≡ Err error.Halted) ↔ (old.journal.halted ≡ true)
  pub stays : result ≡ Err error.Halted → new ≡ old
  pub memory : result ≡ Err error.Memory → IsTrue (write_grows || sync_grows) ⊎ IsSettled device (kernel_of old).halted new

module _ {D : Type 0} (device : D → Device) (write_grows sync_grows : Bool) (old now new : WorldView D) where
  pub undrained : (e : StepError) → RunsInner {A = Unit {0}} device write_grows sync_grows old (Err e) new → IsWorld device new
      → AsksNothing old.served new.served
      → IsHindered device old new (IsTrue (write_grows || sync_grows) ⊎ IsSettled device (kernel_of old).halted new) e
      → Drains device write_grows sync_grows old (Err e) new
  undrained e inner keeps asked hindered =
      let why = IsTrue (write_grows || sync_grows) ⊎ IsSettled device (kernel_of old).halted new in
      record {
        inner = inner;
        now = now_fits device new keeps;
        keeps = keeps;
        asked = asked;
        ok = tt;
        all = λ _. tt;
        cost = tt;
        fault = fault_of device old new why e hindered;
        halted = halted_of device old new why e hindered;
        stays = stays_of device old new why e hindered;
        memory = memory_of device old new why e hindered;
      }

  pub unsettled_drain : (e : StepError) → Settles device write_grows sync_grows old (Err e) new
      → Drains device write_grows sync_grows old (Err e) new
  unsettled_drain e h = undrained e h.inner h.keeps (asks_progress old.served new.served (kernel_of new) h.served)
      (weaker_hindrance device write_grows sync_grows old now new (IsTrue (write_grows || sync_grows))
      (IsTrue (write_grows || sync_grows) ⊎ IsSettled device (kernel_of old).halted new) e inl h.hindered)

  pub unreleased_drain : DrainsOn device write_grows sync_grows old now true → (e : StepError)
      → ReleasesSome device write_grows sync_grows now (Err e) new → Drains device write_grows sync_grows old (Err e) new
  unreleased_drain so_far e h =
      undrained e (refused_inner device write_grows sync_grows old now new so_far e h) h.keeps
      (refused_asks device write_grows sync_grows old now new so_far e h)
      (refused_hindered device write_grows sync_grows old now new so_far e h (IsTrue (write_grows || sync_grows)))

  pub drained : DrainsOn device write_grows sync_grows old new false → Drains device write_grows sync_grows old (Ok tt) new
  drained h = record {
    inner = h.inner;
    now = now_fits device new h.keeps;
    keeps = h.keeps;
    asked = h.asked;
    ok = h.settled;
    all = λ tells. sends_all old.served new.served h.asked h.keeps.plain (h.empty refl (subst IsTrue (sym h.inner.tells) tells));
    cost = h.cost;
    fault = still_fault device old new (Unit {0}) h.still;
    halted = still_halted device old new (Unit {0}) h.still;
    stays = λ e. absurd (cc e);
    memory = λ e. absurd (cc e);
  }
