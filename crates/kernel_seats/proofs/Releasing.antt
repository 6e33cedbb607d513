-- What a session keeps when a release takes the front of its outputs.
use Rattle.std.proofs.Common.{◌≡◌, inl, inr, ⊎_elim, ℕ, suc, ◌≤◌, ◌<◌, ◌+◌, ◌-◌, ◌==◌, Bool, true, false, List, [], ◌∷◌, length, take, drop}
use Rattle.std.proofs.Common.{refl, ap, sym, ◌∙◌, subst, arith, length-drop}
use Rattle.std.specs.Prelude.{nat_lt, ◌||◌, if◌then◌else◌, Option, Some, None, IsSome, is_none, All}
use Rattle.std.proofs.lemmas.List.{drop-drop}
use Rattle.std.proofs.lemmas.List.Elements.{All-cons, All-head, All-tail}
use Rattle.std.proofs.lemmas.Bool.{or_parts}
use borrow.Author.Tests.{ltb-true}
use Rattle.model.specs.Stream.{Octets}
use Rattle.model.specs.Spool.{Spool}
use Rattle.model.specs.Answer.{new_session}
use Rattle.model.specs.Replies.{greeting}
use Rattle.model.specs.Service.{mode_of}
use Rattle.model.specs.declared.session.Session.{Session}
use Rattle.kernel_outbox.specs.Queue.{HeldOutput, Giving, give, nothing_more, cut_at, behind}
use Rattle.kernel_seats.specs.Seats.{Seat, ready, seat_given}
use Rattle.kernel_seats.specs.Kept.{Source, answer_at, made_at, IsReply, IsGreeting, AreReplies, SeatIsKept, StillAwaits, IsSeat, RiseFrom}

-- `give` at an output, by its two tests
abbrev give_by : Bool → Bool → ℕ → ℕ → ℕ → HeldOutput → List HeldOutput → Giving
give_by stays cut p room given held rest =
    if stays then nothing_more room given (held ∷ rest)
    else if cut then record { room = 0; octets = take room held.octets; ended = false; given = given; held = cut_at room held ∷ rest }
    else behind held (give p (room - length held.octets) held.dependency rest)

none_is_some : {A : Type 0} (o : Option A) → is_none o ≡ false → IsSome o
none_is_some None is = absurd (cc is)
none_is_some (Some a) is = refl

module _ (host : Octets) (S : Spool) where
  -- whole replies after an output, as what is held once that is gone
  as_kept : (session : Session) (before from : ℕ) (held : List HeldOutput) (last : Session)
      → AreReplies host S session before from held last
      → SeatIsKept host S before held last
  as_kept session before from [] last h = tt
  as_kept session before from (held ∷ rest) last h = inr (h.0, 0, h.1, h.4)

  -- the rest of what is held once its front is gone
  rest_is_kept : (given : ℕ) (held : HeldOutput) (rest : List HeldOutput) (last : Session) → SeatIsKept host S given (held ∷ rest) last
      → SeatIsKept host S held.dependency rest last
  rest_is_kept given held rest last h =
      ⊎_elim
      (λ (g : (cut : ℕ) × IsGreeting host given cut held × AreReplies host S new_session 0 0 rest last).
      subst (λ (n : ℕ). SeatIsKept host S n rest last) (sym g.1.dependency) (as_kept new_session 0 0 rest last g.2))
      (λ (r : (o : Source) × (cut : ℕ) × IsReply host S given cut o held × AreReplies host S (answer_at host S o).next held.dependency
      (o.position + length (made_at host S o)) rest last).
      as_kept _ _ _ rest last r.3)
      h

  -- the last output ends exactly where the session awaits nothing
  last_awaits : (given : ℕ) (held : HeldOutput) (last : Session) → held.ends ≡ false → SeatIsKept host S given (held ∷ []) last
      → IsSome (mode_of last.awaits)
  last_awaits given held last goes_on h =
      ⊎_elim
      (λ (g : (cut : ℕ) × IsGreeting host given cut held × AreReplies host S new_session 0 0 [] last).
      let new : IsSome (mode_of new_session.awaits) = refl in subst (λ (x : Session). IsSome (mode_of x.awaits)) g.2 new)
      (λ (r : (o : Source) × (cut : ℕ) × IsReply host S given cut o held × AreReplies host S (answer_at host S o).next held.dependency
      (o.position + length (made_at host S o)) [] last).
      subst (λ (x : Session). IsSome (mode_of x.awaits)) r.3
      (none_is_some (mode_of (answer_at host S r.0).next.awaits) (sym r.2.ends ∙ goes_on)))
      h

  -- a session awaits something before its last output, so an output with others after it does not end
  goes_on_before : (given : ℕ) (held later : HeldOutput) (rest : List HeldOutput) (last : Session)
      → SeatIsKept host S given (held ∷ later ∷ rest) last
      → held.ends ≡ false
  goes_on_before given held later rest last h =
      ⊎_elim
      (λ (g : (cut : ℕ) × IsGreeting host given cut held × AreReplies host S new_session 0 0 (later ∷ rest) last). g.1.ends)
      (λ (r : (o : Source) × (cut : ℕ) × IsReply host S given cut o held × AreReplies host S (answer_at host S o).next held.dependency
      (o.position + length (made_at host S o)) (later ∷ rest) last).
      let awaited : IsSome (mode_of (answer_at host S r.0).next.awaits) =
      subst (λ (x : Session). IsSome (mode_of x.awaits)) r.3.2 r.3.1.awaited in
      r.2.ends ∙ some_is_not_none (mode_of (answer_at host S r.0).next.awaits) awaited)
      h
    where
      some_is_not_none : {A : Type 0} (o : Option A) → IsSome o → is_none o ≡ false
      some_is_not_none None is = absurd (cc is)
      some_is_not_none (Some a) is = refl

  -- the front cut
  cut_is_kept : (given room : ℕ) (held : HeldOutput) (rest : List HeldOutput) (last : Session) → room < length held.octets
      → SeatIsKept host S given (held ∷ rest) last → SeatIsKept host S given (cut_at room held ∷ rest) last
  cut_is_kept given room held rest last inside h =
      ⊎_elim
      (λ (g : (cut : ℕ) × IsGreeting host given cut held × AreReplies host S new_session 0 0 rest last).
      let size : length held.octets ≡ length (greeting host) - g.0 = ap length g.1.octets ∙ length-drop g.0 (greeting host) in
      inl (
        g.0 + room,
        record {
          cut_within = omega arith;
          octets = ap (drop room) g.1.octets ∙ drop-drop room g.0 (greeting host);
          dependency = g.1.dependency;
          ends = g.1.ends;
          first_output = g.1.first_output;
        },
        g.2,
      ))
      (λ (r : (o : Source) × (cut : ℕ) × IsReply host S given cut o held × AreReplies host S (answer_at host S o).next held.dependency
      (o.position + length (made_at host S o)) rest last).
      let size : length held.octets ≡ length (answer_at host S r.0).reply - r.1 = ap length r.2.octets
      ∙ length-drop r.1 (answer_at host S r.0).reply in
      inr (
        r.0,
        r.1 + room,
        record {
          position = r.2.position;
          awaited = r.2.awaited;
          cut_within = omega arith;
          octets = ap (drop room) r.2.octets ∙ drop-drop room r.1 (answer_at host S r.0).reply;
          dependency = r.2.dependency;
          ends = r.2.ends;
          change = r.2.change;
        },
        r.3,
      ))
      h

  -- what is kept when a release takes the front; a session that does not end with it still awaits something, and one that ends holds
  -- nothing more
  pub record GivesKept (g : Giving) (last : Session) : Type 0 where
    pub outputs : SeatIsKept host S g.given g.held last
    pub awaits : g.ended ≡ false → StillAwaits g.held last
    pub ends : g.ended ≡ true → g.held ≡ []

  pub give_is_kept : (p room given : ℕ) (held : List HeldOutput) (last : Session) → SeatIsKept host S given held last
      → StillAwaits held last
      → GivesKept (give p room given held) last
  give_is_kept p room given [] last h awaits = record { outputs = h; awaits = λ _. awaits; ends = λ is. refl }
  give_is_kept p room given (held ∷ rest) last h awaits =
      go (λ goes_on. give_is_kept p (room - length held.octets) held.dependency rest last (rest_is_kept given held rest last h)
      (later_awaits rest refl goes_on))
      (nat_lt p held.dependency || room == 0) (nat_lt room (length held.octets)) refl
    where
      later_awaits : (later : List HeldOutput) → later ≡ rest → held.ends ≡ false → StillAwaits later last
      later_awaits [] is goes_on = last_awaits given held last goes_on
          (subst (λ (xs : List HeldOutput). SeatIsKept host S given (held ∷ xs) last) (sym is) h)
      later_awaits (next ∷ later) is goes_on = tt

      ended_alone : (later : List HeldOutput) → later ≡ rest → held.ends ≡ true
          → (give p (room - length held.octets) held.dependency later).held ≡ []
      ended_alone [] is ended = refl
      ended_alone (next ∷ later) is ended =
          let on : held.ends ≡ false = goes_on_before given held next later last
          (subst (λ (xs : List HeldOutput). SeatIsKept host S given (held ∷ xs) last) (sym is) h) in
          absurd (cc (ended, on))

      whole : (held.ends ≡ false → GivesKept (give p (room - length held.octets) held.dependency rest) last) → (ends : Bool)
          → held.ends ≡ ends → GivesKept (behind held (give p (room - length held.octets) held.dependency rest)) last
      whole tail false goes_on =
          let t = tail goes_on in
          record {
            outputs = t.outputs;
            awaits = λ is. t.awaits (or_parts held.ends (give p (room - length held.octets) held.dependency rest).ended is).1;
            ends = λ is. t.ends (subst (λ (b : Bool). (b || (give p (room - length held.octets) held.dependency rest).ended) ≡ true) goes_on
                is);
          }
      whole tail true ended =
          let none = ended_alone rest refl ended in
          record {
            outputs = subst (λ (xs : List HeldOutput). SeatIsKept host S
                (give p (room - length held.octets) held.dependency rest).given xs last)
                (sym none) tt;
            awaits = λ is. absurd (cc ((or_parts held.ends (give p (room - length held.octets) held.dependency rest).ended is).0, ended));
            ends = λ is. none;
          }

      go : (held.ends ≡ false → GivesKept (give p (room - length held.octets) held.dependency rest) last) → (stays : Bool) → (cut : Bool)
          → nat_lt room (length held.octets) ≡ cut → GivesKept (give_by stays cut p room given held rest) last
      go tail true cut is = record { outputs = h; awaits = λ _. tt; ends = λ is'. absurd (cc is') }
      go tail false true is = record {
        outputs = cut_is_kept given room held rest last (ltb-true room (length held.octets) is) h;
        awaits = λ _. tt;
        ends = λ is'. absurd (cc is');
      }
      go tail false false is = whole tail held.ends refl

  -- a session that goes on after what it gave
  pub seat_gives : (joined p room : ℕ) (seat : Seat) → IsSeat host S joined seat → (give p room seat.given seat.held).ended ≡ false
      → IsSeat host S joined (seat_given seat (give p room seat.given seat.held))
  seat_gives joined p room seat h is =
      let k = give_is_kept p room seat.given seat.held seat.session h.outputs h.awaits in
      record { outputs = k.outputs; awaits = k.awaits is; lawful = h.lawful; some = h.some; spent = h.spent }

  -- ---- all sessions

  pub ready_seats : (joined p room : ℕ) (seats : List Seat) → All (IsSeat host S joined) seats
      → All (IsSeat host S joined) (ready p room seats).seats
  ready_seats joined p room [] h = h
  ready_seats joined p room (seat ∷ seats) h =
      let g : Giving = give p room seat.given seat.held in
      go g.ended refl (give_is_kept p room seat.given seat.held seat.session this.outputs this.awaits)
      (ready_seats joined p g.room seats (All-tail (IsSeat host S joined) seat seats h))
    where
      this : IsSeat host S joined seat
      this = All-head (IsSeat host S joined) seat seats h

      go : (ended : Bool) → (give p room seat.given seat.held).ended ≡ ended → GivesKept (give p room seat.given seat.held) seat.session
          → All (IsSeat host S joined) (ready p (give p room seat.given seat.held).room seats).seats
          → All (IsSeat host S joined) (if ended then (ready p (give p room seat.given seat.held).room seats).seats else record {
            number =
                seat.number;
            session = seat.session;
            given = (give p room seat.given seat.held).given;
            held = (give p room seat.given seat.held).held;
          } ∷ (ready p (give p room seat.given seat.held).room seats).seats)
      go true is k later = later
      go false is k later = All-cons (IsSeat host S joined) _ _ (record {
        outputs = k.outputs;
        awaits = k.awaits is;
        lawful = this.lawful;
        some = this.some;
        spent = this.spent;
      }) later

-- fewer sessions rise too
pub RiseFrom-lower : (m n : ℕ) (seats : List Seat) → m ≤ n → RiseFrom n seats → RiseFrom m seats
RiseFrom-lower m n [] le h = tt
RiseFrom-lower m n (seat ∷ seats) le h = (omega (arith, h.0), h.1)

pub ready_rises : (n p room : ℕ) (seats : List Seat) → RiseFrom n seats → RiseFrom n (ready p room seats).seats
ready_rises n p room [] h = tt
ready_rises n p room (seat ∷ seats) h =
    go (give p room seat.given seat.held).ended (ready_rises seat.number p (give p room seat.given seat.held).room seats h.1)
  where
    go : (ended : Bool) → RiseFrom seat.number (ready p (give p room seat.given seat.held).room seats).seats
        → RiseFrom n (if ended then (ready p (give p room seat.given seat.held).room seats).seats else record {
          number = seat.number;
          session = seat.session;
          given = (give p room seat.given seat.held).given;
          held = (give p room seat.given seat.held).held;
        } ∷
        (ready p (give p room seat.given seat.held).room seats).seats)
    go true later = RiseFrom-lower n seat.number _ (omega (arith, h.0)) later
    go false later = (h.0, later)

pub ready_few : (p room : ℕ) (seats : List Seat) → length (ready p room seats).seats ≤ length seats
ready_few p room [] = omega arith
ready_few p room (seat ∷ seats) = go (give p room seat.given seat.held).ended (ready_few p (give p room seat.given seat.held).room seats)
  where
    go : (ended : Bool) → length (ready p (give p room seat.given seat.held).room seats).seats ≤ length seats
        → length (if ended then (ready p (give p room seat.given seat.held).room seats).seats else record {
          number = seat.number;
          session = seat.session;
          given = (give p room seat.given seat.held).given;
          held = (give p room seat.given seat.held).held;
        } ∷
        (ready p (give p room seat.given seat.held).room seats).seats) ≤ suc (length seats)
    go true le = omega arith
    go false le = omega arith
