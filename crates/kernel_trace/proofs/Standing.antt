-- One session beside the plain server's, before and after each event.
use Rattle.std.proofs.Common.{◌≡◌, ◌≢◌, ℕ, ◌≤◌, Bool, true, false, List, [], ◌∷◌, ◌++◌, length, drop, Option, Some, None, refl, ap, sym}
use Rattle.std.proofs.Common.{◌∙◌, subst, arith}
use Rattle.std.specs.Prelude.{max, option_map, is_none, if◌then◌else◌}
use Rattle.std.proofs.lemmas.List.{append-nil, map-append}
use Rattle.std.proofs.Math.Seq.{drop-append_seam}
use mathlib.Core.List.{IsPrefix}
use Rattle.model.specs.Stream.{Octets}
use Rattle.model.specs.News.{greeting, mode_of}
use Rattle.model.specs.declared.session.Session.{Session}
use Rattle.kernel_outbox.specs.Queue.{HeldOutput, Giving, give, last_dependency}
use Rattle.kernel_outbox.proofs.GivingLaws.{give-last_dependency}
use Rattle.kernel_seats.specs.Seats.{Seat, new_seat}
use Rattle.synchrony.specs.Server.{Connection}
use Rattle.synchrony.specs.Dependency.{Output, greatest, octets_of}
use Rattle.synchrony.specs.Synchrony.{IsReleased}
use Rattle.synchrony.specs.Progress.{EachFilled, unreleased, with_more}
use Rattle.synchrony.proofs.Fronts.{prefix_length}
use Rattle.synchrony.proofs.Outputs.{greatest-append}
use Rattle.synchrony.proofs.Released.{IsReleased-raise, IsReleased-more, IsReleased-none, unreleased-more, unreleased-none}
use Rattle.synchrony.proofs.Released.{octets_of-unreleased}
use Rattle.synchrony.proofs.Filled.{EachFilled-unreleased}
use Rattle.synchrony.proofs.Giving.{gives_go_on}
use Rattle.kernel_trace.specs.Traced.{Sent, nobody, without_ends, EndsLast, IsPresent, HasEnded, IsThere, IsUnknown, IsKnown, IsSession}
use Rattle.kernel_trace.proofs.Giving.{give_gives, give_ends}
use Rattle.kernel_trace.proofs.Seats.{Given, seat_after}
use Rattle.kernel_trace.proofs.Sessions.{sent_more}

-- the same under equal names
pub IsSession-along : (host : Octets) (durable : ℕ) {sent sent' : Option Sent} {seat seat' : Option Seat}
    {connection connection' : Connection Session} {outputs outputs' : List Output}
    → sent' ≡ sent → seat' ≡ seat → connection' ≡ connection → outputs' ≡ outputs → IsSession host durable sent seat connection outputs
    → IsSession host durable sent' seat' connection' outputs'
IsSession-along host durable a b c d h =
    subst (λ (t : Option Sent × Option Seat × Connection Session × List Output). IsSession host durable t.0 t.1 t.2 t.3)
    (λ i. (sym a i, sym b i, sym c i, sym d i)) h

-- a session that is there joined
pub there_joined : (host : Octets) (durable : ℕ) (sent : Option Sent) (seat : Seat) (connection : Connection Session)
    (outputs : List Output) → IsSession host durable sent (Some seat) connection outputs
    → (s : Sent) × (sent ≡ Some s) × IsKnown durable (Some seat) s connection outputs
there_joined host durable None seat connection outputs h = absurd (cc (h.nowhere))
there_joined host durable (Some sent) seat connection outputs h = (sent, refl, h)

-- more changes are durable
pub IsSession-raise : (host : Octets) (durable more : ℕ) (sent : Option Sent) (seat : Option Seat) (connection : Connection Session)
    (outputs : List Output) → durable ≤ more → IsSession host durable sent seat connection outputs
    → IsSession host more sent seat connection outputs
IsSession-raise host durable more None seat connection outputs le h = h
IsSession-raise host durable more (Some sent) seat connection outputs le h =
    record { released = IsReleased-raise durable more sent.released outputs le h.released; there = h.there }

-- a session joins
pub IsSession-joins : (host : Octets) (durable number : ℕ) (seat : Option Seat) (connection : Connection Session) (outputs : List Output)
    → greeting host ≢ [] → IsUnknown host seat connection outputs
    → IsSession host durable (Some nobody) (Some (new_seat host number)) connection outputs
IsSession-joins host durable number seat connection outputs greets u =
    let first : Output = record { octets = greeting host; dependency = 0 } in
    record {
      released = IsReleased-none durable outputs;
      there = record {
        stays = refl;
        session = sym u.fresh;
        held = sym (ap (unreleased 0) u.greeted ∙ unreleased-none first [] greets);
        read = sym (ap greatest u.greeted);
        ends = refl;
      };
    }

-- octets arrive
abbrev pub sent_arrived : Octets → Sent → Sent
sent_arrived octets sent = record { arrived = sent.arrived ++ octets; released = sent.released; left = sent.left }

there_arrived : (octets : Octets) (seat : Option Seat) (sent : Sent) (connection : Connection Session) (outputs : List Output)
    → IsThere seat sent connection outputs → IsThere seat (sent_arrived octets sent) (with_more connection octets) outputs
there_arrived octets None sent connection outputs h = λ stays. let e : HasEnded _ _ _ = h stays in record { all = e.all; closed = e.closed }
there_arrived octets (Some seat) sent connection outputs h = record {
  stays = h.stays;
  session = h.session;
  held = h.held;
  read = h.read;
  ends = h.ends;
}

pub IsSession-arrives : (host : Octets) (durable : ℕ) (octets : Octets) (sent : Option Sent) (seat : Option Seat)
    (connection : Connection Session) (outputs : List Output) → (sent ≡ None → octets ≡ [])
    → IsSession host durable sent seat connection outputs
    → IsSession host durable (option_map (sent_arrived octets) sent) seat (with_more connection octets) outputs
IsSession-arrives host durable octets None seat connection outputs none u =
    record { nowhere = u.nowhere; fresh = u.fresh; silent = (λ i. u.silent i ++ none refl i); greeted = u.greeted }
IsSession-arrives host durable octets (Some sent) seat connection outputs none h =
    record { released = h.released; there = there_arrived octets seat sent connection outputs h.there }

-- a session leaves
pub IsSession-left : (host : Octets) (durable : ℕ) (sent : Sent) (seat : Option Seat) (connection : Connection Session)
    (outputs : List Output) → IsKnown durable seat sent connection outputs
    → IsSession host durable (Some (record sent { left = true })) None connection outputs
IsSession-left host durable sent seat connection outputs h = record { released = h.released; there = λ stays. absurd (cc stays) }

-- ---- a message is served

last_pushed : (given : ℕ) (held : List HeldOutput) (last : HeldOutput) → last_dependency given (held ++ last ∷ []) ≡ last.dependency
last_pushed given [] last = refl
last_pushed given (first ∷ held) last = last_pushed first.dependency held last

EndsLast-pushed : (closed : Bool) (held : List HeldOutput) (last : HeldOutput) → EndsLast false held → last.ends ≡ closed
    → EndsLast closed (held ++ last ∷ [])
EndsLast-pushed closed [] last h is = is
EndsLast-pushed closed (first ∷ []) last h is = (h, is)
EndsLast-pushed closed (first ∷ next ∷ held) last h is = (h.0, EndsLast-pushed closed (next ∷ held) last h.1 is)

abbrev pub output_of : List ℕ → ℕ → Output
output_of reply dependency = record { octets = reply; dependency = dependency }

pub IsSession-served : (host : Octets) (durable : ℕ) (sent : Sent) (seat : Seat) (connection : Connection Session) (outputs : List Output)
    (next : Session) (reply rest : List ℕ) (reads : ℕ)
    → IsKnown durable (Some seat) sent connection outputs → is_none (mode_of seat.session.awaits) ≡ false → reply ≢ []
    → IsSession host durable (Some sent)
    (Some (record {
      number = seat.number;
      session = next;
      given = seat.given;
      held = seat.held ++ record {
        octets = reply;
        dependency = max (last_dependency seat.given seat.held) reads;
        ends = is_none (mode_of next.awaits);
      } ∷ [];
    }))
    (record { session = next; pending = rest; replies = connection.replies ++ reply ∷ [] })
    (outputs ++ output_of reply (max (greatest outputs) reads) ∷ [])
IsSession-served host durable sent seat connection outputs next reply rest reads h awaits filled =
    let was : IsPresent seat sent connection outputs = h.there in
    let last : HeldOutput = record {
      octets = reply;
      dependency = max (last_dependency seat.given seat.held) reads;
      ends = is_none (mode_of next.awaits);
    } in
    let output : Output = output_of reply (max (greatest outputs) reads) in
    let same : max (last_dependency seat.given seat.held) reads ≡ max (greatest outputs) reads = ap (λ n. max n reads) was.read in
    let held : without_ends (seat.held ++ last ∷ []) ≡ unreleased (length sent.released) (outputs ++ output ∷ []) =
    map-append (λ (h : HeldOutput). output_of h.octets h.dependency) seat.held (last ∷ [])
    ∙ ((λ i. was.held i ++ output_of reply (same i) ∷ [])
    ∙ sym (unreleased-more (length sent.released) outputs output (prefix_length sent.released (octets_of outputs) h.released.begins)
    filled)) in
    record {
      released = IsReleased-more durable sent.released outputs (output ∷ []) h.released;
      there = record {
        stays = was.stays;
        session = refl;
        held = held;
        read = last_pushed seat.given seat.held last ∙ (same ∙ sym (omega (arith, greatest-append outputs (output ∷ []))));
        ends = EndsLast-pushed (is_none (mode_of next.awaits)) seat.held last (subst (λ b. EndsLast b seat.held) awaits was.ends) refl;
      };
    }

-- ---- a release

none_closed : {A : Type 0} (o : Option A) → is_none o ≡ true → o ≡ None
none_closed None is = refl
none_closed (Some a) is = absurd (cc is)

-- a front whose rest is nothing is all
all_begun : (front whole : List ℕ) → IsPrefix front whole → drop (length front) whole ≡ [] → front ≡ whole
all_begun front whole begins none =
    let rest : begins.0 ≡ [] = sym (drop-append_seam front begins.0) ∙ (ap (drop (length front)) begins.1 ∙ none) in
    sym (append-nil front) ∙ (ap (λ xs. front ++ xs) (sym rest) ∙ begins.1)

module _ (host : Octets) (durable room : ℕ) (sent : Sent) (seat : Seat) (connection : Connection Session) (outputs : List Output)
    (h : IsKnown durable (Some seat) sent connection outputs) (filled : EachFilled outputs) where
  given : Giving
  given = give durable room seat.given seat.held

  was : IsPresent seat sent connection outputs
  was = h.there

  now : IsReleased durable (sent.released ++ given.octets) outputs
      × (without_ends given.held ≡ unreleased (length (sent.released ++ given.octets)) outputs)
  unfolding given
  now = gives_go_on.released durable sent.released outputs (without_ends seat.held)
      (without_ends given.held) given.octets h.released was.held
      (give_gives durable room seat.given seat.held
      (subst EachFilled (sym was.held) (EachFilled-unreleased (length sent.released) outputs filled)))

  ends : (given.ended ≡ true → (given.held ≡ []) × (is_none (mode_of seat.session.awaits) ≡ true))
      × (given.ended ≡ false → EndsLast (is_none (mode_of seat.session.awaits)) given.held)
  unfolding given
  ends = give_ends (is_none (mode_of seat.session.awaits)) durable room seat.given seat.held was.ends

  all_sent : given.held ≡ [] → sent.released ++ given.octets ≡ octets_of outputs
  all_sent none =
      all_begun (sent.released ++ given.octets) (octets_of outputs) now.0.begins
      (sym (octets_of-unreleased (length (sent.released ++ given.octets)) outputs)
      ∙ (ap octets_of (sym now.1) ∙ ap (λ held. octets_of (without_ends held)) none))

  IsSession-given : IsSession host durable (Some (sent_more (give durable room seat.given seat.held).octets sent))
      (seat_after seat (give durable room seat.given seat.held)) connection outputs
  unfolding given
  IsSession-given = record { released = now.0; there = go given.ended refl }
    where
      go : (b : Bool) → given.ended ≡ b
          → IsThere (if b then None else Some (record {
            number = seat.number;
            session = seat.session;
            given = given.given;
            held = given.held;
          })) (sent_more given.octets sent) connection outputs
      go true is = λ stays. let e = ends.0 is in
          record {
            all = all_sent e.0;
            closed = ap (λ (x : Session). mode_of x.awaits) (sym was.session)
                ∙ none_closed (mode_of seat.session.awaits) e.1;
          }
      go false is = record {
        stays = was.stays;
        session = was.session;
        held = now.1;
        read = give-last_dependency durable room seat.given seat.held
            ∙ was.read;
        ends = ends.1 is;
      }

there_none : (sent : Sent) (octets : List ℕ) (connection : Connection Session) (outputs : List Output) → octets ≡ []
    → IsThere None sent connection outputs → IsThere None (sent_more octets sent) connection outputs
there_none sent octets connection outputs none h = λ stays. let e : HasEnded _ _ _ = h stays in
    record { all = ap (λ xs. sent.released ++ xs) none ∙ (append-nil sent.released ∙ e.all); closed = e.closed }

pub IsSession-releases : (host : Octets) (durable : ℕ) (sent : Option Sent) (seat after : Option Seat) (octets : List ℕ)
    (connection : Connection Session) (outputs : List Output) → EachFilled outputs → Given durable seat after octets
    → IsSession host durable sent seat connection outputs
    → IsSession host durable (option_map (sent_more octets) sent) after connection outputs
IsSession-releases host durable None None after octets connection outputs filled g u =
    record { nowhere = g.0; fresh = u.fresh; silent = u.silent; greeted = u.greeted }
IsSession-releases host durable None (Some seat) after octets connection outputs filled g u = absurd (cc (u.nowhere))
IsSession-releases host durable (Some sent) None after octets connection outputs filled g h =
    let nowhere : IsSession host durable (Some (sent_more octets sent)) None connection outputs =
    record {
      released = subst (λ xs. IsReleased durable xs outputs) (sym (append-nil sent.released)
          ∙ ap (λ xs. sent.released ++ xs) (sym g.1)) h.released;
      there = there_none sent octets connection outputs g.1 h.there;
    } in
    IsSession-along host durable {sent = Some (sent_more octets sent)} {connection = connection} {outputs =
    outputs} refl g.0 refl refl nowhere
IsSession-releases host durable (Some sent) (Some seat) after octets connection outputs filled g h =
    IsSession-along host durable {connection = connection} {outputs = outputs} (ap (λ xs. Some (sent_more xs sent)) g.2) g.1 refl refl
    (IsSession-given host durable g.0 sent seat connection outputs h filled)
