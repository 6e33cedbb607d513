-- What each session sent and was sent, by its number, before and after each event.
use Rattle.std.proofs.Common.{◌≡◌, ◌≢◌, ℕ, zero, suc, ◌≤◌, ◌<◌, ◌+◌, ◌==◌, Bool, true, false, List, [], ◌∷◌, ◌++◌, length, set, Option}
use Rattle.std.proofs.Common.{Some, None, refl, ap, sym, ◌∙◌, subst, arith, append_assoc}
use Rattle.std.specs.Prelude.{map, slice_get, unwrap_or, option_map, All, not, ◌&&◌, if◌then◌else◌}
use Rattle.std.specs.Option.{IsSome}
use Rattle.std.proofs.lemmas.List.{append-nil, length-set}
use Rattle.std.proofs.lemmas.Option.{slice_get_past, slice_get_within, slice_get-map}
use Rattle.std.proofs.lemmas.List.Elements.{All-head, All-tail}
use Rattle.kernel_outbox.specs.Queue.{ReadyEntry, Giving, give, entry_of}
use Rattle.kernel_seats.specs.Seats.{Seat, ready}
use Rattle.kernel_seats.specs.Kept.{IsSeat}
use Rattle.kernel_seats.proofs.SeatsLaws.{eqb-same, find_place}
use Rattle.kernel.proofs.KernelLaws.{all_at}
use Rattle.model.specs.declared.change.Change.{Change}
use Rattle.synchrony.specs.Server.{updated}
use Rattle.kernel_trace.specs.Traced.{Sent, nobody, numbered, session_at, sent_at, with_sent}
use Rattle.kernel_trace.specs.Events.{ready_within, with_released}
use Rattle.kernel_trace.specs.Fields.{AreKnown, given_in}
use Rattle.kernel_trace.proofs.Seats.{eqb-other, by_number, seat_in, updated-same, updated-other}

get-set_same : {A : Type 0} (xs : List A) (i : ℕ) (x old : A) → slice_get xs i ≡ Some old → slice_get (set xs i x) i ≡ Some x
get-set_same [] i x old is = absurd (cc is)
get-set_same (y ∷ xs) zero x old is = refl
get-set_same (y ∷ xs) (suc i) x old is = get-set_same xs i x old is

get-set_other : {A : Type 0} (xs : List A) (i j : ℕ) (x : A) → j ≢ i → slice_get (set xs i x) j ≡ slice_get xs j
get-set_other [] i j x differs = refl
get-set_other (y ∷ xs) zero zero x differs = absurd (differs refl)
get-set_other (y ∷ xs) zero (suc j) x differs = refl
get-set_other (y ∷ xs) (suc i) zero x differs = refl
get-set_other (y ∷ xs) (suc i) (suc j) x differs = get-set_other xs i j x (λ e. differs (ap suc e))

get-push_here : {A : Type 0} (xs : List A) (x : A) → slice_get (xs ++ x ∷ []) (length xs) ≡ Some x
get-push_here [] x = refl
get-push_here (y ∷ xs) x = get-push_here xs x

get-push_other : {A : Type 0} (xs : List A) (x : A) (j : ℕ) → j ≢ length xs → slice_get (xs ++ x ∷ []) j ≡ slice_get xs j
get-push_other [] x zero differs = absurd (differs refl)
get-push_other [] x (suc j) differs = refl
get-push_other (y ∷ xs) x zero differs = refl
get-push_other (y ∷ xs) x (suc j) differs = get-push_other xs x j (λ e. differs (ap suc e))

-- one session more
pub numbered-pushed : {A : Type 0} (xs : List A) (x : A) (number : ℕ) → number ≡ length xs + 1 → (k : ℕ)
    → numbered (xs ++ x ∷ []) k ≡ updated (numbered xs) number (Some x) k
numbered-pushed {A} xs x number is =
    by_number (λ k. numbered (xs ++ x ∷ []) k ≡ updated (numbered xs) number (Some x) k) number
    (subst (λ n. numbered (xs ++ x ∷ []) n ≡ Some x) next (get-push_here xs x) ∙ sym (updated-same (numbered xs) number (Some x)))
    (λ k differs. other k differs ∙ sym (updated-other (numbered xs) number k (Some x) differs))
  where
    next : suc (length xs) ≡ number
    next = omega arith

    other : (k : ℕ) → k ≢ number → numbered (xs ++ x ∷ []) k ≡ numbered xs k
    other zero differs = refl
    other (suc j) differs = get-push_other xs x j (λ e. differs (ap suc e ∙ next))

pub session_at-joined : (sessions : List Sent) (sent : Sent) (number : ℕ) → number ≡ length sessions + 1 → (k : ℕ)
    → session_at (sessions ++ sent ∷ []) k ≡ updated (session_at sessions) number (Some sent) k
session_at-joined sessions sent number is = numbered-pushed sessions sent number is

-- the session changes
pub numbered-set : {A : Type 0} (xs : List A) (n : ℕ) (x old : A) → numbered xs (suc n) ≡ Some old → (k : ℕ)
    → numbered (set xs n x) k ≡ updated (numbered xs) (suc n) (Some x) k
numbered-set {A} xs n x old is =
    by_number (λ k. numbered (set xs n x) k ≡ updated (numbered xs) (suc n) (Some x) k) (suc n)
    (get-set_same xs n x old is ∙ sym (updated-same (numbered xs) (suc n) (Some x)))
    (λ k differs. other k differs ∙ sym (updated-other (numbered xs) (suc n) k (Some x) differs))
  where
    other : (k : ℕ) → k ≢ suc n → numbered (set xs n x) k ≡ numbered xs k
    other zero differs = refl
    other (suc j) differs = get-set_other xs n j x (λ e. differs (ap suc e))

pub session_at-with : (sessions : List Sent) (number : ℕ) (sent old : Sent) → session_at sessions number ≡ Some old → (k : ℕ)
    → session_at (with_sent sessions number sent) k ≡ updated (session_at sessions) number (Some sent) k
session_at-with sessions zero sent old is = absurd (cc is)
session_at-with sessions (suc n) sent old is = numbered-set sessions n sent old is

pub numbered-map : {A B : Type 0} (f : A → B) (xs : List A) (number : ℕ) → numbered (map f xs) number ≡ option_map f (numbered xs number)
numbered-map f xs zero = refl
numbered-map f xs (suc k) = slice_get-map f xs k

pub numbered-within : {A : Type 0} (xs : List A) (number : ℕ) (x : A) → numbered xs number ≡ Some x → (1 ≤ number) × (number ≤ length xs)
numbered-within xs zero x is = absurd (cc is)
numbered-within xs (suc k) x is = (omega arith, slice_get_within xs k x is)

pub length-with_sent : (sessions : List Sent) (number : ℕ) (sent : Sent) → length (with_sent sessions number sent) ≡ length sessions
length-with_sent sessions zero sent = refl
length-with_sent sessions (suc n) sent = length-set sessions n sent

-- the sessions that joined have the numbers from 1 on
pub session_at-some : (sessions : List Sent) (number : ℕ) → 1 ≤ number → number ≤ length sessions → IsSome (session_at sessions number)
session_at-some sessions zero some le = absurd (omega arith)
session_at-some (sent ∷ sessions) (suc zero) some le = refl
session_at-some [] (suc n) some le = absurd (omega arith)
session_at-some (sent ∷ sessions) (suc (suc n)) some le = session_at-some sessions (suc n) (omega arith) (omega arith)

pub session_at-past : (sessions : List Sent) (number : ℕ) → length sessions < number → session_at sessions number ≡ None
session_at-past sessions zero lt = refl
session_at-past sessions (suc n) lt = slice_get_past sessions n (omega arith)

-- ---- a release

abbrev pub sent_more : List ℕ → Sent → Sent
sent_more octets sent = record { arrived = sent.arrived; released = sent.released ++ octets; left = sent.left }

some_of : {A : Type 0} (o : Option A) → IsSome o → (x : A) × (o ≡ Some x)
some_of None is = absurd (cc is)
some_of (Some x) is = (x, refl)

more_none : (o : Option Sent) → o ≡ option_map (sent_more []) o
more_none None = refl
more_none (Some sent) = ap (λ xs. Some (record { arrived = sent.arrived; released = xs; left = sent.left }))
    (sym (append-nil sent.released))

-- one entry's octets
module _ (sessions : List Sent) (entry : ReadyEntry) (known : IsSome (session_at sessions entry.0)) where
  abbrev pub given_to : List Sent
  given_to = with_sent sessions entry.0 (record (sent_at sessions entry.0) { released = (sent_at sessions entry.0).released ++ entry.1 })

  given_to-at : (k : ℕ) → session_at given_to k ≡ option_map (sent_more (if entry.0 == k then entry.1 else [])) (session_at sessions k)
  given_to-at =
      by_number (λ k. session_at given_to k ≡ option_map (sent_more (if entry.0 == k then entry.1 else [])) (session_at sessions k)) entry.0
      (changed entry.0 ∙ (updated-same (session_at sessions) entry.0 (Some sent)
      ∙ ((λ i. Some (sent_more (sym own i) (same i)))
      ∙ ap (option_map (sent_more (if entry.0 == entry.0 then entry.1 else []))) (sym old.1))))
      (λ k differs. changed k ∙ (updated-other (session_at sessions) entry.0 k (Some sent) differs
      ∙ (more_none (session_at sessions k) ∙ ap (λ xs. option_map (sent_more xs) (session_at sessions k)) (sym (not_own k differs)))))
    where
      old : (x : Sent) × (session_at sessions entry.0 ≡ Some x)
      old = some_of (session_at sessions entry.0) known

      sent : Sent
      sent = record (sent_at sessions entry.0) { released = (sent_at sessions entry.0).released ++ entry.1 }

      changed : (k : ℕ) → session_at given_to k ≡ updated (session_at sessions) entry.0 (Some sent) k
      changed = session_at-with sessions entry.0 sent old.0 old.1

      same : sent_at sessions entry.0 ≡ old.0
      same = ap (λ o. unwrap_or o nobody) old.1

      own : (if entry.0 == entry.0 then entry.1 else []) ≡ entry.1
      own = ap (λ b. if b then entry.1 else []) (eqb-same entry.0)

      not_own : (k : ℕ) → k ≢ entry.0 → (if entry.0 == k then entry.1 else []) ≡ []
      not_own k differs = ap (λ b. if b then entry.1 else []) (eqb-other entry.0 k (λ e. differs (sym e)))

map_more : (first second : List ℕ) (o : Option Sent)
    → option_map (sent_more second) (option_map (sent_more first) o) ≡ option_map (sent_more (first ++ second)) o
map_more first second None = refl
map_more first second (Some sent) =
    ap (λ xs. Some (record { arrived = sent.arrived; released = xs; left = sent.left })) (append_assoc sent.released first second)

is_some-map : (octets : List ℕ) (o : Option Sent) → IsSome o → IsSome (option_map (sent_more octets) o)
is_some-map octets None is = absurd (cc is)
is_some-map octets (Some sent) is = refl

pub AreKnown-given : (sessions : List Sent) (entry : ReadyEntry) (known : IsSome (session_at sessions entry.0)) (entries : List ReadyEntry)
    → AreKnown sessions entries → AreKnown (given_to sessions entry known) entries
AreKnown-given sessions entry known [] h = tt
AreKnown-given sessions entry known (next ∷ entries) h = (
  subst IsSome (sym (given_to-at sessions entry known next.0))
      (is_some-map (if entry.0 == next.0 then entry.1 else []) (session_at sessions next.0) h.0),
  AreKnown-given sessions entry known entries h.1,
)

pub with_released-at : (sessions : List Sent) (entries : List ReadyEntry) → AreKnown sessions entries → (k : ℕ)
    → session_at (with_released sessions entries) k ≡ option_map (sent_more (given_in k entries)) (session_at sessions k)
with_released-at sessions [] known k = more_none (session_at sessions k)
with_released-at sessions (entry ∷ entries) known k =
    with_released-at (given_to sessions entry known.0) entries (AreKnown-given sessions entry known.0 entries known.1) k
    ∙ (ap (option_map (sent_more (given_in k entries))) (given_to-at sessions entry known.0 k)
    ∙ map_more (if entry.0 == k then entry.1 else []) (given_in k entries) (session_at sessions k))

pub length-with_released : (sessions : List Sent) (entries : List ReadyEntry) → length (with_released sessions entries) ≡ length sessions
length-with_released sessions [] = refl
length-with_released sessions (entry ∷ entries) =
    length-with_released (with_sent sessions entry.0
    (record (sent_at sessions entry.0) { released = (sent_at sessions entry.0).released ++ entry.1 })) entries
    ∙ length-with_sent sessions entry.0 _

-- what is handed out is of sessions that are there
AreKnown-append : (sessions : List Sent) (one two : List ReadyEntry) → AreKnown sessions one → AreKnown sessions two
    → AreKnown sessions (one ++ two)
AreKnown-append sessions [] two h k = k
AreKnown-append sessions (entry ∷ one) two h k = (h.0, AreKnown-append sessions one two h.1 k)

AreKnown-own : (sessions : List Sent) (number : ℕ) (g : Giving) → IsSome (session_at sessions number)
    → AreKnown sessions (entry_of number g)
AreKnown-own sessions number g known = go (length g.octets == 0 && not g.ended)
  where
    go : (b : Bool) → AreKnown sessions (if b then [] else (number, g.octets, g.ended) ∷ [])
    go true = tt
    go false = (known, tt)

pub ready_known : (host : List ℕ) (S : List Change) (joined p room : ℕ) (sessions : List Sent) (seats : List Seat)
    → length sessions ≡ joined → All (IsSeat host S joined) seats → AreKnown sessions (ready p room seats).entries
ready_known host S joined p room sessions [] long h = tt
ready_known host S joined p room sessions (seat ∷ seats) long h =
    let this : IsSeat host S joined seat = All-head (IsSeat host S joined) seat seats h in
    AreKnown-append sessions (entry_of seat.number (give p room seat.given seat.held)) _
    (AreKnown-own sessions seat.number (give p room seat.given seat.held)
    (session_at-some sessions seat.number this.some (omega (arith, this.spent))))
    (ready_known host S joined p (give p room seat.given seat.held).room sessions seats long (All-tail (IsSeat host S joined) seat seats h))

pub one_known : (host : List ℕ) (S : List Change) (joined p room number : ℕ) (sessions : List Sent)
    (seats : List Seat) → length sessions ≡ joined → All (IsSeat host S joined) seats
    → AreKnown sessions (ready_within p room seats (seat_in seats number)).entries
one_known host S joined p room number sessions seats long h = go (seat_in seats number) refl
  where
    go : (o : Option Seat) → seat_in seats number ≡ o → AreKnown sessions (ready_within p room seats o).entries
    go None is = tt
    go (Some seat) is =
        let place = find_place number seats seat is in
        let this : IsSeat host S joined seat = all_at (IsSeat host S joined) place.0 seats seat h place.1 in
        AreKnown-own sessions seat.number (give p room seat.given seat.held)
        (session_at-some sessions seat.number this.some (omega (arith, this.spent)))
