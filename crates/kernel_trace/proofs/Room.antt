-- Room for what a release hands out.
use Rattle.std.proofs.Common.{◌≡◌, ◌≢◌, ℕ, zero, suc, ◌+◌, ◌-◌, ◌≤◌, ◌<◌, ◌==◌, Bool, true, false, List, [], ◌∷◌, ◌++◌, length, take, drop}
use Rattle.std.proofs.Common.{set, Option, Some, None, refl, ap, sym, ◌∙◌, subst, arith, length-append}
use Rattle.std.specs.Prelude.{slice_get, vec_len, vec_capacity, if◌then◌else◌, option_map}
use Rattle.std.proofs.Common.{⊎_elim}
use Rattle.std.proofs.lemmas.Bool.{cases_lt}
use Rattle.kernel_seats.specs.Kept.{RiseFrom}
use Rattle.std.specs.Option.{IsSome}
use Rattle.kernel_seats.specs.Seats.{Ready, Seat, ready}
use Rattle.kernel_seats.proofs.SeatsLaws.{eqb-same, find_place}
use Rattle.kernel_outbox.specs.Queue.{ReadyEntry}
use Rattle.synchrony.specs.Server.{updated}
use Rattle.model.proofs.Joined.{front_more}
use Rattle.kernel_trace.specs.Events.{ready_within, with_released}
use Rattle.kernel_trace.specs.Fields.{AreKnown, HasRoom, HaveRoom, given_in, inputs, sents}
use Rattle.kernel_trace.specs.Traced.{Sent, numbered, sent_at, with_numbered, with_sent}
use Rattle.kernel_trace.specs.declared.peer.Peer.{Peer}
use Rattle.kernel_trace.proofs.Peers.{AtPeer}
use Rattle.kernel_trace.proofs.Seats.{Given, by_number, eqb-other, one_gives, one_short, ready_gives, ready_short, seat_in}
use Rattle.kernel_trace.proofs.Seats.{seat_in-number, updated-other, updated-same}
use Rattle.kernel_trace.proofs.Sessions.{AreKnown-given, numbered-within}
use Rattle.kernel_trace.proofs.Sound.{numbered-with}

module _ (peers : List Peer) (number : ℕ) (was p : Peer) (at : AtPeer peers number was) where
  changed : (k : ℕ) → numbered (set peers (number - 1) p) k ≡ updated (numbered peers) number (Some p) k
  changed k = ap (λ xs. numbered xs k) (at.sets p) ∙ numbered-with peers number p was at.peer k

  here_is : (q : Peer) → numbered (set peers (number - 1) p) number ≡ Some q → p ≡ q
  here_is q is = cc (sym (changed number ∙ updated-same (numbered peers) number (Some p)) ∙ is)

  other_is : (k : ℕ) → k ≢ number → (q : Peer) → numbered (set peers (number - 1) p) k ≡ Some q → numbered peers k ≡ Some q
  other_is k differs q is = sym (changed k ∙ updated-other (numbered peers) number k (Some p) differs) ∙ is

  -- so many octets are added to one, where there was room for them
  pub room_after : (grown : ℕ) (needed : ℕ → ℕ) → vec_len p.released ≡ vec_len was.released + grown
      → vec_capacity was.released ≤ vec_capacity p.released → HaveRoom peers (λ k. (if number == k then grown else 0) + needed k)
      → HaveRoom (set peers (number - 1) p) needed
  room_after grown needed len capacity h =
      by_number (λ k. HasRoom (set peers (number - 1) p) k (needed k)) number
      (λ q is. subst (λ (x : Peer). vec_len x.released + needed number ≤ vec_capacity x.released) (here_is q is) here)
      (λ k differs q is.
      let old : vec_len q.released + ((if number == k then grown else 0) + needed k) ≤ vec_capacity q.released =
      h k q (other_is k differs q is) in
      let none : (if number == k then grown else 0) ≡ 0 = ap (λ b. if b then grown else 0) (eqb-other number k (λ e. differs (sym e))) in
      omega arith)
    where
      here : vec_len p.released + needed number ≤ vec_capacity p.released
      here =
          let old : vec_len was.released + ((if number == number then grown else 0) + needed number) ≤ vec_capacity was.released =
          h number was at.peer in
          let all : (if number == number then grown else 0) ≡ grown = ap (λ b. if b then grown else 0) (eqb-same number) in
          omega arith

  -- a capacity grows
  pub room_stays : vec_len p.released ≡ vec_len was.released → vec_capacity was.released ≤ vec_capacity p.released → (k needed : ℕ)
      → HasRoom peers k needed → HasRoom (set peers (number - 1) p) k needed
  room_stays len capacity k needed =
      by_number (λ k. HasRoom peers k needed → HasRoom (set peers (number - 1) p) k needed) number
      (λ h q is. subst (λ (x : Peer). vec_len x.released + needed ≤ vec_capacity x.released) (here_is q is)
      (let old : vec_len was.released + needed ≤ vec_capacity was.released = h was at.peer in omega arith))
      (λ j differs h q is. h q (other_is j differs q is))
      k

  pub room_here : (needed : ℕ) → vec_len p.released + needed ≤ vec_capacity p.released → HasRoom (set peers (number - 1) p) number needed
  room_here needed le q is = subst (λ (x : Peer). vec_len x.released + needed ≤ vec_capacity x.released) (here_is q is) le

-- what the loop over the sessions that are there leaves
pub record MakesRoom (seats : List Seat) (old new : List Peer) (place : ℕ) : Type 0 where
  pub sent : sents new ≡ sents old
  pub input : inputs new ≡ inputs old
  pub room : (k : ℕ) (seat : Seat) → k < place → slice_get seats k ≡ Some seat → HasRoom new seat.number 65536

pub get_past : {A : Type 0} (xs : List A) (place k : ℕ) (x : A) → slice_get xs place ≡ None → slice_get xs k ≡ Some x → k < place
get_past [] place k x none is = absurd (cc is)
get_past (y ∷ xs) zero k x none is = absurd (cc none)
get_past (y ∷ xs) (suc place) zero x none is = omega arith
get_past (y ∷ xs) (suc place) (suc k) x none is = omega (arith, get_past xs place k x none is)

-- what the loop over the entries leaves
pub record Files (entries : List ReadyEntry) (old new : List Peer) (index : ℕ) : Type 0 where
  pub sent : sents new ≡ with_released (sents old) (take index entries)
  pub input : inputs new ≡ inputs old
  pub known : AreKnown (sents new) (drop index entries)
  pub room : HaveRoom new (λ number. length (given_in number (drop index entries)))

released_more : (sessions : List Sent) (entries : List ReadyEntry) (entry : ReadyEntry)
    → with_released sessions (entries ++ entry ∷ []) ≡ with_sent (with_released sessions entries) entry.0
    (record (sent_at (with_released sessions entries) entry.0) {
      released =
          (sent_at (with_released sessions entries) entry.0).released ++ entry.1;
    })
released_more sessions [] entry = refl
released_more sessions (first ∷ entries) entry =
    released_more (with_sent sessions first.0
    (record (sent_at sessions first.0) { released = (sent_at sessions first.0).released ++ first.1 })) entries entry

pub drop_more : {A : Type 0} (xs : List A) (k : ℕ) (x : A) → slice_get xs k ≡ Some x → drop k xs ≡ x ∷ drop (k + 1) xs
drop_more [] k x is = absurd (cc is)
drop_more (y ∷ xs) zero x is = let same : y ≡ x = cc is in ap (λ z. z ∷ xs) same
drop_more (y ∷ xs) (suc k) x is = let e : suc k + 1 ≡ suc (k + 1) = omega arith in
    drop_more xs k x is ∙ ap (λ n. x ∷ drop n (y ∷ xs)) (sym e)

module _ (entries : List ReadyEntry) (old now : List Peer) (index : ℕ) (number : ℕ) (octets : List ℕ) (ends : Bool)
    (entry : slice_get entries index ≡ Some (number, octets, ends)) (h : Files entries old now index) where
  rest : List ReadyEntry
  rest = drop (index + 1) entries

  front : drop index entries ≡ (number, octets, ends) ∷ drop (index + 1) entries
  front = drop_more entries index (number, octets, ends) entry

  pub its_known : AreKnown (sents now) ((number, octets, ends) ∷ drop (index + 1) entries)
  its_known = subst (AreKnown (sents now)) front h.known

  sizes : (k : ℕ) → length (given_in k (drop index entries)) ≡ (if number == k then length octets else 0) + length
      (given_in k (drop (index + 1) entries))
  sizes k = ap (λ es. length (given_in k es)) front
      ∙ (length-append (if number == k then octets else []) (given_in k (drop (index + 1) entries))
      ∙ ap (λ n. n + length (given_in k (drop (index + 1) entries))) (by (number == k)))
    where
      by : (b : Bool) → length (if b then octets else []) ≡ (if b then length octets else 0)
      by true = refl
      by false = refl

  pub its_room : HaveRoom now (λ k. (if number == k then length octets else 0) + length (given_in k (drop (index + 1) entries)))
  its_room k q is = subst (λ n. vec_len q.released + n ≤ vec_capacity q.released) (sizes k) (h.room k q is)

  pub own_room : HasRoom now number (length octets)
  own_room q is =
      let all : vec_len q.released + ((if number == number then length octets else 0) + length (given_in number (drop (index + 1) entries)))
      ≤ vec_capacity q.released = its_room number q is in
      let size : (if number == number then length octets else 0) ≡ length octets =
      ap (λ b. if b then length octets else 0) (eqb-same number) in
      omega arith

  pub files_more : (new : List Peer)
      → sents new ≡ with_numbered (sents now) number
      (record (sent_at (sents now) number) { released = (sent_at (sents now) number).released ++ octets }) → inputs new ≡ inputs now
      → ((needed : ℕ → ℕ) → HaveRoom now (λ k. (if number == k then length octets else 0) + needed k) → HaveRoom new needed)
      → Files entries old new (index + 1)
  files_more new sent input room =
      record {
        sent = sent ∙ ((λ i. with_sent (h.sent i) number
            (record (sent_at (h.sent i) number) { released = (sent_at (h.sent i) number).released ++ octets }))
            ∙ (sym (released_more (sents old) (take index entries) (number, octets, ends))
            ∙ ap (with_released (sents old)) (sym (front_more entries index (number, octets, ends) entry))));
        input = input ∙ h.input;
        known = subst (λ xs. AreKnown xs (drop (index + 1) entries)) (sym sent)
            (AreKnown-given (sents now) (number, octets, ends) its_known.0 (drop (index + 1) entries) its_known.1);
        room = room (λ k. length (given_in k (drop (index + 1) entries))) its_room;
      }

pub known_place : (peers : List Peer) (number : ℕ) → IsSome (numbered (sents peers) number) → (1 ≤ number) × (number ≤ length peers)
known_place peers number known = go (numbered (sents peers) number) refl known
  where
    size : (ps : List Peer) → length (sents ps) ≡ length ps
    size [] = refl
    size (p ∷ ps) = ap (λ n. suc n) (size ps)

    go : (o : Option Sent) → numbered (sents peers) number ≡ o → IsSome o → (1 ≤ number) × (number ≤ length peers)
    go None is some = absurd (cc some)
    go (Some sent) is some = let w = numbered-within (sents peers) number sent is in (w.0, omega (arith, w.1, size peers))

pub room_more : (seats : List Seat) (old now new : List Peer) (place number : ℕ) → MakesRoom seats old now place → sents new ≡ sents now
    → inputs new ≡ inputs now → option_map (λ (seat : Seat). seat.number) (slice_get seats place) ≡ Some number → HasRoom new number 65536
    → ((k needed : ℕ) → HasRoom now k needed → HasRoom new k needed) → MakesRoom seats old new (place + 1)
room_more seats old now new place number h sent input is here others =
    record {
      sent = sent ∙ h.sent;
      input = input ∙ h.input;
      room = λ k seat lt at. ⊎_elim
          (λ (before : k < place). others seat.number 65536 (h.room k seat before at))
          (λ (last : place ≤ k).
          let same : k ≡ place = omega arith in
          let numbers : Some seat.number ≡ Some number = ap (option_map (λ (s : Seat). s.number)) (sym at ∙ ap (slice_get seats) same)
          ∙ is in
          subst (λ n. HasRoom new n 65536) (sym (cc numbers)) here)
          (cases_lt k place);
    }

-- the room that was made serves for what is given
given_room : (seats : List Seat) (durable : ℕ) (peers : List Peer) (given : Ready)
    → ((k : ℕ) → Given durable (seat_in seats k) (seat_in given.seats k) (given_in k given.entries))
    → ((k : ℕ) → length (given_in k given.entries) ≤ 65536)
    → ((k : ℕ) (seat : Seat) → slice_get seats k ≡ Some seat → HasRoom peers seat.number 65536)
    → HaveRoom peers (λ number. length (given_in number given.entries))
given_room seats durable peers given gives short room number peer at = go (seat_in seats number) refl (gives number)
  where
    octets : List ℕ
    octets = given_in number given.entries

    go : (o : Option Seat) → seat_in seats number ≡ o → Given durable o (seat_in given.seats number) octets
        → vec_len peer.released + length octets ≤ vec_capacity peer.released
    go None is g = let none : length octets ≡ 0 = ap length g.1 in omega arith
    go (Some seat) is g =
        let place = find_place number seats seat is in
        let has : vec_len peer.released + 65536 ≤ vec_capacity peer.released =
        room place.0 seat place.1 peer (ap (numbered peers) (seat_in-number seats number seat is) ∙ at) in
        let few : length octets ≤ 65536 = short number in
        omega arith

pub ready_room : (seats : List Seat) (durable : ℕ) (peers : List Peer) → RiseFrom 0 seats
    → ((k : ℕ) (seat : Seat) → slice_get seats k ≡ Some seat → HasRoom peers seat.number 65536)
    → HaveRoom peers (λ number. length (given_in number (ready durable 65536 seats).entries))
ready_room seats durable peers rise =
    given_room seats durable peers (ready durable 65536 seats) (ready_gives 0 durable 65536 seats rise) (ready_short durable 65536 seats)

pub one_room : (seats : List Seat) (durable room number : ℕ) (peers : List Peer) → room ≤ 65536
    → ((k : ℕ) (seat : Seat) → slice_get seats k ≡ Some seat → HasRoom peers seat.number 65536)
    → HaveRoom peers (λ k. length (given_in k (ready_within durable room seats (seat_in seats number)).entries))
one_room seats durable room number peers few =
    given_room seats durable peers (ready_within durable room seats (seat_in seats number)) (one_gives durable room number seats)
    (λ k. omega (arith, few, one_short durable room number seats k))
