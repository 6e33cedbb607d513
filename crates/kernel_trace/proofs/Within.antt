-- One output that is given whole, and an entry that is copied into another buffer.
use Rattle.std.proofs.Common.{◌≡◌, ℕ, ◌+◌, ◌-◌, ◌≤◌, ◌==◌, Bool, true, false, List, [], ◌∷◌, ◌++◌, length, drop, Option, Some, None}
use Rattle.std.proofs.Common.{refl, ap, sym, ◌∙◌, subst, arith}
use Rattle.std.specs.Prelude.{◌&&◌, ◌||◌, not, min, nat_lt, slice_get, take, if◌then◌else◌}
use Rattle.std.proofs.lemmas.Bool.{eqb-true, ltb-true}
use Rattle.std.proofs.lemmas.Bool.Decides.{nat_tests}
use Rattle.std.proofs.lemmas.List.{append-nil}
use Rattle.std.proofs.Math.Seq.{drop-append_seam}
use Rattle.kernel.specs.Kernel.{KernelView, released_of, seat_of}
use Rattle.kernel_outbox.specs.Queue.{Giving, HeldOutput, ReadyEntry, behind, cut_at, entry_of, give, nothing_more, octets_in}
use Rattle.kernel_seats.specs.Seats.{Ready, Seat, ready_of}
use Rattle.kernel_trace.specs.Events.{given_within, ready_within, releases_of, with_released}
use Rattle.kernel_trace.specs.Fields.{GivesOne}
use Rattle.kernel_trace.specs.Traced.{Sent, TracedView}
use Rattle.kernel_trace.proofs.Giving.{give_room}
use Rattle.kernel_trace.proofs.Room.{drop_more}
use Rattle.kernel_trace.proofs.Seats.{of_within}

-- ---- one output is given whole

abbrev output : List ℕ → Bool → HeldOutput
output octets ends = record { octets = octets; dependency = 0; ends = ends }

abbrev entry : ℕ → List ℕ → Bool → List ReadyEntry
entry number octets ends = if length octets == 0 && not ends then [] else (number, octets, ends) ∷ []

or_none : (b : Bool) → (b || false) ≡ b
or_none true = refl
or_none false = refl

gives_whole : (number room given : ℕ) (octets : List ℕ) (ends : Bool) → 1 ≤ room → length octets ≤ room
    → entry_of number (give 0 room given (output octets ends ∷ [])) ≡ entry number octets ends
gives_whole number room given octets ends some le = go (nat_lt 0 0 || room == 0) (nat_lt room (length octets)) refl refl where
  held : HeldOutput
  held = output octets ends

  go : (late cuts : Bool) → (nat_lt 0 0 || room == 0) ≡ late → nat_lt room (length octets) ≡ cuts
      → entry_of number (if late then nothing_more room given (output octets ends ∷ []) else if cuts then record {
        room = 0;
        octets = take room octets;
        ended = false;
        given = given;
        held = cut_at room (output octets ends) ∷ [];
      } else behind (output octets ends) (give 0 (room - length octets) 0 [])) ≡ entry number octets ends
  go true cuts e f = absurd (let none : (room == 0) ≡ true = e in omega (arith, some, eqb-true room 0 none))
  go false true e f = absurd (omega (arith, le, ltb-true room (length octets) f))
  go false false e f = λ i. entry number (append-nil octets i) (or_none ends i)

given_alone : (number given : ℕ) (octets : List ℕ) (ends : Bool) (before buffer : List ReadyEntry) (front held : List HeldOutput)
    → before ≡ [] → front ≡ [] → held ≡ front ++ output octets ends ∷ [] → length octets ≤ 65536
    → buffer ≡ before ++ entry_of number (give 0 (65536 - octets_in before) given held) → buffer ≡ entry number octets ends
given_alone number given octets ends before buffer front held empty none is le gave =
    gave ∙ ((λ i. empty i ++ entry_of number (give 0 (65536 - octets_in (empty i)) given
    ((is ∙ ap (λ xs. xs ++ output octets ends ∷ []) none) i)))
    ∙ gives_whole number 65536 given octets ends (omega arith) le)

-- ---- an entry is copied

abbrev first_of : List ReadyEntry → ReadyEntry
first_of [] = (0, [], false)
first_of (e ∷ es) = e

-- equal entries have equal parts
one_alike : (number other : ℕ) (piece octets : List ℕ) (ends ended : Bool) (rest : List ReadyEntry)
    → (number, piece, ends) ∷ rest ≡ (other, octets, ended) ∷ [] → (number ≡ other) × (piece ≡ octets) × (ends ≡ ended)
one_alike number other piece octets ends ended rest h =
    (ap (λ es. (first_of es).0) h, ap (λ es. (first_of es).1) h, ap (λ es. (first_of es).2) h)

-- the entry that was given is put into the other buffer as it is
pub copied : (number given place : ℕ) (octets piece : List ℕ) (ends : Bool) (from before into : List ReadyEntry)
    (front held : List HeldOutput) → before ≡ [] → front ≡ [] → held ≡ front ++ output octets ends ∷ [] → octets ≡ piece
    → slice_get from place ≡ Some (number, piece, ends) → GivesOne (drop place from)
    → into ≡ before ++ entry_of number (give 0 (65536 - octets_in before) given held) → into ≡ drop place from
copied number given place octets piece ends from before into front held empty none is same at one gave =
    go (length one.1.octets == 0 && not one.1.ended) refl
  where
    there : drop place from ≡ (number, piece, ends) ∷ drop (place + 1) from
    there = drop_more from place (number, piece, ends) at

    go : (b : Bool) → (length one.1.octets == 0 && not one.1.ended) ≡ b → into ≡ drop place from
    go true void = absurd (
        let no : (number, piece, ends) ∷ drop (place + 1) from ≡ [] =
        sym there ∙ (one.3 ∙ ap (λ b. if b then [] else (one.0, one.1.octets, one.1.ended) ∷ []) void) in cc no)
    go false some =
        let whole : drop place from ≡ (one.0, one.1.octets, one.1.ended) ∷ [] =
        one.3 ∙ ap (λ b. if b then [] else (one.0, one.1.octets, one.1.ended) ∷ []) some in
        let alike : (number, piece, ends) ∷ drop (place + 1) from ≡ (one.0, one.1.octets, one.1.ended) ∷ [] = sym there ∙ whole in
        let parts = one_alike number one.0 piece one.1.octets ends one.1.ended (drop (place + 1) from) alike in
        let its_octets : octets ≡ one.1.octets = same ∙ parts.1 in
        given_alone number given octets ends before into front held empty none is (subst (λ xs. length xs ≤ 65536) (sym its_octets) one.2)
        gave
        ∙ ((λ i. entry (parts.0 i) (its_octets i) (parts.2 i))
        ∙ (ap (λ b. if b then [] else (one.0, one.1.octets, one.1.ended) ∷ []) some ∙ sym whole))

-- it has at most 65,536 octets
pub piece_short : (number place : ℕ) (piece : List ℕ) (ends : Bool) (from : List ReadyEntry)
    → slice_get from place ≡ Some (number, piece, ends) → GivesOne (drop place from) → length piece ≤ 65536
piece_short number place piece ends from at one = go (length one.1.octets == 0 && not one.1.ended) refl
  where
    there : drop place from ≡ (number, piece, ends) ∷ drop (place + 1) from
    there = drop_more from place (number, piece, ends) at

    go : (b : Bool) → (length one.1.octets == 0 && not one.1.ended) ≡ b → length piece ≤ 65536
    go true void = absurd (
        let no : (number, piece, ends) ∷ drop (place + 1) from ≡ [] =
        sym there ∙ (one.3 ∙ ap (λ b. if b then [] else (one.0, one.1.octets, one.1.ended) ∷ []) void) in cc no)
    go false some =
        let alike : (number, piece, ends) ∷ drop (place + 1) from ≡ (one.0, one.1.octets, one.1.ended) ∷ [] =
        sym there ∙ (one.3 ∙ ap (λ b. if b then [] else (one.0, one.1.octets, one.1.ended) ∷ []) some) in
        let parts = one_alike number one.0 piece one.1.octets ends one.1.ended (drop (place + 1) from) alike in
        subst (λ xs. length xs ≤ 65536) (sym parts.1) one.2

pub gives_one : (p room : ℕ) (seats : List Seat) (o : Option Seat) → room ≤ 65536 → GivesOne (ready_within p room seats o).entries
gives_one p room seats None le = (0, nothing_more 0 0 [], omega arith, refl)
gives_one p room seats (Some seat) le = (
  seat.number,
  give p room seat.given seat.held,
  omega (arith, le, give_room p room seat.given seat.held),
  refl,
)

-- ---- what a release into that buffer gives

pub least : (room : ℕ) → min room 65536 ≤ 65536
least room = grind (arith, nat_tests)

given_in_room : (kernel : KernelView) (number room : ℕ) (before : List ReadyEntry) → octets_in before ≡ 65536 - min room 65536
    → ready_of kernel.durable before number kernel.seats ≡ given_within kernel (min room 65536) number
given_in_room kernel number room before is =
    let few = least room in
    let same : 65536 - octets_in before ≡ min room 65536 = omega (arith, few, is) in
    of_within kernel.durable before kernel.seats (seat_of kernel number)
    ∙ ap (λ r. ready_within kernel.durable r kernel.seats (seat_of kernel number)) same

-- the entries behind those that the buffer had
pub given_behind : (kernel : KernelView) (number room place : ℕ) (before after : List ReadyEntry)
    → octets_in before ≡ 65536 - min room 65536 → place ≡ length before
    → after ≡ before ++ (ready_of kernel.durable before number kernel.seats).entries
    → drop place after ≡ (given_within kernel (min room 65536) number).entries
given_behind kernel number room place before after is at gave =
    ap (λ n. drop n after) at
    ∙ (ap (drop (length before)) gave
    ∙ (drop-append_seam before (ready_of kernel.durable before number kernel.seats).entries
    ∙ ap (λ (r : Ready). r.entries) (given_in_room kernel number room before is)))

-- what is handed out, once it is filed
pub releases_so : (s : TracedView) (number room : ℕ) (kernel : KernelView) (sessions made : List Sent) (before entries : List ReadyEntry)
    → octets_in before ≡ 65536 - min room 65536 → kernel ≡ released_of s.kernel before number → sessions ≡ with_released made entries
    → made ≡ s.sessions → entries ≡ (given_within s.kernel (min room 65536) number).entries
    → record s { kernel = kernel; sessions = sessions; ready = entries } ≡ releases_of s number room
releases_so s number room kernel sessions made before entries is kept filed same given =
    λ i. record s {
      kernel = (kept ∙ ap (λ (r : Ready). record s.kernel { seats = r.seats }) (given_in_room s.kernel number room before is)) i;
      sessions = (filed ∙ (λ j. with_released (same j) (given j))) i;
      ready = given i;
    }
