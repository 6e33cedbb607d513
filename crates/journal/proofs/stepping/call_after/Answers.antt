use Rattle.std.proofs.Common.{rules, ◌≡◌, ◌<◌, ◌≤◌, ℕ, ◌+◌, Bool, true, List, cond, eqb, length, get_or, sym, ◌∙◌, ap, subst, arith}
use Rattle.journal_laws.specs.Held.{HeldBatch}
use Rattle.journal_segments.specs.Staged.{Staged, staged_at}
use Rattle.journal.specs.Flight.{Flight, flight_in, sizes_of}
use Rattle.journal.specs.Inside.{IsWithin}
use Rattle.journal.specs.declared.Next.{Next}
use Rattle.journal.specs.declared.Next.TheVariants.{Close, Finish, Home, Idle, Settle}
use Rattle.journal.specs.Order.{closings}
use Rattle.journal.proofs.Flights.{closings_last, held_in_room, home_within, last_closing, last_where, length-all, length-sizes, size_at}
use Rattle.journal.proofs.Flights.{there_of}
use Rattle.journal.proofs.stepping.call_after.Goals as goal

pub returns-in-Home : goal.returns-in-Home
returns-in-Home c =
    let room = c.args.room.now.items in
    let j = c.in-Home.j in
    let i = c.in-Home.i in
    let f : Flight = flight_in room c.args.filled c.args.is_last in
    let within : IsWithin (length (staged_at room c.args.filled).numbers) (sizes_of f) (Home j i) =
    subst (λ (x : Next). IsWithin (length (staged_at room c.args.filled).numbers) (sizes_of f) x) c.in-Home.is c.requires.within in
    let last = last_where f (omega (arith, within.0)) in
    let here = there_of f j within.0 in
    let low : j ≤ c.args.filled = omega (arith, here, length-all room c.args.filled c.args.is_last c.requires.there) in
    let count : c.count-in-Home.result ≡ get_or (sizes_of f).counts j 0 =
    c.count-in-Home.ensures.count ∙ ap (λ (s : Staged). length s.numbers) c.segment_at-in-Home.ensures
    ∙ ap (λ (h : HeldBatch). length h.batch.numbers) (sym (held_in_room room c.args.filled c.args.is_last c.requires.there j low))
    ∙ sym (size_at f j last here) in
    let all : c.args.filled + 1 ≡ length (sizes_of f).counts =
    sym (length-sizes f last ∙ length-all room c.args.filled c.args.is_last c.requires.there) in
    rw c.in-Home.is
    (c.after_home.ensures
    ∙ ap (λ (k : ℕ). cond (eqb (i + 1) k) (cond (eqb (j + 1) (c.args.filled + 1)) Settle (Home (j + 1) 0)) (Home j (i + 1))) count
    ∙ ap (λ (k : ℕ). cond (eqb (i + 1) (get_or (sizes_of f).counts j 0)) (cond (eqb (j + 1) k) Settle (Home (j + 1) 0)) (Home j (i + 1)))
    all)

pub after_home-requires-clause-within : goal.after_home-requires-clause-within
after_home-requires-clause-within c =
    let its = home_within c.args.room.now.items c.args.filled c.args.is_last c.requires.there _ c.args.next c.requires.within c.in-Home.j
    c.in-Home.i c.in-Home.is in
    omega (arith, its.1, c.count-in-Home.ensures.count, ap (λ (s : Staged). length s.numbers) c.segment_at-in-Home.ensures)

-- the number of writes that close, where this is the sync after one of them
counted : (room : List Staged) (filled n : ℕ) (is_last : Bool) (next : Next) (j : ℕ) → next ≡ Finish j
    → IsWithin n (sizes_of (flight_in room filled is_last)) next
    → (j < closings (sizes_of (flight_in room filled is_last)))
    × (closings (sizes_of (flight_in room filled true)) ≡ closings (sizes_of (flight_in room filled is_last)))
counted room filled n is_last next j is within =
    let here : j < closings (sizes_of (flight_in room filled is_last)) =
    subst (λ (x : Next). IsWithin n (sizes_of (flight_in room filled is_last)) x) is within in
    (here, closings_last room filled is_last (last_closing (flight_in room filled is_last) j here))

pub after_close-requires : goal.after_close-requires
after_close-requires c =
    let its = counted c.args.room.now.items c.args.filled _ c.args.is_last c.args.next c.in-Finish.j c.in-Finish.is c.requires.within in
    omega (arith, its.0, its.1, c.closings.ensures.count)

pub returns-in-Finish : goal.returns-in-Finish
returns-in-Finish c =
    let its = counted c.args.room.now.items c.args.filled _ c.args.is_last c.args.next c.in-Finish.j c.in-Finish.is c.requires.within in
    let j = c.in-Finish.j in
    rw c.in-Finish.is
    (c.after_close.ensures ∙ ap (λ (k : ℕ). cond (eqb (j + 1) k) Idle (Close (j + 1))) (c.closings.ensures.count ∙ its.1))

pub returns-in-Commit : goal.returns-in-Commit
returns-in-Commit c = search rules
