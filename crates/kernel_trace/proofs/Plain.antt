-- What is kept, in the plain server's words.
use Rattle.std.proofs.Common.{◌≡◌, ℕ, List, [], ◌∷◌, ◌++◌, length, drop, Option, Some, None, refl, ap, sym, ◌∙◌, subst, arith}
use Rattle.std.specs.Prelude.{false, unwrap_or}
use Rattle.std.specs.List.{concat}
use Rattle.std.proofs.Math.Seq.{drop-append_seam}
use Rattle.model.specs.News.{service}
use Rattle.model.specs.Stream.{Octets}
use Rattle.model.specs.declared.change.Change.{Change}
use Rattle.model.specs.declared.session.Session.{Session}
use Rattle.kernel_outbox.specs.Queue.{HeldOutput}
use Rattle.kernel_seats.specs.Seats.{Seat}
use Rattle.synchrony.specs.Dependency.{Output, octets_of}
use Rattle.synchrony.specs.Progress.{unreleased}
use Rattle.synchrony.specs.Server.{Connection, PlainServer}
use Rattle.synchrony.specs.Synchrony.{IsReleased}
use Rattle.synchrony.proofs.Cut.{IsCut, sync_cut}
use Rattle.synchrony.proofs.Released.{octets_of-unreleased}
use Rattle.synchrony.proofs.Theorems.{account_sync}
use Rattle.kernel_trace.specs.Traced.{FollowsPlain, IsServed, IsSession, Sent, TracedView, account, arrived_at, first_spool, nobody}
use Rattle.kernel_trace.specs.Traced.{octets_of_held, plain, replies_to, session_at, without_ends}
use Rattle.model.proofs.NewsLaws.{lawful}

held_octets : (held : List HeldOutput) → octets_of (without_ends held) ≡ octets_of_held held
held_octets [] = refl
held_octets (first ∷ held) = ap (λ (o : Octets). first.octets ++ o) (held_octets held)

-- what was released, and what of the outputs was not, are all of them
whole : (durable : ℕ) (released : Octets) (outputs : List Output) (held : List HeldOutput) → IsReleased durable released outputs
    → without_ends held ≡ unreleased (length released) outputs → released ++ octets_of_held held ≡ octets_of outputs
whole durable released outputs held h is =
    let rest : octets_of_held held ≡ h.begins.0 = sym (held_octets held) ∙ ap octets_of is ∙ octets_of-unreleased (length released) outputs
    ∙ ap (drop (length released)) (sym h.begins.1) ∙ drop-append_seam released h.begins.0 in
    ap (λ (o : Octets). released ++ o) rest ∙ h.begins.1

there_of : (host : Octets) (durable : ℕ) (sent : Option Sent) (seat : Seat) (connection : Connection Session) (outputs : List Output)
    → IsSession host durable sent (Some seat) connection outputs
    → (unwrap_or sent nobody).released ++ octets_of_held seat.held ≡ octets_of outputs
there_of host durable None seat connection outputs h = absurd (let nowhere : Some seat ≡ None = h.nowhere in cc)
there_of host durable (Some sent) seat connection outputs h = whole durable sent.released outputs seat.held h.released h.there.held

ended_of : (host : Octets) (durable : ℕ) (sent : Sent) (connection : Connection Session) (outputs : List Output)
    → IsSession host durable (Some sent) None connection outputs → sent.left ≡ false → sent.released ≡ octets_of outputs
ended_of host durable sent connection outputs h stays = (h.there stays).all

pub follows_plain : (served : TracedView) → IsServed served → FollowsPlain served
follows_plain served h = record {
  spool = sym h.spool ∙ ap (λ (s : PlainServer Session Change). s.spool) same;
  there = λ number seat is. there_of host served.kernel.durable (session_at served.sessions number) seat
      ((account served).server.connections number) ((account served).outputs number)
      (subst (λ (o : Option Seat). IsSession host served.kernel.durable (session_at served.sessions number) o
      ((account served).server.connections number) ((account served).outputs number)) is (h.each number)) ∙ sym (all number);
  ended = λ number sent known stays gone.
      ended_of host served.kernel.durable sent ((account served).server.connections number) ((account served).outputs number)
      (subst (λ (o : Option Sent × Option Seat). IsSession host served.kernel.durable o.0 o.1
      ((account served).server.connections number) ((account served).outputs number)) (λ i. (known i, gone i)) (h.each number)) stays
      ∙ sym (all number);
}
  where
    host : Octets
    host = served.kernel.host

    same : (account served).server ≡ plain served
    same = account_sync (service served.kernel.host) (first_spool served) (arrived_at served) served.trace

    all : (number : ℕ) → replies_to served number ≡ octets_of ((account served).outputs number)
    all number =
        let cut : IsCut (length (first_spool served)) _ _ _ _ =
        (sync_cut (service served.kernel.host) (lawful served.kernel.host) (length (first_spool served)) (first_spool served)
        (arrived_at served) served.trace (omega arith)).each number in
        ap concat (sym (ap (λ (s : PlainServer Session Change). (s.connections number).replies) same) ∙ cut.all)
