-- A client that knows RFC 3977 alone reads what was released.
use Rattle.std.proofs.Common.{ℕ, [], ◌++◌, length, take, sym, subst, arith, length-take}
use Rattle.std.proofs.lemmas.List.{append-nil}
use Rattle.kernel.specs.Kept.{IsKept}
use Rattle.model.specs.Layout.{IsLabel}
use Rattle.model.specs.News.{service}
use Rattle.model.specs.Spool.{Spool}
use Rattle.model.specs.Stream.{Octets}
use Rattle.model.proofs.HoldsOne.{changes_few}
use Rattle.model_rfc.specs.Marks.{EachIsMarked}
use Rattle.model_rfc.specs.States.{IsSpool}
use Rattle.model_rfc.proofs.Marks.{marked_turns_come, run_grows, spool_front}
use Rattle.model_rfc.proofs.Released.{releases_are_read}
use Rattle.synchrony.specs.Server.{opened, sync}
use Rattle.synchrony.proofs.Fronts.{same_functions}
use Rattle.kernel_trace.specs.Marks.{AreMarked}
use Rattle.kernel_trace.specs.Traced.{IsServed, TracedView, arrived_at, first_spool, released_at}
use Rattle.world.specs.Reading.{AreRead}
use Rattle.world.proofs.Fitting.{run_spool, synchronous_with}

pub are_read : (served : TracedView) (label : Octets)
    → IsLabel label (length served.kernel.blocks) served.kernel.inodes served.kernel.host → IsServed served → IsKept served.kernel
    → AreMarked served → AreRead served
are_read served label labelled h kept marked number =
    let all = releases_are_read host first inputs served.trace number (released_at served) served.kernel.durable
    (take served.kernel.durable run)
    (omega (arith, h.opening, length-take served.first served.kernel.spool))
    (synchronous_with served h served.kernel.durable (omega arith))
    (spool_front host first run (run_grows host (opened (service host) first inputs) served.trace) in_the_end)
    (marked_turns_come host first inputs served.trace number in_the_end marks) in
    record { keeps = all.0; released = all.1 }
  where
    host : Octets
    host = served.kernel.host

    first : Spool
    first = first_spool served

    inputs : ℕ → Octets
    inputs = arrived_at served

    run : Spool
    run = (sync (service served.kernel.host) (first_spool served) (arrived_at served) served.trace).spool

    -- a volume has room for fewer changes than the RFC has numbers
    in_the_end : IsSpool served.kernel.host (sync (service served.kernel.host) (first_spool served) (arrived_at served) served.trace).spool
    in_the_end = subst (IsSpool served.kernel.host) (sym (run_spool served h)) (record {
      of_host = labelled.host_is;
      lawful = kept.cache.lawful;
      few = omega (
        arith,
        labelled.few,
        changes_few served.kernel.host served.kernel.inodes served.kernel.blocks served.kernel.spool kept.cache,
      );
    })

    marks : EachIsMarked served.kernel.host (opened (service served.kernel.host) (first_spool served) (arrived_at served)) served.trace
    marks = subst (λ f. EachIsMarked served.kernel.host (opened (service served.kernel.host) (first_spool served) f) served.trace)
        (same_functions (λ k. arrived_at served k ++ []) (arrived_at served) (λ k. append-nil (arrived_at served k)))
        (marked (λ k. []))
