-- The steps of a renewal, and what a crash on the way leaves.
use Rattle.std.proofs.Common.{◌≡◌, ◌⊎◌, inl, inr, ⊎_elim, ℕ, ◌+◌, Bool, IsTrue, length, refl, sym, ◌∙◌}
use Rattle.std.proofs.Common.{ap, subst, arith}
use Rattle.std.specs.Prelude.{Some, slice_get, take}
use Rattle.disk.specs.Device.{Device, Elapses}
use Rattle.disk.proofs.Devices.{elapses_then}
use Rattle.journal.specs.Journal.{JournalView}
use Rattle.model.specs.Layout.{Stands}
use Rattle.model.specs.Lawful.{IsLawful, MayFollow}
use Rattle.model.specs.Spool.{Spool}
use Rattle.model.specs.Stream.{Octets}
use Rattle.model.specs.declared.change.Change.{Change}
use Rattle.model_renewed.specs.Renewed.{renewed}
use Rattle.model_renewed.proofs.Renewing.{renewed_follows}
use Rattle.spool.specs.Laws.{changes_lawful}
use Rattle.spool.specs.View.{Adds, SpoolView}
use Rattle.volume_store.specs.Saved.{LeavesPrefix, StoreView}
use Rattle.volume_renewing.specs.Renewing.{IsFront, IsNew, IsOnTheWay, IsUnharmed}
use Rattle.volume_renewing.specs.Stopping.{IsStopped}
use Rattle.volume_renewing.specs.declared.errors.RenewalError.{RenewalError}
use Rattle.volume_renewing.proofs.Fronts.{first_of_first, front_more}

no_time : (a : Device) → Elapses a a
no_time a = record { size = refl; tells = refl; later = omega arith }

-- ---- one step

module _ {D : Type 0} (device : D → Device) (S : Spool) (old new : StoreView D) (begun : IsFront S old.spool.changes) where
  -- nothing was done
  pub way_stays : new.spool ≡ old.spool → new.journal ≡ old.journal → IsOnTheWay device S old new
  way_stays spool journal = record {
    host = ap (λ (s : SpoolView). s.host) spool;
    front = subst (λ (s : SpoolView). IsFront S s.changes) (sym spool) begun;
    time = subst (λ (j : JournalView D). Elapses (device old.journal.disk) (device j.disk)) (sym journal)
        (no_time (device old.journal.disk));
    leaves = λ tells t image before left.
        inl (subst (λ (j : JournalView D). (device j.disk).left_since t image) journal left);
  }

  -- what was there was made durable, or not
  pub way_kept : new.spool ≡ record old.spool { dirty = new.spool.dirty } → Elapses (device old.journal.disk) (device new.journal.disk)
      → LeavesPrefix device old new → IsOnTheWay device S old new
  way_kept spool time prefix = record {
    host = ap (λ (s : SpoolView). s.host) spool;
    front = subst (IsFront S) (sym (ap (λ (s : SpoolView). s.changes) spool)) begun;
    time = time;
    leaves = λ tells t image before left.
        let durable = first_of_first old.durable (length old.spool.changes) (renewed S) in
        ⊎_elim
        (λ (was : (device old.journal.disk).left_since t image). inl was)
        (λ (one : Stands old.spool.host image (take old.durable old.spool.changes) ⊎ Stands old.spool.host image old.spool.changes).
        inr (⊎_elim
        (λ (first : Stands old.spool.host image (take old.durable old.spool.changes)).
        (durable.0, subst (Stands old.spool.host image) (ap (take old.durable) begun ∙ durable.1) first))
        (λ (all : Stands old.spool.host image old.spool.changes).
        (length old.spool.changes, subst (Stands old.spool.host image) begun all))
        one))
        (prefix tells t image before left);
  }

  -- a change was added, which is not durable yet
  pub way_added : (c : Change) → slice_get (renewed S) (length old.spool.changes) ≡ Some c → Adds old.spool new.spool c
      → new.journal ≡ old.journal → IsOnTheWay device S old new
  way_added c is added journal = record {
    host = added.host;
    front = front_more S old.spool.changes new.spool.changes c begun is added.changes;
    time = subst (λ (j : JournalView D). Elapses (device old.journal.disk) (device j.disk)) (sym journal)
        (no_time (device old.journal.disk));
    leaves = λ tells t image before left.
        inl (subst (λ (j : JournalView D). (device j.disk).left_since t image) journal left);
  }

  -- the next change may follow
  pub next_may_follow : (s : SpoolView) → S ≡ s.changes → old.spool.host ≡ s.host → (c : Change)
      → slice_get (renewed S) (length old.spool.changes) ≡ Some c → MayFollow old.spool.host old.spool.changes c
  next_may_follow s same host c is =
      subst (λ (h : Octets). MayFollow h old.spool.changes c) (sym host)
      (subst (λ (R : Spool). MayFollow s.host R c) (sym begun)
      (renewed_follows s.host S (length old.spool.changes) c
      (subst (IsLawful s.host) (sym same) (changes_lawful s)) is))

-- ---- one step after the other

module _ {D : Type 0} (device : D → Device) (S : Spool) (old now new : StoreView D) where
  pub way_then : IsOnTheWay device S old now → IsOnTheWay device S now new → IsOnTheWay device S old new
  way_then so_far more = record {
    host = more.host ∙ so_far.host;
    front = more.front;
    time = elapses_then (device old.journal.disk) (device now.journal.disk) (device new.journal.disk) so_far.time more.time;
    leaves = λ tells t image before left.
        ⊎_elim
        (λ (was : (device now.journal.disk).left_since t image). so_far.leaves tells t image before was)
        (λ (front : (n : ℕ) × Stands now.spool.host image (take n (renewed S))).
        inr (front.0, subst (λ (h : Octets). Stands h image (take front.0 (renewed S))) so_far.host front.1))
        (more.leaves (subst (λ (b : Bool). IsTrue b) (sym so_far.time.tells) tells) t image
        (omega (arith, before, so_far.time.later)) left);
  }

  pub unharmed_then : IsUnharmed device old now → IsUnharmed device now new → IsUnharmed device old new
  unharmed_then so_far more =
      record { still = more.still ∙ so_far.still; ready = λ ready. more.ready (so_far.ready ready) }

  pub stopped_then : (error : RenewalError) → IsUnharmed device old now → IsStopped device S now new error
      → IsStopped device S old new error
  stopped_then error so_far stopped = record {
    full = stopped.full;
    fault = λ is same. stopped.fault is (same ∙ sym so_far.still);
    halted = λ is ready. stopped.halted is (so_far.ready ready);
    is_new = stopped.is_new;
  }

-- ---- a renewal up to a change

-- the first changes were copied, this many, and no call of the device failed
pub record HasCopied {D : Type 0} (device : D → Device) (old : SpoolView) (first now : StoreView D) (done : ℕ) : Type 0 where
  pub host : now.spool.host ≡ old.host
  pub way : IsOnTheWay device old.changes first now
  pub unharmed : IsUnharmed device first now
  pub count : length now.spool.changes ≡ done

module _ {D : Type 0} (device : D → Device) (old : SpoolView) (first : StoreView D) where
  pub none_copied : IsNew old first → HasCopied device old first first 0
  none_copied new =
      let begun : IsFront old.changes first.spool.changes = subst (IsFront old.changes) (sym new.empty) refl in
      record {
        host = new.host;
        way = way_stays device old.changes first first begun refl refl;
        unharmed = record { still = refl; ready = λ ready. ready };
        count = ap (λ (S : Spool). length S) new.empty;
      }

  pub more_copied : (now new : StoreView D) (done : ℕ) → HasCopied device old first now done → IsOnTheWay device old.changes now new
      → IsUnharmed device now new → length new.spool.changes ≡ done + 1 → HasCopied device old first new (done + 1)
  more_copied now new done so_far way unharmed count = record {
    host = way.host ∙ so_far.host;
    way = way_then device old.changes first now new so_far.way way;
    unharmed = unharmed_then device old.changes first now new so_far.unharmed unharmed;
    count = count;
  }
