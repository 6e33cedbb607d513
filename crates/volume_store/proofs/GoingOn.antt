-- A store goes on: what it does leaves no change behind.
use Rattle.std.proofs.Common.{◌≡◌, ◌⊎◌, inl, inr, ⊎_elim, ◌≤◌, ℕ, Bool, IsTrue, List, [], ◌∷◌, ◌++◌, length, refl, sym, ◌∙◌, ap, subst}
use Rattle.std.proofs.Common.{append_assoc, append-nil, arith}
use Rattle.std.specs.Prelude.{take, Result, Ok, Err, IfOk, OnErr}
use Rattle.std.proofs.Math.Seq.{take-length}
use Rattle.std.proofs.lemmas.List.{length-append, take-append-le}
use Rattle.disk.specs.Device.{Device, Elapses}
use Rattle.disk.proofs.Devices.{elapses_then}
use Rattle.journal.specs.Inside.{IsVolume, LeftAs}
use Rattle.journal.specs.Journal.{IsReady, JournalView}
use Rattle.model.specs.Layout.{Stands}
use Rattle.model.specs.Spool.{Spool}
use Rattle.model.specs.Stream.{Octets}
use Rattle.spool.specs.View.{IsSpool, SpoolView}
use Rattle.volume_store.specs.Filing.{Becomes}
use Rattle.volume_store.specs.Saved.{GoesOn, IsSameVolume, IsTied, LeavesOneOf, LeavesPrefix, StoreView}
use Rattle.volume_store.specs.declared.outcome.TextOutcome.{TextOutcome}
use Rattle.volume_store.specs.declared.outcome.TextOutcome.TheVariants.{Filed, Here, NoGroup, Refused, Full}
use Rattle.volume_store.specs.declared.outcome.TextRefusal.TheVariants.{NotAnArticle, OwnId}
use Rattle.volume_store.proofs.Tied.{first_stand, prefix}

no_time : (a : Device) → Elapses a a
no_time a = record { size = refl; tells = refl; later = omega arith }

module _ {D : Type 0} (device : D → Device) where
  -- ---- one step

  -- the device is as it was, and as much is durable
  pub without_calls : (old new : StoreView D) → new.journal ≡ old.journal → new.durable ≡ old.durable → new.spool.host ≡ old.spool.host
      → (more : Spool) × (new.spool.changes ≡ old.spool.changes ++ more) → GoesOn device old new
  without_calls old new journal durable host changes = record {
    host = host;
    changes = changes;
    durable = omega (arith, durable);
    time = subst (λ (j : JournalView D). Elapses (device old.journal.disk) (device j.disk)) (sym journal)
        (no_time (device old.journal.disk));
    leaves = λ tells t image before left.
        inl (subst (λ (j : JournalView D). (device j.disk).left_since t image) journal left);
  }

  pub stays : (old new : StoreView D) → new.journal ≡ old.journal → new.durable ≡ old.durable → new.spool ≡ old.spool
      → GoesOn device old new
  stays old new journal durable spool = without_calls old new journal durable (ap (λ (s : SpoolView). s.host) spool)
      ([], ap (λ (s : SpoolView). s.changes) spool ∙ sym (append-nil old.spool.changes))

  -- a text becomes what it may
  becomes : (old new : StoreView D) (text : Octets) (moment : ℕ) (outcome : TextOutcome) → new.journal ≡ old.journal
      → new.durable ≡ old.durable → Becomes old.spool new.spool text moment outcome → GoesOn device old new
  becomes old new text moment (Filed serial) journal durable is =
      without_calls old new journal durable is.2.3.host (is.2.0 ∷ [], is.2.3.changes)
  becomes old new text moment Full journal durable is = stays old new journal durable is.2
  becomes old new text moment Here journal durable is = stays old new journal durable is.2
  becomes old new text moment NoGroup journal durable is = stays old new journal durable is.2
  becomes old new text moment (Refused OwnId) journal durable is = stays old new journal durable is.2
  becomes old new text moment (Refused (NotAnArticle c)) journal durable is = stays old new journal durable is.1

  pub files : {E : Type 0} (old new : StoreView D) (text : Octets) (moment : ℕ) (result : Result TextOutcome E)
      → new.journal ≡ old.journal → new.durable ≡ old.durable
      → IfOk result (λ outcome. Becomes old.spool new.spool text moment outcome) → OnErr result (new.spool ≡ old.spool)
      → GoesOn device old new
  files old new text moment (Ok outcome) journal durable ok err = becomes old new text moment outcome journal durable ok
  files old new text moment (Err error) journal durable ok err = stays old new journal durable err

  -- what was there was made durable, or not
  commits : (old new : StoreView D) → old.durable ≤ length old.spool.changes → old.durable ≤ new.durable
      → new.spool ≡ record old.spool { dirty = new.spool.dirty } → Elapses (device old.journal.disk) (device new.journal.disk)
      → LeavesPrefix device old new → GoesOn device old new
  commits old new within durable spool time prefix =
      let host : new.spool.host ≡ old.spool.host = ap (λ (s : SpoolView). s.host) spool in
      let changes : new.spool.changes ≡ old.spool.changes = ap (λ (s : SpoolView). s.changes) spool in
      record {
        host = host;
        changes = ([], changes ∙ sym (append-nil old.spool.changes));
        durable = durable;
        time = time;
        leaves = λ tells t image before left.
            ⊎_elim
            (λ (was : (device old.journal.disk).left_since t image). inl was)
            (λ (one : Stands old.spool.host image (take old.durable old.spool.changes) ⊎ Stands old.spool.host image old.spool.changes).
            inr (⊎_elim
            (λ (first : Stands old.spool.host image (take old.durable old.spool.changes)). (
              old.durable,
              omega arith,
              omega (arith, within, ap (λ (S : Spool). length S) changes),
              subst (λ (S : Spool). Stands old.spool.host image (take old.durable S)) (sym changes) first,
            ))
            (λ (all : Stands old.spool.host image old.spool.changes). (
              length old.spool.changes,
              within,
              omega (arith, ap (λ (S : Spool). length S) changes),
              subst (Stands old.spool.host image) (sym (take-length old.spool.changes)
                  ∙ ap (take (length old.spool.changes)) (sym changes)) all,
            ))
            one))
            (prefix tells t image before left);
      }

  -- the device was only read
  pub reads : (old new : StoreView D) → IsTied device old.journal old.spool old.durable → IsReady old.journal
      → new.spool ≡ old.spool → new.durable ≡ old.durable → Elapses (device old.journal.disk) (device new.journal.disk)
      → LeftAs (device old.journal.disk) (device new.journal.disk) old.journal.format old.journal.label old.journal.blocks
      → GoesOn device old new
  reads old new tied ready spool durable time since =
      let host : new.spool.host ≡ old.spool.host = ap (λ (s : SpoolView). s.host) spool in
      let changes : new.spool.changes ≡ old.spool.changes = ap (λ (s : SpoolView). s.changes) spool in
      record {
        host = host;
        changes = ([], changes ∙ sym (append-nil old.spool.changes));
        durable = omega (arith, durable);
        time = time;
        leaves = λ tells t image before left.
            ⊎_elim
            (λ (was : (device old.journal.disk).left_since t image). inl was)
            (λ (volume : IsVolume old.journal.format old.journal.label old.journal.blocks image). inr (
              old.durable,
              omega arith,
              omega (arith, tied.durable_within, ap (λ (S : Spool). length S) changes),
              subst (λ (S : Spool). Stands old.spool.host image (take old.durable S)) (sym changes)
                  (first_stand device old.journal old.spool old.durable tied ready tells image volume),
            ))
            (since tells t image before left);
      }

  -- ---- one step after another

  pub goes_then : (old now new : StoreView D) → GoesOn device old now → GoesOn device now new → GoesOn device old new
  goes_then old now new so_far more =
      let later : Spool = more.changes.0 in
      let grown : length new.spool.changes ≡ length (now.spool.changes ++ later) = ap (λ (S : Spool). length S) more.changes.1 in
      record {
        host = more.host ∙ so_far.host;
        changes = (
          so_far.changes.0 ++ later,
          more.changes.1 ∙ ap (λ (S : Spool). S ++ later) so_far.changes.1
              ∙ append_assoc old.spool.changes so_far.changes.0 later,
        );
        durable = omega (arith, so_far.durable, more.durable);
        time = elapses_then (device old.journal.disk) (device now.journal.disk) (device new.journal.disk) so_far.time more.time;
        leaves = λ tells t image before left.
            ⊎_elim
            (λ (was : (device now.journal.disk).left_since t image).
            ⊎_elim
            (λ (old_was : (device old.journal.disk).left_since t image). inl old_was)
            (λ (first : (n : ℕ) × (old.durable ≤ n) × (n ≤ length now.spool.changes)
            × Stands old.spool.host image (take n now.spool.changes)). inr (
              first.0,
              first.1,
              omega (arith, first.2, grown, length-append now.spool.changes later),
              subst (Stands old.spool.host image)
                  (sym (ap (take first.0) more.changes.1 ∙ take-append-le first.0 now.spool.changes later first.2)) first.3,
            ))
            (so_far.leaves tells t image before was))
            (λ (first : (n : ℕ) × (now.durable ≤ n) × (n ≤ length new.spool.changes)
            × Stands now.spool.host image (take n new.spool.changes)). inr (
              first.0,
              omega (arith, so_far.durable, first.1),
              first.2,
              subst (λ (h : Octets). Stands h image (take first.0 new.spool.changes)) so_far.host first.3,
            ))
            (more.leaves (subst (λ (b : Bool). IsTrue b) (sym so_far.time.tells) tells) t image
            (omega (arith, before, so_far.time.later)) left);
      }

-- a batch was carried to its end, or not
module _ {D : Type 0} (device : D → Device) (old new : JournalView D) (spool : SpoolView) (durable : ℕ)
    (tied : IsTied device old spool durable) (same : IsSameVolume old new) where
  pub writes : IsReady old → LeavesOneOf device old spool.blocks new → IsSpool spool → Elapses (device old.disk) (device new.disk)
      → (after : StoreView D) → after.journal ≡ new → after.spool ≡ record spool { dirty = [] } → durable ≤ after.durable
      → GoesOn device (record { journal = old; spool = spool; durable = durable }) after
  writes ready since sound time after journal clean more =
      commits device (record { journal = old; spool = spool; durable = durable }) after tied.durable_within more
      (clean ∙ ap (λ (d : List ℕ). record spool { dirty = d }) (sym (ap (λ (s : SpoolView). s.dirty) clean)))
      (subst (λ (j : JournalView D). Elapses (device old.disk) (device j.disk)) (sym journal) time)
      (prefix device old new spool durable tied same ready since sound after journal)
