-- One change more is made durable, or not.
use Rattle.std.proofs.Common.{◌≡◌, ◌≢◌, ◌⊎◌, inl, inr, ⊎_elim, ◌≤◌, ℕ, ◌+◌, Bool, IsTrue, [], ◌∷◌, ◌++◌, length, refl, sym, ◌∙◌, ap, subst}
use Rattle.std.proofs.Common.{arith}
use Rattle.std.specs.Prelude.{take, Option, None, Some, Result, Ok, Err}
use Rattle.std.proofs.lemmas.List.{length-append, take-append-le}
use Rattle.std.proofs.Math.Seq.{take-length}
use Rattle.disk.specs.Device.{Device}
use Rattle.journal.specs.Journal.{IsReady, JournalView}
use Rattle.journal.specs.declared.JournalError.{JournalError}
use Rattle.model.specs.Layout.{Stands}
use Rattle.model.specs.Spool.{Spool}
use Rattle.model.specs.Stream.{Octets}
use Rattle.model.specs.declared.change.Change.{Change}
use Rattle.spool.specs.View.{Adds, SpoolView}
use Rattle.volume_store.specs.Saved.{GoesOn, IsSaved, LeavesPrefix, StoreView}
use Rattle.volume_store.proofs.GoingOn.{goes_then, stays, without_calls}
use Rattle.program_changes.specs.Committed.{Commits}
use Rattle.program_changes.specs.Made.{Changes, IsMade, LeavesEither}
use Rattle.program_changes.specs.declared.not_done.NotDone.TheVariants.{Refused, Device as OfDevice}

module _ {D : Type 0} (device : D → Device)
    (only_now : (d : D) (image : Octets) → IsTrue (device d).tells → (device d).left_since (device d).clock image
    → (device d).may_leave image)
    (old : StoreView D) (saved : IsSaved device old) where
  -- before the call all changes are durable
  pub before : IsTrue (device old.journal.disk).tells → (image : Octets)
      → (device old.journal.disk).left_since (device old.journal.disk).clock image → Stands old.spool.host image old.spool.changes
  before tells image left = saved.leaves tells image (only_now old.journal.disk image tells left)

  -- nothing changed
  pub still : (new : StoreView D) (c : Change) → new.journal ≡ old.journal → LeavesEither device old new c
  still new c journal tells image left =
      inl (before tells image
      (subst (λ (j : JournalView D). (device j.disk).left_since (device old.journal.disk).clock image) journal left))

  -- the change was added, and then all were committed
  pub either : (now new : StoreView D) (c : Change) → now.journal ≡ old.journal → now.durable ≡ old.durable → Adds old.spool now.spool c
      → LeavesPrefix device now new → LeavesEither device old new c
  either now new c journal durable adds prefix tells image left =
      ⊎_elim
      (λ (was : (device now.journal.disk).left_since (device old.journal.disk).clock image). inl (before tells image
      (subst (λ (j : JournalView D). (device j.disk).left_since (device old.journal.disk).clock image) journal was)))
      (λ (one : Stands now.spool.host image (take now.durable now.spool.changes) ⊎ Stands now.spool.host image now.spool.changes).
      ⊎_elim
      (λ (first : Stands now.spool.host image (take now.durable now.spool.changes)). inl
      (subst (λ (S : Spool). Stands old.spool.host image S) fewer
      (subst (λ (h : Octets). Stands h image (take now.durable now.spool.changes)) adds.host first)))
      (λ (all : Stands now.spool.host image now.spool.changes). inr
      (subst (λ (S : Spool). Stands old.spool.host image S) adds.changes
      (subst (λ (h : Octets). Stands h image now.spool.changes) adds.host all)))
      one)
      (prefix (subst (λ (j : JournalView D). IsTrue (device j.disk).tells) (sym journal) tells) (device old.journal.disk).clock image
      (subst (λ (j : JournalView D). (device old.journal.disk).clock ≤ (device j.disk).clock) (sym journal) (omega arith)) left)
    where
      fewer : take now.durable now.spool.changes ≡ old.spool.changes
      fewer =
          ap (λ (n : ℕ). take n now.spool.changes) (durable ∙ saved.all)
          ∙ ap (take (length old.spool.changes)) adds.changes
          ∙ take-append-le (length old.spool.changes) old.spool.changes (c ∷ []) (omega arith)
          ∙ take-length old.spool.changes

  -- the change is added, and all changes are committed, or not
  module _ (grows : Bool) {E : Type 0} (memory : E) (refusal : Option E) (now new : StoreView D) (c : Change)
      (journal : now.journal ≡ old.journal) (durable : now.durable ≡ old.durable) (none : refusal ≡ None)
      (adds : Adds old.spool now.spool c)
    where
      goes : {T : Type 0} (result : Result T JournalError) → Commits device grows now new result → GoesOn device old new
      goes result commits =
          goes_then device old now new (without_calls device old now journal durable adds.host (c ∷ [], adds.changes)) commits.goes_on

      pub made : {T S : Type 0} (value : T) (result : S) → Commits device grows now new (Ok result)
          → Changes device grows old new c memory refusal (Ok value)
      made value result commits = record {
        made = (
          none,
          record {
            host = ap (λ (s : SpoolView). s.host) commits.spool ∙ adds.host;
            changes = ap (λ (s : SpoolView). s.changes) commits.spool ∙ adds.changes;
            saved = commits.saved;
          },
        );
        not_made = tt;
        crash = either now new c journal durable adds commits.prefix;
        goes_on = goes (Ok result) commits;
      }

      pub failed : {T S : Type 0} (error : JournalError) → Commits {T = S} device grows now new (Err error)
          → Changes {T = T} device grows old new c memory refusal (Err (OfDevice error))
      failed error commits = record {
        made = tt;
        not_made = (
          none,
          record {
            fault = λ is. subst (λ (j : JournalView D). (device new.journal.disk).failures ≢ (device j.disk).failures) journal
                (commits.refused.fault is);
            memory = commits.refused.memory;
            halted = λ is ready. commits.refused.halted is (subst (λ (j : JournalView D). IsReady j) (sym journal) ready);
          },
        );
        crash = either now new c journal durable adds commits.prefix;
        goes_on = goes (Err error) commits;
      }

  pub refused : {T E : Type 0} (grows : Bool) (memory : E) (refusal : Option E) (new : StoreView D) (c : Change) (error : E) → new ≡ old
      → (((error ≡ memory) × (refusal ≡ None)) ⊎ (refusal ≡ Some error))
      → Changes {T = T} device grows old new c memory refusal (Err (Refused error))
  refused grows memory refusal new c error same why = record {
    made = tt;
    not_made = (why, same);
    crash = still new c (ap (λ (s : StoreView D). s.journal) same);
    goes_on = stays device old new (ap (λ (s : StoreView D). s.journal) same) (ap (λ (s : StoreView D). s.durable) same)
        (ap (λ (s : StoreView D). s.spool) same);
  }

-- the serial that was answered is that of the last change
pub is_last : (old now new : SpoolView) (c : Change) (serial value : ℕ) → value ≡ serial → serial ≡ length old.changes + 1 → Adds old now c
    → new ≡ record now { dirty = new.dirty } → value ≡ length new.changes
is_last old now new c serial value is says adds same =
    omega (
      arith,
      is,
      says,
      ap (λ (s : SpoolView). length s.changes) same,
      ap (λ (S : Spool). length S) adds.changes,
      length-append old.changes (c ∷ []),
    )
