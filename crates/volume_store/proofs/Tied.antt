-- What a store keeps while texts are filed and batches are written.
use Rattle.std.proofs.Common.{◌≡◌, ◌⊎◌, inl, inr, ⊎_elim, ◌≤◌, ℕ, Bool, true, false, IsTrue, List, [], ◌∷◌, length, refl, sym, ◌∙◌, ap}
use Rattle.std.proofs.Common.{subst, arith}
use Rattle.std.specs.Prelude.{bytes_eq, slice_index_or, take, Option, Result, Ok, Err, IfOk, OnErr}
use Rattle.std.specs.List.{Contains}
use Rattle.std.proofs.Math.Seq.{take-length}
use Rattle.std.proofs.lemmas.Bool.{true≢false}
use Rattle.std.proofs.lemmas.List.{length-append, take-append-le}
use Rattle.std.proofs.lemmas.Slice.Eq.{bytes_eq-Decides}
use Rattle.disk.specs.Device.{Device}
use Rattle.journal.specs.Inside.{IsVolume}
use Rattle.journal.specs.Journal.{IsReady, JournalView}
use Rattle.kernel.specs.Kernel.{most_dirty}
use Rattle.model.specs.Files.{most_blocks}
use Rattle.model.specs.Layout.{Holds, HoldsIn, IsLabel, Stands}
use Rattle.model.specs.Spool.{Spool}
use Rattle.model.specs.Stream.{Octets}
use Rattle.model.specs.Volume.{format_number}
use Rattle.model.specs.declared.change.Change.{Change}
use Rattle.spool.specs.Refusals.{Tested}
use Rattle.spool.specs.View.{Adds, Dirties, IsSpool, SpoolView}
use Rattle.journal_volume.specs.Volume.{AgreeOutside}
use Rattle.session_lookups.specs.declared.change_spool.FilingError.{FilingError}
use Rattle.volume_store.specs.Adding.{IsAdded}
use Rattle.volume_store.specs.Filing.{Becomes}
use Rattle.volume_store.specs.Saved.{Carries, IsBehind, IsSameVolume, IsSaved, IsTied, LeavesOneOf, LeavesPrefix, StoreView}
use Rattle.volume_store.specs.declared.outcome.TextOutcome.{TextOutcome}
use Rattle.volume_store.specs.declared.outcome.TextOutcome.TheVariants.{Filed, Here, NoGroup, Refused, Full}
use Rattle.volume_store.specs.declared.outcome.TextRefusal.TheVariants.{NotAnArticle, OwnId}

-- ---- an image of format 3

-- each file is of the format of such an image
pub held_in : (format : ℕ) (host image : Octets) (inodes : ℕ) (blocks : List Octets) (S : Spool) → format ≡ 3
    → format ≤ format_number image → Holds host inodes blocks S → HoldsIn (format_number image) host inodes blocks S
held_in format host image inodes blocks S third least held = record {
  held = held;
  no_pack = λ few. absurd (omega (arith, third, least, few));
  of_format = λ first. absurd (omega (arith, third, least, first));
}

-- ---- a text is filed

-- blocks that agree outside the dirty ones before a change agree outside those after it
agrees_on : (base old new : List Octets) (before after : List ℕ) → Dirties old new before after → AgreeOutside before base old
    → AgreeOutside after base new
agrees_on base old new before after changed agrees = record { count = agrees.count ∙ sym changed.size; same = same } where
  by_test : (k : ℕ) → ¬ (Contains after k) → (b : Bool) → bytes_eq (slice_index_or old k []) (slice_index_or new k []) ≡ b
      → slice_index_or old k [] ≡ slice_index_or new k []
  by_test k none true is = (bytes_eq-Decides (slice_index_or old k []) (slice_index_or new k [])).0 is
  by_test k none false is =
      absurd (none ((changed.exactly k).1
      (inr (λ same. true≢false (sym ((bytes_eq-Decides (slice_index_or old k []) (slice_index_or new k [])).1 same) ∙ is)))))

  same : (k : ℕ) → ¬ (Contains after k) → slice_index_or base k [] ≡ slice_index_or new k []
  same k none = agrees.same k (λ was. none ((changed.exactly k).1 (inl was)))
      ∙ by_test k none (bytes_eq (slice_index_or old k []) (slice_index_or new k [])) refl

module _ {D : Type 0} (device : D → Device) (journal : JournalView D) (old new : SpoolView) (durable : ℕ)
    (tied : IsTied device journal old durable) (few : length old.blocks ≤ most_blocks)
    (room : length old.dirty ≤ most_dirty (length old.blocks)) where
  adds : (c : Change) → Adds old new c → IsTied device journal new durable
  adds c added =
      let more : take durable new.changes ≡ take durable old.changes =
      ap (take durable) added.changes ∙ take-append-le durable old.changes (c ∷ []) tied.durable_within in
      record {
        format = tied.format;
        few = omega (arith, added.dirties.few, few, room);
        labelled = subst (λ (t : ℕ × Octets). IsLabel journal.label journal.size t.0 t.1)
            (λ i. (sym added.inodes i, sym added.host i)) tied.labelled;
        size = added.dirties.size ∙ tied.size;
        durable_within = omega (arith, tied.durable_within, ap length added.changes, length-append old.changes (c ∷ []));
        behind = λ ready tells. let was = tied.behind ready tells in record {
          agrees = agrees_on journal.blocks old.blocks new.blocks old.dirty new.dirty added.dirties was.agrees;
          holds = subst (λ (t : Octets × (ℕ × List Change)). Holds t.0 t.1.0 journal.blocks t.1.1)
              (λ i. (sym added.host i, (sym added.inodes i, sym more i))) was.holds;
        };
      }

  stays : new ≡ old → IsTied device journal new durable
  stays same = subst (λ (s : SpoolView). IsTied device journal s durable) (sym same) tied

  -- a change of the operator
  pub asked : {T E : Type 0} (c : Change) (memory : E) (refusal : Option E) (result : Result T E) (is : T → Type 0)
      → Tested memory refusal old new result (λ n. is n × Adds old new c) → IsTied device journal new durable
  asked c memory refusal (Ok n) is done = adds c done.1.1
  asked c memory refusal (Err e) is refused = stays refused.1

  -- a change is added, or refused
  pub added : {T : Type 0} (c : Change) (result : Result T FilingError) → IsAdded old new c result → IsTied device journal new durable
  added c (Ok done) is = adds c is.1
  added c (Err error) is = stays is.1

  becomes : (text : Octets) (moment : ℕ) (outcome : TextOutcome) → Becomes old new text moment outcome → IsTied device journal new durable
  becomes text moment (Filed serial) is = adds is.2.0 is.2.3
  becomes text moment Full is = stays is.2
  becomes text moment Here is = stays is.2
  becomes text moment NoGroup is = stays is.2
  becomes text moment (Refused OwnId) is = stays is.2
  becomes text moment (Refused (NotAnArticle c)) is = stays is.1

  -- whatever is answered
  pub files : {E : Type 0} (text : Octets) (moment : ℕ) (result : Result TextOutcome E)
      → IfOk result (λ outcome. Becomes old new text moment outcome) → OnErr result (new ≡ old) → IsTied device journal new durable
  files text moment (Ok outcome) ok err = becomes text moment outcome ok
  files text moment (Err error) ok err = stays err

-- ---- an image of the journal's blocks

-- an image with the journal's blocks stands for the durable changes
pub first_stand : {D : Type 0} (device : D → Device) (journal : JournalView D) (spool : SpoolView) (durable : ℕ)
    → IsTied device journal spool durable → IsReady journal → IsTrue (device journal.disk).tells → (image : Octets)
    → IsVolume journal.format journal.label journal.blocks image → Stands spool.host image (take durable spool.changes)
first_stand device journal spool durable tied ready tells image volume =
    let behind = tied.behind ready tells in
    record {
      label = journal.label;
      inodes = spool.inodes;
      blocks = journal.blocks;
      volume = volume.0;
      labelled = subst (λ (n : ℕ). IsLabel journal.label n spool.inodes spool.host) (sym (behind.agrees.count ∙ tied.size)) tied.labelled;
      held = held_in journal.format spool.host image spool.inodes journal.blocks (take durable spool.changes) tied.format volume.1
          behind.holds;
    }

-- ---- a batch is written

module _ {D : Type 0} (device : D → Device) (old new : JournalView D) (spool : SpoolView) (durable : ℕ)
    (tied : IsTied device old spool durable) (same : IsSameVolume old new) where
  abbrev clean : SpoolView
  clean = record spool { dirty = [] }

  labelled_now : IsLabel new.label new.size spool.inodes spool.host
  labelled_now =
      subst (λ (t : Octets × ℕ). IsLabel t.0 t.1 spool.inodes spool.host) (λ i. (sym same.label i, sym same.size i)) tied.labelled

  format_now : new.format ≡ 3
  format_now = same.format ∙ tied.format

  -- it failed
  pub stopped : (IsReady new → ⊥) → IsTied device new clean durable
  stopped never = record {
    format = format_now;
    few = omega arith;
    labelled = labelled_now;
    size = tied.size ∙ sym same.size;
    durable_within = tied.durable_within;
    behind = λ ready tells. absurd (never ready);
  }

  -- the device was only read
  pub read : IsReady old → (device new.disk).tells ≡ (device old.disk).tells → (IsTrue (device old.disk).tells → new.blocks ≡ old.blocks)
      → IsTied device new spool durable
  read ready tells blocks = record {
    format = format_now;
    few = tied.few;
    labelled = labelled_now;
    size = tied.size ∙ sym same.size;
    durable_within = tied.durable_within;
    behind = λ _ told. let was = subst (λ (b : Bool). IsTrue b) tells told in
        subst (λ (bs : List Octets). IsBehind bs spool durable) (sym (blocks was)) (tied.behind ready was);
  }

  -- it was carried to its end
  pub written : Carries device old spool.blocks new → IsSpool spool → IsTied device new clean (length spool.changes)
  written carried sound = record {
    format = format_now;
    few = omega arith;
    labelled = labelled_now;
    size = tied.size ∙ sym same.size;
    durable_within = omega arith;
    behind = λ ready tells. let blocks = carried.blocks (subst (λ (b : Bool). IsTrue b) carried.tells tells) in record {
      agrees = record { count = ap length blocks; same = λ k none. ap (λ (bs : List Octets). slice_index_or bs k []) blocks };
      holds = subst (λ (bs : List Octets). Holds spool.host spool.inodes bs (take (length spool.changes) spool.changes)) (sym blocks)
          (subst (Holds spool.host spool.inodes spool.blocks) (sym (take-length spool.changes)) sound.held);
    };
  }

  -- an image with the cached blocks stands for all changes
  all_stand : IsSpool spool → (image : Octets) → IsVolume old.format old.label spool.blocks image → Stands spool.host image spool.changes
  all_stand sound image stands = record {
    label = old.label;
    inodes = spool.inodes;
    blocks = spool.blocks;
    volume = stands.0;
    labelled = subst (λ (n : ℕ). IsLabel old.label n spool.inodes spool.host) (sym tied.size) tied.labelled;
    held = held_in old.format spool.host image spool.inodes spool.blocks spool.changes tied.format stands.1 sound.held;
  }

  pub saved : Carries device old spool.blocks new → IsSpool spool
      → IsSaved device (record { journal = new; spool = clean; durable = length spool.changes })
  saved carried sound = record {
    ready = carried.ready;
    all = refl;
    clean = refl;
    leaves = λ tells image left. let told = subst (λ (b : Bool). IsTrue b) carried.tells tells in
        all_stand sound image (carried.leaves told image left);
  }

  -- before that a crash leaves the changes that were durable, or all
  pub prefix : IsReady old → LeavesOneOf device old spool.blocks new → IsSpool spool → (after : StoreView D) → after.journal ≡ new
      → LeavesPrefix device (record { journal = old; spool = spool; durable = durable }) after
  prefix ready since sound after is tells t image before left =
      let left_new = subst (λ (j : JournalView D). (device j.disk).left_since t image) is left in
      ⊎_elim
      (λ (was : (device old.disk).left_since t image). inl was)
      (λ (one : IsVolume old.format old.label old.blocks image ⊎ IsVolume old.format old.label spool.blocks image). inr (⊎_elim
      (λ (first : IsVolume old.format old.label old.blocks image).
      inl (first_stand device old spool durable tied ready tells image first))
      (λ (both : IsVolume old.format old.label spool.blocks image). inr (all_stand sound image both))
      one))
      (since tells t image before left_new)
