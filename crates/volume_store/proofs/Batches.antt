-- A batch of the dirty blocks, and what a crash around it leaves.
use Rattle.std.proofs.Common.{◌≡◌, ◌⊎◌, inl, inr, ⊎_elim, ◌*◌, ◌<◌, ◌≤◌, ℕ, IsTrue, List, [], length, refl, sym, ◌∙◌, ap, subst}
use Rattle.std.specs.Prelude.{All, slice_index_or}
use Rattle.std.specs.List.{flat_map}
use Rattle.std.proofs.lemmas.List.Elements.{All-get_or, All-weaker}
use Rattle.disk.specs.Device.{Device, Elapses}
use Rattle.journal.specs.Inside.{IsVolume}
use Rattle.journal.specs.Journal.{IsReady, JournalView, LeavesAdmitted, with_batch}
use Rattle.model.specs.Stream.{Octets}
use Rattle.model.specs.Volume.{blocks_from, laid_over}
use Rattle.spool.specs.View.{IsSpool, SpoolView}
use Rattle.journal_volume.specs.Volume.{BatchView}
use Rattle.fs_blocks.proofs.Octets.{blocks_from-flat_map}
use Rattle.volume_store.specs.Saved.{Carries, IsSameVolume, LeavesOneOf, after_batch}
use Rattle.volume_store.proofs.Carried.{stands}

-- ---- the blocks after it, said otherwise

pub carries_as : {D : Type 0} (device : D → Device) (old : JournalView D) (after other : List Octets) (new : JournalView D)
    → (IsTrue (device old.disk).tells → after ≡ other) → Carries device old after new → Carries device old other new
carries_as device old after other new same c = record {
  ready = c.ready;
  tells = c.tells;
  failures = c.failures;
  blocks = λ t. c.blocks t ∙ same t;
  leaves = λ t image left. subst (λ (bs : List Octets). IsVolume old.format old.label bs image) (same t) (c.leaves t image left);
}

pub leaves_as : {D : Type 0} (device : D → Device) (old : JournalView D) (after other : List Octets) (new : JournalView D)
    → (IsTrue (device old.disk).tells → after ≡ other) → LeavesOneOf device old after new → LeavesOneOf device old other new
leaves_as device old after other new same since t time image before left =
    ⊎_elim
    (λ (was : (device old.disk).left_since time image). inl was)
    (λ (one : IsVolume old.format old.label old.blocks image ⊎ IsVolume old.format old.label after image). inr (⊎_elim
    (λ (first : IsVolume old.format old.label old.blocks image). inl first)
    (λ (both : IsVolume old.format old.label after image).
    inr (subst (λ (bs : List Octets). IsVolume old.format old.label bs image) (same t) both))
    one))
    (since t time image before left)

-- ---- from the moment before it began

module _ {D : Type 0} (device : D → Device) (old begun : JournalView D) (batch : BatchView) (new : JournalView D)
    (disk : begun.disk ≡ old.disk) (label : begun.label ≡ old.label) (format : begun.format ≡ old.format)
    (blocks : begun.blocks ≡ old.blocks) (numbers : begun.numbers ≡ batch.numbers)
    (images : begun.images ≡ blocks_from 0 (length batch.numbers) batch.images) where
  laid : with_batch begun ≡ after_batch old.blocks batch
  laid = λ i. laid_over (blocks i) (numbers i) (images i)

  tells : IsTrue (device old.disk).tells → IsTrue (device begun.disk).tells
  tells t = subst (λ (d : D). IsTrue (device d).tells) (sym disk) t

  abbrev Volume : (image : Octets) → ℕ × (Octets × List Octets) → Type 0
  Volume image s = IsVolume s.0 s.1.0 s.1.1 image

  pub carries_from : Carries device begun (with_batch begun) new → Carries device old (after_batch old.blocks batch) new
  carries_from c = record {
    ready = c.ready;
    tells = c.tells ∙ ap (λ (d : D). (device d).tells) disk;
    failures = c.failures ∙ ap (λ (d : D). (device d).failures) disk;
    blocks = λ t. c.blocks (tells t) ∙ laid;
    leaves = λ t image left. subst (Volume image) (λ i. (format i, (label i, laid i))) (c.leaves (tells t) image left);
  }

  pub leaves_from : LeavesOneOf device begun (with_batch begun) new → LeavesOneOf device old (after_batch old.blocks batch) new
  leaves_from since t time image before left =
      ⊎_elim
      (λ (was : (device begun.disk).left_since time image). inl (subst (λ (d : D). (device d).left_since time image) disk was))
      (λ (one : IsVolume begun.format begun.label begun.blocks image ⊎ IsVolume begun.format begun.label (with_batch begun) image).
      inr (⊎_elim
      (λ (first : IsVolume begun.format begun.label begun.blocks image).
      inl (subst (Volume image) (λ i. (format i, (label i, blocks i))) first))
      (λ (both : IsVolume begun.format begun.label (with_batch begun) image).
      inr (subst (Volume image) (λ i. (format i, (label i, laid i))) both))
      one))
      (since (tells t) time image (subst (λ (d : D). time ≤ (device d).clock) (sym disk) before) left)

  pub time_from : Elapses (device begun.disk) (device new.disk) → Elapses (device old.disk) (device new.disk)
  time_from time = subst (λ (d : D). Elapses (device d) (device new.disk)) disk time

  pub same_from : IsSameVolume begun new → begun.size ≡ old.size → IsSameVolume old new
  same_from same size = record { label = same.label ∙ label; format = same.format ∙ format; size = same.size ∙ size }

-- ---- without blocks

module _ {D : Type 0} (device : D → Device) (journal : JournalView D) (batch : BatchView) (none : batch.numbers ≡ []) where
  pub nothing_carried : IsReady journal → LeavesAdmitted device journal → Carries device journal (after_batch journal.blocks batch) journal
  nothing_carried ready admitted =
      let same : after_batch journal.blocks batch ≡ journal.blocks =
      ap (λ (ns : List ℕ). laid_over journal.blocks ns (blocks_from 0 (length ns) batch.images)) none in
      record {
        ready = ready;
        tells = refl;
        failures = refl;
        blocks = λ t. sym same;
        leaves = λ t image left. subst (λ (bs : List Octets). IsVolume journal.format journal.label bs image) (sym same)
            (stands journal image ready.1 (admitted t image left));
      }

pub nothing_since : {D : Type 0} (device : D → Device) (journal : JournalView D) (after : List Octets)
    → LeavesOneOf device journal after journal
nothing_since device journal after t time image before left = inl left

-- ---- its octets

pub images_whole : (s : SpoolView) (images : List ℕ) → IsSpool s → All (λ n. n < length s.blocks) s.dirty
    → images ≡ flat_map (λ n. slice_index_or s.blocks n []) s.dirty → length images ≡ 4096 * length s.dirty
images_whole s images sound below is =
    let whole : All (λ n. length (slice_index_or s.blocks n []) ≡ 4096) s.dirty =
    All-weaker (λ n. n < length s.blocks) (λ n. length (slice_index_or s.blocks n []) ≡ 4096)
    (λ n low. All-get_or (λ octets. length octets ≡ 4096) s.blocks n [] low sound.room.blocks_whole) s.dirty below in
    ap length is ∙ (blocks_from-flat_map (λ n. slice_index_or s.blocks n []) s.dirty whole).0
