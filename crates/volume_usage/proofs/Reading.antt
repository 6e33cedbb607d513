-- A read of logical blocks leaves the volume as it was.
use Rattle.std.proofs.Common.{◌≡◌, ◌⊎◌, inl, inr, ⊎_elim, ◌≤◌, ℕ, IsTrue, Bool, List, refl, sym, ◌∙◌, subst, arith}
use Rattle.disk.specs.Device.{Device, Elapses}
use Rattle.journal.specs.Inside.{IsAdmitted, IsVolume, LeftAs}
use Rattle.journal.specs.Journal.{Admits, IsIdle, JournalView, LeftAdmitted, with_batch}
use Rattle.journal.specs.declared.Next.{Next}
use Rattle.journal.specs.declared.Next.TheVariants.{Commit, Idle}
use Rattle.model.specs.Volume.{StandsFor, format_number}

-- what a journal without a batch admits is its volume
admitted : {D : Type 0} (journal : JournalView D) (image : List ℕ) → IsIdle journal → Admits journal image
    → IsVolume journal.format journal.label journal.blocks image
admitted journal image idle admits = (
  ⊎_elim (λ (stands : StandsFor image journal.label journal.blocks). stands)
      (λ (commits : (journal.next ≡ Commit) × StandsFor image journal.label (with_batch journal)).
      absurd (let both : Idle ≡ Commit = sym idle ∙ commits.0 in cc)) admits.0,
  admits.1,
)

pub read_leaves : {D : Type 0} (device : D → Device) (old new : JournalView D) → new.label ≡ old.label → new.format ≡ old.format
    → (IsTrue (device old.disk).tells → new.blocks ≡ old.blocks) → IsIdle new → LeftAdmitted device old new
    → LeftAs (device old.disk) (device new.disk) old.format old.label old.blocks
read_leaves device old new label format blocks idle since tells t image before left =
    ⊎_elim (λ (was : (device old.disk).left_since t image). inl was)
    (λ (admits : Admits new image). inr (subst (λ (v : ℕ × List ℕ × List (List ℕ)). IsVolume v.0 v.1 v.2 image)
    (λ i. (format i, label i, blocks tells i)) (admitted new image idle admits)))
    (since tells t image before left)

-- one read after others
pub read_then : (old now new : Device) (format : ℕ) (label : List ℕ) (blocks : List (List ℕ)) (its_format : ℕ) (its_label : List ℕ)
    (its_blocks : List (List ℕ)) → its_format ≡ format → its_label ≡ label → (IsTrue old.tells → its_blocks ≡ blocks) → Elapses old now
    → LeftAs old now format label blocks → LeftAs now new its_format its_label its_blocks → LeftAs old new format label blocks
read_then old now new format label blocks its_format its_label its_blocks same_format same_label same time so_far more tells t image
    before left =
    ⊎_elim (λ (was : now.left_since t image). so_far tells t image before was)
    (λ (volume : IsVolume its_format its_label its_blocks image).
    inr (subst (λ (v : ℕ × List ℕ × List (List ℕ)). IsVolume v.0 v.1 v.2 image)
    (λ i. (same_format i, same_label i, same tells i)) volume))
    (more (subst (λ (b : Bool). IsTrue b) (sym time.tells) tells) t image (omega (arith, before, time.later)) left)

pub no_read : (device : Device) (format : ℕ) (label : List ℕ) (blocks : List (List ℕ)) → LeftAs device device format label blocks
no_read device format label blocks tells t image before left = inl left

pub no_time : (a : Device) → Elapses a a
no_time a = record { size = refl; tells = refl; later = omega arith }
