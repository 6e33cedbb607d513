-- An opening that reads the device, and perhaps upgrades the volume.
use Rattle.std.proofs.Common.{◌≡◌, ◌⊎◌, inl, inr, ◌≤◌, ℕ, Bool, IsTrue, List, sym, ◌∙◌, subst, arith}
use Rattle.disk.specs.Device.{Device}
use Rattle.disk.proofs.Devices.{elapses_then}
use Rattle.journal.specs.Inside.{IsAdmitted}
use Rattle.journal.specs.Journal.{Admits, IsIdle, IsSameBatch, JournalView, with_batch}
use Rattle.journal.specs.Upgrading.{IsSameButFormat}
use Rattle.journal.specs.declared.Next.{Next}
use Rattle.kernel.specs.Opening.{OnlyReads, ReadsAndUpgrades}
use Rattle.model.specs.Volume.{format_number, laid_over}

-- what an idle journal admits, it admitted before the device was read
admitted : {D : Type 0} (old mid : JournalView D) → IsIdle old → IsIdle mid → IsSameBatch old mid → mid.blocks ≡ old.blocks
    → (c : List ℕ) → Admits mid c → Admits old c
admitted old mid was is same blocks c admits = (
  subst (λ (g : Next). IsAdmitted g old.label old.blocks (with_batch old) c) (is ∙ sym was)
      (subst (λ (l : List ℕ). IsAdmitted mid.next l old.blocks (with_batch old) c) same.label
      (subst (λ (t : List (List ℕ) × List (List ℕ)). IsAdmitted mid.next mid.label t.0 t.1 c)
      (λ i. (blocks i, laid_over (blocks i) (same.numbers i) (same.images i))) admits.0)),
  subst (λ (n : ℕ). n ≤ format_number c) same.format admits.1,
)

module _ {D : Type 0} (device : D → Device) (old mid : JournalView D) (was : IsIdle old) (reads : OnlyReads device old mid) where
  tells : IsTrue (device old.disk).tells → IsTrue (device mid.disk).tells
  tells t = subst (λ (b : Bool). IsTrue b) (sym reads.time.tells) t

  abbrev LeftOrAdmitted : ℕ → List ℕ → Type 0
  LeftOrAdmitted t c = (device old.disk).left_since t c ⊎ Admits old c

  admitted_then : IsTrue (device old.disk).tells → (t : ℕ) (c : List ℕ) → Admits mid c → LeftOrAdmitted t c
  admitted_then told t c admits = inr (admitted old mid was reads.idle reads.same (reads.blocks told) c admits)

  left_then : IsTrue (device old.disk).tells → (t : ℕ) (c : List ℕ) → t ≤ (device old.disk).clock → (device mid.disk).left_since t c
      → LeftOrAdmitted t c
  left_then told t c early left = elim (reads.since told t c early left) [
    | inl before ↦ inl before
    | inr admits ↦ admitted_then told t c admits
  ]

  same_alone : IsSameButFormat old mid
  same_alone = record {
    next = reads.idle ∙ sym was;
    label = reads.same.label;
    size = reads.same.size;
    segments = reads.same.segments;
    held = reads.same.held;
    place = reads.same.place;
    number = reads.same.number;
    last = reads.same.last;
    numbers = reads.same.numbers;
    images = reads.same.images;
    is_last = reads.same.is_last;
  }

  -- the device was only read
  pub reads_alone : ReadsAndUpgrades device old mid
  reads_alone = record {
    same = same_alone;
    blocks = reads.blocks;
    whole = reads.whole;
    time = reads.time;
    now = reads.now;
    since = left_then;
  }

  -- and then the volume was made one of format 3
  pub reads_then : (new : JournalView D) → ReadsAndUpgrades device mid new → ReadsAndUpgrades device old new
  reads_then new upgrades = record {
    same = record {
      label = upgrades.same.label ∙ same_alone.label;
      size = upgrades.same.size ∙ same_alone.size;
      segments = upgrades.same.segments ∙ same_alone.segments;
      next = upgrades.same.next ∙ same_alone.next;
      held = upgrades.same.held ∙ same_alone.held;
      place = upgrades.same.place ∙ same_alone.place;
      number = upgrades.same.number ∙ same_alone.number;
      last = upgrades.same.last ∙ same_alone.last;
      numbers = upgrades.same.numbers ∙ same_alone.numbers;
      images = upgrades.same.images ∙ same_alone.images;
      is_last = upgrades.same.is_last ∙ same_alone.is_last;
    };
    blocks = λ told. upgrades.blocks (tells told) ∙ reads.blocks told;
    whole = upgrades.whole;
    time = elapses_then (device old.disk) (device mid.disk) (device new.disk) reads.time upgrades.time;
    now = upgrades.now;
    since = λ told t c early left. elim (upgrades.since (tells told) t c (omega (arith, early, reads.time.later)) left) [
      | inl before ↦ left_then told t c early before
      | inr admits ↦ admitted_then told t c admits
    ];
  }
