-- A store that was opened: what it keeps, and that all is durable.
use Rattle.std.proofs.Common.{◌≡◌, ℕ, IsTrue, List, [], inl, inr, ⊎_elim, length, refl, sym, ap, subst, arith}
use Rattle.std.specs.Prelude.{slice_index_or, take}
use Rattle.std.proofs.Math.Seq.{take-length}
use Rattle.disk.specs.Device.{Device}
use Rattle.journal.specs.Journal.{IsReady, JournalView, LeavesAdmitted}
use Rattle.kernel.specs.Opening.{IsLoaded}
use Rattle.kernel.specs.Standing.{LeavesRefused}
use Rattle.kernel.specs.declared.kernel_opening.OpenError.TheVariants.{Damaged, Memory, NotAVolume}
use Rattle.model.specs.Layout.{Holds, IsLabel, Stands}
use Rattle.model.specs.Stream.{Octets}
use Rattle.model.specs.Volume.{StandsFor}
use Rattle.spool.specs.View.{SpoolView}
use Rattle.volume_store.specs.Opening.{IsOpened}
use Rattle.volume_store.specs.Saved.{IsSaved, IsTied}
use Rattle.volume_store.proofs.Carried.{stands}
use Rattle.volume_store.proofs.Tied.{held_in}

module _ {D : Type 0} (device : D → Device) (now : JournalView D) (spool : SpoolView) (loaded : IsLoaded device now spool)
    (format : now.format ≡ 3) where
  blocks_now : IsTrue (device now.disk).tells → now.blocks ≡ spool.blocks
  blocks_now t = sym (loaded.blocks t)

  pub tied_opened : IsTied device now spool (length spool.changes)
  tied_opened = record {
    format = format;
    few = omega (arith, ap length loaded.clean);
    labelled = loaded.labelled;
    size = loaded.size;
    durable_within = omega arith;
    behind = λ ready t. record {
      agrees =
          record { count = ap length (blocks_now t); same = λ k none. ap (λ (bs : List Octets). slice_index_or bs k []) (blocks_now t) };
      holds =
          subst (λ (bs : List Octets). Holds spool.host spool.inodes bs (take (length spool.changes) spool.changes)) (sym (blocks_now t))
          (subst (Holds spool.host spool.inodes spool.blocks) (sym (take-length spool.changes)) loaded.holds.held);
    };
  }

  saved_opened : IsReady now → LeavesAdmitted device now
      → IsSaved device (record { journal = now; spool = spool; durable = length spool.changes })
  saved_opened ready admitted = record {
    ready = ready;
    all = refl;
    clean = loaded.clean;
    leaves = λ t image left. let here = stands now image ready.1 (admitted t image left) in record {
      label = now.label;
      inodes = spool.inodes;
      blocks = spool.blocks;
      volume = subst (λ (bs : List Octets). StandsFor image now.label bs) (blocks_now t) here.0;
      labelled = subst (λ (n : ℕ). IsLabel now.label n spool.inodes spool.host) (sym loaded.size) loaded.labelled;
      held = held_in now.format spool.host image spool.inodes spool.blocks spool.changes format here.1 loaded.holds.held;
    };
  }

  pub opened : (first : D) → IsReady now → LeavesAdmitted device now
      → (IsTrue (device first).tells → Stands spool.host (device first).content spool.changes)
      → (device now.disk).failures ≡ (device first).failures
      → IsOpened device first (record { journal = now; spool = spool; durable = length spool.changes })
  opened first ready admitted stood failures = record {
    saved = saved_opened ready admitted;
    format = format;
    stands = stood;
    failures = failures;
  }

-- memory lacked before the device was asked for anything
pub refused_at_once : {D : Type 0} (device : D → Device) (first : D) → LeavesRefused device first first Memory
refused_at_once device first = record {
  time = record { size = refl; tells = refl; later = omega arith };
  volume = λ tells t image le left. inl left;
  moment = inr (refl, λ tells t image le left. left);
  judged = λ is. ⊎_elim (λ (a : Memory ≡ NotAVolume). absurd (cc a)) (λ (b : Memory ≡ Damaged). absurd (cc b)) is;
  fault = λ is. absurd (cc is);
  memory = λ _. refl;
  left = λ tells _. inl refl;
  no_volume = λ is. absurd (cc is);
  damaged = λ is. absurd (cc is);
}
