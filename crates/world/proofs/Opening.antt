-- An opening, and what a crash during it might have left.
use Rattle.std.proofs.Common.{◌≡◌, inl, ⊎_elim, ℕ, List, [], length, take, None, refl, ap, sym, ◌∙◌, subst, arith}
use Rattle.std.specs.Prelude.{IsTrue, slice_index_or}
use Rattle.std.proofs.lemmas.List.{take_all}
use Rattle.disk.specs.Device.{Device}
use Rattle.journal.specs.Journal.{IsReady, JournalView}
use Rattle.journal.specs.Opening.{AreSameVolume, LeftKept}
use Rattle.kernel.specs.Kernel.{KernelView}
use Rattle.kernel.specs.Opening.{IsOpened}
use Rattle.model.proofs.Images.{label_says as label_same, rise_stands}
use Rattle.model.specs.Layout.{HoldsIn, IsLabel}
use Rattle.model.specs.News.{Holds, Stands}
use Rattle.model.specs.Spool.{Spool}
use Rattle.model.specs.Stream.{Octets}
use Rattle.model.specs.Volume.{format_number}
use Rattle.kernel_trace.specs.Events.{opens}
use Rattle.kernel_trace.specs.Traced.{TracedView}
use Rattle.world.specs.Fields.{IsSound}
use Rattle.kernel.specs.Standing.{IsDamagedVolume, IsNoNewsVolume, LeavesOpened, LeavesRefused}
use Rattle.kernel.specs.declared.kernel_opening.OpenError.TheVariants.{Memory}
use Rattle.world.specs.Images.{KeepsSpools, StandsForNone}
use Rattle.journal.specs.Order.{is_to_commit}
use Rattle.world.specs.Tied.{AreFaultsOrStopped, IsQuiet, Quiet}

module _ {D : Type 0} (device : D → Device) (only_now : (d : D) (image : Octets) → IsTrue (device d).tells
    → (device d).left_since (device d).clock image → (device d).may_leave image)
    (counts_content : (d : D) → IsTrue (device d).tells → (device d).may_leave (device d).content) where
  pub keeps_left : (first last : D) → LeftKept (device first) (device last) → KeepsSpools (device first) (device last)
  keeps_left first last kept tells image left =
      ⊎_elim
      (λ (was : (device first).left_since (device first).clock image). (image, only_now first image tells was, λ host S s. s))
      (λ (same : AreSameVolume (device first).content image). (
        (device first).content,
        counts_content first tells,
        λ host S s. rise_stands host (device first).content image same.0 same.1.0 S same.1.1.0 same.1.1.1.0 same.1.1.1.1 s,
      ))
      (kept tells (device first).clock image (omega arith) left)

-- what is left if memory lacks once the device was opened
pub refused_for_memory : {D : Type 0} (device : D → Device) (before after : D) → LeavesOpened device before after
    → LeavesRefused device before after Memory
refused_for_memory device before after opened = record {
  time = opened.time;
  volume = opened.volume;
  moment = inl opened.moment;
  judged = λ _. opened.moment;
  fault = λ is. absurd (cc is);
  memory = λ _. opened.still;
  left = λ tells _. opened.left tells;
  no_volume = λ is. absurd (cc is);
  damaged = λ is. absurd (cc is);
}

-- neither stands for a spool
pub none_unlabelled : (content : Octets) → IsNoNewsVolume content → StandsForNone content
none_unlabelled content never host S s = never s.label s.blocks s.inodes host s.volume s.labelled

pub none_damaged : (content : Octets) → IsDamagedVolume content → StandsForNone content
none_damaged content d host S s =
    let label : s.label ≡ d.label = sym s.volume.has_label ∙ d.volume.has_label in
    let blocks : s.blocks ≡ d.blocks = sym s.volume.has_blocks ∙ d.volume.has_blocks in
    let its_label : IsLabel d.label (length d.blocks) s.inodes host =
    subst (λ (t : Octets × List Octets). IsLabel t.0 (length t.1) s.inodes host) (λ i. (label i, blocks i)) s.labelled in
    let same = label_same d.label (length d.blocks) s.inodes d.inodes host d.host its_label d.labelled in
    d.holds_none S (subst (λ (t : Octets × ℕ × List Octets). HoldsIn (format_number content) t.0 t.1 t.2 S)
    (λ i. (same.1 i, same.0 i, blocks i)) s.held)

-- ---- the new world

pub sound_new : {D : Type 0} (device : D → Device) (journal : JournalView D) (kernel : KernelView) (served : TracedView)
    → served ≡ opens kernel → IsOpened device journal kernel → journal.format ≡ 3 → IsReady journal
    → IsSound (device journal.disk).tells (record { journal = journal; served = served; untold = [] }) None
sound_new {D} device journal kernel served is k format ready =
    subst (λ s. IsSound (device journal.disk).tells (record { journal = journal; served = s; untold = [] }) None) (sym is) now
  where
    all : take kernel.durable kernel.spool ≡ kernel.spool
    all = take_all kernel.durable kernel.spool (omega (arith, k.fresh.durable))

    quiet : IsQuiet (device journal.disk).tells journal kernel []
    quiet =
        record {
          none = k.fresh.in_flight;
          past = ap is_to_commit ready.1;
          blocks = λ tells. let lies : journal.blocks ≡ kernel.blocks = sym (k.blocks tells) in record {
            agrees = record { size = ap length lies; clean = λ n lt clean. ap (λ xs. slice_index_or xs n []) lies };
            holds = subst (λ (t : List Octets × Spool). Holds kernel.host kernel.inodes t.0 t.1) (λ i. (sym lies i, sym all i)) k.holds;
          };
          dirty = λ some. absurd (some k.fresh.dirty);
          faults = subst (λ b. AreFaultsOrStopped b kernel.halted []) (sym ready.0) refl;
          stopped = λ runs halted. k.fresh.durable;
        }

    now : IsSound (device journal.disk).tells (record { journal = journal; served = opens kernel; untold = [] }) None
    now =
        record {
          tied = record {
            label = subst (λ n. IsLabel journal.label n kernel.inodes kernel.host) (sym k.size) k.labelled;
            size = sym k.size;
            format = format;
            phase = Quiet quiet;
          };
          flies = sym k.fresh.in_flight;
        }
