-- What is said of a journal is said of the device that it was opened on.
use Rattle.std.proofs.Common.{◌≡◌, ℕ, ◌+◌, length, sym, subst}
use Rattle.std.specs.Prelude.{IsTrue, List}
use Rattle.disk.specs.Device.{Device}
use Rattle.journal.specs.Journal.{JournalView}
use Rattle.journal.specs.Opening.{Costs, IsMore, Opens, home_syncs, home_writes}
use Rattle.kernel.specs.Opening.{OnlyReads}
use Rattle.model.specs.Volume.{format_number, open_segments}
use Rattle.volume_states.specs.declared.state.VolumeStatus.{VolumeStatus}
use Rattle.volume_states.specs.Told.{IsStateIn, IsStateOf}

module _ {D : Type 0} (device : D → Device) (first : D) (one : JournalView D) where
  pub told : (s : VolumeStatus) → Opens device first one
      → (IsTrue (device one.disk).tells → IsStateIn one.format one.label one.size one.blocks s) → IsTrue (device first).tells
      → IsStateOf (device first).content s
  told s o its tells =
      let tells_one : IsTrue (device one.disk).tells = subst IsTrue (sym o.time.tells) tells in
      let count : length one.blocks ≡ one.size = (o.whole tells_one).count in
      let format : format_number (device first).content ≡ one.format = o.format tells in
      record {
        label = one.label;
        blocks = one.blocks;
        volume = o.stands tells;
        state = subst (λ (t : ℕ × ℕ). IsStateIn t.0 one.label t.1 one.blocks s) (λ i. (sym format i, sym count i)) (its tells_one);
      }

  -- reads ask for no write and no sync
  pub only_cost : (content : List ℕ) (two : JournalView D) → Costs 1 content (device first) (device one.disk) → OnlyReads device one two
      → Costs 1 content (device first) (device two.disk)
  only_cost content two costs reads = record {
    writes = subst (IsMore (home_writes content (open_segments content)) (device first).writes) (sym reads.writes) costs.writes;
    syncs = subst (IsMore (1 + home_syncs content (open_segments content)) (device first).syncs) (sym reads.syncs) costs.syncs;
  }
