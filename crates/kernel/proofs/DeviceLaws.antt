-- An opening, and what it leaves of the device.
use Rattle.std.proofs.Common.{◌≡◌, ◌≢◌, ◌⊎◌, inl, inr, ⊎_elim, Bool, ℕ, ◌+◌, ◌≤◌, ◌%◌, ◌^◌, List, length, refl, ap, sym, ◌∙◌, subst, arith}
use Rattle.std.proofs.Math.Nat.{mod-add-mod}
use Rattle.std.specs.Prelude.{IsTrue, None, [], false}
use Rattle.disk.proofs.Devices.{elapses_then}
use Rattle.disk.specs.Device.{Device}
use Rattle.journal.specs.Journal.{Admits, IsIdle, JournalView}
use Rattle.journal.specs.Opening.{AreSameVolume, Costs, IsMore, IsNoVolume, LeftKept, NeverSyncs, Opens, Refuses, SyncsFirst, home_syncs}
use Rattle.journal.specs.Opening.{home_writes}
use Rattle.journal.specs.declared.JournalError.{JournalError}
use Rattle.journal.specs.declared.JournalError.TheVariants as journal
use Rattle.journal.specs.declared.Next.TheVariants.{Commit, Idle}
use Rattle.kernel.specs.Label.{IsNoLabel}
use Rattle.kernel.specs.Opening.{CostsUpgrade, HasBlocks, HasFailed, IsDamaged, IsLoaded, IsOpened, IsSpoolOf, IsStill, IsUnsynced}
use Rattle.kernel.specs.Opening.{ReadsAndUpgrades, upgrade_calls}
use Rattle.kernel.specs.Stored.{kernel_of}
use Rattle.kernel.specs.declared.kernel_opening.LoadedBlocks.{LoadedBlocks}
use Rattle.kernel.specs.declared.kernel_opening.OpenError.{OpenError}
use Rattle.kernel.specs.declared.kernel_opening.OpenError.TheVariants as open_errors
use Rattle.model.specs.Layout.{AreOfFormat, HoldsIn, IsLabel}
use Rattle.model.specs.News.{Stands}
use Rattle.model.specs.Spool.{Spool}
use Rattle.model.specs.SpoolFiles.{files_of}
use Rattle.model.specs.Stream.{Octets}
use Rattle.model.specs.Volume.{StandsFor, format_number, open_segments}
use Rattle.spool.specs.View.{SpoolView}
use Rattle.kernel.specs.Costs.{CostsToOpen}
use Rattle.kernel.specs.Standing.{IsDamagedVolume, IsNoNewsVolume, LeavesOpened, LeavesRefused, open_error}

module _ {D : Type 0} (device : D → Device) where
  idle_admits : (j : JournalView D) (image : Octets) → IsIdle j → Admits j image → StandsFor image j.label j.blocks
  idle_admits j image idle admits =
      ⊎_elim (λ (s : StandsFor image j.label j.blocks). s)
      (λ (b : (j.next ≡ Commit) × _). absurd (let both : Idle ≡ Commit = sym idle ∙ b.0 in cc))
      admits.0

  -- what the journal admits after its opening is the volume that it opened, in no lower format
  same_as : (first : D) (one : JournalView D) (image : Octets) → Opens device first one → IsTrue (device first).tells → Admits one image
      → AreSameVolume (device first).content image
  same_as first one image o tells admits =
      let risen : format_number (device first).content ≤ format_number image = omega (arith, o.format tells, admits.1) in
      (one.label, (one.blocks, (o.stands tells, (idle_admits one image o.ready.1 admits, risen))))

  pub left_both : (first : D) (one two : JournalView D) → Opens device first one → ReadsAndUpgrades device one two
      → LeftKept (device first) (device two.disk)
  left_both first one two o r tells t image le left =
      ⊎_elim
      (λ (was : (device one.disk).left_since t image). o.since tells t image le was)
      (λ (admits : Admits one image). inr (same_as first one image o tells admits))
      (r.since (subst IsTrue (sym o.time.tells) tells) t image (omega (arith, le, o.time.later)) left)

  pub syncs_both : (first : D) (one two : JournalView D) → Opens device first one → SyncsFirst device first one.disk
      → ReadsAndUpgrades device one two → SyncsFirst device first two.disk
  syncs_both first one two o s r =
      record {
        synced = s.synced;
        no_write = s.no_write;
        before = s.before;
        later = omega (arith, s.later, r.time.later);
        until = s.until;
        content = s.content;
        only = s.only;
        after = λ tells t image le left. ⊎_elim
            (λ (was : (device one.disk).left_since t image). s.after tells t image le was)
            (λ (admits : Admits one image). inr (same_as first one image o tells admits))
            (r.since (subst IsTrue (sym o.time.tells) tells) t image (omega (arith, le, s.later)) left);
      }

-- ---- what it costs

more_both : (n m old mid new : ℕ) → IsMore n old mid → IsMore m mid new → IsMore (n + m) old new
more_both n m old mid new first second =
    second ∙ sym (mod-add-mod mid (2 ^ 64) m) ∙ ap (λ (k : ℕ). (k + m) % 2 ^ 64) first ∙ mod-add-mod (old + n) (2 ^ 64) m
    ∙ ap (λ (k : ℕ). k % 2 ^ 64) (omega arith)

pub costs_both : (content : Octets) (format : ℕ) (first one two : Device) → format_number content ≡ format → Costs 1 content first one
    → CostsUpgrade format one two → CostsToOpen content first two
costs_both content format first one two is opens upgrades = record {
  writes = more_both (home_writes content (open_segments content)) (upgrade_calls (format_number content)) first.writes one.writes
      two.writes opens.writes
      (subst (λ (f : ℕ). IsMore (upgrade_calls f) one.writes two.writes) (sym is) upgrades.writes);
  syncs = more_both (1 + home_syncs content (open_segments content)) (upgrade_calls (format_number content)) first.syncs one.syncs two.syncs
      opens.syncs
      (subst (λ (f : ℕ). IsMore (upgrade_calls f) one.syncs two.syncs) (sym is) upgrades.syncs);
}

-- ---- what stood there

of_third : (S : Spool) (format : ℕ) → format ≡ 3 → AreOfFormat format (files_of S)
of_third S format is first = absurd (omega (arith, is, first))

-- ---- the spool in loaded blocks

module _ {D : Type 0} (device : D → Device) (j : JournalView D) (b : LoadedBlocks) (has : HasBlocks device j b)
    (host : Octets) (named : host ≡ b.host.items) where
  pub loaded_so : (spool : SpoolView) → IsSpoolOf b.format host b.inodes b.volume.cache spool → IsLoaded device j spool
  loaded_so spool is = record {
    labelled = subst (λ (t : ℕ × Octets). IsLabel j.label j.size t.0 t.1)
        (λ i. (sym is.inodes_are i, sym (is.host_is ∙ named) i)) has.labelled;
    size = ap length is.blocks_are ∙ has.size;
    blocks = λ tells. is.blocks_are ∙ has.blocks tells;
    clean = is.clean;
    holds = subst (λ (f : ℕ). HoldsIn f spool.host spool.inodes spool.blocks spool.changes) has.format is.holds;
  }

  pub damaged_so : ((S : Spool) → HoldsIn b.format host b.inodes b.volume.cache S → ⊥) → IsDamaged device j
  damaged_so none = record {
    inodes = b.inodes;
    host = b.host.items;
    labelled = has.labelled;
    holds_none = λ tells S holds. none S (subst (λ (t : ℕ × (Octets × List Octets)). HoldsIn t.0 t.1.0 b.inodes t.1.1 S)
        (λ i. (sym has.format i, (sym named i, sym (has.blocks tells) i))) holds);
  }

-- the spool stands in the blocks of the journal that the opening left
pub still_loaded : {D : Type 0} (device : D → Device) (one two : JournalView D) (spool : SpoolView) → IsLoaded device one spool
    → ReadsAndUpgrades device one two → two.format ≡ 3 → IsLoaded device two spool
still_loaded device one two spool l r format = record {
  labelled = subst (λ (t : Octets × ℕ). IsLabel t.0 t.1 spool.inodes spool.host)
      (λ i. (sym r.same.label i, sym r.same.size i)) l.labelled;
  size = l.size ∙ sym r.same.size;
  blocks = λ tells. let one_tells : IsTrue (device one.disk).tells = subst IsTrue r.time.tells tells in
      l.blocks one_tells ∙ sym (r.blocks one_tells);
  clean = l.clean;
  holds = record {
    held = l.holds.held;
    no_pack = λ few. absurd (omega (arith, format, few));
    of_format = of_third spool.changes two.format format;
  };
}

pub stands_loaded : {D : Type 0} (device : D → Device) (first : D) (one : JournalView D) (spool : SpoolView) → Opens device first one
    → IsLoaded device one spool → IsTrue (device first).tells → Stands spool.host (device first).content spool.changes
stands_loaded device first one spool o l tells =
    let same : spool.blocks ≡ one.blocks = l.blocks (subst IsTrue (sym o.time.tells) tells) in
    record {
      label = one.label;
      inodes = spool.inodes;
      blocks = spool.blocks;
      volume = subst (StandsFor (device first).content one.label) (sym same) (o.stands tells);
      labelled = subst (λ n. IsLabel one.label n spool.inodes spool.host) (sym l.size) l.labelled;
      held = subst (λ (f : ℕ). HoldsIn f spool.host spool.inodes spool.blocks spool.changes) (sym (o.format tells)) l.holds;
    }

-- and so does the kernel of that spool
pub kernel_opened : {D : Type 0} (device : D → Device) (j : JournalView D) (spool : SpoolView) (most : ℕ)
    → IsLoaded device j spool → IsOpened device j (kernel_of spool (length spool.changes) None false most 0 [])
kernel_opened device j spool most l = record {
  fresh = record { durable = refl; in_flight = refl; halted = refl; dirty = l.clean; joined = refl; seats = refl };
  labelled = l.labelled;
  size = l.size;
  blocks = l.blocks;
  holds = l.holds.held;
  no_pack = l.holds.no_pack;
  of_format = l.holds.of_format;
}

pub no_volume : (content : Octets) → IsNoVolume content → IsNoNewsVolume content
no_volume content never label blocks inodes host volume labelled = never label blocks volume

pub no_label : {D : Type 0} (device : D → Device) (first : D) (one : JournalView D) → Opens device first one → IsNoLabel one.label one.size
    → IsTrue (device first).tells → IsNoNewsVolume (device first).content
no_label device first one o never tells label blocks inodes host volume labelled =
    let v = o.stands tells in
    let its_label : label ≡ one.label = sym volume.has_label ∙ v.has_label in
    let its_blocks : blocks ≡ one.blocks = sym volume.has_blocks ∙ v.has_blocks in
    never inodes host (subst (λ (t : Octets × ℕ). IsLabel t.0 t.1 inodes host)
    (λ i. (its_label i, (ap length its_blocks ∙ (o.whole (subst IsTrue (sym o.time.tells) tells)).count) i)) labelled)

pub is_damaged : {D : Type 0} (device : D → Device) (first : D) (one : JournalView D) → Opens device first one → IsDamaged device one
    → IsTrue (device first).tells → IsDamagedVolume (device first).content
is_damaged device first one o d tells =
    let tells_one : IsTrue (device one.disk).tells = subst IsTrue (sym o.time.tells) tells in
    record {
      label = one.label;
      blocks = one.blocks;
      inodes = d.inodes;
      host = d.host;
      volume = o.stands tells;
      labelled = subst (λ n. IsLabel one.label n d.inodes d.host) (sym (o.whole tells_one).count) d.labelled;
      holds_none = λ S holds. d.holds_none tells_one S (subst (λ (f : ℕ). HoldsIn f d.host d.inodes one.blocks S) (o.format tells) holds);
    }

-- ---- the journal's refusals, by what the opening answers

pub journal_missed : (e : JournalError) (r : OpenError) → r ≡ open_error e → r ≡ open_errors.NotAVolume → e ≡ journal.NotAVolume
journal_missed journal.Fault r is a = absurd (let both : open_errors.Fault ≡ open_errors.NotAVolume = sym is ∙ a in cc)
journal_missed journal.Memory r is a = absurd (let both : open_errors.Memory ≡ open_errors.NotAVolume = sym is ∙ a in cc)
journal_missed journal.NotAVolume r is a = refl
journal_missed journal.Halted r is a = absurd (let both : open_errors.Memory ≡ open_errors.NotAVolume = sym is ∙ a in cc)

pub journal_failed : (e : JournalError) (r : OpenError) → r ≡ open_error e → r ≡ open_errors.Fault → e ≡ journal.Fault
journal_failed journal.Fault r is a = refl
journal_failed journal.Memory r is a = absurd (let both : open_errors.Memory ≡ open_errors.Fault = sym is ∙ a in cc)
journal_failed journal.NotAVolume r is a = absurd (let both : open_errors.NotAVolume ≡ open_errors.Fault = sym is ∙ a in cc)
journal_failed journal.Halted r is a = absurd (let both : open_errors.Memory ≡ open_errors.Fault = sym is ∙ a in cc)

pub journal_finds_no_damage : (e : JournalError) (r : OpenError) → r ≡ open_error e → r ≢ open_errors.Damaged
journal_finds_no_damage journal.Fault r is a = (let both : open_errors.Fault ≡ open_errors.Damaged = sym is ∙ a in cc)
journal_finds_no_damage journal.Memory r is a = (let both : open_errors.Memory ≡ open_errors.Damaged = sym is ∙ a in cc)
journal_finds_no_damage journal.NotAVolume r is a = (let both : open_errors.NotAVolume ≡ open_errors.Damaged = sym is ∙ a in cc)
journal_finds_no_damage journal.Halted r is a = (let both : open_errors.Memory ≡ open_errors.Damaged = sym is ∙ a in cc)

pub journal_lacked_memory : (e : JournalError) (r : OpenError) → r ≡ open_error e → e ≢ journal.Halted → r ≡ open_errors.Memory
    → e ≡ journal.Memory
journal_lacked_memory journal.Fault r is runs a = absurd (let both : open_errors.Fault ≡ open_errors.Memory = sym is ∙ a in cc)
journal_lacked_memory journal.Memory r is runs a = refl
journal_lacked_memory journal.NotAVolume r is runs a = absurd (let both : open_errors.NotAVolume ≡ open_errors.Memory = sym is ∙ a in cc)
journal_lacked_memory journal.Halted r is runs a = absurd (runs refl)

-- ---- what an opening leaves of the device

-- what a read gives after the kernel's opening is the volume that the journal opened
module _ {D : Type 0} (device : D → Device) (only_now : (d : D) (image : Octets) → IsTrue (device d).tells
    → (device d).left_since (device d).clock image → (device d).may_leave image)
    (counts_content : (d : D) → IsTrue (device d).tells → (device d).may_leave (device d).content)
    (counts_now : (d : D) (t : ℕ) (image : Octets) → IsTrue (device d).tells → t ≤ (device d).clock → (device d).may_leave image
    → (device d).left_since t image) where
  pub volume_left : (first : D) (one two : JournalView D) → Opens device first one → ReadsAndUpgrades device one two
      → IsTrue (device first).tells → AreSameVolume (device first).content (device two.disk).content
  volume_left first one two o r tells =
      let tells_one : IsTrue (device one.disk).tells = subst IsTrue (sym o.time.tells) tells in
      let tells_two : IsTrue (device two.disk).tells = subst IsTrue (sym r.time.tells) tells_one in
      let image : Octets = (device two.disk).content in
      let left = counts_now two.disk (device one.disk).clock image tells_two r.time.later (counts_content two.disk tells_two) in
      same_as device first one image o tells
      (⊎_elim (λ (was : (device one.disk).left_since (device one.disk).clock image). o.now tells_one image
      (only_now one.disk image tells_one was))
      (λ (admits : Admits one image). admits)
      (r.since tells_one (device one.disk).clock image (omega arith) left))

  -- the journal was opened, and what stands in its logical blocks
  pub both_opened : (first : D) (one two : JournalView D) → Opens device first one → SyncsFirst device first one.disk
      → (IsTrue (device first).tells → Costs 1 (device first).content (device first) (device one.disk))
      → ReadsAndUpgrades device one two → CostsUpgrade one.format (device one.disk) (device two.disk) → IsStill device one two
      → LeavesOpened device first two.disk
  both_opened first one two o moment cost r upgrades still = record {
    still = still.failures ∙ o.failures;
    time = elapses_then (device first) (device one.disk) (device two.disk) o.time r.time;
    volume = left_both device first one two o r;
    moment = syncs_both device first one two o moment r;
    cost = λ tells. costs_both (device first).content one.format (device first) (device one.disk) (device two.disk) (o.format tells)
        (cost tells) upgrades;
    left = λ tells. inr (volume_left first one two o r tells);
  }

  -- the journal was opened, and what stands in its logical blocks was not
  pub blocks_refused : (first : D) (one two : JournalView D) (e : OpenError) → Opens device first one → SyncsFirst device first one.disk
      → ReadsAndUpgrades device one two → (e ≡ open_errors.Fault → HasFailed device one two)
      → (e ≡ open_errors.Memory → (device two.disk).failures ≡ (device one.disk).failures)
      → (e ≡ open_errors.NotAVolume → IsNoLabel one.label one.size) → (e ≡ open_errors.Damaged → IsDamaged device one)
      → LeavesRefused device first two.disk e
  blocks_refused first one two e o moment r failed lacked missed damaged =
      let synced : SyncsFirst device first two.disk = syncs_both device first one two o moment r in
      record {
        time = elapses_then (device first) (device one.disk) (device two.disk) o.time r.time;
        volume = left_both device first one two o r;
        moment = inl synced;
        judged = λ _. synced;
        fault = λ is same. (failed is).failures (same ∙ sym o.failures);
        memory = λ is. lacked is ∙ o.failures;
        left = λ tells _. inr (volume_left first one two o r tells);
        no_volume = λ is tells. no_label device first one o (missed is) tells;
        damaged = λ is tells. is_damaged device first one o (damaged is) tells;
      }

-- no call of the device failed if memory lacked, be it for the sync of the upgrade
pub lacked_still : {D : Type 0} (device : D → Device) (grows : Bool) (one two : JournalView D) (e : OpenError)
    → (e ≢ open_errors.Fault
    → IsStill device one two ⊎ ((e ≡ open_errors.Memory) × IsTrue grows × IsUnsynced device one two))
    → e ≡ open_errors.Memory → (device two.disk).failures ≡ (device one.disk).failures
lacked_still device grows one two e still lacked =
    ⊎_elim (λ (s : IsStill device one two). s.failures)
    (λ (u : (e ≡ open_errors.Memory) × IsTrue grows × IsUnsynced device one two). u.2.failures)
    (still (λ (failed : e ≡ open_errors.Fault). let both : open_errors.Memory ≡ open_errors.Fault = sym lacked ∙ failed in cc))

-- the journal was not opened
pub journal_refused : {D : Type 0} (device : D → Device) (first last : D) (e : JournalError) (r : OpenError) → r ≡ open_error e
    → Refuses device first last e → SyncsFirst device first last ⊎ NeverSyncs device first last
    → (e ≡ journal.NotAVolume → SyncsFirst device first last) → LeavesRefused device first last r
journal_refused device first last e r is refused moment judged = record {
  time = refused.time;
  volume = refused.since;
  moment = moment;
  judged = λ is_judged. ⊎_elim (λ (a : r ≡ open_errors.NotAVolume). judged (journal_missed e r is a))
      (λ (b : r ≡ open_errors.Damaged). absurd (journal_finds_no_damage e r is b)) is_judged;
  fault = λ failed. refused.fault (journal_failed e r is failed);
  memory = λ lacked. refused.memory (journal_lacked_memory e r is refused.not_halted lacked);
  left = λ tells lacked. refused.left (journal_lacked_memory e r is refused.not_halted lacked) tells;
  no_volume = λ missed tells. no_volume (device first).content (refused.no_volume (journal_missed e r is missed) tells);
  damaged = λ damaged tells. absurd (journal_finds_no_damage e r is damaged);
}
