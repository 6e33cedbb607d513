use Rattle.std.proofs.Common.{◌≡◌, inl, inr, ◌<◌, ◌≤◌, ℕ, ◌*◌, ◌+◌, true, List, length, Option, Some, None, get_or, Ok, Err}
use Rattle.std.proofs.Common.{refl, sym, ◌∙◌, subst}
use Rattle.std.proofs.lemmas.Bool.{cases_lt}
use Rattle.disk.specs.Calls.{Makes}
use Rattle.disk_cache.specs.Runs.{Run, runs_from, writes_of}
use Rattle.disk_cache.specs.Slots.{cell, is_collected, places}
use Rattle.disk_cache.specs.Taken.{taken}
use Rattle.disk_cache.specs.declared.collected.Fill.{Fill}
use Rattle.disk_cache.proofs.Blocks.{IsGivingTo, block_split, blocks_skipped, cells_from, cells_of}
use Rattle.disk_cache.proofs.Blocks.{giving_block, giving_block_refused, giving_done, no_more, other_table, slots_runs}
use Rattle.disk_cache.proofs.Slots.{cell_collected}
use Rattle.disk_cache.proofs.giving.give.Goals as goal

-- a collected octet is within the device
within_size : (size at i : ℕ) (fills : List Fill) (flags octets : List ℕ) (taken : ℕ → Option ℕ)
    → ((k : ℕ) → size ≤ k → taken k ≡ None) → taken (at + i) ≡ cell fills flags octets i → is_collected fills flags i ≡ true → at + i < size
within_size size at i fills flags octets taken past is one = elim (cases_lt (at + i) size) [
  | inl below ↦ below
  | inr behind ↦
      (let two : Some (get_or octets i 0) ≡ None = sym (cell_collected fills flags octets i one) ∙ sym is ∙ past (at + i) behind in cc)
]

pub give_slots-requires-clause-fits : goal.give_slots-requires-clause-fits
give_slots-requires-clause-fits g c i low one =
    let slots = c.in-Some.slots in
    within_size (g.D.Disk.device c.loop-slots.disk).size (4096 * slots.block) i slots.fills.now slots.flags.now slots.octets.now
    (taken c.args.collected.now)
    (λ k past. c.requires.fits k (subst (λ (n : ℕ). n ≤ k) c.loop-slots.invariant.size past))
    (c.in-Some.ensures.some.cells i (subst (λ (n : ℕ). i < n) c.in-Some.ensures.some.whole.flags_size low)) one

pub loop-slots-init : goal.loop-slots-init
loop-slots-init g c = record { continues = λ result last made. made; size = refl }

pub loop-slots-preserved : goal.loop-slots-preserved
loop-slots-preserved g c =
    let t = taken c.args.collected.now in
    let n = (g.D.Disk.device c.args.disk.now).size in
    let slots = c.in-Some.slots in
    let count = length slots.fills.now in
    giving_block g.D.Disk.device g.D.Disk.write_grows g.D.Disk.sync_grows _ (runs_from (4096 * slots.block) (cells_of t slots.block count))
    (runs_from (4096 * (slots.block + count)) (cells_from t n c.requires.fits (slots.block + count))) _ _ _
    (subst (λ (runs : List Run). IsGivingTo g.D.Disk.device g.D.Disk.write_grows g.D.Disk.sync_grows
    (writes_of (runs_from 0 (places t n))) (writes_of runs) c.args.disk.now
    c.loop-slots.disk)
    (blocks_skipped t n c.requires.fits c.loop-slots.from slots.block c.in-Some.ensures.low c.in-Some.ensures.first
    ∙ block_split t n c.requires.fits slots.block count c.in-Some.ensures.last)
    c.loop-slots.invariant)
    c.give_slots.ensures.size
    (subst (λ (runs : List Run). Makes g.D.Disk.device g.D.Disk.write_grows g.D.Disk.sync_grows (writes_of runs) (Ok tt) c.loop-slots.disk
    c.give_slots.new.disk)
    (slots_runs slots.fills.now slots.flags.now slots.octets.now t slots.block count c.in-Some.ensures.some)
    c.in-Ok.ensures.makes)

pub returns-in-Err : goal.returns-in-Err
returns-in-Err g c m none =
    let t = taken c.args.collected.now in
    let n = (g.D.Disk.device c.args.disk.now).size in
    let slots = c.in-Some.slots in
    let count = length slots.fills.now in
    subst (λ (runs : List Run). Makes g.D.Disk.device g.D.Disk.write_grows g.D.Disk.sync_grows (writes_of runs) (Err c.in-Err.error)
    c.args.disk.now c.give_slots.new.disk)
    (other_table t n c.requires.fits m none)
    (giving_block_refused g.D.Disk.device g.D.Disk.write_grows g.D.Disk.sync_grows _
    (runs_from (4096 * slots.block) (cells_of t slots.block count))
    (runs_from (4096 * (slots.block + count)) (cells_from t n c.requires.fits (slots.block + count))) _ _ _ c.in-Err.error
    (subst (λ (runs : List Run). IsGivingTo g.D.Disk.device g.D.Disk.write_grows g.D.Disk.sync_grows
    (writes_of (runs_from 0 (places t n))) (writes_of runs) c.args.disk.now
    c.loop-slots.disk)
    (blocks_skipped t n c.requires.fits c.loop-slots.from slots.block c.in-Some.ensures.low c.in-Some.ensures.first
    ∙ block_split t n c.requires.fits slots.block count c.in-Some.ensures.last)
    c.loop-slots.invariant)
    (subst (λ (runs : List Run). Makes g.D.Disk.device g.D.Disk.write_grows g.D.Disk.sync_grows (writes_of runs) (Err c.in-Err.error)
    c.loop-slots.disk c.give_slots.new.disk)
    (slots_runs slots.fills.now slots.flags.now slots.octets.now t slots.block count c.in-Some.ensures.some)
    c.in-Err.ensures.makes))

pub returns : goal.returns
returns g c m none =
    let t = taken c.args.collected.now in
    let n = (g.D.Disk.device c.args.disk.now).size in
    subst (λ (runs : List Run). Makes g.D.Disk.device g.D.Disk.write_grows g.D.Disk.sync_grows (writes_of runs) (Ok tt) c.args.disk.now
    c.loop-slots.disk)
    (other_table t n c.requires.fits m none)
    (giving_done g.D.Disk.device g.D.Disk.write_grows g.D.Disk.sync_grows _
    (runs_from (4096 * c.loop-slots.from) (cells_from t n c.requires.fits c.loop-slots.from)) _ _
    (no_more t n c.requires.fits c.loop-slots.from (c.in_default.ensures.none refl)) c.loop-slots.invariant)
