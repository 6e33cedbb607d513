use Rattle.std.proofs.Common.{◌≡◌, ◌+◌, ◌*◌, ◌<◌, ◌≤◌, ℕ, Bool, IsTrue, List, [], length, get_or, sym, ◌∙◌, ap, subst, arith}
use Rattle.disk.specs.Image.{part}
use Rattle.journal.specs.Inside.{IsAdmitted, IsKept, IsLive, blocks_without}
use Rattle.journal.specs.declared.Next.TheVariants.{Idle, Descriptor}
use Rattle.journal.proofs.Calls.{kept_failed}
use Rattle.journal.specs.Journal.{AreWhole, JournalView}
use Rattle.model.specs.Volume.{all_laid_over, block, home, home_place, laid_over}
use Rattle.journal_laws.specs.Held.{HeldBatch, batches_of}
use Rattle.journal.specs.declared.Next.{Next}
use Rattle.journal_segments.specs.Staged.{staged_at}
use Rattle.journal.proofs.Idle.{idle_home, idle_laid, idle_same, idle_size, left_in_room, left_live, left_there, part_of_part}
use Rattle.journal.proofs.Whole.{kept_whole}
use Rattle.journal.proofs.Journal.load.Goals as goal

pub lay_over-requires-clause-there : goal.lay_over-requires-clause-there
lay_over-requires-clause-there g c =
    left_there c.self.inside.is_last c.lowest_closed-open.result c.self.inside.filled
    (length c.self.inside.room.items) c.lowest_closed-open.ensures c.self.invariant.left

pub lay_over-requires-clause-full : goal.lay_over-requires-clause-full
lay_over-requires-clause-full g c t low =
    let is = ap (λ (v : JournalView _). v.next) c.self.view_is ∙ c.requires.idle in
    let live = left_live c.self.inside.is_last c.lowest_closed-open.result c.self.inside.filled t c.lowest_closed-open.ensures low in
    (c.self.invariant.staged (subst (λ (n : Next). IsLive c.self.inside.is_last n) (sym is) live.0) t live.1).sound.images

pub returns-in-Ok-clause-value : goal.returns-in-Ok-clause-value
returns-in-Ok-clause-value g c =
    rw (← c.self.view_is)
    (λ t k fits.
    let is = ap (λ (v : JournalView _). v.next) c.self.view_is ∙ c.requires.idle in
    let running = ap (λ (v : JournalView _). v.halted) c.self.view_is ∙ c.requires.running in
    let below : c.args.start + k < c.self.inside.blocks =
    omega (
      arith,
      fits,
      subst (λ (n : ℕ). 4096 * c.args.start + length c.args.into.now ≤ 4096 * n)
          (sym (ap (λ (v : JournalView _). v.size) c.self.view_is)) c.requires.below,
    ) in
    let told = c.self.invariant.told t in
    let x = (g.D.Disk.device c.self.inside.disk).content in
    let place : c.start_of.result + 4096 * k ≡ 4096 * home_place (length c.self.inside.room.items) (c.args.start + k) =
    omega (arith, c.start_of.ensures, c.home_block.ensures) in
    let read = ap (λ (l : List ℕ). block k l) (c.in-Ok.ensures.value t)
    ∙ part_of_part c.start_of.result (length c.args.into.now) (4096 * k) 4096 x fits
    ∙ ap (λ (n : ℕ). part n 4096 x) place in
    sym (c.lay_over.ensures.laid (home x) k (omega (arith, fits, c.read.auto.into))
    (subst (λ (n : ℕ). c.args.start + k < n) (sym (idle_size _ _ _ _ _ _ told is running)) below)
    (idle_home _ _ _ _ _ _ told is running (c.args.start + k) below ∙ sym read))
    ∙ ap (λ (hs : List HeldBatch). get_or (all_laid_over (home x) (batches_of hs)) (c.args.start + k) [])
    (left_in_room c.self.inside.room.items c.self.inside.filled c.self.inside.is_last c.lowest_closed-open.result c.self.invariant.there
    c.lowest_closed-open.ensures)
    ∙ ap (λ (bs : List (List ℕ)). get_or bs (c.args.start + k) []) (sym (idle_laid _ _ _ _ _ _ told is running)))

pub returns-in-Ok-clause-whole : goal.returns-in-Ok-clause-whole
returns-in-Ok-clause-whole g c t =
    let old = subst (λ (b : Bool). IsTrue b) c.read.ensures.time.tells t in
    subst (λ (x : List ℕ). AreWhole c.self.inside.blocks
    (blocks_without (staged_at c.self.inside.room.items c.self.inside.filled).place c.self.inside.next x))
    (sym (c.in-Ok.ensures.content old))
    (kept_whole _ _ _ _ _ _ _ _ c.self.invariant (g.met.D.Disk.counts_content c.self.inside.disk) old)

pub returns-in-Err-clause-blocks : goal.returns-in-Err-clause-blocks
returns-in-Err-clause-blocks g c =
    rw (← c.self.view_is)
    (λ t.
    let is = ap (λ (v : JournalView _). v.next) c.self.view_is ∙ c.requires.idle in
    let now = g.met.D.Disk.counts_content c.read.new.self (subst (λ (b : Bool). IsTrue b) (sym c.read.ensures.time.tells) t) in
    idle_same (staged_at c.self.inside.room.items c.self.inside.filled).place c.self.inside.next _
    (g.D.Disk.device c.self.inside.disk).content _ _ is ((c.self.invariant.told t).admits _ (c.read.ensures.crash t _ now)))

pub returns-in-Err-clause-whole : goal.returns-in-Err-clause-whole
returns-in-Err-clause-whole g c t =
    let is = ap (λ (v : JournalView _). v.next) c.self.view_is ∙ c.requires.idle in
    let old = subst (λ (b : Bool). IsTrue b) c.read.ensures.time.tells t in
    let now = g.met.D.Disk.counts_content c.read.new.self t in
    let same = idle_same (staged_at c.self.inside.room.items c.self.inside.filled).place c.self.inside.next _
    (g.D.Disk.device c.self.inside.disk).content (g.D.Disk.device c.read.new.self).content _ is
    ((c.self.invariant.told old).admits _ (c.read.ensures.crash old _ now)) in
    subst (λ (bs : List (List ℕ)). AreWhole c.self.inside.blocks bs) (sym same)
    (kept_whole _ _ _ _ _ _ _ _ c.self.invariant (g.met.D.Disk.counts_content c.self.inside.disk) old)

pub returns-in-Err-clause-now : goal.returns-in-Err-clause-now
returns-in-Err-clause-now g c t image left =
    let is = ap (λ (v : JournalView _). v.next) c.self.view_is ∙ c.requires.idle in
    let old = subst (λ (b : Bool). IsTrue b) c.read.ensures.time.tells t in
    let now = g.met.D.Disk.counts_content c.read.new.self t in
    let told = c.self.invariant.told old in
    let same = idle_same (staged_at c.self.inside.room.items c.self.inside.filled).place c.self.inside.next _
    (g.D.Disk.device c.self.inside.disk).content (g.D.Disk.device c.read.new.self).content _ is
    (told.admits _ (c.read.ensures.crash old _ now)) in
    let batch = staged_at c.self.inside.room.items c.self.inside.filled in (
      subst (λ (bs : List (List ℕ)). IsAdmitted c.self.inside.next (part 20 128 c.self.inside.superblock.items) bs
          (laid_over bs batch.numbers batch.images) image) (sym same)
          (told.admits image (c.read.ensures.crash old image left)),
      c.self.invariant.formats old image (c.read.ensures.crash old image left),
    )

pub invariant_of-self-in-Err : goal.invariant_of-self-in-Err
invariant_of-self-in-Err g c =
    let is = ap (λ (v : JournalView _). v.next) c.self.view_is ∙ c.requires.idle in
    let running = ap (λ (v : JournalView _). v.halted) c.self.view_is ∙ c.requires.running in
    let was = subst (λ (b : Bool). IsKept (g.D.Disk.device c.self.inside.disk) c.self.inside.blocks c.self.inside.superblock.items
    c.self.inside.next b c.self.inside.room.items c.self.inside.filled c.self.inside.is_last) running c.self.invariant in
    kept_failed (g.D.Disk.device c.self.inside.disk) (g.D.Disk.device c.read.new.self) c.self.inside.blocks c.self.inside.superblock.items
    c.self.inside.room.items c.self.inside.filled c.self.inside.is_last c.read.ensures.time
    (g.met.D.Disk.counts_content c.read.new.self) c.self.inside.next (λ e. absurd (let both : Idle ≡ Descriptor = sym is ∙ e in cc)) was
    c.read.ensures.crash
