use Rattle.std.proofs.Common.{ℕ, Bool, IsTrue, List, sym, ◌∙◌, ap, subst}
use Rattle.model.specs.Volume.{IsSuperblock, block}
use Rattle.journal_segments.proofs.Gates.{rejects_then}
use Rattle.journal.proofs.opening.load.Goals as goal

pub returns-in-Ok-find_open-clause-found : goal.returns-in-Ok-find_open-clause-found
returns-in-Ok-find_open-clause-found g c =
    let valid = c.in-Ok.ensures.sizes in
    let first = c.load_superblock.ensures.quiet in
    let second = c.find_open.ensures.quiet in
    let old = λ (t : IsTrue (g.D.Disk.device c.find_open.new.disk).tells). subst (λ (b : Bool). IsTrue b) (second.tells ∙ first.tells) t in
    let mid = λ (t : IsTrue (g.D.Disk.device c.find_open.new.disk).tells). subst (λ (b : Bool). IsTrue b) second.tells t in
    let same = λ (t : IsTrue (g.D.Disk.device c.find_open.new.disk).tells). c.in-Ok-find_open.ensures.still.content (mid t)
    ∙ c.in-Ok.ensures.still.content (old t) in
    record {
      valid = subst (λ (n : ℕ). IsSuperblock c.load_superblock.new.superblock.items n) (sym (second.size ∙ first.size)) valid.0;
      blocks_are = valid.1;
      superblock_size = c.load_superblock.ensures.room;
      superblock_is = λ t. c.in-Ok.ensures.value (old t) ∙ ap (λ (y : List ℕ). block 0 y) (sym (same t));
      synced = λ t y left. c.requires.synced (old t) y (first.crash (old t) y (second.crash (mid t) y left)) ∙ sym (same t);
      count = c.find_open.ensures.count ∙ c.leave_first.ensures.count ∙ sym valid.2;
      found = c.in-Ok-find_open.ensures.found;
    }

pub returns-in-Err-find_open-clause-err : goal.returns-in-Err-find_open-clause-err
returns-in-Err-find_open-clause-err g c =
    rejects_then c.in-Err-find_open.error (g.D.Disk.device c.args.disk.now) (g.D.Disk.device c.load_superblock.new.disk)
    (g.D.Disk.device c.find_open.new.disk) c.load_superblock.ensures.quiet c.in-Ok.ensures.still c.in-Err-find_open.ensures.err
