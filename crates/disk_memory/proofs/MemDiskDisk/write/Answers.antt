use Rattle.std.proofs.Common.{rules, ◌+◌, ◌≤◌, inr, Bool, true, ℕ, List, length, replicate, sym, subst, arith}
use Rattle.disk.specs.Image.{overwritten}
use Rattle.disk_memory.specs.Memory.{IsSound, IsCrashImage}
use Rattle.disk_memory.proofs.Torn.{written_sound, was_torn}
use Rattle.disk_memory.proofs.MemDiskDisk.write.Goals as goal

-- the fields are sound after `put` and `mark`
pub invariant_of-self : goal.invariant_of-self
invariant_of-self c =
    let old = c.args.self.now in
    let fits : c.args.at + length c.args.from.now ≤ length old.present.items = omega (arith, c.requires, old.sound.size) in
    let sound = written_sound old.synced.items old.present.items old.touched.items old.marks.blocks.items c.args.at c.args.from.now
    old.sound fits c.mark.new.self.blocks.items c.mark.ensures.size c.mark.ensures.covers c.mark.ensures.keeps
    (λ k. omega (arith, c.type_inv.from k)) in
    let put_in = subst (λ (octets : List ℕ). IsSound old.synced.items octets
    (overwritten c.args.at (replicate (length c.args.from.now) true) old.touched.items) c.mark.new.self.blocks.items)
    (sym c.put.ensures.present) sound in
    record {
      sound = subst (λ (flags : List Bool). IsSound old.synced.items c.put.new.present.items flags c.mark.new.self.blocks.items)
          (sym c.put.ensures.touched) put_in;
    }

pub returns-clause-writes : goal.returns-clause-writes
returns-clause-writes c =
    let old = c.args.self.now in
    let fits : c.args.at + length c.args.from.now ≤ length old.present.items = omega (arith, c.requires, old.sound.size) in
    let torn = λ (image : List ℕ) (left : IsCrashImage old.synced.items c.put.new.touched.items image).
    was_torn _ _ _ _ c.args.at c.args.from.now old.sound fits image
    (subst (λ (flags : List Bool). IsCrashImage old.synced.items flags image) c.put.ensures.touched left) in
    record {
      content = search rules;
      crash = λ t. torn;
      since = λ t time image earlier left. inr (torn image left);
      time = search rules;
      call = search rules;
      cause = search rules;
      refused = search rules;
      memory = search rules;
    }
