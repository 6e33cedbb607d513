use Rattle.std.proofs.Common.{Bool, IsTrue, sym, ◌∙◌, ap, subst, arith, replicate, ℕ}
use Rattle.disk.specs.Image.{overwritten}
use Rattle.volume_new.proofs.Ends.{out_then}
use Rattle.volume_new.proofs.Laid.{zeros_more}
use Rattle.volume_new.proofs.laying.write_zeros.Goals as goal

pub loop-k-preserved : goal.loop-k-preserved
loop-k-preserved g c =
    let first = g.D.Disk.device c.args.disk.now in
    let old = g.D.Disk.device c.loop-k.disk in
    let new = g.D.Disk.device c.write_beside.new.disk in
    record {
      leaves = out_then first old new c.loop-k.invariant.leaves c.write_beside.ensures.leaves;
      failures = c.in_ok-write_beside.ensures.failures.ok ∙ c.loop-k.invariant.failures;
      zeros = λ t.
          let here = subst (λ (b : Bool). IsTrue b) (sym c.loop-k.invariant.leaves.time.tells) t in
          let size = g.met.D.Disk.image_size c.loop-k.disk old.content here (g.met.D.Disk.counts_content c.loop-k.disk here) in
          zeros_more c.loop-k.k old.content new.content
          (c.in_ok-write_beside.ensures.content here ∙ ap (λ (n : ℕ). overwritten n (replicate 4096 0) old.content) c.start_of.ensures)
          (omega (
            arith,
            size,
            c.loop-k.invariant.leaves.time.size,
            c.requires.size,
            c.loop-k-test.true,
            c.home_block-k-end.ensures,
          ))
          (c.loop-k.invariant.zeros t);
    }
