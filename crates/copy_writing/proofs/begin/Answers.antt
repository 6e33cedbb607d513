use Rattle.std.proofs.Common.{Bool, IsTrue, sym, ◌∙◌, ap, subst, arith, replicate, ℕ}
use Rattle.disk.specs.Image.{overwritten}
use Rattle.volume_new.proofs.Laid.{zeros_more}
use Rattle.copy_writing.proofs.Laid.{has_home}
use Rattle.copy_writing.proofs.begin.Goals as goal

pub loop-k-preserved : goal.loop-k-preserved
loop-k-preserved g c =
    let old = g.D.Disk.device c.loop-k.disk in
    let new = g.D.Disk.device c.write.new.disk in
    record {
      size = c.write.ensures.size ∙ c.loop-k.invariant.size;
      tells = c.write.ensures.tells ∙ c.loop-k.invariant.tells;
      zeros = λ t.
          let here = subst (λ (b : Bool). IsTrue b) (sym c.loop-k.invariant.tells) t in
          let size = g.met.D.Disk.image_size c.loop-k.disk old.content here (g.met.D.Disk.counts_content c.loop-k.disk here) in
          zeros_more c.loop-k.k old.content new.content
          (c.in_ok-write.ensures.content here ∙ ap (λ (n : ℕ). overwritten n (replicate 4096 0) old.content) c.start_of.ensures)
          (omega (
            arith,
            size,
            c.loop-k.invariant.size,
            c.requires.size,
            c.loop-k-test.true,
            c.home_block-k-end.ensures,
          ))
          (c.loop-k.invariant.zeros t);
    }

pub returns-clause-begun : goal.returns-clause-begun
returns-clause-begun g c t =
    let last = g.D.Disk.device c.loop-k.disk in
    let here = subst (λ (b : Bool). IsTrue b) (sym c.loop-k.invariant.tells) t in
    let size = g.met.D.Disk.image_size c.loop-k.disk last.content here (g.met.D.Disk.counts_content c.loop-k.disk here) in
    has_home c.args.plan.now.blocks last.content (size ∙ c.loop-k.invariant.size ∙ c.requires.size)
    (λ k some low. c.loop-k.invariant.zeros t k some (omega (arith, low, c.loop-k-test.false, c.home_block-k-end.ensures)))
