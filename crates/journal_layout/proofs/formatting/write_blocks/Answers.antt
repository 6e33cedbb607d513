use Rattle.std.proofs.Common.{rules, ◌≡◌, ℕ, Bool, IsTrue, length, sym, ◌∙◌, ap, subst, arith}
use Rattle.disk.specs.Image.{overwritten}
use Rattle.journal_layout.proofs.Formatted.{blocks_more}
use Rattle.journal_layout.proofs.formatting.write_blocks.Goals as goal

pub loop-k-preserved : goal.loop-k-preserved
loop-k-preserved g c = record {
  time = record {
    size = c.write_part.ensures.time.size ∙ c.loop-k.invariant.time.size;
    tells = c.write_part.ensures.time.tells ∙ c.loop-k.invariant.time.tells;
    later = omega (arith, c.write_part.ensures.time.later, c.loop-k.invariant.time.later);
  };
  failures = c.in_ok-write_part.ensures.failures.ok ∙ c.loop-k.invariant.failures;
  blocks = λ t.
      let here = subst (λ (b : Bool). IsTrue b) (sym c.loop-k.invariant.time.tells) t in
      let old = (g.D.Disk.device c.loop-k.disk).content in
      let size : length (g.D.Disk.device c.loop-k.disk).content ≡ (g.D.Disk.device c.loop-k.disk).size =
      g.met.D.Disk.image_size c.loop-k.disk old here (g.met.D.Disk.counts_content c.loop-k.disk here) in
      let put = c.in_ok-write_part.ensures.content here
      ∙ ap (λ (n : ℕ). overwritten n c.args.octets.now (g.D.Disk.device c.loop-k.disk).content) c.start_of.ensures in
      blocks_more c.loop-k.k c.args.octets.now old (g.D.Disk.device c.write_part.new.disk).content put c.requires.whole
      (omega (arith, size, c.loop-k.invariant.time.size, c.requires.size, c.loop-k-test.true)) (c.loop-k.invariant.blocks t);
}

pub loop-k-init : goal.loop-k-init
loop-k-init c = search rules
