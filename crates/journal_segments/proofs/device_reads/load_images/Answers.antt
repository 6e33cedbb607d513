use Rattle.std.proofs.Common.{rules, ◌≡◌, ◌+◌, ◌*◌, ℕ, Bool, IsTrue, List, length, sym, ◌∙◌, ap, subst, arith}
use Rattle.disk.specs.Image.{overwritten}
use Rattle.journal_segments.specs.Found.{AreLoaded}
use Rattle.model.specs.Volume.{block, image_place}
use Rattle.journal_segments.proofs.Loading.{quiet_then, still_then, loaded_more}
use Rattle.journal_segments.proofs.device_reads.load_images.Goals as goal

pub loop-i-preserved : goal.loop-i-preserved
loop-i-preserved g c = record {
  quiet = quiet_then _ _ _ c.loop-i.invariant.quiet c.load_image.ensures.quiet;
  still = still_then _ _ _ c.loop-i.invariant.quiet c.loop-i.invariant.still c.in_ok-load_image.ensures.still;
  loaded = λ t.
      let x = (g.D.Disk.device c.args.disk.now).content in
      let now = subst (λ (b : Bool). IsTrue b) (sym c.loop-i.invariant.quiet.tells) t in
      let same = c.loop-i.invariant.still.content t in
      let size : length x ≡ (g.D.Disk.device c.args.disk.now).size =
      g.met.D.Disk.image_size c.args.disk.now x t (g.met.D.Disk.counts_content c.args.disk.now t) in
      let put = c.in_ok-load_image.ensures.value now
      ∙ ap (λ (y : List ℕ). overwritten (4096 * c.loop-i.i) (block (image_place c.args.place c.loop-i.i) y) c.loop-i.images) same in
      let more = loaded_more c.args.place c.loop-i.i x c.loop-i.images
      (omega (arith, size, c.requires.size, c.requires.few, c.loop-i-test.true))
      (omega (arith, c.requires.room, c.requires.few, c.loop-i-test.true, c.loop-i.auto.images)) (c.loop-i.invariant.loaded t) in
      subst (λ (o : List ℕ). AreLoaded c.args.place (c.loop-i.i + 1) x o) (sym put) more;
}

pub loop-i-init : goal.loop-i-init
loop-i-init c = search rules
