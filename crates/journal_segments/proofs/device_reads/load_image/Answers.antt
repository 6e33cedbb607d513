use Rattle.std.proofs.Common.{◌≡◌, ◌+◌, ◌-◌, ◌*◌, ℕ, length, take, drop, ◌∙◌, ap, arith, length-take, length-drop}
use Rattle.std.proofs.lemmas.Result.{on_ok_weaker}
use Rattle.disk.specs.Image.{part}
use Rattle.disk.proofs.Images.{length-part}
use Rattle.model.specs.Volume.{block, image_place}
use Rattle.journal_segments.proofs.Loading.{put_block}
use Rattle.journal_segments.proofs.device_reads.load_image.Goals as goal

pub returns-clause-value : goal.returns-clause-value
returns-clause-value g c t =
    let x = (g.D.Disk.device c.args.disk.now).content in
    let size : length x ≡ (g.D.Disk.device c.args.disk.now).size =
    g.met.D.Disk.image_size c.args.disk.now x t (g.met.D.Disk.counts_content c.args.disk.now t) in
    let place : c.start_of.result ≡ 4096 * image_place c.args.place c.args.i = c.start_of.ensures
    ∙ ap (λ (n : ℕ). 4096 * n) c.image_block.ensures in
    let k : 4096 * c.args.i + 4096 - 4096 * c.args.i ≡ 4096 = omega arith in
    let whole : length (block (image_place c.args.place c.args.i) x) ≡ 4096 =
    length-part (4096 * image_place c.args.place c.args.i) 4096 x (omega (arith, size, c.requires.place)) in
    let slice : length (take (4096 * c.args.i + 4096 - 4096 * c.args.i) (drop (4096 * c.args.i) c.args.images.now)) ≡ 4096 =
    omega (
      arith,
      length-take (4096 * c.args.i + 4096 - 4096 * c.args.i) (drop (4096 * c.args.i) c.args.images.now),
      length-drop (4096 * c.args.i) c.args.images.now,
      c.requires.room,
      k,
    ) in
    on_ok_weaker c.read_part.result
    (λ e. put_block (4096 * c.args.i) (4096 * c.args.i + 4096 - 4096 * c.args.i) c.args.images.now c.read_part.new.into
    (block (image_place c.args.place c.args.i) x) (e ∙ ap (λ (n : ℕ). part c.start_of.result n x) slice
    ∙ ap (λ (n : ℕ). part n 4096 x) place) (omega (arith, whole, k))) (c.read_part.ensures.value t)
