use Rattle.std.proofs.Common.{ℕ, [], get_or, ◌∙◌, ap}
use Rattle.model.specs.Volume.{image_place}
use Rattle.journal_segments.proofs.Writes.{writes_at}
use Rattle.journal_segments.proofs.writing.write_image.Goals as goal

pub returns : goal.returns
returns g c =
    writes_at c.image_block.result (image_place c.args.segment.now.place c.args.i) c.image-image.result.now
    (get_or c.args.segment.now.images c.args.i []) c.write.result _ _ (c.image_block.ensures
    ∙ ap (λ (p : ℕ). image_place p c.args.i) c.place.ensures) c.image-image.ensures.image c.write.ensures
