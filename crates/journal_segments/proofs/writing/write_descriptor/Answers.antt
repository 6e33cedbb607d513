use Rattle.std.proofs.Common.{◌∙◌, ap}
use Rattle.model.specs.Volume.{descriptor_place}
use Rattle.journal_segments.proofs.Writes.{writes_at}
use Rattle.journal_segments.proofs.writing.write_descriptor.Goals as goal

pub returns : goal.returns
returns g c =
    writes_at c.descriptor_block.result (descriptor_place c.args.segment.now.place) c.descriptor.result.now c.args.segment.now.descriptor
    c.write.result _ _ (c.descriptor_block.ensures
    ∙ ap descriptor_place c.place.ensures) c.descriptor.ensures.block c.write.ensures
