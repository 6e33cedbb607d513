use Rattle.std.proofs.Common.{[], ◌∷◌, refl, ◌∙◌, ap}
use Rattle.model.specs.Volume.{gate_place}
use Rattle.journal_segments.proofs.Writes.{writes_at}
use Rattle.journal_segments.proofs.writing.write_gate.Goals as goal

pub returns : goal.returns
returns g c =
    writes_at c.gate_block.result (gate_place c.args.segment.now.place) (c.args.octet ∷ []) (c.args.octet ∷ []) c.write.result _ _
    (c.gate_block.ensures ∙ ap gate_place c.place.ensures) refl c.write.ensures
