use Rattle.std.proofs.Common.{sym}
use Rattle.model.specs.Stream.{unstuffed_line}
use Rattle.text_framing.proofs.ReaderLaws.{flat_map_lines-empty}
use Rattle.text_framing.proofs.unstuff.Goals as goal

pub returns : goal.returns
returns c = flat_map_lines-empty unstuffed_line c.loop-rest.text.items c.loop-rest.rest.now _
    (sym c.loop-rest-test.ensures) c.loop-rest.invariant
