use Rattle.std.proofs.Common.{◌++◌, sym, ◌∙◌, ap}
use Rattle.model.specs.Stream.{stuffed_line, dot_line}
use Rattle.text_framing.proofs.ReaderLaws.{flat_map_lines-empty}
use Rattle.text_framing.proofs.stuff.Goals as goal

pub returns : goal.returns
returns c =
    c.in_ok-extend_from_slice.ensures.items
    ∙ ap (λ sent. sent ++ dot_line)
    (flat_map_lines-empty stuffed_line c.loop-rest.block.items c.loop-rest.rest.now _
    (sym c.loop-rest-test.ensures) c.loop-rest.invariant)
