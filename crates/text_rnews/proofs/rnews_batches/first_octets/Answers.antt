use Rattle.std.proofs.Common.{sym, arith}
use Rattle.std.proofs.lemmas.List.{take_all, length-take-le}
use Rattle.text_rnews.proofs.rnews_batches.first_octets.Goals as goal

pub slice_bounds-result-end : goal.slice_bounds-result-end
slice_bounds-result-end c = sym (length-take-le 26 c.args.octets.now (omega arith))

pub returns-then-octets-le-LINE_LIMIT : goal.returns-then-octets-le-LINE_LIMIT
returns-then-octets-le-LINE_LIMIT c = sym (take_all 26 c.args.octets.now (omega arith))
