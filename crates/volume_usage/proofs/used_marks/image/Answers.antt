use Rattle.std.proofs.Common.{rules}
use Rattle.volume_usage.proofs.Images.{some_image}
use Rattle.volume_usage.proofs.used_marks.image.Goals as goal

pub returns-clause-known : goal.returns-clause-known
returns-clause-known c = λ whole.
    some_image c.args.batch.now c.args.block c.in_ok-place.place c.place_of.result c.images-images.result.now c.numbers.result.now
    c.images-images.ensures c.numbers.ensures c.place_of.ensures.first (search rules)
