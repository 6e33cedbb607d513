use Rattle.std.proofs.Common.{◌≡◌, [], get_or, ◌∙◌, ap}
use Rattle.model.specs.Volume.{home_place}
use Rattle.journal_segments.proofs.Writes.{writes_at}
use Rattle.journal_segments.proofs.writing.write_home.Goals as goal

pub returns : goal.returns
returns g c =
    let number : c.from.result ≡ get_or c.args.segment.now.numbers c.args.i 0 =
    (let n : c.from.result ≡ c.number.result = cc in n ∙ c.number.ensures) in
    writes_at c.home_block-home.result (home_place c.args.segments (get_or c.args.segment.now.numbers c.args.i 0)) c.image.result.now
    (get_or c.args.segment.now.images c.args.i []) c.write.result _ _ (c.home_block-home.ensures
    ∙ ap (home_place c.args.segments) number) c.image.ensures.image c.write.ensures
