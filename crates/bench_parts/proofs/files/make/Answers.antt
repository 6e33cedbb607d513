use Rattle.std.proofs.Common.{sym, subst}
use Rattle.bench_parts.specs.Files.{HasFiles}
use Rattle.bench_parts.proofs.files.make.Goals as goal

pub loop-number-preserved : goal.loop-number-preserved
loop-number-preserved c =
    let makes = c.in_ok-create.ensures.created.makes in
    subst HasFiles (sym c.apply.ensures.seen) (record { room = makes.room; rule = makes.rule })
