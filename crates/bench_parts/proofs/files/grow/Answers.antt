use Rattle.std.proofs.Common.{sym, subst}
use Rattle.bench_parts.specs.Files.{HasFiles}
use Rattle.bench_parts.proofs.files.grow.Goals as goal

pub loop-preserved : goal.loop-preserved
loop-preserved c =
    let makes = c.in_ok-append.ensures.appended.3.makes in
    subst HasFiles (sym c.apply.ensures.seen) (record { room = makes.room; rule = makes.rule })
