use Rattle.std.proofs.Common.{[]}
use Rattle.model.proofs.HoldsOne.{empty_none}
use Rattle.spool.proofs.Held.{nothing_stands}
use Rattle.spool.proofs.Spool.empty.Goals as goal

pub of-requires : goal.of-requires
of-requires c =
    nothing_stands c.args.host c.args.inodes c.args.volume c.new.result c.new-2.result c.requires.named c.requires.room c.requires.rule
    c.requires.none c.requires.seen c.new.ensures c.new-2.ensures

pub returns-clause-changes : goal.returns-clause-changes
returns-clause-changes c = c.of.ensures.changes []
    (empty_none c.args.host c.args.inodes c.args.volume.cache c.requires.rule c.requires.none)
