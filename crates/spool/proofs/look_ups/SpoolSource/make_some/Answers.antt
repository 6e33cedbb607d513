use Rattle.std.proofs.Common.{subst, sym}
use Rattle.spool.specs.View.{SpoolView}
use Rattle.spool.proofs.Texts.{keeps_lines}
use Rattle.spool_texts.specs.Parts.{HasLines}
use Rattle.spool.proofs.look_ups.SpoolSource.make_some.Goals as goal

pub push_some_lines-requires-clause-kept : goal.push_some_lines-requires-clause-kept
push_some_lines-requires-clause-kept c =
    let s = c.self.inside in
    let k = s.kept in
    keeps_lines s.host k.inodes k.volume k.index k.places s.stands.changes c.self.invariant.0 c.args.lines
    (subst (λ (x : SpoolView). HasLines x.changes c.args.lines) (sym c.self.view_is) c.requires.kept)
