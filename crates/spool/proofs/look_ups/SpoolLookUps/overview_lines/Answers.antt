use Rattle.std.proofs.Common.{◌≤◌, subst, sym}
use Rattle.model.specs.Spool.{high, low}
use Rattle.spool.specs.View.{SpoolView}
use Rattle.spool.proofs.Texts.{has_range}
use Rattle.spool.proofs.look_ups.SpoolLookUps.overview_lines.Goals as goal

pub overview_lines-requires : goal.overview_lines-requires
overview_lines-requires c =
    let s = c.self.inside in
    let k = s.kept in
    record {
      there = has_range s.host k.inodes k.volume k.index k.places s.stands.changes c.self.invariant.0 c.args.group.now c.args.from c.args.to
          (subst (λ (x : SpoolView). low x.changes c.args.group.now ≤ c.args.from) (sym c.self.view_is) c.requires.low)
          c.requires.order
          (subst (λ (x : SpoolView). c.args.to ≤ high x.changes c.args.group.now) (sym c.self.view_is) c.requires.high);
    }
