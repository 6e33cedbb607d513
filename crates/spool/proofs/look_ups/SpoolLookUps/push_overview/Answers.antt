use Rattle.std.proofs.Common.{rules, subst, sym}
use Rattle.std.specs.Prelude.{IsSome}
use Rattle.session_lookups.specs.Held.{article_with}
use Rattle.spool.specs.View.{SpoolView}
use Rattle.spool.proofs.Texts.{keeps_article}
use Rattle.spool.proofs.look_ups.SpoolLookUps.push_overview.Goals as goal

pub push_overview-requires-clause-kept : goal.push_overview-requires-clause-kept
push_overview-requires-clause-kept c =
    let s = c.self.inside in
    let k = s.kept in
    keeps_article s.host k.inodes k.volume k.index k.places s.stands.changes c.self.invariant.0 c.args.serial
    (subst (λ (x : SpoolView). IsSome (article_with x.changes c.args.serial)) (sym c.self.view_is) c.requires)

pub returns : goal.returns
returns c = search rules
