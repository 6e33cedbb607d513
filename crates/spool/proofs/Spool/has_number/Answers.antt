use Rattle.std.proofs.Common.{◌≡◌, subst}
use Rattle.std.specs.Prelude.{nat_le}
use Rattle.std.proofs.lemmas.Bool.{le-leb, lt-leb}
use Rattle.spool_groups.specs.Shown.{shown}
use Rattle.spool.specs.Refusals.{has_number}
use Rattle.spool.specs.View.{SpoolView}
use Rattle.spool.proofs.Here.{number_missed, number_reached}
use Rattle.spool.proofs.Spool.has_number.Goals as goal

pub returns-then-low-number : goal.returns-then-low-number
returns-then-low-number c =
    let s = c.self.inside in
    let is = c.in-Some.ensures.spool s.stands.changes c.self.invariant.0.indexed in
    subst (λ (x : SpoolView). nat_le c.args.number c.high.result ≡ has_number x.changes c.args.name.now c.args.number) c.self.view_is
    (number_reached s.stands.changes c.args.name.now (shown c.in-Some.group.now) c.args.number c.low.result c.high.result is c.low.ensures
    c.high.ensures (le-leb c.low.result c.args.number c.if-low-number.true))

pub returns-else-low-number : goal.returns-else-low-number
returns-else-low-number c =
    let s = c.self.inside in
    let is = c.in-Some.ensures.spool s.stands.changes c.self.invariant.0.indexed in
    subst (λ (x : SpoolView). nat_le c.low.result c.args.number ≡ has_number x.changes c.args.name.now c.args.number) c.self.view_is
    (number_missed s.stands.changes c.args.name.now (shown c.in-Some.group.now) c.args.number c.low.result is c.low.ensures
    (lt-leb c.low.result c.args.number c.if-low-number.false))
