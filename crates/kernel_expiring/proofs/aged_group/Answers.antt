use Rattle.std.proofs.Common.{◌<◌, arith, ◌∙◌}
use Rattle.std.specs.Prelude.{length}
use Rattle.model.specs.Spool.{groups}
use Rattle.kernel_expiring.proofs.Named.{unnamed}
use Rattle.kernel_expiring.proofs.aged_group.Goals as goal

pub unreachable-requires : goal.unreachable-requires
unreachable-requires g c =
    let S = g.L.LookUps.changes c.args.spool.now in
    let below : c.args.place < length (groups S) = omega (arith, c.if-place-group_count.false, c.group_count.ensures) in
    unnamed (g.L.LookUps.host_of c.args.spool.now) S c.args.place c.in-Some.aged.name.now (g.met.L.LookUps.lawful c.args.spool.now) below
    (λ group at. (c.in-Some.ensures.some group at).name) c.in_default-read.ensures.err.1

pub returns : goal.returns
returns g c = (
  omega (arith, c.if-place-group_count.false, c.group_count.ensures),
  λ group at.
      let aged = c.in-Some.ensures.some group at in
      record {
        name = c.in-Ok.ensures.ok.1 ∙ aged.name;
        matches = aged.matches;
        last = c.in-Some.aged.last;
        is_last = aged.last;
        number = c.expiry_number-number.ensures;
        articles = omega (arith, c.saturating_sub.ensures, c.from.ensures, aged.low);
      },
)
