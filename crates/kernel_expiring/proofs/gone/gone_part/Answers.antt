use Rattle.std.proofs.Common.{◌≡◌, ◌+◌, sym, ◌∙◌, ap, arith}
use Rattle.kernel_expiring.specs.Gone.{gone_among, part_length}
use Rattle.kernel_expiring.proofs.Counted.{next_begins}
use Rattle.kernel_expiring.proofs.gone.gone_part.Goals as goal

pub returns : goal.returns
returns g c =
    let S = g.L.LookUps.changes c.args.spool.now in
    let few = g.met.L.LookUps.few c.args.spool.now in
    let end : c.saturating_add-end.result ≡ c.args.first + 4096 =
    omega (arith, c.saturating_add-end.ensures, c.if-last-end.false, c.len-last.ensures, few) in
    let whole : part_length S c.args.first ≡ 4096 = omega (arith, end, c.if-last-end.false, c.len-last.ensures) in
    record {
      articles = c.gone_among-2.ensures ∙ ap (gone_among S c.args.first) (sym whole);
      next = next_begins S c.args.first c.saturating_add-end.result end (omega (arith, c.if-last-end.false, c.len-last.ensures));
    }
