use Rattle.std.proofs.Common.{◌≡◌, ◌+◌, ◌++◌, length, sym, ◌∙◌, ap, arith}
use Rattle.std.specs.Option.{option_to_list}
use Rattle.volume_exporting.specs.Exported.{picked, serial_if_in}
use Rattle.volume_exporting.proofs.Picked.{picked-more}
use Rattle.volume_exporting.proofs.serials.all_serials.Goals as goal

pub loop-before-preserved : goal.loop-before-preserved
loop-before-preserved g c =
    let pick = serial_if_in (g.L.LookUps.changes c.args.spool.now) in
    let n = c.loop-before.before in
    c.in_ok-push_if_in.ensures
    ∙ ap (λ os. os ++ option_to_list (pick (n + 1))) c.loop-before.invariant
    ∙ sym (picked-more pick n)

pub returns : goal.returns
returns g c =
    let S = g.L.LookUps.changes c.args.spool.now in
    let all : c.loop-before.before ≡ length S =
    omega (arith, c.len-before-end.ensures, c.loop-before-test.false, c.loop-before.auto.before-end) in
    c.loop-before.invariant ∙ ap (picked (serial_if_in S)) all
