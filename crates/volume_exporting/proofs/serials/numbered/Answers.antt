use Rattle.std.proofs.Common.{◌≡◌, ◌+◌, ◌++◌, length, sym, ◌∙◌, ap, arith}
use Rattle.std.specs.Option.{option_to_list}
use Rattle.volume_exporting.specs.Exported.{picked, serial_at}
use Rattle.volume_exporting.proofs.Picked.{picked-more}
use Rattle.volume_exporting.proofs.serials.numbered.Goals as goal

pub loop-before-preserved : goal.loop-before-preserved
loop-before-preserved g c =
    let pick = serial_at (g.L.LookUps.changes c.args.spool.now) c.args.group.now in
    let n = c.loop-before.before in
    c.in_ok-push_numbered.ensures
    ∙ ap (λ os. os ++ option_to_list (pick (n + 1))) c.loop-before.invariant
    ∙ sym (picked-more pick n)
