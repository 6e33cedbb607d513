use Rattle.std.proofs.lemmas.Result.{IfOk-weaker}
use Rattle.spool_opening.proofs.Formats.{holds_in, within_format}
use Rattle.spool_opening.proofs.spool_at_opening.open.Goals as goal

pub returns-in-Ok-clause-format : goal.returns-in-Ok-clause-format
returns-in-Ok-clause-format g c =
    let blocks = g.B.Blocks.blocks c.args.blocks.now in
    IfOk-weaker c.open_checked.result _ _
    (λ opened alone S held. holds_in c.args.format c.args.host.now c.args.inodes blocks c.requires S c.in-Ok.ensures.sound.1 alone held)
    c.open_checked.ensures.no_pack

pub returns-in-Err-Damaged-clause-damaged : goal.returns-in-Err-Damaged-clause-damaged
returns-in-Err-Damaged-clause-damaged g c =
    let blocks = g.B.Blocks.blocks c.args.blocks.now in
    λ same S held. c.in-Err-Damaged.ensures.damaged c.in-Err-Damaged.field-0-is
    (held.held.held.rule, within_format c.args.format c.args.host.now c.args.inodes blocks c.requires S held)
