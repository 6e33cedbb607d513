use Rattle.std.proofs.Common.{◌≤◌, sym, ◌∙◌}
use Rattle.std.proofs.lemmas.Bool.{true≢false}
use Rattle.std.proofs.lemmas.Result.{IfErr-weaker}
use Rattle.model.specs.Files.{files_in, table}
use Rattle.model.specs.Packs.{HasNoPack}
use Rattle.spool_opening.proofs.Formats.{if_ok, none_counted, none_there}
use Rattle.spool_opening.proofs.spool_at_opening.open_checked.Goals as goal

pub returns-in-Err-clause-damaged : goal.returns-in-Err-clause-damaged
returns-in-Err-clause-damaged g c = λ e S held. c.in-Err.ensures.damaged e c.args.host.now S held.held

pub returns-then-not-may_pack-clause-damaged : goal.returns-then-not-may_pack-clause-damaged
returns-then-not-may_pack-clause-damaged g c = λ e S held.
    true≢false (sym (c.may_pack.ensures.1 (λ few. none_counted (table c.args.inodes (g.B.Blocks.blocks c.args.blocks.now))
    c.in-Ok.files.slots.items c.in-Ok.files.named c.in-Ok.files.packed c.in-Ok.ensures.sorted (held.no_pack few)))
    ∙ c.if-not-may_pack.true)

pub returns-clause-no_pack : goal.returns-clause-no_pack
returns-clause-no_pack g c =
    let inodes = table c.args.inodes (g.B.Blocks.blocks c.args.blocks.now) in
    if_ok c.open_sorted.result (c.args.format ≤ 2 → HasNoPack (files_in inodes))
    (λ few. none_there inodes c.in-Ok.files.slots.items c.in-Ok.files.named c.in-Ok.files.packed c.in-Ok.ensures.sorted
    (c.may_pack.ensures.0 c.if-not-may_pack.false few))

pub returns-clause-damaged : goal.returns-clause-damaged
returns-clause-damaged g c =
    IfErr-weaker c.open_sorted.result _ _ (λ e was damaged S held. was damaged S held.held) c.open_sorted.ensures.damaged
