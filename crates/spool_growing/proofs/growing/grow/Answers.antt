use Rattle.std.proofs.Common.{List, sym, subst}
use Rattle.model.specs.Files.{HasRoom}
use Rattle.model.specs.Stream.{Octets}
use Rattle.spool_growing.specs.Calls.{IsKnown}
use Rattle.spool_growing.proofs.Grown.{as_before, change_grown}
use Rattle.spool_growing.proofs.growing.grow.Goals as goal

pub seek_block-kept-requires-clause-room : goal.seek_block-kept-requires-clause-room
seek_block-kept-requires-clause-room c =
    let ready = c.requires in
    let staged = c.in-Ok.ensures.staged in
    subst (λ (bs : List Octets). HasRoom c.args.kept.now.inodes bs) (sym c.apply.ensures.seen)
    (staged.kept ready.host ready.changes ready.kept ready.may).is.room

pub seek_block-kept-requires-clause-known : goal.seek_block-kept-requires-clause-known
seek_block-kept-requires-clause-known c =
    subst (λ (bs : List Octets). IsKnown c.args.kept.now.inodes c.in-Ok.next bs) (sym c.apply.ensures.seen)
    c.in-Ok.ensures.staged.stage.known

pub returns-clause-grown : goal.returns-clause-grown
returns-clause-grown c =
    change_grown c.args.kept.now c.stage.new.kept c.apply.new.self c.in-Ok.next c.seek_block-kept.result _ c.requires c.in-Ok.ensures.staged
    c.apply.ensures.cache c.apply.ensures.seen c.apply.ensures.dirty c.apply.ensures.distinct c.seek_block-kept.ensures

pub returns-in_default-clause-same : goal.returns-in_default-clause-same
returns-in_default-clause-same c =
    as_before c.args.kept.now c.stage.new.kept c.drop_stage.new.self c.requires.kept.seen c.in_default.ensures.refused c.drop_stage.ensures
