use Rattle.std.proofs.Common.{◌≡◌, Bool, List, length, ◌∙◌, sym, ap, subst}
use Rattle.std.specs.Prelude.{◌||◌}
use Rattle.std.specs.List.{list_any}
use Rattle.model.specs.Room.{blocks_for_change, inodes_for_change}
use Rattle.model.specs.Stream.{Octets}
use Rattle.model.specs.declared.change.Change.TheVariants.{Article}
use Rattle.model.specs.declared.change.Filing.{Filing}
use Rattle.spool_opening.specs.Replayed.{AreHere}
use Rattle.spool.specs.View.{SpoolView}
use Rattle.spool.proofs.Large.{article_lacks, full_article, one_large}
use Rattle.spool.proofs.Spool.is_full_for_article.Goals as goal

pub returns-then-lacks_room : goal.returns-then-lacks_room
returns-then-lacks_room c = λ text.
    let v = c.args.self.now in
    let its : Filing = record { text = text; envelope = c.args.envelope.now } in
    let rest = list_any (one_large v.changes) c.args.envelope.now.groups in
    let count : c.len.result ≡ length v.blocks = subst (λ (x : SpoolView). c.len.result ≡ length x.blocks) c.self.view_is
    (c.len.ensures.count ∙ ap (λ (bs : List Octets). length bs) c.self.invariant.0.seen) in
    let lacking = article_lacks v its c.len.result c.self.inside.kept.inodes c.blocks_left-blocks.result c.inodes_left-inodes.result
    c.lacks_room.result count (ap (λ (x : SpoolView). x.inodes) c.self.view_is) (c.blocks_left-blocks.ensures its)
    (c.inodes_left-inodes.ensures its) c.lacks_room.ensures in
    let full = full_article (blocks_for_change v.blocks (Article its)) (inodes_for_change v.blocks v.inodes (Article its)) v.changes its in
    c.if-lacks_room.true ∙ ap (λ (b : Bool). b || rest) (sym c.if-lacks_room.true ∙ lacking) ∙ sym full

pub returns-else-lacks_room : goal.returns-else-lacks_room
returns-else-lacks_room c = λ text.
    let v = c.args.self.now in
    let its : Filing = record { text = text; envelope = c.args.envelope.now } in
    let rest = list_any (one_large v.changes) c.args.envelope.now.groups in
    let count : c.len.result ≡ length v.blocks = subst (λ (x : SpoolView). c.len.result ≡ length x.blocks) c.self.view_is
    (c.len.ensures.count ∙ ap (λ (bs : List Octets). length bs) c.self.invariant.0.seen) in
    let lacking = article_lacks v its c.len.result c.self.inside.kept.inodes c.blocks_left-blocks.result c.inodes_left-inodes.result
    c.lacks_room.result count (ap (λ (x : SpoolView). x.inodes) c.self.view_is) (c.blocks_left-blocks.ensures its)
    (c.inodes_left-inodes.ensures its) c.lacks_room.ensures in
    let full = full_article (blocks_for_change v.blocks (Article its)) (inodes_for_change v.blocks v.inodes (Article its)) v.changes its in
    let inside = c.self.inside in
    let groups = c.args.envelope.now.groups in
    let here = subst (λ (x : SpoolView). AreHere x.changes groups) (sym c.self.view_is) c.requires in
    let large = c.extends_large.ensures inside.stands.changes c.self.invariant.0.indexed
    (subst (AreHere inside.stands.changes) (sym c.as_slice.ensures) here)
    ∙ ap (list_any (one_large inside.stands.changes)) c.as_slice.ensures
    ∙ ap (λ (x : SpoolView). list_any (one_large x.changes) groups) c.self.view_is in
    large ∙ ap (λ (b : Bool). b || rest) (sym c.if-lacks_room.false ∙ lacking) ∙ sym full
