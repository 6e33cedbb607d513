use Rattle.std.proofs.Common.{◌≡◌, sym, ◌∙◌, ap}
use Rattle.std.specs.Prelude.{None}
use Rattle.model.specs.Article.{own_id}
use Rattle.volume_store.proofs.Transfers.{has_id}
use Rattle.volume_renewing.proofs.left.husk_text.Goals as goal

pub unreachable-requires-in-None : goal.unreachable-requires-in-None
unreachable-requires-in-None c =
    let none : own_id c.args.filing.now.text ≡ None =
    ap own_id (sym (c.in-Ok.ensures.ok ∙ c.as_slice.ensures)) ∙ sym c.in-None.ensures in
    has_id c.args.filing.now.text c.requires none
