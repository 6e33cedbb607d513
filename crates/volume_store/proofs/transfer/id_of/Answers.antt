use Rattle.std.proofs.Common.{◌≡◌, None, List, ℕ, Bor, sym, ◌∙◌, ap}
use Rattle.std.specs.Prelude.{Option, option_map}
use Rattle.model.specs.Article.{own_id}
use Rattle.volume_store.proofs.Transfers.{has_id}
use Rattle.volume_store.proofs.transfer.id_of.Goals as goal

pub unreachable-requires : goal.unreachable-requires
unreachable-requires c =
    let none : own_id c.args.article.now ≡ None =
    sym c.id.ensures ∙ ap (λ (o : Option (Bor (List ℕ))). option_map (λ id. id.now) o) c.in-None.is in
    has_id c.args.article.now c.requires none
