use Rattle.std.proofs.Common.{sym, ◌∙◌, ap, map, Bor, List, ℕ}
use Rattle.std.specs.Prelude.{option_map}
use Rattle.model.specs.Names.{is_message_id}
use Rattle.model.specs.Article.{Carried}
use Rattle.text_article.proofs.CauseLaws.{good_id-none, good_id-some}
use Rattle.text_article.proofs.causes.has_valid_id.Goals as goal

pub returns-in-Some : goal.returns-in-Some
returns-in-Some c =
    good_id-some Carried (map (λ (f : Bor (List ℕ)). f.now) c.args.fields.now) c.in-Some.field.now c.is_message_id.result
    (sym c.find_field.ensures ∙ ap (option_map (λ (f : Bor (List ℕ)). f.now)) c.in-Some.is)
    (c.is_message_id.ensures ∙ ap is_message_id c.id_in_field.ensures)

pub returns-in-None : goal.returns-in-None
returns-in-None c =
    good_id-none Carried (map (λ (f : Bor (List ℕ)). f.now) c.args.fields.now)
    (sym c.find_field.ensures ∙ ap (option_map (λ (f : Bor (List ℕ)). f.now)) c.in-None.is)
