use Rattle.std.proofs.Common.{sym, ◌∙◌, ap, Bor, List, ℕ, Option, false}
use Rattle.std.specs.Prelude.{option_map, unwrap_or}
use Rattle.model.specs.Names.{is_of_host}
use Rattle.model.specs.Article.{id_in_field}
use Rattle.text_article.proofs.causes.has_id_of.Goals as goal

pub returns-in-Some : goal.returns-in-Some
returns-in-Some c =
    let host = c.args.host.now in
    c.is_of_host.ensures ∙ ap (is_of_host host) c.id_in_field.ensures
    ∙ ap (λ (o : Option (List ℕ)). unwrap_or (option_map (λ (f : List ℕ). is_of_host host (id_in_field f)) o) false)
    (sym (sym c.find_field.ensures ∙ ap (option_map (λ (f : Bor (List ℕ)). f.now)) c.in-Some.is))

pub returns-in-None : goal.returns-in-None
returns-in-None c =
    let host = c.args.host.now in
    ap (λ (o : Option (List ℕ)). unwrap_or (option_map (λ (f : List ℕ). is_of_host host (id_in_field f)) o) false)
    (sym (sym c.find_field.ensures ∙ ap (option_map (λ (f : Bor (List ℕ)). f.now)) c.in-None.is))
