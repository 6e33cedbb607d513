-- The causes in the fields, by the tests that do not depend on the origin.
use Rattle.std.specs.Prelude.{◌≡◌, ℕ, Bool, false, not, ◌||◌, ◌&&◌, ◌==◌, List, count_by, find, codes, Option, Some, None, option_map}
use Rattle.std.specs.Prelude.{unwrap_or}
use Rattle.std.proofs.Common.{sym, ◌∙◌, ap, refl}
use Rattle.std.proofs.lemmas.List.Folds.{list_any-append}
use Rattle.model.specs.Stream.{Octets}
use Rattle.model.specs.Names.{is_message_id, is_of_host}
use Rattle.model.specs.Article.{Origin, Posted, Carried, added_fields, id_in_field, is_named, written_fields}
use Rattle.text_article.specs.Causes.{good_id_by, has_blank, has_good_id, has_id_of, lacks_by, lacks_field}
use Rattle.text_article.specs.Parts.{AreFaults}
use Rattle.text_article.specs.declared.plain_parts.Faults.{Faults}
use Rattle.text_article.proofs.CauseLaws.{good_id-none, good_id-some}

pub lacks-same : (origin : Origin) (faults : Faults) (all : List Octets) → AreFaults faults all
    → lacks_by origin faults.lacks_written faults.lacks_added faults.blank ≡ lacks_field origin all
lacks-same (Posted host serial) faults all are = λ i. are.written i || are.blank i
lacks-same Carried faults all are =
    (λ i. (are.written i || are.added i) || are.blank i)
    ∙ ap (λ b. b || has_blank all) (sym (list_any-append (λ name. count_by (is_named name) all == 0) written_fields added_fields))

-- whether the id that these fields may have is one of the host
abbrev of_host : Octets → Option Octets → Bool
of_host host found = unwrap_or (option_map (λ field. is_of_host host (id_in_field field)) found) false

-- a posted id is good if it is valid and not one of the host
good_id-posted : (host : Octets) (serial : ℕ) (all : List Octets) (found : Option Octets) → find (is_named (codes "Message-ID")) all ≡ found
    → (has_good_id Carried all && not (has_id_of host all)) ≡ has_good_id (Posted host serial) all
good_id-posted host serial all None is =
    (λ i. sym (good_id-none Carried all is) i && not (of_host host (is i)))
    ∙ good_id-none (Posted host serial) all is
good_id-posted host serial all (Some field) is =
    (λ i. sym (good_id-some Carried all field (is_message_id (id_in_field field)) is refl) i && not (of_host host (is i)))
    ∙ good_id-some (Posted host serial) all field (is_message_id (id_in_field field) && not (is_of_host host (id_in_field field))) is refl

pub good_id-same : (origin : Origin) (valid : Bool) (all : List Octets) → valid ≡ has_good_id Carried all
    → good_id_by origin valid all ≡ has_good_id origin all
good_id-same (Posted host serial) valid all is =
    ap (λ b. b && not (has_id_of host all)) is ∙ good_id-posted host serial all (find (is_named (codes "Message-ID")) all) refl
good_id-same Carried valid all is = is
