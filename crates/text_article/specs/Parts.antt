-- What is read of a text whose lines have no cause.
use Rattle.std.specs.Prelude.{◌≡◌, List, codes, map, Some, None, Result, Ok, Err}
use Rattle.model.specs.Stream.{Octets}
use Rattle.model.specs.declared.cause.Cause.{Cause}
use Rattle.model.specs.Article.{Carried, added_fields, content, fields as text_fields, written_fields}
use Rattle.text_article.specs.Causes.{has_blank, has_good_groups, has_good_id, has_twice, lacks_any, shape_cause}
use Rattle.text_article.specs.declared.plain_parts.Faults.{Faults}
use Rattle.text_article.specs.declared.plain_parts.Parts.{Parts}

-- what of the causes in these fields does not depend on the origin, apart from the groups
pub record AreFaults (faults : Faults) (all : List Octets) : Type 0 where
  pub twice : faults.twice ≡ has_twice all
  pub written : faults.lacks_written ≡ lacks_any written_fields all
  pub added : faults.lacks_added ≡ lacks_any added_fields all
  pub blank : faults.blank ≡ has_blank all
  pub id : faults.valid_id ≡ has_good_id Carried all

-- the parts of a text whose lines have no cause
pub record ArePartsOf (text : Octets) (parts : Parts) : Type 0 where
  pub shape : shape_cause text ≡ None
  pub fields : map (λ field. field.now) parts.fields.items ≡ text_fields text
  pub newsgroups : parts.newsgroups.items ≡ content (codes "Newsgroups") text
  pub faults : AreFaults parts.faults (text_fields text)
  pub groups : parts.faults.good_groups ≡ has_good_groups (content (codes "Newsgroups") text)

-- the parts of a text, or the first cause in its lines
abbrev pub AreParts : Octets → Result Parts Cause → Type 0
AreParts text (Ok parts) = ArePartsOf text parts
AreParts text (Err cause) = shape_cause text ≡ Some cause
