-- The causes of refusal, stated over the fields of a text.
use Rattle.std.specs.Prelude.{ℕ, ◌+◌, Bool, false, not, ◌||◌, ◌&&◌, ◌==◌, nat_le, nat_lt, List, [], ◌∷◌, ◌++◌, length, find, map, count_by}
use Rattle.std.specs.Prelude.{codes, Option, option_map, unwrap_or}
use Rattle.std.specs.List.{list_all, list_any}
use Rattle.model.specs.Stream.{Octets}
pub use Rattle.text_fields.specs.Contents.{content_in, is_blank_in}
use Rattle.text_article.specs.Stored.{front}
use Rattle.model.specs.Names.{is_group_name, is_of_host, parts}
use Rattle.model.specs.declared.cause.Cause.{Cause}
use Rattle.model.specs.declared.cause.Cause.TheVariants as causes
use Rattle.model.specs.Article.{Origin, Posted, Carried, added_fields, allows_id, are_distinct, first_cause, has_empty_line}
use Rattle.model.specs.Article.{has_fields_alone, has_lines_alone, header_lines, id_in_field, is_named, needed_fields, single_fields}
use Rattle.model.specs.Article.{trimmed, written_fields}

-- a field occurs twice that may occur at most once
abbrev pub has_twice : List Octets → Bool
has_twice fields = list_any (λ name. nat_lt 1 (count_by (is_named name) fields)) single_fields

-- none of the fields has one of the names
abbrev pub lacks_any : List Octets → List Octets → Bool
lacks_any names fields = list_any (λ name. count_by (is_named name) fields == 0) names

-- a mandatory field is blank
abbrev pub has_blank : List Octets → Bool
has_blank fields = list_any (is_blank_in fields) (written_fields ++ added_fields)

-- a required field is missing, or a mandatory one is blank
abbrev pub lacks_field : Origin → List Octets → Bool
lacks_field origin fields = lacks_any (needed_fields origin) fields || has_blank fields

-- the same, by whether a written field is missing, one that a server adds, and whether a mandatory one is blank
abbrev pub lacks_by : Origin → Bool → Bool → Bool → Bool
lacks_by (Posted host serial) written added blank = written || blank
lacks_by Carried written added blank = (written || added) || blank

-- there is no message-id, or one that is allowed
abbrev pub has_good_id : Origin → List Octets → Bool
has_good_id origin fields =
    count_by (is_named (codes "Message-ID")) fields == 0
    || allows_id origin (unwrap_or (option_map id_in_field (find (is_named (codes "Message-ID")) fields)) [])

-- there is a message-id with the host as its right side
abbrev pub has_id_of : Octets → List Octets → Bool
has_id_of host fields =
    unwrap_or (option_map (λ field. is_of_host host (id_in_field field)) (find (is_named (codes "Message-ID")) fields)) false

-- there is no message-id, or one that is allowed, by whether there is none or a valid one
abbrev pub good_id_by : Origin → Bool → List Octets → Bool
good_id_by (Posted host serial) valid fields = valid && not (has_id_of host fields)
good_id_by Carried valid fields = valid

-- a content of Newsgroups lists 1 to 16 distinct group names
abbrev pub has_good_groups : Octets → Bool
has_good_groups content =
    let groups = map trimmed (parts 44 content) in
    (nat_le (length groups) 16 && list_all is_group_name groups) && are_distinct groups

-- the fields that are put before a text; dates have a fixed size
abbrev pub front_for : Origin → List Octets → Octets
front_for (Posted host serial) fields = front host serial 0 fields
front_for Carried fields = []

-- whether header and text stay within their limits when this many octets are put before them
abbrev pub is_short : ℕ → ℕ → ℕ → Bool
is_short header text added = nat_le (added + header) 8_192 && nat_le (added + text) 262_144

-- the causes in the lines
abbrev pub shape_cause : Octets → Option Cause
shape_cause text = first_cause (
    (not (has_lines_alone text), causes.Octets)
    ∷ (not (has_empty_line text), causes.NoEnd)
    ∷ (not (has_fields_alone (header_lines text)), causes.Field)
    ∷ [])

-- the first cause in the fields, by the tests
abbrev pub first_of : Bool → Bool → Bool → Bool → Bool → Option Cause
first_of twice lacks good_id good_groups short = first_cause (
    (twice, causes.Twice)
    ∷ (lacks, causes.Missing)
    ∷ (not good_id, causes.Id)
    ∷ (not good_groups, causes.Groups)
    ∷ (not short, causes.Long)
    ∷ [])

-- the causes in the fields of a text, given whether its groups are good and whether it is short enough
abbrev pub field_cause : Origin → List Octets → Bool → Bool → Option Cause
field_cause origin fields good_groups short =
    first_of (has_twice fields) (lacks_field origin fields) (has_good_id origin fields) good_groups short
