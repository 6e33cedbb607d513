-- What is put before a posted text, stated over its fields.
use Rattle.std.specs.Prelude.{ℕ, ◌+◌, ◌==◌, if◌then◌else◌, List, [], ◌++◌, codes, count_by, length}
use Rattle.model.specs.Stream.{Octets, crlf}
use Rattle.model.specs.Calendar.{date_header}
use Rattle.model.specs.Article.{is_named}
pub use Rattle.model.specs.Article.{made_id}

-- a field of one line
abbrev pub field_line : Octets → Octets → Octets
field_line name content = name ++ codes ": " ++ content ++ crlf

-- a field, if none of its name exists
abbrev pub added_to : List Octets → Octets → Octets → Octets
added_to fields name content = if count_by (is_named name) fields == 0 then field_line name content else []

-- the content of Path
abbrev pub path_of : Octets → Octets
path_of host = host ++ codes "!not-for-mail"

-- Path, Date and Message-ID, where they are missing
abbrev pub front : Octets → ℕ → ℕ → List Octets → Octets
front host serial moment fields =
    added_to fields (codes "Path") (path_of host) ++ added_to fields (codes "Date") (date_header moment)
    ++ added_to fields (codes "Message-ID") (made_id host serial)

-- the number of octets of a field of one line that is put before a text, with a content of this many
abbrev pub missing_length : List Octets → Octets → ℕ → ℕ
missing_length fields name content = if count_by (is_named name) fields == 0 then length name + content + 4 else 0
