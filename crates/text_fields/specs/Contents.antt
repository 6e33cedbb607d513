-- The contents of fields, stated over the fields of a text.
use Rattle.std.specs.Prelude.{Bool, ◌&&◌, List, [], find, option_map, unwrap_or}
use Rattle.std.specs.List.{list_all, list_any}
use Rattle.model.specs.Stream.{Octets}
use Rattle.model.specs.Names.{is_blank}
use Rattle.model.specs.Article.{content_of, is_named}

-- one of the fields has this name and holds only SP and TAB
abbrev pub is_blank_in : List Octets → Octets → Bool
is_blank_in fields name = list_any (λ field. is_named name field && list_all is_blank (content_of field)) fields

-- the content of a field, empty where it is missing
abbrev pub content_in : Octets → List Octets → Octets
content_in name fields = unwrap_or (option_map content_of (find (is_named name) fields)) []
