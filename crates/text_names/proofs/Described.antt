-- A description is short and printable.
use Rattle.std.specs.Prelude.{ℕ, ◌≤◌, nat_le, List, length, IsTrue}
use Rattle.std.specs.List.{list_all}
use Rattle.std.proofs.lemmas.Bool.{and_parts, leb-true}
use Rattle.model.specs.Lawful.{is_description_octet}
use Rattle.text_names.specs.Descriptions.{is_description}

pub described : (text : List ℕ) → IsTrue (is_description text) → (length text ≤ 200) × IsTrue (list_all is_description_octet text)
described text is =
    let parts = and_parts (nat_le (length text) 200) (list_all is_description_octet text) is in
    (leb-true (length text) 200 parts.0, parts.1)
