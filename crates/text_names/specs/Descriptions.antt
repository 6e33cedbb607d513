-- A text that may describe a group.
use Rattle.std.specs.Prelude.{Bool, ◌&&◌, nat_le, length}
use Rattle.std.specs.List.{list_all}
use Rattle.model.specs.Lawful.{is_description_octet}
use Rattle.model.specs.Stream.{Octets}

-- at most 200 octets, each of which may occur in a description
abbrev pub is_description : Octets → Bool
is_description text = nat_le (length text) 200 && list_all is_description_octet text
