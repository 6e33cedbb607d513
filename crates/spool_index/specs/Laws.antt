-- The places of a spool's files, by their names.
use Rattle.std.specs.Prelude.{◌≡◌, ◌≤◌, ℕ, ◌+◌, List, [], ◌∷◌, ◌++◌, length, Option, Some, None}
use Rattle.model.specs.Stream.{Octets}
use Rattle.model.specs.Files.{File, most_inodes, table}
use Rattle.model.specs.Indexed.{ArePlaces, ChangePlace, FilePlaces, KeepsFiles}
use Rattle.model.specs.Layout.{Holds}
use Rattle.model.specs.Spool.{Spool, group_made}
use Rattle.model.specs.SpoolFiles.{change_file, group_name, numbers_name, overview_name}
use Rattle.model.specs.declared.change.Change.{Change}
use Rattle.model.specs.declared.change.Change.TheVariants.{Group}
use Rattle.model.specs.declared.change.NewGroup.{NewGroup}
use Rattle.spool_index.specs.Places.{AreNamed, IsNamedAt, name_of, with_change, with_group}

-- At the places of the spool's files are files with those names.
abbrev pub PlacesHaveNames : Type 0
PlacesHaveNames = (inodes : ℕ) (blocks : List Octets) (S : Spool) (places : FilePlaces) → ArePlaces inodes blocks S places
    → AreNamed (table inodes blocks) S places

-- If the blocks hold the spool, the files with these names are the spool's, since no name occurs twice.
abbrev pub PlacesAreByName : Type 0
PlacesAreByName = (host : Octets) (inodes : ℕ) (blocks : List Octets) (S : Spool) (places : FilePlaces) → inodes ≤ most_inodes
    → Holds host inodes blocks S → AreNamed (table inodes blocks) S places →
    ArePlaces inodes blocks S places

-- One more change that makes no group adds the place of its file.
abbrev pub PlacesGrowByChange : Type 0
PlacesGrowByChange = (old new : List (Option File)) (S : Spool) (c : Change) (places : FilePlaces) (at : ChangePlace)
    → group_made (record { serial = length S + 1; change = c }) ≡ None →
    AreNamed old S places → KeepsFiles old new → IsNamedAt new at (change_file (record { serial = length S + 1; change = c })) →
    AreNamed new (S ++ c ∷ []) (with_change at places)

-- One more group adds the places of its three files.
abbrev pub PlacesGrowByGroup : Type 0
PlacesGrowByGroup = (old new : List (Option File)) (S : Spool) (g : NewGroup) (places : FilePlaces) (at numbers overview : ℕ) →
    AreNamed old S places → KeepsFiles old new →
    name_of new at ≡ Some (group_name g.name) → name_of new numbers ≡ Some (numbers_name g.name)
    → name_of new overview ≡ Some (overview_name g.name) →
    AreNamed new (S ++ Group g ∷ []) (with_group at numbers overview places)
