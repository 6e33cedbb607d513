-- The places of a spool's files, and the names at these places.
use Rattle.std.specs.Prelude.{◌≡◌, ℕ, List, [], ◌∷◌, ◌++◌, map, slice_index_or, Option, Some, None, option_map}
use Rattle.model.specs.Stream.{Octets}
use Rattle.model.specs.Files.{File}
use Rattle.model.specs.Indexed.{Alone, ChangePlace, FilePlaces, IsPackedAt, Packed}
use Rattle.model.specs.Spool.{Spool, entries, groups}
use Rattle.model.specs.SpoolFiles.{change_file, numbers_name, overview_name}

-- one more place, that of the file of an article or an expiry
abbrev pub with_change : ChangePlace → FilePlaces → FilePlaces
with_change at p = record p { changes = p.changes ++ at ∷ [] }

-- the three places of a group
abbrev pub with_group : ℕ → ℕ → ℕ → FilePlaces → FilePlaces
with_group at numbers overview p = record {
  changes = p.changes ++ Alone at ∷ [];
  numbers = p.numbers ++ numbers ∷ [];
  overviews = p.overviews ++ overview ∷ [];
}

-- the name of the file of an inode
abbrev pub name_of : List (Option File) → ℕ → Option Octets
name_of inodes k = option_map (λ f. f.name) (slice_index_or inodes k None)

abbrev pub names_of : List (Option File) → List ℕ → List (Option Octets)
names_of inodes places = map (λ k. name_of inodes k) places

-- what is known of the file at a place: its name, if it is the file of an inode; in the pack a name says nothing, since any octets may
-- read as one, and so the file itself
abbrev pub IsNamedAt : List (Option File) → ChangePlace → File → Type 0
IsNamedAt inodes (Alone inode) f = name_of inodes inode ≡ Some f.name
IsNamedAt inodes (Packed inode from size) f = IsPackedAt inodes inode from size f

abbrev pub AreNamedAt : List (Option File) → List ChangePlace → List File → Type 0
AreNamedAt inodes [] [] = Unit {0}
AreNamedAt inodes [] (f ∷ files) = ⊥
AreNamedAt inodes (p ∷ places) [] = ⊥
AreNamedAt inodes (p ∷ places) (f ∷ files) = IsNamedAt inodes p f × AreNamedAt inodes places files

-- the files at these places have the names of the spool's files
pub record AreNamed (inodes : List (Option File)) (S : Spool) (places : FilePlaces) : Type 0 where
  pub changes_are : AreNamedAt inodes places.changes (map change_file (entries S))
  pub numbers_are : names_of inodes places.numbers ≡ map (λ g. Some (numbers_name g.name)) (groups S)
  pub overviews_are : names_of inodes places.overviews ≡ map (λ g. Some (overview_name g.name)) (groups S)
