-- The files of a table of inodes, and their names.
use Rattle.std.specs.Prelude.{◌≡◌, ◌≤◌, ℕ, Option, Some, None, List, [], ◌∷◌, length, slice_index_or}
use Rattle.model.specs.Stream.{Octets}
use Rattle.model.specs.Files.{File, HasRoom, IsFileSystem, table}

abbrev pub IsName : Octets → Type 0
IsName name = (1 ≤ length name) × (length name ≤ 63)

-- inode k has a file of this name and content
abbrev pub IsFileAt : List (Option File) → ℕ → Octets → Octets → Type 0
IsFileAt files k name content = slice_index_or files k None ≡ Some (record { name = name; content = content })

abbrev pub IsThere : List (Option File) → Octets → Type 0
IsThere files name = (k : ℕ) × (content : Octets) × IsFileAt files k name content

-- the names of the existing files, by inode
abbrev pub file_names : List (Option File) → List Octets
file_names [] = []
file_names (None ∷ files) = file_names files
file_names (Some file ∷ files) = file.name ∷ file_names files

-- the blocks hold these files
pub record Makes (inodes : ℕ) (files : List (Option File)) (new : List Octets) : Type 0 where
  pub room : HasRoom inodes new
  pub rule : IsFileSystem inodes new
  pub files_are : table inodes new ≡ files
