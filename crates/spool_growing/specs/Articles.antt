-- One more article, in the files and the index of its groups.
use Rattle.std.specs.Prelude.{◌≡◌, ℕ, List, [], ◌∷◌, slice_index_or, Option, Some, None}
use Rattle.std.specs.List.{Contains}
use Rattle.model.specs.Stream.{Octets}
use Rattle.model.specs.Files.{File}
use Rattle.model.specs.Indexed.{ArePlaces, FilePlaces}
use Rattle.model.specs.Lawful.{MayFile}
use Rattle.model.specs.Spool.{Spool}
use Rattle.model.specs.FileCalls.{next_line, next_record}
use Rattle.model.specs.SpoolFiles.{numbers_file, numbers_name, overview_file, overview_name}
use Rattle.spool_index.specs.View.{IndexView, Indexes}
use Rattle.model.specs.declared.change.Envelope.{Envelope}
use Rattle.spool_growing.specs.declared.file_calls.Piece.{Piece}
use Rattle.spool_growing.specs.Kept.{IsHeld}

-- ---- what an article adds to its groups

-- a piece for the numbers and one for the overview of the group, with the inodes of these two files
pub record ArePiecesOf (inodes : List (Option File)) (S : Spool) (text g : Octets) (number line : Piece) : Type 0 where
  pub numbers : slice_index_or inodes number.at None ≡ Some (record { name = numbers_name g; content = numbers_file S g })
  pub overview : slice_index_or inodes line.at None ≡ Some (record { name = overview_name g; content = overview_file S g })
  pub number_is : number.octets.items ≡ next_record S text g
  pub line_is : line.octets.items ≡ next_line S text g

-- two pieces for each group
abbrev pub ArePieces : List (Option File) → Spool → Octets → List Octets → List Piece → Type 0
ArePieces inodes S text [] [] = Unit {0}
ArePieces inodes S text [] (p ∷ pieces) = ⊥
ArePieces inodes S text (g ∷ gs) [] = ⊥
ArePieces inodes S text (g ∷ gs) (p ∷ []) = ⊥
ArePieces inodes S text (g ∷ gs) (p ∷ q ∷ pieces) = ArePiecesOf inodes S text g p q × ArePieces inodes S text gs pieces

-- ---- when it is filed

-- some blocks hold changes that the article may follow, filed in these groups; index and places are theirs
pub record CanFile (index : IndexView) (places : FilePlaces) (text : Octets) (filed : List Octets) : Type 0 where
  pub host : Octets
  pub inodes : ℕ
  pub blocks : List Octets
  pub changes : Spool
  pub envelope : Envelope
  pub is : IsHeld host inodes blocks changes
  pub indexed : Indexes changes index
  pub placed : ArePlaces inodes blocks changes places
  pub may : MayFile host changes (record { text = text; envelope = record envelope { groups = filed } })

-- the same for one of the groups
pub record CanFileIn (index : IndexView) (places : FilePlaces) (text g : Octets) : Type 0 where
  pub filed : List Octets
  pub can : CanFile index places text filed
  pub has : Contains filed g
