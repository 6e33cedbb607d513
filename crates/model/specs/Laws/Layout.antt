-- What an image stands for.
use Rattle.std.specs.Prelude.{◌≡◌, ◌≤◌, ℕ, [], length, replicate, List, None}
use Rattle.model.specs.Stream.{Octets}
use Rattle.model.specs.Files.{IsFileSystem, table}
use Rattle.model.specs.Layout.{IsLabel, Stands}
use Rattle.model.specs.Spool.{Spool}
use Rattle.model.specs.Volume.{StandsFor, block, format_number, number_at}

-- An image stands for at most one spool, under one host.
abbrev pub ImagesStandForOne : Type 0
ImagesStandForOne = (host other image : Octets) (S R : Spool) → Stands host image S → Stands other image R → (host ≡ other) × (S ≡ R)

-- An image that stands for a spool has a superblock of version 1.
abbrev pub VersionIsOne : Type 0
VersionIsOne = (host image : Octets) (S : Spool) → Stands host image S → number_at 8 4 (block 0 image) ≡ 1

-- A volume whose blocks are the empty file system stands for the spool without changes.
abbrev pub EmptyVolumesStand : Type 0
EmptyVolumesStand = (host image label : Octets) (inodes : ℕ) (blocks : List Octets) → StandsFor image label blocks
    → IsLabel label (length blocks) inodes host →
    IsFileSystem inodes blocks → table inodes blocks ≡ replicate inodes None → Stands host image []

-- An image with the same volume as another, and no lower format, stands for the same spool.
abbrev pub FormatsMayRise : Type 0
FormatsMayRise = (host old new label : Octets) (blocks : List Octets) (S : Spool) → StandsFor old label blocks → StandsFor new label blocks
    →
    format_number old ≤ format_number new → Stands host old S → Stands host new S
