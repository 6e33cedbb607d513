-- What a pack stands for, how it grows, and how it is read.
use Rattle.std.specs.Prelude.{◌≡◌, ◌↔◌, ℕ, ◌+◌, ◌^◌, ◌<◌, List, [], ◌∷◌, ◌++◌, length, Option, IsPermutation}
use Rattle.model.specs.Stream.{Octets}
use Rattle.model.specs.Files.{File, HoldsFiles}
use Rattle.model.specs.FileCalls.{after_calls}
use Rattle.model.specs.Indexed.{IsPackedAt, KeepsFiles}
use Rattle.model.specs.Lawful.{IsLawful, MayFollow}
use Rattle.model.specs.Layout.{Holds}
use Rattle.model.specs.Packs.{HasNoPack, IsMember, StandFor, member_at, member_octets, packed_calls, packing_calls}
use Rattle.model.specs.Spool.{Spool}
use Rattle.model.specs.SpoolFiles.{change_file, files_of}
use Rattle.model.specs.declared.change.Change.{Change}

-- Without a pack, files stand for themselves. So the rule of files in formats 1 and 2 is that the files are those of the spool.
abbrev pub FilesStandAlone : Type 0
FilesStandAlone = (stored files : List File) → HasNoPack stored → StandFor stored files ↔ IsPermutation stored files

-- No file of a spool has the name of the pack.
abbrev pub SpoolsHaveNoPack : Type 0
SpoolsHaveNoPack = (S : Spool) → HasNoPack (files_of S)

-- The calls that put a file into the pack add it to the files that the stored ones stand for.
abbrev pub PacksGrow : Type 0
PacksGrow = (stored files : List File) (f : File) (s : StandFor stored files) → IsMember f →
    StandFor (after_calls stored (packing_calls s.packed f)) (files ++ f ∷ [])

-- So a change whose file goes into the pack makes the same spool as one whose file stands by itself.
abbrev pub PackedSpoolsGrow : Type 0
PackedSpoolsGrow = (host : Octets) (inodes : ℕ) (blocks : List Octets) (stored files : List File) (S : Spool) (c : Change) →
    length S + 1 < 10 ^ 10 → IsLawful host S → MayFollow host S c → (s : StandFor stored (files_of S)) →
    IsMember (change_file (record { serial = length S + 1; change = c })) → HoldsFiles inodes blocks files →
    IsPermutation files (after_calls stored (packed_calls s.packed S c)) → Holds host inodes blocks (S ++ c ∷ [])

-- A file in a pack is read at its place, whatever stands before and after it.
abbrev pub MembersAreRead : Type 0
MembersAreRead = (f : File) (front rest : Octets) → IsMember f → member_at (length front) (front ++ (member_octets f ++ rest)) ≡ f

-- It stays at its place while files grow only at their ends.
abbrev pub PackedFilesStay : Type 0
PackedFilesStay = (old new : List (Option File)) (inode from size : ℕ) (f : File) → KeepsFiles old new → IsPackedAt old inode from size f →
    IsPackedAt new inode from size f
