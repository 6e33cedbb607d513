-- The inodes that calls take.
use Rattle.std.proofs.Common.{◌≡◌, ℕ, ◌+◌, List, [], ◌∷◌, ◌++◌, length, map, sym, ◌∙◌, arith, length-append}
use Rattle.std.proofs.lemmas.List.{length-map}
use Rattle.std.proofs.lemmas.List.Sorted.{IsPermutation-refl, length_permutation}
use Rattle.model.specs.Stream.{Octets}
use Rattle.model.specs.Files.{File, HasRoom, IsFileSystem, files_in, free_inodes, table}
use Rattle.model.specs.FileCalls.{Append, Create, FileCall, after_calls, appended, making_calls}
use Rattle.model.proofs.Counting.{used_and_free}
use Rattle.spool_growing.specs.Calls.{Calls, CreatesAt, MakesAt}

files_after : (inodes : ℕ) (calls : List FileCall) (old new : List Octets) → Calls inodes calls old new
    → length (files_in (table inodes new)) ≡ length (after_calls (files_in (table inodes old)) calls)
files_after inodes calls old new made =
    sym (length_permutation (files_in (table inodes new)) (after_calls (files_in (table inodes old)) calls)
    (made.files (files_in (table inodes old)) (IsPermutation-refl (files_in (table inodes old)))))

-- the files that calls make
unfoldable pub creates : List FileCall → ℕ
creates [] = 0
creates (Create name ∷ calls) = 1 + creates calls
creates (Append name octets ∷ calls) = creates calls

pub more_files : (files : List File) (calls : List FileCall) → length (after_calls files calls) ≡ length files + creates calls
unfolding creates
more_files files [] = omega arith
more_files files (Create name ∷ calls) =
    let its : File = record { name = name; content = [] } in
    omega (arith, more_files (files ++ its ∷ []) calls, length-append files (its ∷ []))
more_files files (Append name octets ∷ calls) =
    omega (arith, more_files (map (appended name octets) files) calls, length-map files (appended name octets))

pub inodes_taken : (inodes : ℕ) (calls : List FileCall) (old new : List Octets) → Calls inodes calls old new → HasRoom inodes old
    → IsFileSystem inodes old → free_inodes inodes new + creates calls ≡ free_inodes inodes old
inodes_taken inodes calls old new made room rule =
    omega (
      arith,
      used_and_free inodes old room rule,
      used_and_free inodes new made.room made.rule,
      files_after inodes calls old new made,
      more_files (files_in (table inodes old)) calls,
    )

pub one_file_more : (inodes at : ℕ) (name octets : Octets) (old new : List Octets) → MakesAt inodes at name octets old new
    → length (files_in (table inodes new)) ≡ length (files_in (table inodes old)) + 1
one_file_more inodes at name octets old new made =
    files_after inodes (making_calls name octets) old new made.calls
    ∙ length-map (files_in (table inodes old) ++ record { name = name; content = [] } ∷ []) (appended name octets)
    ∙ length-append (files_in (table inodes old)) (record { name = name; content = [] } ∷ [])

pub one_empty_more : (inodes at : ℕ) (name : Octets) (old new : List Octets) → CreatesAt inodes at name old new
    → length (files_in (table inodes new)) ≡ length (files_in (table inodes old)) + 1
one_empty_more inodes at name old new made =
    files_after inodes (Create name ∷ []) old new made.calls
    ∙ length-append (files_in (table inodes old)) (record { name = name; content = [] } ∷ [])
