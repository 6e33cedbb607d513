-- The names of files, by inode.
use Rattle.std.proofs.Common.{◌≡◌, inl, inr, ◌<◌, ◌≤◌, ℕ, ◌+◌, Option, Some, None, List, [], ◌∷◌, ◌++◌, get_or, take, refl, sym, ◌∙◌, ap}
use Rattle.std.proofs.Common.{arith}
use Rattle.std.proofs.lemmas.List.{take_more, take_all, append-nil}
use Rattle.model.specs.Stream.{Octets}
use Rattle.model.specs.Files.{File, name_in, entry, slot_of, IsFileSystem, file_at, table, content_of}
use Rattle.model.proofs.Owning.{zero_at}
use Rattle.fs_layout.specs.Table.{file_names}
use Rattle.fs_layout.proofs.Tables.{length-table, get_or-table, file_at_free, file_at_file}

file_names-push : (files : List (Option File)) (file : Option File)
    → file_names (files ++ file ∷ []) ≡ file_names files ++ file_names (file ∷ [])
file_names-push [] file = refl
file_names-push (None ∷ files) file = file_names-push files file
file_names-push (Some f ∷ files) file = ap (λ (l : List Octets). f.name ∷ l) (file_names-push files file)

module _ (inodes : ℕ) (blocks : List Octets) (fs : IsFileSystem inodes blocks) (at : ℕ) (low : at < inodes) (slot : Octets)
    (is : slot ≡ slot_of inodes blocks at) where
  more : (file : Option File) → file_at inodes blocks at ≡ file
      → file_names (take (at + 1) (table inodes blocks)) ≡ file_names (take at (table inodes blocks)) ++ file_names (file ∷ [])
  more file here =
      ap file_names (take_more (table inodes blocks) at None (omega (arith, length-table inodes blocks)))
      ∙ file_names-push (take at (table inodes blocks)) (get_or (table inodes blocks) at None)
      ∙ ap (λ (f : Option File). file_names (take at (table inodes blocks)) ++ file_names (f ∷ [])) (get_or-table inodes blocks at low
      ∙ here)

  pub one_name : 0 < get_or slot 0 0
      → file_names (take (at + 1) (table inodes blocks)) ≡ file_names (take at (table inodes blocks)) ++ name_in slot ∷ []
  one_name some = elim (fs.each at low) [
    | inl free ↦ absurd (omega (arith, zero_at (slot_of inodes blocks at) 0 free.slot_zeros, ap (λ (s : Octets). get_or s 0 0) is))
    | inr file ↦
        more (Some (record { name = name_in (slot_of inodes blocks at); content = content_of blocks (entry inodes blocks at) }))
        (file_at_file inodes blocks at file)
        ∙ ap (λ (s : Octets). file_names (take at (table inodes blocks)) ++ name_in s ∷ []) (sym is)
  ]

  pub no_name : get_or slot 0 0 ≡ 0 → file_names (take (at + 1) (table inodes blocks)) ≡ file_names (take at (table inodes blocks))
  no_name none = elim (fs.each at low) [
    | inl free ↦ more None (file_at_free inodes blocks at free) ∙ append-nil (file_names (take at (table inodes blocks)))
    | inr file ↦ absurd (omega (arith, ap (λ (s : Octets). get_or s 0 0) (is ∙ file.slot_is), file.name_some))
  ]

pub all_names : (inodes at : ℕ) (blocks : List Octets) → inodes ≤ at
    → file_names (take at (table inodes blocks)) ≡ file_names (table inodes blocks)
all_names inodes at blocks ends = ap file_names (take_all at (table inodes blocks) (omega (arith, length-table inodes blocks)))
