-- The files of inodes, as they are read.
use Rattle.std.proofs.Common.{◌≡◌, inl, inr, ◌<◌, ◌≤◌, ℕ, Some, None, List, get_or, length, sym, ◌∙◌, ap, arith}
use Rattle.model.specs.Stream.{Octets}
use Rattle.model.specs.Files.{File, HasRoom, IsFileSystem, content_of, entry, name_in, slot_of, table, largest_file}
use Rattle.model.proofs.Owning.{content_size, zero_at}
use Rattle.fs_layout.proofs.Tables.{IsNamed, file_at_file, file_at_free, get_or-table, named_from_there}

module _ (inodes : ℕ) (blocks : List Octets) (fs : IsFileSystem inodes blocks) (at : ℕ) (low : at < inodes) (slot : Octets)
    (is : slot ≡ slot_of inodes blocks at) where
  pub name_there : 0 < get_or slot 0 0
      → get_or (table inodes blocks) at None ≡ Some (record { name = name_in slot; content = content_of blocks (entry inodes blocks at) })
  name_there some = elim (fs.each at low) [
    | inl free ↦ absurd (omega (arith, zero_at (slot_of inodes blocks at) 0 free.slot_zeros, ap (λ (s : Octets). get_or s 0 0) is))
    | inr file ↦ get_or-table inodes blocks at low ∙ file_at_file inodes blocks at file
        ∙ ap (λ (s : Octets). Some (record { name = name_in s; content = content_of blocks (entry inodes blocks at) })) (sym is)
  ]

  pub nothing_there : get_or slot 0 0 ≡ 0 → get_or (table inodes blocks) at None ≡ None
  nothing_there none = elim (fs.each at low) [
    | inl free ↦ get_or-table inodes blocks at low ∙ file_at_free inodes blocks at free
    | inr file ↦ absurd (omega (arith, ap (λ (s : Octets). get_or s 0 0) (is ∙ file.slot_is), file.name_some))
  ]

pub named_file : (inodes : ℕ) (blocks : List Octets) (k : ℕ) (f : File) → IsFileSystem inodes blocks
    → get_or (table inodes blocks) k None ≡ Some f → IsNamed inodes blocks k f.name f.content
named_file inodes blocks k f fs there = named_from_there inodes blocks fs k f.name f.content there

pub content_fits : (inodes : ℕ) (blocks : List Octets) (k : ℕ) (f : File) → HasRoom inodes blocks → IsFileSystem inodes blocks
    → get_or (table inodes blocks) k None ≡ Some f → length f.content ≤ largest_file
content_fits inodes blocks k f room fs there =
    let named = named_file inodes blocks k f fs there in
    let long = content_size blocks (entry inodes blocks k) room.blocks_whole (λ b owns. (fs.within k b named.below owns).1) in
    omega (arith, long, named.file.small, ap (λ (o : Octets). length o) named.content_is)
