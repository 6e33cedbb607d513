-- The files of a spool in the blocks that hold it.
use Rattle.std.proofs.Common.{◌≡◌, ◌≢◌, inl, ◌<◌, ℕ, ◌+◌, true, List, length, get_or, sym, ◌∙◌, ap, subst, arith, refl, eqb}
use Rattle.std.specs.List.{Contains}
use Rattle.std.proofs.lemmas.Bool.{or_right, true≢false}
use Rattle.model.specs.Stream.{Octets}
use Rattle.model.specs.Files.{File, files_in, table}
use Rattle.model.specs.FileKinds.{is_of_change}
use Rattle.model.specs.Layout.{Holds}
use Rattle.model.specs.Packs.{IsMember, IsStored, pack_name}
use Rattle.model.specs.Spool.{Spool, entries_from, entries}
use Rattle.model.specs.SpoolFiles.{change_file, entry_files, files_of}
use Rattle.model.proofs.HoldsOne.{no_change, entry_in}
use Rattle.model.proofs.Joined.{joined_has}
use Rattle.model.proofs.Packing.{is_meant, is_stored}

-- ---- the pack is no file of a change, and each file in it is

pub not_pack : (f : File) → is_of_change f ≡ true → f.name ≢ pack_name
not_pack f of is = true≢false (sym of ∙ ap (λ (o : Octets). is_of_change (record { name = o; content = f.content })) is)

pub member_of_change : (f : File) → IsMember f → is_of_change f ≡ true
member_of_change f one = or_right (eqb (get_or f.name 0 0) 103) _ one.kind

-- ---- in the blocks

pub in_blocks : (host : Octets) (inodes : ℕ) (blocks : List Octets) (S : Spool) (f : File) → Holds host inodes blocks S
    → Contains (files_of S) f → IsStored (files_in (table inodes blocks)) f
in_blocks host inodes blocks S f held has =
    subst (λ (fs : List File). IsStored fs f) held.held.contents (is_stored held.files (files_of S) held.same f has)

pub stored_in_spool : (host : Octets) (inodes : ℕ) (blocks : List Octets) (S : Spool) (f : File) → Holds host inodes blocks S
    → f.name ≢ pack_name → IsStored (files_in (table inodes blocks)) f → Contains (files_of S) f
stored_in_spool host inodes blocks S f held other has =
    is_meant held.files (files_of S) held.same f other (subst (λ (fs : List File). IsStored fs f) (sym held.held.contents) has)

pub in_spool : (host : Octets) (inodes : ℕ) (blocks : List Octets) (S : Spool) (f : File) → Holds host inodes blocks S
    → f.name ≢ pack_name → Contains (files_in (table inodes blocks)) f → Contains (files_of S) f
in_spool host inodes blocks S f held other has = stored_in_spool host inodes blocks S f held other (inl has)

-- ---- the file of a change

pub has_change : (S : Spool) (k : ℕ) → k < length S
    → Contains (files_of S) (change_file (record { serial = k + 1; change = get_or S k no_change }))
unfolding files_of entries
has_change S k low =
    let serial : 1 + k ≡ k + 1 = omega arith in
    subst (λ (m : ℕ). Contains (files_of S) (change_file (record { serial = m; change = get_or S k no_change }))) serial
    (joined_has (entry_files S) (entries_from 1 S) (record { serial = 1 + k; change = get_or S k no_change })
    (change_file (record { serial = 1 + k; change = get_or S k no_change })) (entry_in 1 S k low) (0, omega arith, refl))
