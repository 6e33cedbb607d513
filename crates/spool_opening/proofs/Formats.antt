-- What blocks hold is of the format if the check of the blocks says so and there is no pack where there may be none, and only then.
use Rattle.std.proofs.Common.{◌≡◌, ◌≢◌, inl, inr, ◌≤◌, ℕ, cond, Bool, List, [], ◌++◌, length, append-nil}
use Rattle.std.proofs.Common.{Option, Result, Ok, Err, sym, ◌∙◌, ap, subst, arith}
use Rattle.std.specs.Prelude.{IsPermutation}
use Rattle.std.specs.List.{All}
use Rattle.std.specs.Result.{IfOk}
use Rattle.std.proofs.lemmas.Bool.{cases_eq, eq-eqb, ne_eqb}
use Rattle.std.proofs.lemmas.List.{nil_from_length}
use Rattle.std.proofs.lemmas.List.Sorted.{All-permutation, IsPermutation-sym}
use Rattle.model.specs.Stream.{Octets}
use Rattle.model.specs.Files.{AreWithin, File, HasRoom, IsFileSystem, entry, files_in, largest_file, largest_file_one, most_octets, table}
use Rattle.model.specs.Layout.{AreOfFormat, Holds, HoldsIn}
use Rattle.model.specs.Packs.{HasNoPack, StandFor, pack_name, pack_of}
use Rattle.model.specs.Spool.{Spool}
use Rattle.model.specs.SpoolFiles.{files_of}
use Rattle.model.proofs.Sizes.{sizes_bound}
use Rattle.model.proofs.Owning.{zero_number}
use Rattle.model.proofs.Packing.{none_packed, stands_alone}
use Rattle.spool_index.specs.declared.places.ChangePlace.{ChangePlace}
use Rattle.spool_reading.specs.Sorted.{AreSorted}

most_of_one : (format : ℕ) → format ≡ 1 → most_octets format ≡ largest_file_one
most_of_one format one = ap (λ (b : Bool). cond {A = ℕ} b largest_file_one largest_file) (eq-eqb format 1 one)

most_of_another : (format : ℕ) → format ≢ 1 → most_octets format ≡ largest_file
most_of_another format other = ap (λ (b : Bool). cond {A = ℕ} b largest_file_one largest_file) (ne_eqb format 1 other)

-- the file may be in a volume of format 1
abbrev IsSmall : File → Type 0
IsSmall file = length file.content ≤ largest_file_one

module _ (format : ℕ) (host : Octets) (inodes : ℕ) (blocks : List Octets) (room : HasRoom inodes blocks) (S : Spool) where
  -- without a pack the files are those of the spool
  same_files : HasNoPack (files_in (table inodes blocks)) → (held : Holds host inodes blocks S) → IsPermutation held.files (files_of S)
  same_files alone held =
      (stands_alone held.files (files_of S) (subst (λ (fs : List File). HasNoPack fs) (sym held.held.contents) alone)).0 held.same

  of_format : AreWithin (most_octets format) inodes blocks → (format ≤ 2 → HasNoPack (files_in (table inodes blocks)))
      → Holds host inodes blocks S → AreOfFormat format (files_of S)
  of_format within alone held one =
      let small = subst (λ (n : ℕ). AreWithin n inodes blocks) (most_of_one format one) within in
      All-permutation IsSmall held.files (files_of S) (same_files (alone (omega (arith, one))) held)
      ((sizes_bound largest_file_one inodes blocks held.files room held.held).0 small)

  pub holds_in : AreWithin (most_octets format) inodes blocks → (format ≤ 2 → HasNoPack (files_in (table inodes blocks)))
      → Holds host inodes blocks S → HoldsIn format host inodes blocks S
  holds_in within alone held = record { held = held; no_pack = alone; of_format = of_format within alone held }

  -- no inode has more than the largest file
  never_larger : IsFileSystem inodes blocks → AreWithin largest_file inodes blocks
  never_larger fs k low = elim (fs.each k low) [
    | inl free ↦ (let none = zero_number 4 8 (entry inodes blocks k).inode free.inode_zeros in omega (arith, none))
    | inr file ↦ file.small
  ]

  small_within : HasNoPack (files_in (table inodes blocks)) → Holds host inodes blocks S → All IsSmall (files_of S)
      → AreWithin largest_file_one inodes blocks
  small_within alone held all =
      let other_order = IsPermutation-sym held.files (files_of S) (same_files alone held) in
      (sizes_bound largest_file_one inodes blocks held.files room held.held).1
      (All-permutation IsSmall (files_of S) held.files other_order all)

  pub within_format : HoldsIn format host inodes blocks S → AreWithin (most_octets format) inodes blocks
  within_format holds = elim (cases_eq format 1) [
    | inl one ↦ subst (λ (n : ℕ). AreWithin n inodes blocks) (sym (most_of_one format one))
        (small_within (holds.no_pack (omega (arith, one))) holds.held (holds.of_format one))
    | inr other ↦ subst (λ (n : ℕ). AreWithin n inodes blocks) (sym (most_of_another format other)) (never_larger holds.held.held.rule)
  ]

-- ---- whether there is a pack

-- where nothing is packed there is no pack
pub no_pack : (stored files : List File) (s : StandFor stored files) → s.packed ≡ [] → HasNoPack stored
no_pack stored files s none =
    let plain_all : s.plain ++ pack_of s.packed ≡ s.plain = ap (λ (fs : List File). s.plain ++ pack_of fs) none ∙ append-nil s.plain in
    All-permutation (λ (f : File). f.name ≢ pack_name) s.plain stored
    (IsPermutation-sym stored s.plain (subst (IsPermutation stored) plain_all s.stored_are)) s.no_pack

module _ (inodes : List (Option File)) (slots : List (Option ChangePlace)) (named : List (Octets × ℕ)) (packed : ℕ)
    (sorted : AreSorted inodes slots named packed) where
  -- so as many as are packed say whether there is one
  pub none_there : packed ≡ 0 → HasNoPack (files_in inodes)
  none_there none =
      no_pack (files_in inodes) sorted.files sorted.stand (nil_from_length sorted.stand.packed (sym sorted.packed_is ∙ none))

  pub none_counted : HasNoPack (files_in inodes) → packed ≡ 0
  none_counted alone =
      sorted.packed_is ∙ ap (λ (fs : List File). length fs) (none_packed (files_in inodes) sorted.files sorted.stand alone)

-- ---- what holds for each answer

pub if_ok : {T E : Type 0} (r : Result T E) (P : Type 0) → P → IfOk r (λ x. P)
if_ok (Ok x) P holds = holds
if_ok (Err e) P holds = tt
