-- The sizes in the inodes are the lengths of the files.
use Rattle.std.proofs.Common.{◌≡◌, inl, inr, ◌<◌, ◌≤◌, ℕ, zero, suc, ◌+◌, cond, eqb, List, ◌++◌, length, map, sym, ap, subst, arith}
use Rattle.std.specs.Prelude.{Option, Some, None}
use Rattle.std.specs.List.{All, range_with_len}
use Rattle.std.specs.Option.{option_to_list}
use Rattle.std.proofs.lemmas.Bool.{cases_eq}
use Rattle.std.proofs.lemmas.List.Elements.{All-cons, All-head, All-nil, All-tail}
use Rattle.model.specs.Stream.{Octets}
use Rattle.model.specs.Files.{File, HasRoom, IsFile, IsFree, IsFileSystem, content_of, entry, file_at, files_in, name_in, size, slot_of}
use Rattle.model.specs.Laws.Formats.{SizesBoundFiles}
use Rattle.model.proofs.Owning.{content_size, free_kind, zero_number}

module _ (most inodes : ℕ) (blocks : List Octets) (room : HasRoom inodes blocks) (fs : IsFileSystem inodes blocks) where
  abbrev IsSmall : File → Type 0
  IsSmall file = length file.content ≤ most

  abbrev there : ℕ → Option File
  there k = file_at inodes blocks k

  abbrev its_file : ℕ → File
  its_file k = record { name = name_in (slot_of inodes blocks k); content = content_of blocks (entry inodes blocks k) }

  none_at : (k : ℕ) → IsFree (entry inodes blocks k) → there k ≡ None
  none_at k free = ap (λ (n : ℕ). cond (eqb n 0) None (Some (its_file k))) (free_kind (entry inodes blocks k) free)

  file_there : (k : ℕ) → IsFile (entry inodes blocks k) → there k ≡ Some (its_file k)
  file_there k file = ap (λ (n : ℕ). cond (eqb n 0) None (Some (its_file k))) file.kind_is

  its_size : (k : ℕ) → k < inodes → length (content_of blocks (entry inodes blocks k)) ≡ size (entry inodes blocks k)
  its_size k low = content_size blocks (entry inodes blocks k) room.blocks_whole (λ b has. (fs.within k b low has).1)

  within_to : (a n : ℕ) → a + n ≤ inodes → ((k : ℕ) → a ≤ k → k < a + n → size (entry inodes blocks k) ≤ most)
      → All IsSmall (files_in (map there (range_with_len a n)))
  within_to a zero few each = All-nil IsSmall
  within_to a (suc n) few each =
      let rest = within_to (a + 1) n (omega (arith, few)) (λ k low high. each k (omega (arith, low)) (omega (arith, high))) in
      elim (fs.each a (omega (arith, few))) [
        | inl free ↦ subst (λ (o : Option File). All IsSmall (option_to_list o ++ files_in (map there (range_with_len (a + 1) n))))
            (sym (none_at a free)) rest
        | inr file ↦
            let small : length (content_of blocks (entry inodes blocks a)) ≤ most =
            omega (arith, its_size a (omega (arith, few)), each a (omega arith) (omega arith)) in
            subst (λ (o : Option File). All IsSmall (option_to_list o ++ files_in (map there (range_with_len (a + 1) n))))
            (sym (file_there a file))
            (All-cons IsSmall (its_file a) (files_in (map there (range_with_len (a + 1) n))) small rest)
      ]

  within_from : (a n : ℕ) → a + n ≤ inodes → All IsSmall (files_in (map there (range_with_len a n))) → (k : ℕ) → a ≤ k → k < a + n
      → size (entry inodes blocks k) ≤ most
  within_from a zero few all k low high = absurd (omega (arith, low, high))
  within_from a (suc n) few all k low high =
      elim (fs.each a (omega (arith, few))) [
        | inl free ↦
            let rest = subst (λ (o : Option File). All IsSmall (option_to_list o ++ files_in (map there (range_with_len (a + 1) n))))
            (none_at a free) all in
            elim (cases_eq k a) [
              | inl is ↦
                  let none : size (entry inodes blocks a) ≡ 0 = zero_number 4 8 (entry inodes blocks a).inode free.inode_zeros in
                  subst (λ (j : ℕ). size (entry inodes blocks j) ≤ most) (sym is) (omega (arith, none))
              | inr other ↦ within_from (a + 1) n (omega (arith, few)) rest k (omega (arith, low, other)) (omega (arith, high))
            ]
        | inr file ↦
            let both = subst (λ (o : Option File). All IsSmall (option_to_list o ++ files_in (map there (range_with_len (a + 1) n))))
            (file_there a file) all in
            elim (cases_eq k a) [
              | inl is ↦
                  let small : length (content_of blocks (entry inodes blocks a)) ≤ most =
                  All-head IsSmall (its_file a) (files_in (map there (range_with_len (a + 1) n))) both in
                  subst (λ (j : ℕ). size (entry inodes blocks j) ≤ most) (sym is) (omega (arith, small, its_size a (omega (arith, few))))
              | inr other ↦ within_from (a + 1) n (omega (arith, few))
                  (All-tail IsSmall (its_file a) (files_in (map there (range_with_len (a + 1) n))) both) k (omega (arith, low, other))
                  (omega (arith, high))
            ]
      ]

pub sizes_bound : SizesBoundFiles
sizes_bound most inodes blocks files room held = (
  λ within. subst (λ (l : List File). All (λ (file : File). length file.content ≤ most) l) (sym held.contents)
      (within_to most inodes blocks room held.rule 0 inodes (omega arith) (λ k low high. within k (omega (arith, high)))),
  λ all k low.
      within_from most inodes blocks room held.rule 0 inodes (omega arith)
      (subst (λ (l : List File). All (λ (file : File). length file.content ≤ most) l) held.contents all) k (omega arith)
      (omega (arith, low)),
)
