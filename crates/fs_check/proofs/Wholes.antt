-- What one entry owns, marked part by part.
use Rattle.std.proofs.Common.{◌≡◌, ◌≢◌, ◌<◌, ◌≤◌, ℕ, ◌+◌, ◌/◌, cond, eqb, List, [], ◌∷◌, ◌++◌, length, map, sym, ◌∙◌, ap, subst, arith}
use Rattle.std.specs.List.{range_with_len}
use Rattle.model.specs.Stream.{Octets}
use Rattle.model.specs.Volume.{number_at}
use Rattle.model.specs.Files.{FileEntry, block_count, double_blocks, entry, entry_of, first_data, indirect_count}
use Rattle.model.specs.Files.{indirect_for}
use Rattle.model.specs.Files.{indirect_pointer, inode_of, owned, pointer}
use Rattle.fs_check.specs.Checking.{CanMark, IsEntry, Marks}
use Rattle.fs_check.proofs.MarkedLists.{cannot_left, cannot_right, marks_append}
use Rattle.fs_check.proofs.Owning.{entry_double, entry_small, entry_table}

module _ (inodes at : ℕ) (blocks : List Octets) (inode : Octets) (is : inode ≡ inode_of blocks at)
    (has : IsEntry (first_data (length blocks) inodes) (length blocks) (entry inodes blocks at)) (count tables number : ℕ)
    (count_is : count ≡ (number_at 4 8 inode + 4095) / 4096) (tables_is : tables ≡ indirect_for count)
    (number_is : number ≡ number_at 56 4 inode) where
  abbrev e : FileEntry
  e = entry inodes blocks at

  abbrev all : ℕ
  all = length blocks

  count_e : count ≡ block_count e
  count_e = count_is ∙ ap (λ (o : Octets). (number_at 4 8 o + 4095) / 4096) is

  tables_e : tables ≡ indirect_count e
  tables_e = tables_is ∙ ap indirect_for count_e

  pub count_few : count ≤ 1048575
  count_few = let small = entry_small (first_data (length blocks) inodes) (length blocks) (entry inodes blocks at) has in
      omega (arith, small, count_e)

  pub tables_few : tables ≤ 1024
  tables_few = omega (arith, count_few, tables_is)

  pub double_there : 1 < tables → (number_at 56 4 inode ≢ 0) × (number_at 56 4 inode < length blocks)
  double_there more =
      subst (λ (o : Octets). (number_at 56 4 o ≢ 0) × (number_at 56 4 o < length blocks)) (sym is)
      (entry_double (first_data (length blocks) inodes) (length blocks) (entry inodes blocks at) (omega arith) has
      (omega (arith, more, tables_e)))

  pub table_there : (p : ℕ) → p < tables
      → (indirect_pointer (entry_of blocks inode []) p ≢ 0) × (indirect_pointer (entry_of blocks inode []) p < length blocks)
  table_there p less =
      subst (λ (o : Octets). (indirect_pointer (entry_of blocks o []) p ≢ 0) × (indirect_pointer (entry_of blocks o []) p < length blocks))
      (sym is)
      (entry_table (first_data (length blocks) inodes) (length blocks) (entry inodes blocks at) (omega arith) has p
      (omega (arith, less, tables_e)))

  abbrev doubles : List ℕ
  doubles = cond (eqb number 0) [] (number ∷ [])

  abbrev names : List ℕ
  names = map (λ p. indirect_pointer (entry_of blocks inode []) p) (range_with_len 0 tables)

  abbrev pointers : List ℕ
  pointers = map (λ i. pointer (entry_of blocks inode []) i) (range_with_len 0 count)

  owned_is : doubles ++ (names ++ pointers) ≡ owned (entry inodes blocks at)
  owned_is =
      ap (λ (n : ℕ). cond (eqb n 0) [] (n ∷ []) ++ (names ++ pointers)) (number_is ∙ ap (λ (o : Octets). number_at 56 4 o) is)
      ∙ ap (λ (o : Octets). double_blocks e ++
      (map (λ p. indirect_pointer (entry_of blocks o []) p) (range_with_len 0 tables) ++ map (λ i. pointer (entry_of blocks o []) i)
      (range_with_len 0 count))) is
      ∙ ap (λ (t : ℕ). double_blocks e ++
      (map (λ p. indirect_pointer e p) (range_with_len 0 t) ++ map (λ i. pointer e i) (range_with_len 0 count))) tables_e
      ∙ ap (λ (n : ℕ). double_blocks e ++
      (map (λ p. indirect_pointer e p) (range_with_len 0 (indirect_count e)) ++ map (λ i. pointer e i) (range_with_len 0 n))) count_e

  pub marks_whole : (a b c d : Octets) → Marks all doubles a b → Marks all names b c → Marks all pointers c d
      → Marks (length blocks) (owned (entry inodes blocks at)) a d
  marks_whole a b c d first second third =
      subst (λ (l : List ℕ). Marks (length blocks) l a d) owned_is
      (marks_append all doubles (names ++ pointers) a b first d (marks_append all names pointers b c second d third))

  pub cannot_double : (a : Octets) → ¬ (CanMark all doubles a) → ¬ (CanMark (length blocks) (owned (entry inodes blocks at)) a)
  cannot_double a cannot = subst (λ (l : List ℕ). ¬ (CanMark (length blocks) l a)) owned_is
      (cannot_left all doubles (names ++ pointers) a cannot)

  pub cannot_tables : (a b : Octets) → Marks all doubles a b → ¬ (CanMark all names b)
      → ¬ (CanMark (length blocks) (owned (entry inodes blocks at)) a)
  cannot_tables a b first cannot =
      subst (λ (l : List ℕ). ¬ (CanMark (length blocks) l a)) owned_is
      (cannot_right all doubles (names ++ pointers) a b first (cannot_left all names pointers b cannot))

  pub cannot_pointers : (a b c : Octets) → Marks all doubles a b → Marks all names b c → ¬ (CanMark all pointers c)
      → ¬ (CanMark (length blocks) (owned (entry inodes blocks at)) a)
  cannot_pointers a b c first second cannot =
      subst (λ (l : List ℕ). ¬ (CanMark (length blocks) l a)) owned_is
      (cannot_right all doubles (names ++ pointers) a b first (cannot_right all names pointers b c second cannot))
