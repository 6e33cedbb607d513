-- A change of the blocks that one entry owns.
use Rattle.std.proofs.Common.{◌≡◌, ◌≢◌, ◌⊎◌, inl, inr, ◌<◌, ◌≤◌, ℕ, zero, suc, true, false, Option, List, [], ◌∷◌, length, set, sym, ◌∙◌}
use Rattle.std.proofs.Common.{ap, subst, arith}
use Rattle.std.specs.List.{All, Contains}
use Rattle.std.proofs.lemmas.Bool.{cases_eq, false≢true}
use Rattle.model.specs.Stream.{Octets}
use Rattle.model.specs.Volume.{AreDistinct}
use Rattle.model.specs.Files.{FileEntry, File, HasRoom, IsFile, IsFree, owned, name_in, entry, slot_of, first_data, is_marked_used, IsUsed}
use Rattle.model.specs.Files.{bitmap_bits, most_blocks}
use Rattle.model.specs.Files.{IsFileSystem, file_at, table}
use Rattle.model.proofs.Owning.{free_kind}
use Rattle.fs_layout.specs.Table.{Makes}
use Rattle.fs_layout.proofs.Tables.{table_set}
use Rattle.fs_layout.proofs.Keeps.{PutsEntry, entry_other, file_other, keeps_room}

-- a list has a number or not
not_in_rest : (x y : ℕ) (xs : List ℕ) → y ≢ x → ¬ (Contains xs x) → ¬ (Contains (y ∷ xs) x)
not_in_rest x y xs other none (zero, low, is) = other is
not_in_rest x y xs other none (suc k, low, is) = none (k, omega arith, is)

pub contained : (xs : List ℕ) (x : ℕ) → Contains xs x ⊎ (Contains xs x → ⊥)
contained [] x = inr (λ h. absurd (omega (arith, h.1)))
contained (y ∷ xs) x = elim (cases_eq y x) [
  | inl same ↦ inl (0, omega arith, same)
  | inr other ↦ elim (contained xs x) [
    | inl there ↦ inl (suc there.0, omega (arith, there.1), there.2)
    | inr none ↦ inr (not_in_rest x y xs other none)
  ]
]

-- FileEntry k owns other blocks than before, and the marks say so. Each that is new to it had no mark. What it no longer
-- owns has none, and no block of another entry is touched.
pub record Reowns (inodes k : ℕ) (touched : ℕ → Type 0) (old new : List Octets) : Type 0 where
  pub here : IsFree (entry inodes new k) ⊎ IsFile (entry inodes new k)
  pub untouched : (l b : ℕ) → l < inodes → l ≢ k → Contains (owned (entry inodes old l)) b → ¬ (touched b)
  pub distinct : AreDistinct (owned (entry inodes new k))
  pub within : (b : ℕ) → Contains (owned (entry inodes new k)) b → (first_data (length old) inodes ≤ b) × (b < length old)
  pub source : (b : ℕ) → Contains (owned (entry inodes new k)) b → Contains (owned (entry inodes old k)) b ⊎ (is_marked_used old b ≡ false)
  pub taken : (b : ℕ) → Contains (owned (entry inodes new k)) b → is_marked_used new b ≡ true
  pub left : (b : ℕ) → b < bitmap_bits (length old) → Contains (owned (entry inodes old k)) b → ¬ (Contains (owned (entry inodes new k)) b)
      → is_marked_used new b ≡ false
  pub same : (b : ℕ) → b < bitmap_bits (length old) → ¬ (Contains (owned (entry inodes old k)) b)
      → ¬ (Contains (owned (entry inodes new k)) b)
      → is_marked_used new b ≡ is_marked_used old b

abbrev pub HasDistinctNames : ℕ → List Octets → Type 0
HasDistinctNames inodes blocks =
    (k l : ℕ) → k < inodes → l < inodes → IsFile (entry inodes blocks k) → IsFile (entry inodes blocks l)
    → name_in (slot_of inodes blocks k) ≡ name_in (slot_of inodes blocks l) → k ≡ l

module _ (inodes k : ℕ) (inode slot : Octets) (touched : ℕ → Type 0) (old new : List Octets) (low : k < inodes)
    (fs : IsFileSystem inodes old) (puts : PutsEntry inodes k inode slot touched old new) (owns : Reowns inodes k touched old new) where
  others : (l : ℕ) → l < inodes → l ≢ k → entry inodes new l ≡ entry inodes old l
  others = entry_other inodes k inode slot touched old new puts fs owns.untouched

  -- what another entry owns, it owned
  was_owned : (l b : ℕ) → l < inodes → l ≢ k → Contains (owned (entry inodes new l)) b → Contains (owned (entry inodes old l)) b
  was_owned l b below other = subst (λ (e : FileEntry). Contains (owned e) b) (others l below other)

  still_owned : (l b : ℕ) → l < inodes → l ≢ k → Contains (owned (entry inodes old l)) b → Contains (owned (entry inodes new l)) b
  still_owned l b below other = subst (λ (e : FileEntry). Contains (owned e) b) (sym (others l below other))

  -- a mark in the old blocks
  was_marked : (b : ℕ) → b < bitmap_bits (length old) → IsUsed inodes old b → is_marked_used old b ≡ true
  was_marked b small used = (fs.bits b small).1 used

  few : (l b : ℕ) → l < inodes → Contains (owned (entry inodes old l)) b → length old ≤ most_blocks → b < bitmap_bits (length old)
  few l b below has room = omega (arith, (fs.within l b below has).1)

  -- k owns no block of another
  apart : length old ≤ most_blocks → (l b : ℕ) → l < inodes → l ≢ k → Contains (owned (entry inodes old l)) b
      → ¬ (Contains (owned (entry inodes new k)) b)
  apart room l b below other has here = elim (owns.source b here) [
    | inl before ↦ other (fs.one_owner l k b below low has before)
    | inr free ↦ false≢true (sym free ∙ was_marked b (few l b below has room) (inr (l, below, has)))
  ]

  module _ (room : length old ≤ most_blocks) where
    one_owner : (l m b : ℕ) → l < inodes → m < inodes → Contains (owned (entry inodes new l)) b → Contains (owned (entry inodes new m)) b
        → l ≡ m
    one_owner l m b below under first second = elim (cases_eq l k) [
      | inl l_is ↦ elim (cases_eq m k) [
        | inl m_is ↦ l_is ∙ sym m_is
        | inr m_other ↦ absurd (apart room m b under m_other (was_owned m b under m_other second)
            (subst (λ (n : ℕ). Contains (owned (entry inodes new n)) b) l_is first))
      ]
      | inr l_other ↦ elim (cases_eq m k) [
        | inl m_is ↦ absurd (apart room l b below l_other (was_owned l b below l_other first)
            (subst (λ (n : ℕ). Contains (owned (entry inodes new n)) b) m_is second))
        | inr m_other ↦ fs.one_owner l m b below under (was_owned l b below l_other first) (was_owned m b under m_other second)
      ]
    ]

    used_if_marked : (b : ℕ) → b < bitmap_bits (length old) → is_marked_used new b ≡ true → IsUsed inodes new b
    used_if_marked b small marked = elim (contained (owned (entry inodes new k)) b) [
      | inl has ↦ inr (k, low, has)
      | inr lacks ↦ elim (contained (owned (entry inodes old k)) b) [
        | inl had ↦ absurd (false≢true (sym (owns.left b small had lacks) ∙ marked))
        | inr never ↦ elim ((fs.bits b small).0 (sym (owns.same b small never lacks) ∙ marked)) [
          | inl reserved ↦ inl (omega (arith, reserved, puts.count))
          | inr owner ↦ elim (cases_eq owner.0 k) [
            | inl is ↦ absurd (never (subst (λ (n : ℕ). Contains (owned (entry inodes old n)) b) is owner.2))
            | inr other ↦ inr (owner.0, owner.1, still_owned owner.0 b owner.1 other owner.2)
          ]
        ]
      ]
    ]

    reserved_marked : (b : ℕ) → b < bitmap_bits (length old) → b < first_data (length old) inodes → is_marked_used new b ≡ true
    reserved_marked b small reserved =
        owns.same b small (λ had. absurd (omega (arith, (fs.within k b low had).0))) (λ has. absurd (omega (arith, (owns.within b has).0)))
        ∙ was_marked b small (inl reserved)

    other_marked : (l b : ℕ) → b < bitmap_bits (length old) → l < inodes → l ≢ k → Contains (owned (entry inodes old l)) b
        → is_marked_used new b ≡ true
    other_marked l b small below other has =
        owns.same b small (λ had. other (fs.one_owner l k b below low has had)) (apart room l b below other has)
        ∙ was_marked b small (inr (l, below, has))

    marked_if_used : (b : ℕ) → b < bitmap_bits (length old) → IsUsed inodes new b → is_marked_used new b ≡ true
    marked_if_used b small used = elim used [
      | inl reserved ↦ reserved_marked b small (omega (arith, reserved, puts.count))
      | inr owner ↦ elim (cases_eq owner.0 k) [
        | inl is ↦ owns.taken b (subst (λ (n : ℕ). Contains (owned (entry inodes new n)) b) is owner.2)
        | inr other ↦ other_marked owner.0 b small owner.1 other (was_owned owner.0 b owner.1 other owner.2)
      ]
    ]

    pub reowned_rule : HasDistinctNames inodes new → IsFileSystem inodes new
    reowned_rule names = record {
      each = λ l below. elim (cases_eq l k) [
        | inl is ↦ subst (λ (n : ℕ). IsFree (entry inodes new n) ⊎ IsFile (entry inodes new n)) (sym is) owns.here
        | inr other ↦ subst (λ (e : FileEntry). IsFree e ⊎ IsFile e) (sym (others l below other)) (fs.each l below)
      ];
      within = λ l b below has. elim (cases_eq l k) [
        | inl is ↦ let inside = owns.within b (subst (λ (n : ℕ). Contains (owned (entry inodes new n)) b) is has) in
            (omega (arith, inside.0, puts.count), omega (arith, inside.1, puts.count))
        | inr other ↦ let inside = fs.within l b below (was_owned l b below other has) in (
          omega (arith, inside.0, puts.count),
          omega (arith, inside.1, puts.count),
        )
      ];
      distinct = λ l below. elim (cases_eq l k) [
        | inl is ↦ subst (λ (n : ℕ). AreDistinct (owned (entry inodes new n))) (sym is) owns.distinct
        | inr other ↦ subst (λ (e : FileEntry). AreDistinct (owned e)) (sym (others l below other)) (fs.distinct l below)
      ];
      one_owner = one_owner;
      bits = λ b small. (used_if_marked b (omega (arith, small, puts.count)), marked_if_used b (omega (arith, small, puts.count)));
      names_distinct = names;
    }

  -- a file that keeps its name
  pub names_kept : IsFile (entry inodes old k) → slot_of inodes new k ≡ slot_of inodes old k → HasDistinctNames inodes new
  names_kept was kept l m below under first second same =
      fs.names_distinct l m below under (file_before l below first) (file_before m under second)
      (sym (ap name_in (slots l below)) ∙ same ∙ ap name_in (slots m under))
    where
      file_before : (n : ℕ) → n < inodes → IsFile (entry inodes new n) → IsFile (entry inodes old n)
      file_before n inside file = elim (cases_eq n k) [
        | inl is ↦ subst (λ (j : ℕ). IsFile (entry inodes old j)) (sym is) was
        | inr other ↦ subst IsFile (others n inside other) file
      ]

      slots : (n : ℕ) → n < inodes → slot_of inodes new n ≡ slot_of inodes old n
      slots n inside = elim (cases_eq n k) [
        | inl is ↦ ap (λ (j : ℕ). slot_of inodes new j) is ∙ kept ∙ ap (λ (j : ℕ). slot_of inodes old j) (sym is)
        | inr other ↦ puts.slots_other n inside other
      ]

  -- no file any more
  pub names_left : IsFree (entry inodes new k) → HasDistinctNames inodes new
  names_left free l m below under first second same = elim (cases_eq l k) [
    | inl l_is ↦ absurd (none l l_is first)
    | inr l_other ↦ elim (cases_eq m k) [
      | inl m_is ↦ absurd (none m m_is second)
      | inr m_other ↦
          fs.names_distinct l m below under (subst IsFile (others l below l_other) first) (subst IsFile (others m under m_other) second)
          (sym (ap name_in (puts.slots_other l below l_other)) ∙ same ∙ ap name_in (puts.slots_other m under m_other))
    ]
  ]
    where
      none : (n : ℕ) → n ≡ k → ¬ (IsFile (entry inodes new n))
      none n is file =
          let kind_is = (subst (λ (j : ℕ). IsFile (entry inodes new j)) is file).kind_is in
          absurd (omega (arith, free_kind (entry inodes new k) free, kind_is))

  -- the files after the change
  pub reowned_makes : HasRoom inodes old → All (λ b. length b ≡ 4096) new → HasDistinctNames inodes new → (file : Option File)
      → file_at inodes new k ≡ file → Makes inodes (set (table inodes old) k file) new
  reowned_makes room whole names file is = record {
    room = keeps_room inodes old new room puts.count whole;
    rule = reowned_rule room.count_few names;
    files_are = table_set inodes k old new file low (file_other inodes k inode slot touched old new puts fs owns.untouched) is;
  }
