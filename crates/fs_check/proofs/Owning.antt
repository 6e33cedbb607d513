-- What entries own, marked one entry after the other.
use Rattle.std.proofs.Common.{◌≡◌, ◌≢◌, inl, inr, ◌<◌, ◌≤◌, ℕ, ◌+◌, List}
use Rattle.std.proofs.Common.{length, sym, ◌∙◌, subst, arith}
use Rattle.std.specs.List.{Contains}
use Rattle.std.proofs.lemmas.Bool.{cases_lt, false≢true, false_from_ne_true}
use Rattle.model.specs.Stream.{Octets}
use Rattle.model.specs.Volume.{AreDistinct}
use Rattle.model.specs.Files.{FileEntry, size, double_pointer, indirect_count, indirect_pointer, owned, entry, first_data, largest_file}
use Rattle.model.proofs.Owning.{zero_number}
use Rattle.fs_layout.specs.Bits.{bit_of}
use Rattle.fs_check.specs.Checking.{IsEntry, CanMark, HasNumber, Marks, HasOwners, IsUsedBelow, MarksUsed}

pub entry_small : (first count : ℕ) (e : FileEntry) → IsEntry first count e → size e ≤ largest_file
entry_small first count e (inl free) = omega (arith, zero_number 4 8 e.inode free.inode_zeros)
entry_small first count e (inr file) = omega (arith, file.0.small)

-- the blocks that an entry names can be read
pub number_there : (first count place many n : ℕ) → 0 < first → HasNumber first count place many n → place < many → (n ≢ 0) × (n < count)
number_there first count place many n some (inl there) low = ((λ none. absurd (omega (arith, some, none, there.1))), there.2)
number_there first count place many n some (inr none) low = absurd (omega (arith, low, none.0))

pub entry_double : (first count : ℕ) (e : FileEntry) → 0 < first → IsEntry first count e → 1 < indirect_count e
    → (double_pointer e ≢ 0) × (double_pointer e < count)
entry_double first count e some (inl free) more = let none = zero_number 4 8 e.inode free.inode_zeros in absurd (omega (arith, none, more))
entry_double first count e some (inr file) more = number_there first count 1 (indirect_count e) (double_pointer e) some file.1.double more

pub entry_table : (first count : ℕ) (e : FileEntry) → 0 < first → IsEntry first count e → (p : ℕ) → p < indirect_count e
    → (indirect_pointer e p ≢ 0) × (indirect_pointer e p < count)
entry_table first count e some (inl free) p less = let none = zero_number 4 8 e.inode free.inode_zeros in absurd (omega (arith, none, less))
entry_table first count e some (inr file) p less =
    number_there first count p (indirect_count e) (indirect_pointer e p) some (file.1.tables p) less

-- ---- one entry more

module _ (at inodes : ℕ) (blocks : List Octets) (old : Octets) (owners : HasOwners at inodes blocks)
    (used : MarksUsed at inodes blocks old) where
  abbrev owns : ℕ → ℕ → Type 0
  owns k b = Contains (owned (entry inodes blocks k)) b

  pub owners_more : (new : Octets) → Marks (length blocks) (owned (entry inodes blocks at)) old new
      → HasOwners (at + 1) inodes blocks × MarksUsed (at + 1) inodes blocks new
  owners_more new marks = (
    record {
      within = λ k b low has. elim (cases_lt k at) [
        | inl below ↦ owners.within k b below has
        | inr last ↦ within_last b (subst (λ (m : ℕ). owns m b) (is_last k low last) has)
      ];
      distinct = λ k low. elim (cases_lt k at) [
        | inl below ↦ owners.distinct k below
        | inr last ↦ subst (λ (m : ℕ). AreDistinct (owned (entry inodes blocks m))) (sym (is_last k low last)) marks.can.distinct
      ];
      one_owner = λ k l b low low' has has'. elim (cases_lt k at) [
        | inl below ↦ elim (cases_lt l at) [
          | inl below' ↦ owners.one_owner k l b below below' has has'
          | inr last' ↦ absurd (apart k b below has (subst (λ (m : ℕ). owns m b) (is_last l low' last') has'))
        ]
        | inr last ↦ elim (cases_lt l at) [
          | inl below' ↦ absurd (apart l b below' has' (subst (λ (m : ℕ). owns m b) (is_last k low last) has))
          | inr last' ↦ is_last k low last ∙ sym (is_last l low' last')
        ]
      ];
    },
    λ b. (
      (λ set. elim ((marks.marked b).0 set) [
        | inl was ↦ elim ((used b).0 was) [
          | inl reserved ↦ inl reserved
          | inr owner ↦ inr (owner.0, omega (arith, owner.1), owner.2)
        ]
        | inr has ↦ inr (at, omega arith, has)
      ]),
      (λ now. (marks.marked b).1 (elim now [
        | inl reserved ↦ inl ((used b).1 (inl reserved))
        | inr owner ↦ elim (cases_lt owner.0 at) [
          | inl below ↦ inl ((used b).1 (inr (owner.0, below, owner.2)))
          | inr last ↦ inr (subst (λ (m : ℕ). owns m b) (is_last owner.0 owner.1 last) owner.2)
        ]
      ])),
    ),
  )
    where
      is_last : (k : ℕ) → k < at + 1 → at ≤ k → k ≡ at
      is_last k low last = omega arith

      unused : (b : ℕ) → owns at b → ¬ (IsUsedBelow at inodes blocks b)
      unused b has now = false≢true (sym (marks.can.clear b has) ∙ (used b).1 now)

      within_last : (b : ℕ) → owns at b → (first_data (length blocks) inodes ≤ b) × (b < length blocks)
      within_last b has = elim (cases_lt b (first_data (length blocks) inodes)) [
        | inl reserved ↦ absurd (unused b has (inl reserved))
        | inr behind ↦ (behind, marks.can.within b has)
      ]

      apart : (k b : ℕ) → k < at → owns k b → owns at b → ⊥
      apart k b below has has' = unused b has' (inr (k, below, has))

  pub owners_refused : at < inodes → ¬ (CanMark (length blocks) (owned (entry inodes blocks at)) old) → ¬ (HasOwners inodes inodes blocks)
  owners_refused low cannot all = cannot (record {
    distinct = all.distinct at low;
    within = λ b has. (all.within at b low has).1;
    clear = λ b has. false_from_ne_true (bit_of old b) (λ was. elim ((used b).0 was) [
      | inl reserved ↦ omega (arith, (all.within at b low has).0)
      | inr owner ↦ omega (arith, owner.1, all.one_owner owner.0 at b (omega (arith, owner.1)) low owner.2 has)
    ]);
  })
