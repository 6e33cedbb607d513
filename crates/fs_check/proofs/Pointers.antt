-- Pointers past those that an inode has.
use Rattle.std.proofs.Common.{◌≡◌, ◌≢◌, ◌⊎◌, inl, inr, ◌<◌, ◌≤◌, ℕ, zero, suc, ◌+◌, ◌-◌, ◌*◌, ◌/◌, ◌%◌, cond, Bool, List, [], length}
use Rattle.std.proofs.Common.{get_or, drop, refl, ◌∙◌, ap, arith}
use Rattle.std.specs.List.{All}
use Rattle.std.proofs.lemmas.List.{get_or-drop, get_or_past}
use Rattle.std.proofs.lemmas.Bool.{le-ltb, ne_eqb}
use Rattle.byteorder.specs.Endian.{little_from}
use Rattle.model.specs.Stream.{Octets}
use Rattle.model.specs.Volume.{number_at}
use Rattle.model.specs.Files.{FileEntry, entry_of, indirect_of, indirect_pointer, pointer}
use Rattle.model.proofs.Formats.{no_block}
use Rattle.fs_check.specs.Checking.{HasNumber, HasTables}

-- a number after the octets is 0
pub past_number : (at n : ℕ) (octets : Octets) → length octets ≤ at → number_at at n octets ≡ 0
unfolding number_at
past_number at n octets past = from 0 n
  where
    from : (i n : ℕ) → little_from i n (drop at octets) ≡ 0
    from i zero = refl
    from i (suc n) =
        let first : get_or (drop at octets) i 0 ≡ 0 = get_or-drop at octets i 0 ∙ get_or_past octets (at + i) 0 (omega (arith, past)) in
        let rest = from (suc i) n in
        omega (arith, first, rest)

module _ (first tables : ℕ) (blocks : List Octets) (inode : Octets) (whole : All (λ b. length b ≡ 4096) blocks) (some : 0 < first) where
  abbrev e : FileEntry
  e = entry_of blocks inode []

  long : HasNumber first (length blocks) 1 tables (number_at 56 4 inode) → length (indirect_of blocks (number_at 56 4 inode)) ≤ 4096
  long (inl there) =
      let block : indirect_of blocks (number_at 56 4 inode) ≡ get_or blocks (number_at 56 4 inode) [] =
      ap (λ (t : Bool). cond t [] (get_or blocks (number_at 56 4 inode) []))
      (ne_eqb (number_at 56 4 inode) 0 (λ none. absurd (omega (arith, some, none, there.1)))) in
      let size = ap (λ (o : Octets). length o) block ∙ whole (number_at 56 4 inode) [] there.2 in
      omega (arith, size)
  long (inr none) = let size = ap (λ (o : Octets). length o) (no_block blocks (number_at 56 4 inode) none.1) in omega (arith, size)

  short : tables ≤ 1 → HasNumber first (length blocks) 1 tables (number_at 56 4 inode)
      → length (indirect_of blocks (number_at 56 4 inode)) ≡ 0
  short few (inl there) = absurd (omega (arith, few, there.0))
  short few (inr none) = ap (λ (o : Octets). length o) (no_block blocks (number_at 56 4 inode) none.1)

  in_double : (p : ℕ) → p ≢ 0 → indirect_pointer (entry_of blocks inode []) p ≡ number_at (4 * (p - 1)) 4
      (indirect_of blocks (number_at 56 4 inode))
  in_double p other = ap (λ (t : Bool). cond t (number_at 52 4 inode)
      (number_at (4 * (p - 1)) 4 (indirect_of blocks (number_at 56 4 inode)))) (ne_eqb p 0 other)

  -- there is no block of pointers past their places
  pub no_table_past : (end : ℕ) → ((1 < tables) × (end ≡ 1025)) ⊎ ((tables ≤ 1) × (end ≡ 1))
      → HasNumber first (length blocks) 1 tables (number_at 56 4 inode) → (p : ℕ) → end ≤ p
      → indirect_pointer (entry_of blocks inode []) p ≡ 0
  no_table_past end (inl more) double p past =
      in_double p (λ none. absurd (omega (arith, none, past, more.1)))
      ∙ past_number (4 * (p - 1)) 4 (indirect_of blocks (number_at 56 4 inode)) (let size = long double in
      omega (arith, size, past, more.1))
  no_table_past end (inr few) double p past =
      in_double p (λ none. absurd (omega (arith, none, past, few.1)))
      ∙ past_number (4 * (p - 1)) 4 (indirect_of blocks (number_at 56 4 inode)) (let size = short few.0 double in omega (arith, size))

  -- there is no pointer past those in the blocks of pointers
  pub no_pointer_past : HasTables first (length blocks) tables (entry_of blocks inode []) → (i : ℕ) → 10 + 1024 * tables ≤ i
      → pointer (entry_of blocks inode []) i ≡ 0
  no_pointer_past has i past =
      let none : indirect_pointer (entry_of blocks inode []) ((i - 10) / 1024) ≡ 0 =
      zero_named ((i - 10) / 1024) (omega (arith, past)) (has ((i - 10) / 1024)) in
      ap (λ (t : Bool). cond t (number_at (12 + 4 * i) 4 inode)
      (number_at (4 * ((i - 10) % 1024)) 4 ((entry_of blocks inode []).pointers ((i - 10) / 1024)))) (le-ltb i 10 (omega (arith, past)))
      ∙ ap (number_at (4 * ((i - 10) % 1024)) 4) (no_block blocks (indirect_pointer (entry_of blocks inode []) ((i - 10) / 1024)) none)
      ∙ past_number (4 * ((i - 10) % 1024)) 4 [] (omega arith)
    where
      zero_named : (p : ℕ) → tables ≤ p → HasNumber first (length blocks) p tables (indirect_pointer (entry_of blocks inode []) p)
          → indirect_pointer (entry_of blocks inode []) p ≡ 0
      zero_named p high (inl there) = absurd (omega (arith, high, there.0))
      zero_named p high (inr none) = none.1
