-- One block more.
use Rattle.std.proofs.Common.{◌≡◌, inl, inr, ◌<◌, ◌≤◌, ℕ, ◌+◌, ◌-◌, ◌/◌, cond, eqb, List, [], ◌∷◌, ◌++◌, length}
use Rattle.std.proofs.Common.{get_or, sym, ◌∙◌, ap, subst, arith, append_assoc}
use Rattle.model.specs.Stream.{Octets}
use Rattle.model.specs.Volume.{number_at}
use Rattle.model.specs.Files.{FileEntry, double_blocks, indirect_for, indirect_pointer, pointer, is_marked_used}
use Rattle.model.specs.Files.{bitmap_blocks}
use Rattle.model.specs.Files.{bitmap_bits, most_blocks}
use Rattle.model.specs.Files.{free_blocks}
use Rattle.fs_inodes.specs.Growing.{AddsBlock, AddsTable, IsApart, IsTaken, NamesBlocks, PutsPointer, TakesBlocks, inode_entry, tables_to}
use Rattle.fs_inodes.specs.Growing.{with_double, with_indirect}
use Rattle.fs_layout.specs.Marks.{TakesBlock}
use Rattle.fs_layout.specs.Blocks.{IsThere}
use Rattle.fs_layout.proofs.Keeps.{marks_same}
use Rattle.fs_layout.proofs.Marking.{one_less_free, same_free}
use Rattle.fs_inodes.proofs.Tables.{entry_stays, is_apart, map_same_below, names_same, names_stay}
use Rattle.fs_inodes.proofs.Taking.{taken_still, takes_both, takes_one, takes_then}

module _ (i number : ℕ) (inode : Octets) (old mid : List Octets) (few : length old ≤ most_blocks) (first : TakesBlock number old mid)
    (named : NamesBlocks (indirect_for i) (inode_entry old inode) old) where
  same : (b : ℕ) → IsTaken old b → get_or mid b [] ≡ get_or old b []
  same b taken = first.sets.blocks b taken.some

  mid_is : inode_entry mid inode ≡ inode_entry old inode
  mid_is = entry_stays (indirect_for i) inode old mid named same

  pub names_mid : NamesBlocks (indirect_for i) (inode_entry mid inode) mid
  names_mid = names_stay (indirect_for i) inode old mid named same
      (taken_still (number ∷ []) old mid few first.sets.count (takes_one number old mid few first))

  pub free_mid : with_indirect (i + 1) ≤ free_blocks old + with_indirect i
      → with_double (indirect_for (i + 1)) ≤ free_blocks mid + with_double (indirect_for i)
  free_mid enough = sums (free_blocks mid) (free_blocks old) (with_double (indirect_for (i + 1))) (with_double (indirect_for i)) i
      (one_less_free number old mid first) enough
    where
      sums : (a b x y i : ℕ) → a + 1 ≡ b → i + 1 + x ≤ b + (i + y) → x ≤ a + y
      sums a b x y i less fits = omega (arith, less, fits)

  pub free_some : with_indirect (i + 1) ≤ free_blocks old + with_indirect i → 0 < free_blocks old
  free_some enough = omega (arith, one_less_free number old mid first)

  module _ (inode1 : Octets) (then : List Octets) (table : AddsTable i inode inode1 mid then) where
    -- what the place of the pointer requires
    pub double_there : 1034 ≤ i → IsThere (number_at 56 4 inode1) then
    double_there many = let taken = table.names.double (omega (arith, many)) in
        ((λ none. absurd (let some = taken.some in omega (arith, some, none))), taken.there)

    pub table_there : 10 ≤ i → (bitmap_blocks (length then) ≤ indirect_pointer (inode_entry then inode1) ((i - 10) / 1024))
        × (indirect_pointer (inode_entry then inode1) ((i - 10) / 1024) < length then)
    table_there high = let taken = table.names.there ((i - 10) / 1024) (omega (arith, high)) in (taken.some, taken.there)

    pub table_apart : 10 ≤ i → IsApart ((i - 10) / 1024) (inode_entry then inode1)
    table_apart high = is_apart (indirect_for (i + 1)) (inode_entry then inode1) then table.names ((i - 10) / 1024) (omega (arith, high))

    module _ (inode2 : Octets) (new : List Octets) (puts : PutsPointer i number inode1 inode2 then new) where
      abbrev e : FileEntry
      e = inode_entry old inode

      abbrev f : FileEntry
      f = inode_entry new inode2

      double_is : number_at 56 4 inode2 ≡ number_at 56 4 inode1
      double_is = puts.tail 56 4 (omega arith)

      count_then : length then ≡ length old
      count_then = table.count ∙ first.sets.count

      mark_new : (b : ℕ) → b < bitmap_bits (length old) → is_marked_used new b ≡ is_marked_used then b
      mark_new = marks_same then new (bitmap_blocks (length old)) (λ t few_t. puts.marks t (omega (arith, few_t, count_then)))

      from_then : (b : ℕ) → IsTaken then b → IsTaken new b
      from_then b taken = record {
        some = omega (arith, taken.some, puts.count);
        there = omega (arith, taken.there, puts.count);
        marked = mark_new b (omega (arith, taken.there, few, count_then)) ∙ taken.marked;
      }

      all_taken : TakesBlocks ((table.doubles ++ table.tables) ++ number ∷ []) old new
      all_taken =
          takes_then ((table.doubles ++ table.tables) ++ number ∷ []) old then new few count_then puts.count mark_new
          (takes_both (number ∷ []) (table.doubles ++ table.tables) old mid then few first.sets.count table.count
          (takes_one number old mid few first) table.takes)

      fewer_new : free_blocks new + with_indirect (i + 1) ≡ free_blocks old + with_indirect i
      fewer_new =
          sums (free_blocks new) (free_blocks then) (free_blocks mid) (free_blocks old) (with_double (indirect_for (i + 1)))
          (with_double (indirect_for i)) i
          (same_free then new puts.count (λ b inside. mark_new b (omega (arith, inside, few, count_then))))
          table.fewer (one_less_free number old mid first)
        where
          sums : (n t m o x y i : ℕ) → n ≡ t → t + x ≡ m + y → m + 1 ≡ o → n + (i + 1 + x) ≡ o + (i + y)
          sums n t m o x y i one two three = omega (arith, one, two, three)

      pub adds_block : AddsBlock i number inode inode2 old new
      adds_block = record {
        count = puts.count ∙ count_then;
        whole = λ all. puts.whole (table.whole (first.sets.whole all));
        size = puts.size ∙ table.size;
        here = puts.here;
        other = λ j apart. puts.other j apart ∙ table.same j ∙ ap (λ (e : FileEntry). pointer e j) mid_is;
        head = λ a w before. puts.head a w before ∙ table.head a w (omega (arith, before));
        tail = λ a w behind. puts.tail a w (omega (arith, behind)) ∙ table.tail a w behind;
        names = names_same (indirect_for (i + 1)) (inode_entry then inode1) then table.names f new puts.indirect double_is from_then;
        double_stays = elim table.double_stays [ inl none ↦ inl none | inr stays ↦ inr (double_is ∙ stays) ];
        tables_stay = λ p. elim (table.tables_stay p) [
          | inl none ↦ inl (sym (ap (λ (e : FileEntry). indirect_pointer e p) mid_is) ∙ none)
          | inr stays ↦ inr (puts.indirect p ∙ stays ∙ ap (λ (e : FileEntry). indirect_pointer e p) mid_is)
        ];
        doubles = table.doubles;
        doubles_are = ap (λ (m : ℕ). cond (eqb m 0) [] (m ∷ [])) double_is ∙ table.doubles_are
            ∙ ap (λ (e : FileEntry). double_blocks e ++ table.doubles) mid_is;
        tables = table.tables;
        tables_are =
            map_same_below (λ p. indirect_pointer f p) (λ p. indirect_pointer (inode_entry then inode1) p) 0 (indirect_for (i + 1))
            (λ p low. puts.indirect p)
            ∙ table.tables_are ∙ ap (λ (e : FileEntry). tables_to e (indirect_for i) ++ table.tables) mid_is;
        takes = subst (λ (l : List ℕ). TakesBlocks l old new) (append_assoc table.doubles table.tables (number ∷ [])) all_taken;
        fewer = fewer_new;
        blocks = λ b some apart second.
            puts.blocks b (λ is. second (is ∙ sym (puts.indirect ((i - 10) / 1024))))
            ∙ table.blocks b (omega (arith, some, first.sets.count)) (λ is. apart (is ∙ sym double_is))
            (λ is. second (is ∙ sym (puts.indirect ((i - 10) / 1024))))
            ∙ first.sets.blocks b some;
      }
