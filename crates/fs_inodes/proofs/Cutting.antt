-- A file that is cut in its last block.
use Rattle.std.proofs.Common.{◌≡◌, ◌⊎◌, inl, inr, ◌<◌, ◌≤◌, ℕ, ◌+◌, ◌-◌, ◌*◌, ◌/◌, ◌%◌, cond, eqb, ltb, List, [], ◌∷◌, ◌++◌, length, get_or}
use Rattle.std.proofs.Common.{map, take, refl, sym, ◌∙◌, ap, subst, arith}
use Rattle.std.specs.List.{All, Contains, range_with_len}
use Rattle.byteorder.specs.Endian.{little_bytes}
use Rattle.disk.specs.Image.{overwritten}
use Rattle.disk_numbers.proofs.Numbers.{number_at_apart, number_at_written}
use Rattle.model.specs.Stream.{Octets}
use Rattle.model.specs.Volume.{number_at}
use Rattle.model.specs.Files.{FileEntry, HasRoom, IsFile, size, block_count, pointer, owned, double_blocks, double_pointer, indirect_count}
use Rattle.model.specs.Files.{bitmap_blocks}
use Rattle.model.specs.Files.{indirect_for, indirect_pointer, content_of, entry, entry_of, inode_of, slot_of, indirect_of, IsFileSystem}
use Rattle.model.proofs.Owning.{owns_pointer}
use Rattle.fs_layout.specs.Blocks.{PutsRecord}
use Rattle.fs_inodes.specs.Changes.{ReplacesContent, SameMarks}
use Rattle.fs_layout.specs.Touches.{TouchesInode}
use Rattle.fs_layout.proofs.Entries.{owns_double, owns_indirect}
use Rattle.fs_inodes.specs.Growing.{tables_to}
use Rattle.fs_inodes.proofs.Owned.{owned_to}
use Rattle.fs_inodes.proofs.Fields.{length-inode, map_same, content_front}
use Rattle.fs_layout.proofs.Keeps.{PutsEntry, indirect_same, puts_inode, inode_keeps_marks, same_entry}
use Rattle.fs_inodes.proofs.Replacing.{rule_keeps, replaces}

module _ (inodes k end : ℕ) (old new : List Octets) (room : HasRoom inodes old) (fs : IsFileSystem inodes old) (low : k < inodes)
    (file : IsFile (entry inodes old k)) (shorter : end ≤ size (entry inodes old k))
    (same_count : (end + 4095) / 4096 ≡ block_count (entry inodes old k))
    (put : PutsRecord (bitmap_blocks (length old)) k (overwritten 4 (little_bytes 8 end) (inode_of old k)) old new) where
  abbrev e : FileEntry
  e = entry inodes old k

  abbrev inode : Octets
  inode = overwritten 4 (little_bytes 8 end) (inode_of old k)

  abbrev cut : FileEntry
  cut = entry_of old (overwritten 4 (little_bytes 8 end) (inode_of old k)) (slot_of inodes old k)

  wide : length (inode_of old k) ≡ 64
  wide = length-inode inodes k old room low

  number_other : (p n : ℕ) → (p + n ≤ 4) ⊎ (12 ≤ p) → number_at p n inode ≡ number_at p n (inode_of old k)
  number_other p n apart =
      number_at_apart 4 (little_bytes 8 end) (inode_of old k) (omega (arith, wide)) p n
      (elim apart [ inl before ↦ inl before | inr behind ↦ inr (omega arith) ])

  sized : size cut ≡ end
  sized = number_at_written 4 8 end (inode_of old k) (omega (arith, wide)) (omega (arith, file.small))

  counted : block_count cut ≡ block_count e
  counted = ap (λ (n : ℕ). (n + 4095) / 4096) sized ∙ same_count

  same_double : double_pointer cut ≡ double_pointer e
  same_double = number_other 56 4 (inr (omega arith))

  same_table : (p : ℕ) → indirect_pointer cut p ≡ indirect_pointer e p
  same_table p =
      ap (λ (m : ℕ). cond (eqb p 0) m (number_at (4 * (p - 1)) 4 (indirect_of old (number_at 56 4 inode))))
      (number_other 52 4 (inr (omega arith)))
      ∙ ap (λ (m : ℕ). cond (eqb p 0) (number_at 52 4 (inode_of old k)) (number_at (4 * (p - 1)) 4 (indirect_of old m))) same_double

  same_pointer : (i : ℕ) → pointer cut i ≡ pointer e i
  same_pointer i =
      ap (λ (m : ℕ). cond (ltb i 10) m (number_at (4 * ((i - 10) % 1024)) 4 (indirect_of old (indirect_pointer cut ((i - 10) / 1024)))))
      (number_other (12 + 4 * i) 4 (inr (omega arith)))
      ∙ ap (λ (m : ℕ). cond (ltb i 10) (number_at (12 + 4 * i) 4 (inode_of old k))
      (number_at (4 * ((i - 10) % 1024)) 4 (indirect_of old m))) (same_table ((i - 10) / 1024))

  owns_same : owned cut ≡ owned e
  owns_same =
      ap (λ (m : ℕ). owned_to cut m) counted
      ∙ ap (λ (m : ℕ). cond (eqb m 0) [] (m ∷ []) ++
      (tables_to cut (indirect_count e) ++ map (λ i. pointer cut i) (range_with_len 0 (block_count e)))) same_double
      ∙ ap (λ (l : List ℕ). double_blocks e ++ (l ++ map (λ i. pointer cut i) (range_with_len 0 (block_count e))))
      (map_same (λ p. indirect_pointer cut p) (λ p. indirect_pointer e p) (indirect_count e) (indirect_count e) refl
      (λ p less. same_table p))
      ∙ ap (λ (l : List ℕ). double_blocks e ++ (tables_to e (indirect_count e) ++ l))
      (map_same (λ i. pointer cut i) (λ i. pointer e i) (block_count e) (block_count e) refl (λ i less. same_pointer i))

  puts : PutsEntry inodes k inode (slot_of inodes old k) (λ n. ⊥) old new
  puts = puts_inode inodes k inode old new room.whole low put

  data_same : (n : ℕ) → Contains (owned e) n → get_or new n [] ≡ get_or old n []
  data_same n owns = puts.data_same n (fs.within k n low owns).0 (λ none. none)

  here : entry inodes new k ≡ cut
  here =
      same_entry old new (inode_of new k) inode (slot_of inodes new k) (slot_of inodes old k) puts.inode_is puts.slot_is
      (ap (indirect_of new) same_double
      ∙ indirect_same old new (double_pointer e) (λ some. data_same (double_pointer e) (owns_double e some))
      ∙ sym (ap (indirect_of old) same_double))
      (λ p. ap (indirect_of new) (same_table p)
      ∙ indirect_same old new (indirect_pointer e p)
      (λ some. data_same (indirect_pointer e p) (owns_indirect e p ((file.indirect_where p).1 some)))
      ∙ sym (ap (indirect_of old) (same_table p)))

  tables_same : indirect_count cut ≡ indirect_count e
  tables_same = ap indirect_for counted

  is_file : IsFile cut
  is_file = record {
    kind_is = number_other 0 4 (inl (omega arith)) ∙ file.kind_is;
    small = omega (arith, sized, file.small);
    spare = number_other 60 4 (inr (omega arith)) ∙ file.spare;
    double_where = (
      (λ more is. file.double_where.0 (subst (λ (t : ℕ). 1 < t) tables_same more) (sym same_double ∙ is)),
      (λ some. subst (λ (t : ℕ). 1 < t) (sym tables_same) (file.double_where.1 (λ is. some (same_double ∙ is)))),
    );
    indirect_where = λ p. (
      (λ less is. (file.indirect_where p).0 (subst (λ (t : ℕ). p < t) tables_same less) (sym (same_table p) ∙ is)),
      (λ some. subst (λ (t : ℕ). p < t) (sym tables_same) ((file.indirect_where p).1 (λ is. some (same_table p ∙ is)))),
    );
    no_other_pointer = λ i from. same_pointer i ∙ file.no_other_pointer i (omega (arith, from, counted));
    name_some = file.name_some;
    name_few = file.name_few;
    slot_is = file.slot_is;
  }

  file_now : IsFile (entry inodes new k)
  file_now = subst IsFile (sym here) is_file

  whole : All (λ b. length b ≡ 4096) new
  whole = put.whole room.blocks_whole

  inside : (b : ℕ) → Contains (owned e) b → b < length old
  inside b has = (fs.within k b low has).1

  inside_now : (b : ℕ) → Contains (owned cut) b → b < length new
  inside_now b has = omega (arith, inside b (subst (λ (o : List ℕ). Contains o b) owns_same has), put.count)

  content_is : take end (content_of old e) ≡ content_of new (entry inodes new k)
  content_is =
      ap (λ (n : ℕ). take n (content_of old e)) (sym sized)
      ∙ content_front old new e cut room.blocks_whole inside whole inside_now (omega (arith, sized)) (λ i below.
      ap (λ (n : ℕ). get_or new n []) (same_pointer i) ∙ data_same (pointer e i) (owns_pointer e i (omega (arith, counted))))
      ∙ ap (λ (f : FileEntry). content_of new f) (sym here)

  pub cuts_marks : SameMarks old new
  cuts_marks = record { count = put.count; marks = inode_keeps_marks inodes k inode old new room.whole low put }

  pub cuts : ReplacesContent inodes k (take end (content_of old e)) old new
  cuts =
      replaces inodes k inode (λ n. ⊥) old new room fs low file puts (λ l b below other owns none. none) file_now
      (take end (content_of old e)) whole
      (rule_keeps inodes k inode (λ n. ⊥) old new room fs low file puts (λ l b below other owns none. none) file_now (ap owned here
      ∙ owns_same) cuts_marks)
      content_is

  -- only the inode is touched
  pub cuts_touches : TouchesInode k ((end + 4095) / 4096) ((end + 4095) / 4096) old new
  cuts_touches = record {
    count = put.count;
    same = λ b some other named. put.blocks b other;
    double = inl (ap (λ (g : FileEntry). double_pointer g) here ∙ same_double);
    tables = λ p. inl (ap (λ (g : FileEntry). indirect_pointer g p) here ∙ same_table p);
  }
