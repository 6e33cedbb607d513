-- The last block of a file, or one more.
use Rattle.std.proofs.Common.{◌≡◌, inl, inr, ◌<◌, ◌≤◌, ℕ, ◌+◌, ◌*◌, ◌/◌, ◌%◌, false, List, [], ◌∷◌, ◌++◌, length, get_or, map}
use Rattle.std.proofs.Common.{refl, sym, ◌∙◌, ap, subst, arith}
use Rattle.std.specs.List.{Contains, range_with_len}
use Rattle.std.proofs.lemmas.List.FromFn.{map-range_with_len_more}
use Rattle.std.proofs.lemmas.Bool.{cases_lt, false≢true}
use Rattle.disk.proofs.Images.{length-part}
use Rattle.model.specs.Stream.{Octets}
use Rattle.model.specs.Volume.{AreDistinct}
use Rattle.model.specs.Files.{FileEntry, HasRoom, IsFile, size, block_count, double_blocks, indirect_for, pointer, owned, entry, inode_of}
use Rattle.model.specs.Files.{bitmap_blocks}
use Rattle.model.specs.Files.{first_data, is_marked_used, free_blocks, IsFileSystem}
use Rattle.fs_inodes.specs.Growing.{AddsBlock, NamesBlocks, inode_entry, tables_to, with_indirect}
use Rattle.fs_layout.proofs.Distinct.{three_cases, three_distinct, three_new, three_were}
use Rattle.fs_inodes.proofs.Grows.{Extends}
use Rattle.fs_inodes.proofs.Named.{file_names, owned_marked}
use Rattle.fs_inodes.proofs.Owned.{owned_to}
use Rattle.fs_inodes.proofs.Tables.{map_same_below}

module _ (inodes k n : ℕ) (old : List Octets) (room : HasRoom inodes old) (fs : IsFileSystem inodes old) (low : k < inodes)
    (file : IsFile (entry inodes old k)) (few : n < 1048576) where
  abbrev e : FileEntry
  e = entry inodes old k

  inode_size : length (inode_of old k) ≡ 64
  inode_size =
      let there : bitmap_blocks (length old) + k / 64 < length old = omega (arith, room.room, room.whole) in
      let whole = room.blocks_whole (bitmap_blocks (length old) + k / 64) [] there in
      length-part (k % 64 * 64) 64 (get_or old (bitmap_blocks (length old) + k / 64) []) (omega arith)

  free_is_data : (b : ℕ) → b < length old → is_marked_used old b ≡ false → first_data (length old) inodes ≤ b
  free_is_data b inside free = elim (cases_lt b (first_data (length old) inodes)) [
    | inr data_block ↦ data_block
    | inl reserved ↦ absurd (false≢true (sym free ∙ (fs.bits b (omega (arith, room.count_few))).1 (inl reserved)))
  ]

  -- the last block
  module _ (r number : ℕ) (sized : size (entry inodes old k) ≡ 4096 * n + r) (some : 0 < r) (within : r < 4096)
      (is : number ≡ pointer (entry inodes old k) n) where
    count_is : block_count (entry inodes old k) ≡ n + 1
    count_is = omega arith

    owned_is : owned_to (inode_entry old (inode_of old k)) (n + 1) ≡ owned (entry inodes old k)
    owned_is = ap (λ (m : ℕ). owned_to (entry inodes old k) m) (sym count_is)

    pub extends_last : Extends (first_data (length old) inodes) n number (entry inodes old k) (inode_entry old (inode_of old k)) old old
    extends_last = record {
      count = refl;
      whole = room.blocks_whole;
      inode_size = inode_size;
      kind_is = file.kind_is;
      spare = file.spare;
      here = sym is;
      same_pointers = λ i apart. refl;
      names = subst (λ (m : ℕ). NamesBlocks (indirect_for m) (inode_entry old (inode_of old k)) old) count_is
          (file_names inodes k old room fs low file);
      double_stays = inr refl;
      tables_stay = λ p. inr refl;
      blocks = λ b some_b named. refl;
      fresh = [];
      fresh_free = λ b has. absurd (omega (arith, has.1));
      fresh_marked = λ b has. absurd (omega (arith, has.1));
      other_marks = λ b small lacks. refl;
      lowest = λ b c low_b low_c was now free. absurd (false≢true (sym was ∙ now));
      source = λ b has. inl (subst (λ (o : List ℕ). Contains o b) owned_is has);
      fresh_owned = λ b has. absurd (omega (arith, has.1));
      still_owned = λ b has. subst (λ (o : List ℕ). Contains o b) (sym owned_is) has;
      distinct = subst AreDistinct (sym owned_is) (fs.distinct k low);
      free = ap (λ (m : ℕ). free_blocks old + with_indirect m) (sym count_is);
    }

  -- a new block
  module _ (number : ℕ) (inode : Octets) (mid : List Octets) (sized : size (entry inodes old k) ≡ 4096 * n)
      (adds : AddsBlock n number (inode_of old k) inode old mid) where
    count_was : block_count (entry inodes old k) ≡ n
    count_was = omega arith

    abbrev f : FileEntry
    f = inode_entry mid inode

    abbrev were : List ℕ
    were = map (λ i. pointer (entry inodes old k) i) (range_with_len 0 n)

    owned_was : owned (entry inodes old k) ≡ double_blocks (entry inodes old k) ++ (tables_to (entry inodes old k) (indirect_for n) ++ were)
    owned_was = ap (λ (m : ℕ). owned_to (entry inodes old k) m) count_was

    pointers_are : map (λ i. pointer f i) (range_with_len 0 (n + 1)) ≡ were ++ number ∷ []
    pointers_are =
        map-range_with_len_more (λ i. pointer f i) 0 n n (omega arith)
        ∙ ap (λ (l : List ℕ). l ++ pointer f n ∷ [])
        (map_same_below (λ i. pointer f i) (λ i. pointer (entry inodes old k) i) 0 n (λ i early. adds.other i (omega (arith, early))))
        ∙ ap (λ (m : ℕ). were ++ m ∷ []) adds.here

    owned_new : owned_to f (n + 1) ≡ (double_blocks (entry inodes old k) ++ adds.doubles) ++
        ((tables_to (entry inodes old k) (indirect_for n) ++ adds.tables) ++ (were ++ number ∷ []))
    owned_new =
        ap (λ (l : List ℕ). l ++ (tables_to f (indirect_for (n + 1)) ++ map (λ i. pointer f i) (range_with_len 0 (n + 1)))) adds.doubles_are
        ∙ ap (λ (l : List ℕ). (double_blocks (entry inodes old k) ++ adds.doubles) ++
        (l ++ map (λ i. pointer f i) (range_with_len 0 (n + 1)))) adds.tables_are
        ∙ ap (λ (l : List ℕ). (double_blocks (entry inodes old k) ++ adds.doubles) ++
        ((tables_to (entry inodes old k) (indirect_for n) ++ adds.tables) ++ l)) pointers_are

    to_owned : (b : ℕ) → Contains ((double_blocks (entry inodes old k) ++ adds.doubles) ++
        ((tables_to (entry inodes old k) (indirect_for n) ++ adds.tables) ++ (were ++ number ∷ []))) b → Contains (owned_to f (n + 1)) b
    to_owned b = subst (λ (o : List ℕ). Contains o b) (sym owned_new)

    not_owned : (b : ℕ) → Contains (owned (entry inodes old k)) b → ¬ (Contains (adds.doubles ++ (adds.tables ++ number ∷ [])) b)
    not_owned b was fresh = false≢true (sym (adds.takes.free b fresh).1 ∙ owned_marked inodes k old room fs low b was)

    pub extends_new : Extends (first_data (length old) inodes) n number (entry inodes old k) (inode_entry mid inode) old mid
    extends_new = record {
      count = adds.count;
      whole = adds.whole room.blocks_whole;
      inode_size = adds.size ∙ inode_size;
      kind_is = adds.head 0 4 (omega arith) ∙ file.kind_is;
      spare = adds.tail 60 4 (omega arith) ∙ file.spare;
      here = adds.here;
      same_pointers = adds.other;
      names = adds.names;
      double_stays = adds.double_stays;
      tables_stay = adds.tables_stay;
      blocks = λ b some named. adds.blocks b some (named n (omega (arith, count_was)) (omega arith)).0
          (named n (omega (arith, count_was)) (omega arith)).1;
      fresh = adds.doubles ++ (adds.tables ++ number ∷ []);
      fresh_free = λ b has. let free = adds.takes.free b has in (free_is_data b free.0 free.1, free.0, free.1);
      fresh_marked = adds.takes.marked;
      other_marks = adds.takes.other;
      lowest = adds.takes.lowest;
      source = λ b has. elim (three_cases (double_blocks (entry inodes old k)) adds.doubles
          (tables_to (entry inodes old k) (indirect_for n)) adds.tables were (number ∷ []) b
          (subst (λ (o : List ℕ). Contains o b) owned_new has)) [
            | inl was ↦ inl (subst (λ (o : List ℕ). Contains o b) (sym owned_was) was)
            | inr fresh ↦ inr fresh
          ];
      fresh_owned = λ b has. to_owned b
          (three_new (double_blocks (entry inodes old k)) adds.doubles (tables_to (entry inodes old k) (indirect_for n)) adds.tables were
          (number ∷ []) b has);
      still_owned = λ b has. to_owned b
          (three_were (double_blocks (entry inodes old k)) adds.doubles (tables_to (entry inodes old k) (indirect_for n)) adds.tables were
          (number ∷ []) b (subst (λ (o : List ℕ). Contains o b) owned_was has));
      distinct = subst AreDistinct (sym owned_new)
          (three_distinct (double_blocks (entry inodes old k)) adds.doubles (tables_to (entry inodes old k) (indirect_for n)) adds.tables
          were (number ∷ [])
          (subst AreDistinct owned_was (fs.distinct k low)) adds.takes.distinct
          (λ b was. not_owned b (subst (λ (o : List ℕ). Contains o b) (sym owned_was) was)));
      free = adds.fewer ∙ ap (λ (m : ℕ). free_blocks old + with_indirect m) (sym count_was);
    }
