-- Growth after growth.
use Rattle.std.proofs.Common.{◌≡◌, inl, inr, ◌<◌, ◌≤◌, ℕ, ◌+◌, false, Option, Some, None, List, [], ◌∷◌, ◌++◌, length}
use Rattle.std.proofs.Common.{get_or, set, refl, sym, ◌∙◌, ap, arith, append_assoc, length-append, subst}
use Rattle.std.proofs.lemmas.List.{append-nil, get_or_past, get_or-set_same, set-set, set-get_or}
use Rattle.std.proofs.lemmas.Bool.{cases_lt, cases_Bool, false≢true}
use Rattle.model.specs.Stream.{Octets}
use Rattle.model.specs.Files.{File, HasRoom, IsFile, IsFileSystem, size, entry, content_of, name_in, slot_of, table, is_marked_used}
use Rattle.model.specs.Files.{most_blocks}
use Rattle.model.specs.Files.{free_blocks}
use Rattle.fs_layout.specs.Table.{IsFileAt}
use Rattle.fs_inodes.specs.Growing.{blocks_for}
use Rattle.fs_inodes.specs.Growing.{GrowsBy, HasRoomFor}
use Rattle.model.specs.Room.{content_blocks}
use Rattle.model.proofs.Owning.{content_size}
use Rattle.fs_layout.specs.Touches.{TouchesData, double_of, table_of}
use Rattle.fs_inodes.proofs.Named.{file_names}
use Rattle.fs_inodes.proofs.Sizes.{blocks_for_le}
use Rattle.fs_layout.proofs.Tables.{get_or-table, file_at_file, file_or, named_from_there}

-- an inode has one file
pub one_name : (files : List (Option File)) (k : ℕ) (name name' content content' : Octets) → IsFileAt files k name content
    → IsFileAt files k name' content' → name ≡ name'
one_name files k name name' content content' first second = ap (λ (o : Option File). (file_or o).name) (sym first ∙ second)

pub one_content : (files : List (Option File)) (k : ℕ) (name name' content content' : Octets) → IsFileAt files k name content
    → IsFileAt files k name' content' → content ≡ content'
one_content files k name name' content content' first second = ap (λ (o : Option File). (file_or o).content) (sym first ∙ second)

pub below_table : (files : List (Option File)) (k : ℕ) (name content : Octets) → IsFileAt files k name content → k < length files
below_table files k name content is = elim (cases_lt k (length files)) [
  | inl low ↦ low
  | inr past ↦ absurd (let none = get_or_past files k None past in cc)
]

-- the file after growth
pub file_after : (inodes k : ℕ) (octets : Octets) (old new : List Octets) (grown : GrowsBy inodes k octets old new)
    → IsFileAt (table inodes new) k grown.name (grown.was ++ octets)
file_after inodes k octets old new grown =
    ap (λ (l : List (Option File)). get_or l k None) grown.makes.files_are
    ∙ get_or-set_same (table inodes old) k (Some (record { name = grown.name; content = grown.was ++ octets })) None
    (below_table (table inodes old) k grown.name grown.was grown.there)

module _ (inodes k : ℕ) (p q : Octets) (a b c : List Octets) (first : GrowsBy inodes k p a b) (second : GrowsBy inodes k q b c) where
  same_name : second.name ≡ first.name
  same_name = one_name (table inodes b) k second.name first.name second.was (first.was ++ p) second.there (file_after inodes k p a b first)

  same_was : second.was ≡ first.was ++ p
  same_was = one_content (table inodes b) k second.name first.name second.was (first.was ++ p) second.there
      (file_after inodes k p a b first)

  files : table inodes c ≡ set (table inodes a) k (Some (record { name = first.name; content = first.was ++ (p ++ q) }))
  files =
      second.makes.files_are
      ∙ ap (λ (l : List (Option File)). set l k (Some (record { name = second.name; content = second.was ++ q }))) first.makes.files_are
      ∙ set-set (table inodes a) k (Some (record { name = first.name; content = first.was ++ p }))
      (Some (record { name = second.name; content = second.was ++ q }))
      ∙ ap (λ (n : Octets). set (table inodes a) k (Some (record { name = n; content = second.was ++ q }))) same_name
      ∙ ap (λ (w : Octets). set (table inodes a) k (Some (record { name = first.name; content = w }))) (ap (λ (w : Octets). w ++ q) same_was
      ∙ append_assoc first.was p q)

  pub grows_then : length a ≤ most_blocks → GrowsBy inodes k (p ++ q) a c
  grows_then few = record {
    count = second.count ∙ first.count;
    name = first.name;
    was = first.was;
    there = first.there;
    makes = record { room = second.makes.room; rule = second.makes.rule; files_are = files };
    lowest = λ x y low_x low_y was now free.
        let y_free : is_marked_used b y ≡ false = (elim (cases_Bool (is_marked_used b y)) [
          | inl marked ↦ absurd (false≢true (sym free ∙ second.kept y (omega (arith, first.count, second.count)) marked))
          | inr clear ↦ clear
        ]) in
        elim (cases_Bool (is_marked_used b x)) [
          | inl marked ↦ first.lowest x y (omega (arith, second.count)) (omega (arith, second.count)) was marked y_free
          | inr clear ↦ second.lowest x y low_x low_y clear now free
        ];
    kept = λ x small marked. second.kept x (omega (arith, small, first.count)) (first.kept x small marked);
    free =
        ap (λ (n : ℕ). free_blocks c + blocks_for n) (total ∙ ap (λ (m : ℕ). m + length q) (sym was_size))
        ∙ second.free ∙ ap (λ (n : ℕ). free_blocks b + blocks_for n) was_size ∙ first.free;
  }
    where
      was_size : length second.was ≡ length first.was + length p
      was_size = ap (λ (w : Octets). length w) same_was ∙ length-append first.was p

      total : length first.was + length (p ++ q) ≡ length first.was + length p + length q
      total = omega (arith, length-append p q)

module _ (inodes k : ℕ) (a : List Octets) (room : HasRoom inodes a) (fs : IsFileSystem inodes a) (low : k < inodes)
    (file : IsFile (entry inodes a k)) where
  was_there : IsFileAt (table inodes a) k (name_in (slot_of inodes a k)) (content_of a (entry inodes a k))
  was_there = get_or-table inodes a k low ∙ file_at_file inodes a k file

  size_is : length (content_of a (entry inodes a k)) ≡ size (entry inodes a k)
  size_is = content_size a (entry inodes a k) room.blocks_whole (λ b owns. (fs.within k b low owns).1)

  -- nothing is put after
  pub grows_none : GrowsBy inodes k [] a a
  grows_none = record {
    count = refl;
    name = name_in (slot_of inodes a k);
    was = content_of a (entry inodes a k);
    there = was_there;
    makes = record {
      room = room;
      rule = fs;
      files_are =
          sym (set-get_or (table inodes a) k None)
          ∙ ap (λ (o : Option File). set (table inodes a) k o) (was_there
          ∙ ap (λ (w : Octets). Some (record { name = name_in (slot_of inodes a k); content = w }))
          (sym (append-nil (content_of a (entry inodes a k)))));
    };
    lowest = λ x y low_x low_y was now free. absurd (false≢true (sym was ∙ now));
    kept = λ x small marked. marked;
    free = (let none : length (content_of a (entry inodes a k)) + 0 ≡ length (content_of a (entry inodes a k)) = omega arith in
        ap (λ (n : ℕ). free_blocks a + blocks_for n) none);
  }

  module _ (octets : Octets) (b : List Octets) (grown : GrowsBy inodes k octets a b) where
    pub was_size : length grown.was ≡ size (entry inodes a k)
    was_size = ap (λ (w : Octets). length w)
        (one_content (table inodes a) k grown.name (name_in (slot_of inodes a k)) grown.was
        (content_of a (entry inodes a k)) grown.there was_there) ∙ size_is

    pub file_now : IsFile (entry inodes b k)
    file_now = (named_from_there inodes b grown.makes.rule k grown.name (grown.was ++ octets) (file_after inodes k octets a b grown)).file

    pub size_now : size (entry inodes b k) ≡ size (entry inodes a k) + length octets
    size_now =
        let named = named_from_there inodes b grown.makes.rule k grown.name (grown.was ++ octets) (file_after inodes k octets a b grown) in
        let long = content_size b (entry inodes b k) grown.makes.room.blocks_whole (λ c owns. (grown.makes.rule.within k c low owns).1) in
        sym long ∙ ap (λ (w : Octets). length w) (sym named.content_is) ∙ length-append grown.was octets
        ∙ ap (λ (n : ℕ). n + length octets) was_size

    -- there is still room for the rest
    pub room_now : (some total : ℕ) → length octets + some ≤ total
        → HasRoomFor a (size (entry inodes a k)) (size (entry inodes a k) + total)
        → HasRoomFor b (size (entry inodes b k)) (size (entry inodes b k) + some)
    room_now some total fits enough =
        let left : free_blocks b + blocks_for (size (entry inodes b k)) ≡ free_blocks a + blocks_for (size (entry inodes a k)) =
        ap (λ (n : ℕ). free_blocks b + blocks_for n) (size_now ∙ ap (λ (n : ℕ). n + length octets) (sym was_size)) ∙ grown.free
        ∙ ap (λ (n : ℕ). free_blocks a + blocks_for n) was_size in
        let more = blocks_for_le (size (entry inodes b k) + some) (size (entry inodes a k) + total) (omega (arith, size_now)) in
        (omega (arith, size_now, enough.0), omega (arith, left, more, enough.1))

    -- how many blocks it took
    pub taken_is : (taken : ℕ) → blocks_for (size (entry inodes a k)) + taken ≡ blocks_for (size (entry inodes a k) + length octets)
        → free_blocks b + taken ≡ free_blocks a
    taken_is taken more =
        let left : free_blocks b + blocks_for (size (entry inodes a k) + length octets) ≡ free_blocks a + blocks_for
        (size (entry inodes a k)) =
        ap (λ (n : ℕ). free_blocks b + blocks_for (n + length octets)) (sym was_size) ∙ grown.free
        ∙ ap (λ (n : ℕ). free_blocks a + blocks_for n) was_size in
        omega (arith, left, more)

    -- there are no more blocks that name blocks than the new size needs
    pub no_double_now : content_blocks (size (entry inodes a k) + length octets) ≤ 1034 → double_of b k ≡ 0
    no_double_now few =
        (file_names inodes k b grown.makes.room grown.makes.rule low file_now).no_double (omega (arith, few, size_now))

    pub no_table_now : content_blocks (size (entry inodes a k) + length octets) ≤ 10 → table_of b k 0 ≡ 0
    no_table_now few = (file_names inodes k b grown.makes.room grown.makes.rule low file_now).none 0 (omega (arith, few, size_now))

-- a piece touches the blocks after those of the octets before it
pub touched : (k size at long some : ℕ) (mid new : List (List ℕ)) → size ≡ at → long ≡ some
    → (block : ℕ) × TouchesData k (block ∷ []) (content_blocks size) (content_blocks (size + long)) mid new
    → (block : ℕ) × TouchesData k (block ∷ []) (content_blocks at) (content_blocks (at + some)) mid new
touched k size at long some mid new is piece (block, touches) = (
  block,
  subst (λ (n : ℕ). TouchesData k (block ∷ []) (content_blocks at) (content_blocks (at + n)) mid new) piece
      (subst (λ (n : ℕ). TouchesData k (block ∷ []) (content_blocks n) (content_blocks (n + long)) mid new) is touches),
)
