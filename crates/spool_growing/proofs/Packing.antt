-- A file is put into an inode of its own, or into the pack.
use Rattle.std.proofs.Common.{◌≡◌, ◌≢◌, inl, inr, ◌≤◌, ℕ, ◌+◌, ◌*◌, List, [], ◌∷◌, ◌++◌, length, get_or, refl, sym, ◌∙◌, ap, subst}
use Rattle.std.proofs.Common.{arith, append-nil, length-append}
use Rattle.std.specs.Prelude.{Option, Some, None, option_map, slice_get, unwrap_or}
use Rattle.std.specs.List.{sum_by}
use Rattle.std.proofs.lemmas.List.Sums.{sum_by-cons}
use Rattle.model.specs.Stream.{Octets}
use Rattle.model.specs.Files.{File, free_blocks, table}
use Rattle.model.specs.Asked.{blocks_for_more, blocks_taken}
use Rattle.model.specs.FileCalls.{Append, Create, FileCall, making_calls}
use Rattle.model.specs.Indexed.{Alone, ChangePlace, IsAt, KeepsFiles, Packed}
use Rattle.model.specs.Packs.{member_octets, pack_name}
use Rattle.model.specs.Records.{largest_record}
use Rattle.model.proofs.Packing.{front_size, member_front, member_parts, packed_stays}
use Rattle.fs.specs.Calls.{IsFileAt, IsThere}
use Rattle.fs.specs.Touches.{touched_by_growth}
use Rattle.fs_inodes.proofs.Grown.{one_content, one_name}
use Rattle.spool_index.specs.Places.{IsNamedAt, name_of}
use Rattle.spool_index.proofs.Named.{name_kept}
use Rattle.spool_growing.specs.declared.file_calls.Free.{Free}
use Rattle.spool_growing.specs.declared.file_calls.Piece.{Piece}
use Rattle.spool_growing.specs.Calls.{AppendsAt, Calls, IsKnown, MakesAt, MayAllGrow}
use Rattle.spool_growing.specs.Putting.{AreNotPacked, ArePutting, PutsAt, inode_at, touched_by_put}
use Rattle.spool_growing.proofs.Taken.{creates}
use Rattle.spool_growing.proofs.Touched.{reached_by, reached_more}

-- ---- the ways to put it

pub made_alone : (inodes at : ℕ) (name octets : Octets) (old new : List Octets) → MakesAt inodes at name octets old new
    → PutsAt inodes (Alone at) (record { name = name; content = octets }) old new
made_alone inodes at name octets old new made = record {
  calls = making_calls name octets;
  putting = refl;
  made = made.calls;
  there = made.there;
  others = made.others;
}

-- the pack is begun
pub begun : (inodes at size : ℕ) (f : File) (octets : Octets) (old new : List Octets) → ¬ (IsThere (table inodes old) pack_name)
    → octets ≡ member_octets f → size ≡ length octets → MakesAt inodes at pack_name octets old new
    → PutsAt inodes (Packed at 0 size) f old new
begun inodes at size f octets old new none says count made =
    let its : MakesAt inodes at pack_name (member_octets f) old new =
    subst (λ (o : Octets). MakesAt inodes at pack_name o old new) says made in
    record {
      calls = making_calls pack_name (member_octets f);
      putting = inr (none, refl);
      made = its.calls;
      there = record {
        front = [];
        rest = [];
        from_is = refl;
        size_is = count ∙ ap (λ (o : Octets). length o) says;
        pack_is = its.there ∙ ap (λ (o : Octets). Some (record { name = pack_name; content = o })) (sym (append-nil (member_octets f)));
      };
      others = its.others;
    }

-- the pack grows
pub extended : (inodes at from size : ℕ) (f : File) (content octets : Octets) (old new : List Octets)
    → IsFileAt (table inodes old) at pack_name content → from ≡ length content → octets ≡ member_octets f → size ≡ length octets
    → AppendsAt inodes at octets old new → PutsAt inodes (Packed at from size) f old new
extended inodes at from size f content octets old new was first says count appends =
    let named : appends.name ≡ pack_name = one_name (table inodes old) at appends.name pack_name appends.content content appends.was was in
    let before : appends.content ≡ content =
    one_content (table inodes old) at appends.name pack_name appends.content content appends.was was in
    let whole : member_octets f ≡ member_octets f ++ [] = sym (append-nil (member_octets f)) in
    record {
      calls = Append pack_name (member_octets f) ∷ [];
      putting = inl ((at, content, was), refl);
      made = subst (λ (x : Octets × Octets). Calls inodes (Append x.0 x.1 ∷ []) old new) (λ i. (named i, says i)) appends.calls;
      there = record {
        front = content;
        rest = [];
        from_is = first;
        size_is = count ∙ ap (λ (o : Octets). length o) says;
        pack_is = appends.there ∙ (λ i. Some (record { name = named i; content = before i ++ (says ∙ whole) i }));
      };
      others = appends.others;
    }

-- ---- the pack that is known

pub known_begun : (inodes at : ℕ) (octets : Octets) (free : Free) (blocks : List Octets)
    → IsFileAt (table inodes blocks) at pack_name octets
    → IsKnown inodes free blocks → IsKnown inodes (record free { pack = Some at }) blocks
known_begun inodes at octets free blocks there known = record {
  used = known.used;
  none = known.none;
  left = known.left;
  count = known.count;
  pack = λ k is. (
    octets,
    ap (λ (o : Option ℕ). get_or (table inodes blocks) (unwrap_or o 0) None) (sym is) ∙ there,
  );
}

-- ---- how many blocks it takes and touches

member_size : (f : File) → length (member_octets f) ≡ 5 + length f.name + length f.content
member_size f =
    omega (
      arith,
      ap (λ (o : Octets). length o) (member_parts f),
      length-append (member_front f) f.content,
      front_size f,
    )

pub short_member : (f : File) (octets : Octets) → octets ≡ member_octets f → length f.name ≤ 63 → length octets ≤ 68 + length f.content
short_member f octets says named = omega (arith, ap (λ (o : Octets). length o) says, member_size f, named)

taken_by_making : (name octets : Octets) → sum_by blocks_taken (making_calls name octets) ≡ blocks_for_more (length octets)
taken_by_making name octets =
    omega (
      arith,
      sum_by-cons blocks_taken (Create name) (Append name octets ∷ []),
      sum_by-cons blocks_taken (Append name octets) [],
    )

taken_by_append : (name octets : Octets) → sum_by blocks_taken (Append name octets ∷ []) ≡ blocks_for_more (length octets)
taken_by_append name octets = omega (arith, sum_by-cons blocks_taken (Append name octets) [])

few_for : (n : ℕ) → n ≤ largest_record + 68 → blocks_for_more n ≤ 128
few_for n few = omega (arith, few)

few_taken : (inodes : List (Option File)) (at : ChangePlace) (f : File) (calls : List FileCall) → ArePutting inodes at f calls
    → length f.name ≤ 63 → length f.content ≤ largest_record → sum_by blocks_taken calls ≤ 128
few_taken inodes (Alone inode) f calls is named short =
    omega (
      arith,
      ap (sum_by blocks_taken) is,
      taken_by_making f.name f.content,
      few_for (length f.content) (omega (arith, short)),
    )
few_taken inodes (Packed inode from size) f calls (inl (there, is)) named short =
    omega (
      arith,
      ap (sum_by blocks_taken) is,
      taken_by_append pack_name (member_octets f),
      few_for (length (member_octets f)) (omega (arith, member_size f, named, short)),
    )
few_taken inodes (Packed inode from size) f calls (inr (none, is)) named short =
    omega (
      arith,
      ap (sum_by blocks_taken) is,
      taken_by_making pack_name (member_octets f),
      few_for (length (member_octets f)) (omega (arith, member_size f, named, short)),
    )

-- a file takes an inode at most
pub one_created : (inodes : List (Option File)) (at : ChangePlace) (f : File) (calls : List FileCall) → ArePutting inodes at f calls
    → creates calls ≤ 1
unfolding creates
one_created inodes (Alone inode) f calls is = omega (arith, ap creates is)
one_created inodes (Packed inode from size) f calls (inl (there, is)) = omega (arith, ap creates is)
one_created inodes (Packed inode from size) f calls (inr (none, is)) = omega (arith, ap creates is)

pub alone_touches : (n : ℕ) → n ≤ largest_record → 2 + touched_by_growth 0 n ≤ touched_by_put n
alone_touches n few = omega (arith, reached_by n (omega (arith, few)))

pub begun_touches : (n more : ℕ) → n ≤ largest_record → more ≤ 68 + n → 2 + touched_by_growth 0 more ≤ touched_by_put n
begun_touches n more few less = omega (arith, reached_by more (omega (arith, few, less)), few, less)

pub extended_touches : (n more size : ℕ) → n ≤ largest_record → more ≤ 68 + n → touched_by_growth size more ≤ touched_by_put n
extended_touches n more size few less = omega (arith, reached_more size more (omega (arith, few, less)), few, less)

-- ---- while others grow

-- it stays at its place
pub named_after : (old new : List (Option File)) (at : ChangePlace) (f : File) → KeepsFiles old new → IsAt old at f → IsNamedAt new at f
named_after old new (Alone inode) f keeps there = name_kept old new inode f.name keeps (ap (option_map (λ (g : File). g.name)) there)
named_after old new (Packed inode from size) f keeps there = packed_stays old new inode from size f keeps there

module _ (inodes : ℕ) (f : File) (pieces : List Piece) (old mid : List Octets) (keeps : KeepsFiles (table inodes old) (table inodes mid))
    (lacks : ¬ (IsThere (table inodes old) f.name)) (apart : AreNotPacked (table inodes old) pieces)
    (may : MayAllGrow inodes pieces old) where
  -- the file of a piece had its name before
  still_named : (k : ℕ) (p : Piece) → slice_get pieces k ≡ Some p → (q content : Octets) → IsFileAt (table inodes mid) p.at q content
      → name_of (table inodes old) p.at ≡ Some q
  still_named k p is q content there =
      let its = may.each k p is in
      let was : name_of (table inodes old) p.at ≡ Some its.name = ap (option_map (λ (g : File). g.name)) its.there in
      was ∙ sym (name_kept (table inodes old) (table inodes mid) p.at its.name keeps was) ∙ ap (option_map (λ (g : File). g.name)) there

  -- the file that was put is no piece's, and neither is the pack
  pub other_file : (at : ChangePlace) → IsAt (table inodes mid) at f → (k : ℕ) (p : Piece) → slice_get pieces k ≡ Some p
      → p.at ≢ inode_at at
  other_file (Alone inode) there k p is same =
      let its = may.each k p is in
      let named : name_of (table inodes old) p.at ≡ Some f.name =
      still_named k p is f.name f.content (ap (λ (j : ℕ). get_or (table inodes mid) j None) same ∙ there) in
      let was : name_of (table inodes old) p.at ≡ Some its.name = ap (option_map (λ (g : File). g.name)) its.there in
      let one : its.name ≡ f.name = ap (λ (o : Option Octets). unwrap_or o []) (sym was ∙ named) in
      lacks (p.at, its.content, subst (λ (q : Octets). IsFileAt (table inodes old) p.at q its.content) one its.there)
  other_file (Packed inode from size) there k p is same =
      apart k p is (still_named k p is pack_name (there.front ++ (member_octets f ++ there.rest))
      (ap (λ (j : ℕ). get_or (table inodes mid) j None) same ∙ there.pack_is))

module _ (inodes : ℕ) (at : ChangePlace) (f : File) (pieces : List Piece) (old mid : List Octets) (puts : PutsAt inodes at f old mid)
    (lacks : ¬ (IsThere (table inodes old) f.name)) (apart : AreNotPacked (table inodes old) pieces)
    (may : MayAllGrow inodes pieces old) where
  pub same_file : (k : ℕ) (p : Piece) → slice_get pieces k ≡ Some p
      → get_or (table inodes mid) p.at None ≡ get_or (table inodes old) p.at None
  same_file k p is =
      puts.others p.at (other_file inodes f pieces old mid puts.made.keeps lacks apart may at puts.there k p is)

  pub may_still : MayAllGrow inodes pieces mid
  may_still = record {
    each = λ k p is. let its = may.each k p is in
        record { name = its.name; content = its.content; there = same_file k p is ∙ its.there; small = its.small };
    small = may.small;
    apart = may.apart;
  }

  pub still_free : length f.name ≤ 63 → length f.content ≤ largest_record → length pieces ≤ 32 → 256 ≤ free_blocks old
      → 4 * length pieces ≤ free_blocks mid
  still_free named short few free =
      omega (arith, few, free, puts.made.free, few_taken (table inodes old) at f puts.calls puts.putting named short)
