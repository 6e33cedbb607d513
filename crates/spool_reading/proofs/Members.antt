-- The octets of the files in the pack.
use Rattle.std.proofs.Common.{◌≡◌, ◌≢◌, ◌<◌, ◌≤◌, ℕ, zero, suc, ◌+◌, ◌-◌, ◌*◌, ◌/◌, ◌%◌, ◌^◌, List, [], ◌∷◌, ◌++◌, length, get_or, take}
use Rattle.std.proofs.Common.{drop, refl, sym, ◌∙◌, ap, subst, arith, length-append, Option, Some, eqb}
use Rattle.std.specs.Prelude.{◌||◌, IsPermutation, IsTrue}
use Rattle.std.specs.List.{All, Contains}
use Rattle.std.proofs.Math.Seq.{drop-append_seam, take-append_seam}
use Rattle.std.proofs.lemmas.Bool.{true≢false}
use Rattle.std.proofs.lemmas.List.{append_assoc, append-nil, drop-drop, drop-take, get_or-take, get_or_append_left, length-drop}
use Rattle.std.proofs.lemmas.List.{length-take, nil_from_length, take-append-drop, take-take, take_all}
use Rattle.std.proofs.lemmas.List.Concat.{flat_map-append}
use Rattle.std.proofs.lemmas.List.Elements.{All-append, All-contains, All-cons, All-head, All-nil, All-tail}
use Rattle.std.proofs.lemmas.List.Elements.{Contains-append_right}
use Rattle.std.proofs.lemmas.List.Sorted.{Contains-permutation}
use Rattle.byteorder.specs.Endian.{little_bytes}
use Rattle.model.specs.Stream.{Octets}
use Rattle.model.specs.Files.{File, table}
use Rattle.model.specs.Indexed.{IsAt, IsPackedAt}
use Rattle.model.specs.Layout.{Holds}
use Rattle.model.specs.Packs.{IsMember, member_octets, pack_name, pack_octets, pack_of}
use Rattle.model.specs.Records.{last_digits}
use Rattle.model.specs.Spool.{Spool}
use Rattle.model.specs.SpoolFiles.{change_file, files_of}
use Rattle.model.specs.declared.change.Change.{Change}
use Rattle.model.specs.declared.change.Change.TheVariants.{Group, Article, Expire}
use Rattle.model.proofs.HoldsOne.{no_change}
use Rattle.model.proofs.Inodes.{is_among}
use Rattle.model.proofs.Packing.{joined_first, pack_said, pack_size, pack_stored}
use Rattle.model.proofs.Strings.{append_split, counted_split, length-little, little_split}
use Rattle.fs_layout.specs.Table.{IsFileAt}
use Rattle.spool_index.specs.Viewed.{place_of}
use Rattle.spool_index.specs.declared.places.ChangePlace.{ChangePlace}
use Rattle.spool_index.specs.declared.places.ChangePlace.TheVariants.{Alone, Packed}
use Rattle.spool_reading.specs.Sorting.{HasPackFile, IsMemberOf, IsPack, MayBeMember}
use Rattle.spool_reading.proofs.Finding.{member_of_change}
use Rattle.spool_reading.proofs.Serials.{IsItsChange, its_change, long_enough}

-- ---- one file after others

pub one_pack : (f : File) → pack_octets (f ∷ []) ≡ member_octets f
unfolding pack_octets
one_pack f = append-nil (member_octets f)

pub pack_more : (done more : List File) → pack_octets (done ++ more) ≡ pack_octets done ++ pack_octets more
unfolding pack_octets
pack_more done more = flat_map-append member_octets done more

pub pack_cons : (f : File) (more : List File) → pack_octets (f ∷ more) ≡ member_octets f ++ pack_octets more
unfolding pack_octets
pack_cons f more = refl

pub no_octets : pack_octets [] ≡ []
unfolding pack_octets
no_octets = refl

pub member_size : (f : File) → length (member_octets f) ≡ 5 + length f.name + length f.content
member_size f =
    omega (
      arith,
      length-append (length f.name ∷ f.name) (little_bytes 4 (length f.content) ++ f.content),
      length-append (little_bytes 4 (length f.content)) f.content,
      length-little 4 (length f.content),
    )

pub some_octets : (f : File) (more : List File) → 0 < length (pack_octets (f ∷ more))
some_octets f more =
    omega (
      arith,
      ap (λ (o : Octets). length o) (pack_cons f more),
      length-append (member_octets f) (pack_octets more),
      member_size f,
    )

-- the same octets begin with the same file
pub member_once : (f g : File) (rest other : Octets) → IsMember f → IsMember g → member_octets f ++ rest ≡ member_octets g ++ other
    → (f ≡ g) × (rest ≡ other)
member_once f g rest other one also is =
    let names = counted_split f.name g.name _ _ (sym (joined_first f rest) ∙ is ∙ joined_first g other) in
    let sizes = little_split 4 (length f.content) (length g.content) _ _ one.fits also.fits names.1 in
    let contents = append_split f.content g.content _ _ sizes.0 sizes.1 in
    ((λ i. record { name = names.0 i; content = contents.0 i }), contents.1)

-- the octets of a file say it
pub octets_once : (f g : File) → member_octets f ≡ member_octets g → f ≡ g
octets_once f g is =
    let names = counted_split f.name g.name (little_bytes 4 (length f.content) ++ f.content)
    (little_bytes 4 (length g.content) ++ g.content) is in
    let contents = append_split (little_bytes 4 (length f.content)) (little_bytes 4 (length g.content)) f.content g.content
    (length-little 4 (length f.content) ∙ sym (length-little 4 (length g.content))) names.1 in
    λ i. record { name = names.0 i; content = contents.1 i }

-- ---- the file at a place

pub packed_once : (inodes : List (Option File)) (inode from size : ℕ) (f g : File) → IsPackedAt inodes inode from size f
    → IsPackedAt inodes inode from size g → f ≡ g
packed_once inodes inode from size f g one other =
    let first : File = record { name = pack_name; content = one.front ++ (member_octets f ++ one.rest) } in
    let second : File = record { name = pack_name; content = other.front ++ (member_octets g ++ other.rest) } in
    let packs : Some first ≡ Some second = sym one.pack_is ∙ other.pack_is in
    let files : first ≡ second = cc in
    let fronts = append_split one.front other.front _ _ (sym one.from_is ∙ other.from_is) (ap (λ (h : File). h.content) files) in
    octets_once f g (append_split (member_octets f) (member_octets g) one.rest other.rest (sym one.size_is ∙ other.size_is) fronts.1).0

pub at_once : (inodes : List (Option File)) (place : ChangePlace) (f g : File) → IsAt inodes (place_of place) f
    → IsAt inodes (place_of place) g → f ≡ g
at_once inodes (Alone inode) f g one other = let same : Some f ≡ Some g = sym one ∙ other in cc
at_once inodes (Packed inode from size) f g one other = packed_once inodes inode from size f g one other

-- its octets, as they are read
pub read_packed : (inodes : List (Option File)) (inode from size at count : ℕ) (f : File) (octets : Octets)
    → (its : IsPackedAt inodes inode from size f) → at ≡ from → count ≡ size
    → octets ≡ take count (drop at (its.front ++ (member_octets f ++ its.rest))) → octets ≡ member_octets f
read_packed inodes inode from size at count f octets its at_is count_is read =
    read
    ∙ (λ i. take ((count_is ∙ its.size_is) i) (drop ((at_is ∙ its.from_is) i) (its.front ++ (member_octets f ++ its.rest))))
    ∙ ap (take (length (member_octets f))) (drop-append_seam its.front (member_octets f ++ its.rest))
    ∙ take-append_seam (member_octets f) its.rest

pub packed_within : (inodes : List (Option File)) (inode from size : ℕ) (f : File) → (its : IsPackedAt inodes inode from size f)
    → length (member_octets f) ≤ length (its.front ++ (member_octets f ++ its.rest))
packed_within inodes inode from size f its =
    omega (arith, length-append its.front (member_octets f ++ its.rest), length-append (member_octets f) its.rest)

-- ---- a front of the pack

pub all_front : (done more : List File) → All IsMember (done ++ more) → All IsMember done
all_front done more each =
    λ k d low. subst IsMember (get_or_append_left done more d k low) (each k d (omega (arith, low, length-append done more)))

pub record IsRest (members done : List File) (tail : Octets) : Type 0 where
  pub more : List File
  pub members_are : members ≡ done ++ more
  pub tail_is : tail ≡ pack_octets more

pub split : (done members : List File) (tail : Octets) → All IsMember done → All IsMember members
    → pack_octets done ++ tail ≡ pack_octets members → IsRest members done tail
split [] members tail each also is =
    record { more = members; members_are = refl; tail_is = sym (ap (λ (o : Octets). o ++ tail) no_octets) ∙ is }
split (f ∷ done) [] tail each also is =
    absurd (omega (
      arith,
      ap (λ (o : Octets). length o) (is ∙ no_octets),
      length-append (pack_octets (f ∷ done)) tail,
      pack_size (f ∷ done),
    ))
split (f ∷ done) (g ∷ members) tail each also is =
    let joined_is : member_octets f ++ (pack_octets done ++ tail) ≡ member_octets g ++ pack_octets members =
    sym (append_assoc (member_octets f) (pack_octets done) tail) ∙ ap (λ (o : Octets). o ++ tail) (sym (pack_cons f done)) ∙ is
    ∙ pack_cons g members in
    let first = member_once f g _ _ (All-head IsMember f done each) (All-head IsMember g members also) joined_is in
    let rest = split done members tail (All-tail IsMember f done each) (All-tail IsMember g members also) first.1 in
    record {
      more = rest.more;
      members_are = (λ i. sym first.0 i ∷ rest.members_are i);
      tail_is = rest.tail_is;
    }

-- ---- what a spool may have in its pack

digits_size : (count n : ℕ) → length (last_digits count n) ≡ count
digits_size zero n = refl
digits_size (suc count) n = omega (arith, length-append (last_digits count (n / 10)) ((48 + n % 10) ∷ []), digits_size count (n / 10))

name_size : (n : ℕ) (c : Change) → IsMember (change_file (record { serial = n; change = c }))
    → length (change_file (record { serial = n; change = c })).name ≡ 12
name_size n (Group created) one = absurd (true≢false (sym one.kind))
name_size n (Article filing) one = omega (arith, digits_size 10 n)
name_size n (Expire expiry) one = omega (arith, digits_size 10 n)

packed_change : (host : Octets) (inodes : ℕ) (blocks : List Octets) (S : Spool) (held : Holds host inodes blocks S) (f : File)
    → Contains held.same.packed f → IsMember f → IsItsChange S f
packed_change host inodes blocks S held f has one =
    let s = held.same in
    its_change S f (Contains-permutation (s.plain ++ s.packed) (files_of S) f s.files_are (Contains-append_right s.plain s.packed f has))
    (member_of_change f one)

-- where a spool is held, its pack goes on with a file that may be there
module _ (host : Octets) (inodes : ℕ) (blocks : List Octets) (S : Spool) (held : Holds host inodes blocks S) (at : ℕ) where
  member_may : (f : File) (rest tail : Octets) → Contains held.same.packed f → tail ≡ member_octets f ++ rest → MayBeMember tail
  member_may f rest tail has is =
      let one = All-contains IsMember held.same.packed f held.same.members has in
      let its = packed_change host inodes blocks S held f has one in
      record {
        file = f;
        rest = rest;
        member = one;
        named = ap (λ (g : File). length g.name) its.is ∙ name_size (its.place + 1) (get_or S its.place no_change)
            (subst IsMember its.is one);
        long = long_enough f.content (its.place + 1) its.says;
        is = is;
      }

  said : (content : Octets) → IsFileAt (table inodes blocks) at pack_name content → content ≡ pack_octets held.same.packed
  said content there =
      pack_said held.files (files_of S) held.same content
      (subst (λ (fs : List File). Contains fs (record { name = pack_name; content = content })) (sym held.held.contents)
      (is_among (table inodes blocks) at (record { name = pack_name; content = content }) there))

  pub pack_goes_on : (content tail : Octets) (done : List File) → IsFileAt (table inodes blocks) at pack_name content → All IsMember done
      → content ≡ pack_octets done ++ tail → 0 < length tail → MayBeMember tail
  pack_goes_on content tail done there each is some =
      let rest = split done held.same.packed tail each held.same.members (sym is ∙ said content there) in
      by_more rest.more rest.members_are rest.tail_is
    where
      by_more : (more : List File) → held.same.packed ≡ done ++ more → tail ≡ pack_octets more → MayBeMember tail
      by_more [] members_are tail_is = absurd (omega (arith, ap (λ (o : Octets). length o) (tail_is ∙ no_octets)))
      by_more (g ∷ more) members_are tail_is =
          member_may g (pack_octets more) tail
          (subst (λ (fs : List File). Contains fs g) (sym members_are) (Contains-append_right done (g ∷ more) g (0, omega arith, refl)))
          (tail_is ∙ pack_cons g more)

  -- and it is the pack that was read
  pub same_packed : (members : List File) → IsPack (table inodes blocks) at members → members ≡ held.same.packed
  same_packed members is =
      pack_stored held.files (files_of S) held.same members is.each
      (subst (λ (fs : List File). Contains fs (record { name = pack_name; content = pack_octets members })) (sym held.held.contents)
      (is_among (table inodes blocks) at (record { name = pack_name; content = pack_octets members }) is.there))

  -- an empty file has the pack's name
  pub empty_pack : (content : Octets) → IsFileAt (table inodes blocks) at pack_name content → length content ≡ 0 → ⊥
  empty_pack content there none = by_packed held.same.packed held.same.stored_are (said content there) where
    pack : File
    pack = record { name = pack_name; content = content }

    stored : Contains held.files pack
    stored = subst (λ (fs : List File). Contains fs pack) (sym held.held.contents) (is_among (table inodes blocks) at pack there)

    by_packed : (packed : List File) → IsPermutation held.files (held.same.plain ++ pack_of packed) → content ≡ pack_octets packed → ⊥
    by_packed [] same is =
        All-contains (λ (g : File). g.name ≢ pack_name) held.same.plain pack held.same.no_pack
        (subst (λ (fs : List File). Contains fs pack) (append-nil held.same.plain)
        (Contains-permutation held.files (held.same.plain ++ []) pack same stored)) refl
    by_packed (f ∷ packed) same is = omega (arith, none, ap (λ (o : Octets). length o) is, pack_size (f ∷ packed))

-- ---- the octets of one file

module _ (octets : Octets) (may : MayBeMember octets) where
  abbrev f : File
  f = may.file

  abbrev after : Octets
  after = little_bytes 4 (length f.content) ++ (f.content ++ may.rest)

  octets_are : octets ≡ length f.name ∷ f.name ++ after
  octets_are = may.is ∙ joined_first f may.rest

  pub may_long : 17 + length f.content ≤ length octets
  may_long =
      omega (
        arith,
        ap (λ (o : Octets). length o) may.is,
        length-append (member_octets f) may.rest,
        member_size f,
        may.named,
      )

  pub may_front : get_or octets 0 0 ≡ 12
  may_front = ap (λ (o : Octets). get_or o 0 0) octets_are ∙ may.named

  pub may_kind : IsTrue (eqb (get_or octets 1 0) 97 || eqb (get_or octets 1 0) 120)
  may_kind =
      let first : get_or octets 1 0 ≡ get_or f.name 0 0 = ap (λ (o : Octets). get_or o 1 0) octets_are
      ∙ get_or_append_left f.name after 0 0 (omega (arith, may.named)) in
      subst (λ (n : ℕ). IsTrue (eqb n 97 || eqb n 120)) (sym first) may.member.kind

  pub may_size : take 4 (drop 13 octets) ≡ little_bytes 4 (length f.content)
  may_size =
      ap (λ (o : Octets). take 4 (drop 13 o)) octets_are
      ∙ ap (λ (n : ℕ). take 4 (drop n (f.name ++ after))) (sym may.named) ∙ ap (take 4) (drop-append_seam f.name after)
      ∙ ap (λ (n : ℕ). take n after) (sym (length-little 4 (length f.content)))
      ∙ take-append_seam (little_bytes 4 (length f.content)) (f.content ++ may.rest)

-- what was read of its front
front_part : (octets front : Octets) (a n : ℕ) → front ≡ take 25 octets → a + n ≤ 25 → take n (drop a front) ≡ take n (drop a octets)
front_part octets front a n is low =
    let size : a + (25 - a) ≡ 25 = omega arith in
    ap (λ (o : Octets). take n (drop a o)) (is ∙ ap (λ (m : ℕ). take m octets) (sym size)) ∙ ap (take n) (drop-take a (25 - a) octets)
    ∙ take-take n (25 - a) (drop a octets) (omega arith)

pub front_rest : (octets front : Octets) (a n : ℕ) → front ≡ take 25 octets → a + n ≤ 25
    → take n (take (length front - a) (drop a front)) ≡ take n (drop a octets)
front_rest octets front a n is low =
    ap (take n) (take_all (length front - a) (drop a front) (omega (arith, length-drop a front))) ∙ front_part octets front a n is low

pub front_octet : (octets front : Octets) (i : ℕ) → front ≡ take 25 octets → i < 25 → get_or front i 0 ≡ get_or octets i 0
front_octet octets front i is low = ap (λ (o : Octets). get_or o i 0) is ∙ get_or-take 25 octets i 0 low

pub front_long : (octets front : Octets) → front ≡ take 25 octets → 25 ≤ length front → 25 ≤ length octets
front_long octets front is long = omega (arith, long, ap (λ (o : Octets). length o) is, length-take 25 octets)

-- the size of the content that a file in the pack says
pub may_count : (octets : Octets) (count : ℕ) → MayBeMember octets → take 4 (drop 13 octets) ≡ little_bytes 4 count → count < 256 ^ 4
    → (8 ≤ count) × (17 + count ≤ length octets)
may_count octets count may says small =
    let same = little_split 4 count (length may.file.content) [] [] small may.member.fits
    (ap (λ (o : Octets). o ++ []) (sym says ∙ may_size octets may)) in
    (omega (arith, same.0, may.long), omega (arith, same.0, may_long octets may))

-- what was read of it
pub is_member_of : (octets : Octets) (count serial : ℕ) → 25 ≤ length octets → get_or octets 0 0 ≡ 12
    → IsTrue (eqb (get_or octets 1 0) 97 || eqb (get_or octets 1 0) 120) → take 4 (drop 13 octets) ≡ little_bytes 4 count → count < 256 ^ 4
    → 8 ≤ count → 17 + count ≤ length octets → take 8 (drop 17 octets) ≡ little_bytes 8 serial → IsMemberOf octets (17 + count) serial
is_member_of [] count serial long front kind size small some fits says = absurd (omega arith)
is_member_of (x ∷ xs) count serial long front kind size small some fits says =
    let name = take 12 xs in
    let after = drop 12 xs in
    let rest = drop 4 after in
    let content = take count rest in
    let more = drop count rest in
    let name_long : length name ≡ 12 = omega (arith, length-take 12 xs) in
    let rest_is : rest ≡ drop 16 xs = drop-drop 4 12 xs in
    let content_long : length content ≡ count =
    omega (arith, length-take count rest, ap (λ (o : Octets). length o) rest_is, length-drop 16 xs) in
    let file : File = record { name = name; content = content } in
    let after_is : little_bytes 4 (length content) ++ (content ++ more) ≡ after =
    ap (λ (n : ℕ). little_bytes 4 n ++ (content ++ more)) content_long ∙ ap (λ (o : Octets). o ++ (content ++ more)) (sym size)
    ∙ ap (λ (o : Octets). take 4 after ++ o) (take-append-drop count rest) ∙ take-append-drop 4 after in
    let whole : member_octets file ++ more ≡ x ∷ xs =
    joined_first file more
    ∙ (λ i. (name_long ∙ sym front) i ∷ name ++ after_is i)
    ∙ ap (λ (o : Octets). x ∷ o) (take-append-drop 12 xs) in
    record {
      file = file;
      rest = more;
      member = record {
        kind = subst (λ (n : ℕ). IsTrue (eqb n 97 || eqb n 120)) (sym (get_or-take 12 xs 0 0 (omega arith))) kind;
        fits = omega (arith, content_long);
      };
      is = sym whole;
      size_is = omega (arith, member_size file, name_long, content_long);
      says = take-take 8 count rest some ∙ ap (take 8) rest_is ∙ says;
    }

pub member_some : (octets : Octets) (size serial : ℕ) → IsMemberOf octets size serial → 0 < size
member_some octets size serial its = omega (arith, its.size_is, member_size its.file)

-- ---- the content of an inode

pub one_content : (inodes : List (Option File)) (at : ℕ) (name content other : Octets) → IsFileAt inodes at name content
    → IsFileAt inodes at name other → content ≡ other
one_content inodes at name content other one two =
    let first : File = record { name = name; content = content } in
    let second : File = record { name = name; content = other } in
    let same : Some first ≡ Some second = sym one ∙ two in
    let files : first ≡ second = cc in
    ap (λ (f : File). f.content) files

-- ---- one more of the pack

-- what was read at a place is the file that is next
pub record IsNextMember (members done : List File) (from size serial : ℕ) : Type 0 where
  pub file : File
  pub more : List File
  pub members_are : members ≡ done ++ file ∷ more
  pub size_is : size ≡ length (member_octets file)
  pub says : take 8 file.content ≡ little_bytes 8 serial
  pub next_is : from + size ≡ length (pack_octets (done ++ file ∷ []))
  pub within : from + size ≤ length (pack_octets members)

pub next_size : (done : List File) (f : File) → length (pack_octets (done ++ f ∷ []))
    ≡ length (pack_octets done) + length (member_octets f)
next_size done f =
    omega (
      arith,
      ap (λ (o : Octets). length o) (pack_more done (f ∷ [])),
      length-append (pack_octets done) (pack_octets (f ∷ [])),
      ap (λ (o : Octets). length o) (one_pack f),
    )

pub next_member : (members done more : List File) (from size serial : ℕ) → All IsMember members → members ≡ done ++ more
    → from ≡ length (pack_octets done) → from < length (pack_octets members) → IsMemberOf (drop from (pack_octets members)) size serial
    → IsNextMember members done from size serial
next_member members done [] from size serial each members_are from_is less its =
    absurd (omega (arith, ap (λ (fs : List File). length (pack_octets fs)) (members_are ∙ append-nil done)))
next_member members done (g ∷ more) from size serial each members_are from_is less its =
    let octets : pack_octets members ≡ pack_octets done ++ (member_octets g ++ pack_octets more) =
    ap pack_octets members_are ∙ pack_more done (g ∷ more) ∙ ap (λ (o : Octets). pack_octets done ++ o) (pack_cons g more) in
    let tail : drop from (pack_octets members) ≡ member_octets g ++ pack_octets more =
    (λ i. drop (from_is i) (octets i)) ∙ drop-append_seam (pack_octets done) (member_octets g ++ pack_octets more) in
    let one = All-contains IsMember members g each
    (subst (λ (fs : List File). Contains fs g) (sym members_are) (Contains-append_right done (g ∷ more) g (0, omega arith, refl))) in
    let same = member_once its.file g its.rest (pack_octets more) its.member one (sym its.is ∙ tail) in
    let size_is : size ≡ length (member_octets g) = its.size_is ∙ ap (λ (f : File). length (member_octets f)) same.0 in
    record {
      file = g;
      more = more;
      members_are = members_are;
      size_is = size_is;
      says = ap (λ (f : File). take 8 f.content) (sym same.0) ∙ its.says;
      next_is = omega (arith, next_size done g, size_is, from_is);
      within = omega (
        arith,
        ap (λ (o : Octets). length o) octets,
        length-append (pack_octets done) (member_octets g ++ pack_octets more),
        length-append (member_octets g) (pack_octets more),
        size_is,
        from_is,
      );
    }

-- ---- while the files in the pack are counted

-- so many were counted before this place
pub record AreCounted (inodes : List (Option File)) (at size from count : ℕ) : Type 0 where
  pub done : List File
  pub tail : Octets
  pub there : IsFileAt inodes at pack_name (pack_octets done ++ tail)
  pub each : All IsMember done
  pub count_is : count ≡ length done
  pub from_is : from ≡ length (pack_octets done)
  pub size_is : size ≡ length (pack_octets done ++ tail)

pub none_counted : (inodes : List (Option File)) (at size : ℕ) → HasPackFile inodes at size → AreCounted inodes at size 0 0
none_counted inodes at size (content, there, size_is) = record {
  done = [];
  tail = content;
  there = subst (IsFileAt inodes at pack_name) (ap (λ (o : Octets). o ++ content) (sym no_octets)) there;
  each = All-nil IsMember;
  count_is = refl;
  from_is = ap (λ (o : Octets). length o) (sym no_octets);
  size_is = size_is ∙ ap (λ (o : Octets). length (o ++ content)) (sym no_octets);
}

module _ (inodes : List (Option File)) (at size from count : ℕ) (so : AreCounted inodes at size from count) where
  abbrev all : Octets
  all = pack_octets so.done ++ so.tail

  pub tail_is : drop from all ≡ so.tail
  tail_is = ap (λ (n : ℕ). drop n all) so.from_is ∙ drop-append_seam (pack_octets so.done) so.tail

  pub count_few : 5 * count ≤ from
  count_few = omega (arith, pack_size so.done, so.count_is, so.from_is)

  pub from_within : from ≤ size
  from_within = omega (arith, so.from_is, so.size_is, length-append (pack_octets so.done) so.tail)

  pub tail_size : from + length so.tail ≡ size
  tail_size = omega (arith, so.from_is, so.size_is, length-append (pack_octets so.done) so.tail)

  pub one_counted : (member serial : ℕ) → IsMemberOf (drop from all) member serial
      → AreCounted inodes at size (from + member) (count + 1) × (from + member ≤ size)
  one_counted member serial its =
      let f = its.file in
      let octets : all ≡ pack_octets (so.done ++ f ∷ []) ++ its.rest =
      ap (λ (o : Octets). pack_octets so.done ++ o) (sym tail_is ∙ its.is)
      ∙ sym (append_assoc (pack_octets so.done) (member_octets f) its.rest)
      ∙ ap (λ (o : Octets). (pack_octets so.done ++ o) ++ its.rest) (sym (one_pack f))
      ∙ ap (λ (o : Octets). o ++ its.rest) (sym (pack_more so.done (f ∷ []))) in
      let next : from + member ≡ length (pack_octets (so.done ++ f ∷ [])) =
      omega (arith, so.from_is, its.size_is, next_size so.done f) in (
        record {
          done = so.done ++ f ∷ [];
          tail = its.rest;
          there = subst (IsFileAt inodes at pack_name) octets so.there;
          each = All-append IsMember so.done (f ∷ []) so.each (All-cons IsMember f [] its.member (All-nil IsMember));
          count_is = omega (arith, so.count_is, length-append so.done (f ∷ []));
          from_is = next;
          size_is = so.size_is ∙ ap (λ (o : Octets). length o) octets;
        },
        omega (
          arith,
          so.size_is,
          next,
          ap (λ (o : Octets). length o) octets,
          length-append (pack_octets (so.done ++ f ∷ [])) its.rest,
        ),
      )

  -- at the end
  pub all_counted : size ≤ from → 0 < size → IsPack inodes at so.done
  all_counted past some =
      let none : so.tail ≡ [] = nil_from_length so.tail (omega (arith, tail_size)) in
      let octets : all ≡ pack_octets so.done = ap (λ (o : Octets). pack_octets so.done ++ o) none ∙ append-nil (pack_octets so.done) in
      record {
        there = subst (IsFileAt inodes at pack_name) octets so.there;
        each = so.each;
        some = by_done so.done refl (omega (arith, past, so.from_is));
      }
    where
      by_done : (done : List File) → so.done ≡ done → 0 < length (pack_octets so.done) → 0 < length so.done
      by_done [] is long =
          absurd (omega (arith, ap (λ (fs : List File). length (pack_octets fs)) is, ap (λ (o : Octets). length o) no_octets))
      by_done (f ∷ done) is long = omega (arith, ap (λ (fs : List File). length fs) is)
