-- What a pack says.
use Rattle.std.proofs.Common.{◌≡◌, ◌≢◌, ◌⊎◌, inl, inr, ◌<◌, ◌≤◌, ◌^◌, ℕ, zero, suc, ◌+◌, ◌*◌, List, [], ◌∷◌, ◌++◌, length, map, refl, sym}
use Rattle.std.proofs.Common.{◌∙◌, ap, subst, arith, length-append, true, false, cond}
use Rattle.std.specs.Prelude.{drop, flat_map, slice_get, take, bytes_eq, All, IsPermutation, Option, Some}
use Rattle.std.specs.List.{Contains}
use Rattle.std.proofs.lemmas.List.{append_assoc, append-nil, drop-drop, map-append}
use Rattle.std.proofs.lemmas.List.Concat.{flat_map-append}
use Rattle.std.proofs.lemmas.List.Elements.{All-append, All-contains, All-cons, All-head, All-nil, All-tail, Contains-append_cases}
use Rattle.std.proofs.lemmas.List.Elements.{Contains-append_left, Contains-append_right}
use Rattle.std.proofs.lemmas.List.Sorted.{Contains-permutation, IsPermutation-append_left, IsPermutation-append_right, IsPermutation-map}
use Rattle.std.proofs.lemmas.List.Sorted.{IsPermutation-refl, IsPermutation-sym, IsPermutation-to_front, IsPermutation-trans}
use Rattle.std.proofs.Math.Seq.{drop-append_seam, take-append_seam}
use Rattle.byteorder.specs.Endian.{little_bytes, little_number}
use Rattle.byteorder.specs.Numbers.{little_number-reads_back}
use Rattle.disk.specs.Image.{part}
use Rattle.model.specs.Volume.{number_at}
use Rattle.model.specs.Stream.{Octets}
use Rattle.model.specs.Files.{File}
use Rattle.model.specs.FileCalls.{FileCall, Create, Append, after_call, after_calls, appended}
use Rattle.model.specs.Packs.{HasNoPack, IsMember, IsStored, StandFor, member_in, member_octets, pack_name, pack_octets, pack_of}
use Rattle.model.specs.Packs.{packing_calls}
use Rattle.model.specs.Laws.Packs.{FilesStandAlone, MembersAreRead, PackedFilesStay, PacksGrow}
use Rattle.model.specs.Indexed.{AreAt, ChangePlace, IsAt}
use Rattle.model.proofs.Inodes.{appended_here, appended_other}
use Rattle.model.proofs.Strings.{append_split, counted_split, length-little, little_split}

-- ---- the octets of a pack say what is in it

pub joined_first : (f : File) (rest : Octets)
    → member_octets f ++ rest ≡ length f.name ∷ f.name ++ (little_bytes 4 (length f.content) ++ (f.content ++ rest))
joined_first f rest =
    append_assoc (length f.name ∷ f.name) (little_bytes 4 (length f.content) ++ f.content) rest
    ∙ ap (λ (o : Octets). length f.name ∷ f.name ++ o) (append_assoc (little_bytes 4 (length f.content)) f.content rest)

pub pack_read : (fs gs : List File) → All IsMember fs → All IsMember gs → pack_octets fs ≡ pack_octets gs → fs ≡ gs
unfolding pack_octets
pack_read [] [] all also is = refl
pack_read [] (g ∷ gs) all also is = absurd (cc)
pack_read (f ∷ fs) [] all also is = absurd (cc)
pack_read (f ∷ fs) (g ∷ gs) all also is =
    let grouped : length f.name ∷ f.name ++ (little_bytes 4 (length f.content) ++ (f.content ++ flat_map member_octets fs))
    ≡ length g.name ∷ g.name ++ (little_bytes 4 (length g.content) ++ (g.content ++ flat_map member_octets gs)) =
    sym (joined_first f (flat_map member_octets fs)) ∙ is ∙ joined_first g (flat_map member_octets gs) in
    let names = counted_split f.name g.name _ _ grouped in
    let first = All-head IsMember f fs all in
    let second = All-head IsMember g gs also in
    let sizes = little_split 4 (length f.content) (length g.content) _ _ first.fits second.fits names.1 in
    let contents = append_split f.content g.content _ _ sizes.0 sizes.1 in
    let rest = pack_read fs gs (All-tail IsMember f fs all) (All-tail IsMember g gs also) contents.1 in
    λ i. record { name = names.0 i; content = contents.0 i } ∷ rest i

pub pack_size : (fs : List File) → 5 * length fs ≤ length (pack_octets fs)
unfolding pack_octets
pack_size [] = omega arith
pack_size (f ∷ fs) =
    omega (
      arith,
      pack_size fs,
      length-append (member_octets f) (flat_map member_octets fs),
      length-append (length f.name ∷ f.name) (little_bytes 4 (length f.content) ++ f.content),
      length-append (little_bytes 4 (length f.content)) f.content,
      length-little 4 (length f.content),
    )

-- ---- what is in a pack

-- a file of a pack's list of files is the pack
pub is_pack : (packed : List File) (f : File) → Contains (pack_of packed) f → f ≡ record { name = pack_name; content = pack_octets packed }
is_pack [] f (k, low, is) = absurd (omega arith)
is_pack (g ∷ packed) f (zero, low, is) = sym is
is_pack (g ∷ packed) f (suc k, low, is) = absurd (omega arith)

-- if a file is packed, there is the pack
pub has_pack : (packed : List File) (f : File) → Contains packed f
    → Contains (pack_of packed) (record { name = pack_name; content = pack_octets packed })
has_pack [] f (k, low, is) = absurd (omega arith)
has_pack (g ∷ packed) f has = (0, omega arith, refl)

module _ (stored files : List File) (s : StandFor stored files) where
  is_either : (f : File) → Contains stored f → Contains s.plain f ⊎ Contains (pack_of s.packed) f
  is_either f has =
      Contains-append_cases s.plain (pack_of s.packed) f (Contains-permutation stored (s.plain ++ pack_of s.packed) f s.stored_are has)

  -- a file that is stored as it is, and is not the pack, is one of those that are meant
  pub plain_stored : (f : File) → f.name ≢ pack_name → Contains stored f → Contains s.plain f
  plain_stored f other has =
      elim (is_either f has) [
        | inl there ↦ there
        | inr pack ↦ absurd (other (ap (λ (g : File). g.name) (is_pack s.packed f pack)))
      ]

  -- the pack that is stored says what is packed
  pub pack_said : (content : Octets) → Contains stored (record { name = pack_name; content = content }) → content ≡ pack_octets s.packed
  pack_said content has =
      let f : File = record { name = pack_name; content = content } in
      elim (is_either f has) [
        | inl there ↦ absurd (All-contains (λ (g : File). g.name ≢ pack_name) s.plain f s.no_pack there refl)
        | inr pack ↦ ap (λ (g : File). g.content) (is_pack s.packed f pack)
      ]

  -- the pack that is stored is the one
  pub pack_stored : (members : List File) → All IsMember members
      → Contains stored (record { name = pack_name; content = pack_octets members }) → members ≡ s.packed
  pack_stored members each has = pack_read members s.packed each s.members (pack_said (pack_octets members) has)

  pub is_meant : (f : File) → f.name ≢ pack_name → IsStored stored f → Contains files f
  is_meant f other (inl has) =
      Contains-permutation (s.plain ++ s.packed) files f s.files_are (Contains-append_left s.plain s.packed f (plain_stored f other has))
  is_meant f other (inr (members, each, among, has)) =
      Contains-permutation (s.plain ++ s.packed) files f s.files_are
      (Contains-append_right s.plain s.packed f (subst (λ (fs : List File). Contains fs f) (pack_stored members each has) among))

  pub is_stored : (f : File) → Contains files f → IsStored stored f
  is_stored f has =
      elim (Contains-append_cases s.plain s.packed f (Contains-permutation files (s.plain ++ s.packed) f
      (IsPermutation-sym (s.plain ++ s.packed) files s.files_are) has)) [
        | inl there ↦ inl (Contains-permutation (s.plain ++ pack_of s.packed) stored f
            (IsPermutation-sym stored (s.plain ++ pack_of s.packed) s.stored_are) (Contains-append_left s.plain (pack_of s.packed) f there))
        | inr packed ↦ inr (
          s.packed,
          s.members,
          packed,
          Contains-permutation (s.plain ++ pack_of s.packed) stored (record { name = pack_name; content = pack_octets s.packed })
              (IsPermutation-sym stored (s.plain ++ pack_of s.packed) s.stored_are)
              (Contains-append_right s.plain (pack_of s.packed) (record { name = pack_name; content = pack_octets s.packed })
              (has_pack s.packed f packed)),
        )
      ]

  -- a file that may not be packed is stored as it is
  pub stored_beside : (f : File) → Contains files f → ¬ (IsMember f) → Contains stored f
  stored_beside f has other =
      elim (is_stored f has) [
        | inl there ↦ there
        | inr packed ↦ absurd (other (All-contains IsMember packed.0 f packed.1 packed.2))
      ]

-- files that are stored stand for the same files
pub shared : (stored files others : List File) → StandFor stored files → StandFor stored others → (f : File) → f.name ≢ pack_name
    → Contains files f → Contains others f
shared stored files others s r f other has = is_meant stored others r f other (is_stored stored files s f has)

-- ---- without a pack

pub stand_alone : (stored files : List File) → HasNoPack stored → IsPermutation stored files → StandFor stored files
stand_alone stored files no_pack same = record {
  plain = stored;
  packed = [];
  stored_are = subst (IsPermutation stored) (sym (append-nil stored)) (IsPermutation-refl stored);
  files_are = subst (λ fs. IsPermutation fs files) (sym (append-nil stored)) same;
  no_pack = no_pack;
  members = All-nil IsMember;
}

pub none_packed : (stored files : List File) (s : StandFor stored files) → HasNoPack stored → s.packed ≡ []
none_packed stored files s alone = by_packed s.packed s.stored_are where
  by_packed : (packed : List File) → IsPermutation stored (s.plain ++ pack_of packed) → packed ≡ []
  by_packed [] same = refl
  by_packed (f ∷ packed) same =
      let its : File = record { name = pack_name; content = pack_octets (f ∷ packed) } in
      let there : Contains stored its =
      Contains-permutation (s.plain ++ its ∷ []) stored its (IsPermutation-sym stored (s.plain ++ its ∷ []) same)
      (Contains-append_right s.plain (its ∷ []) its (0, omega arith, refl)) in
      absurd (All-contains (λ (g : File). g.name ≢ pack_name) stored its alone there refl)

are_same : (stored files : List File) → HasNoPack stored → StandFor stored files → IsPermutation stored files
are_same stored files alone s =
    let none = none_packed stored files s alone in
    let all_stored = ap (λ (packed : List File). s.plain ++ pack_of packed) none ∙ append-nil s.plain in
    let all_meant = ap (λ (packed : List File). s.plain ++ packed) none ∙ append-nil s.plain in
    IsPermutation-trans stored s.plain files (subst (IsPermutation stored) all_stored s.stored_are)
    (subst (λ (fs : List File). IsPermutation fs files) all_meant s.files_are)

pub stands_alone : FilesStandAlone
stands_alone stored files alone = (are_same stored files alone, stand_alone stored files alone)

-- ---- the same files in another order

pub stand_same : (stored files others : List File) → StandFor stored files → IsPermutation files others → StandFor stored others
stand_same stored files others s same = record {
  plain = s.plain;
  packed = s.packed;
  stored_are = s.stored_are;
  files_are = IsPermutation-trans (s.plain ++ s.packed) files others s.files_are same;
  no_pack = s.no_pack;
  members = s.members;
}

-- stored files in another order
pub stored_same : (stored other files : List File) → IsPermutation other stored → StandFor stored files → StandFor other files
stored_same stored other files same s = record {
  plain = s.plain;
  packed = s.packed;
  stored_are = IsPermutation-trans other stored (s.plain ++ pack_of s.packed) same s.stored_are;
  files_are = s.files_are;
  no_pack = s.no_pack;
  members = s.members;
}

-- ---- calls

apart_all : (name octets : Octets) (fs : List File) → All (λ f. f.name ≢ name) fs → map (appended name octets) fs ≡ fs
apart_all name octets [] other = refl
apart_all name octets (f ∷ fs) other =
    let one = appended_other name octets f (All-head (λ (g : File). g.name ≢ name) f fs other) in
    let rest = apart_all name octets fs (All-tail (λ (g : File). g.name ≢ name) f fs other) in
    λ i. one i ∷ rest i

keeps_name : (name octets : Octets) (f : File) → (appended name octets f).name ≡ f.name
keeps_name name octets f =
    elim (bytes_eq name f.name) as (λ b. (cond b (record { name = f.name; content = f.content ++ octets }) f).name ≡ f.name)
    [ true ↦ refl | false ↦ refl ]

keeps_names : (name octets : Octets) (fs : List File) → HasNoPack fs → HasNoPack (map (appended name octets) fs)
keeps_names name octets [] other = All-nil (λ (f : File). f.name ≢ pack_name)
keeps_names name octets (f ∷ fs) other =
    All-cons (λ (g : File). g.name ≢ pack_name) (appended name octets f) (map (appended name octets) fs)
    (λ is. All-head (λ (g : File). g.name ≢ pack_name) f fs other (sym (keeps_name name octets f) ∙ is))
    (keeps_names name octets fs (All-tail (λ (g : File). g.name ≢ pack_name) f fs other))

-- one more of the first
push_first : (xs ys : List File) (f : File) → IsPermutation ((xs ++ ys) ++ f ∷ []) ((xs ++ f ∷ []) ++ ys)
push_first xs ys f =
    subst (λ (zs : List File). IsPermutation zs ((xs ++ f ∷ []) ++ ys)) (sym (append_assoc xs ys (f ∷ [])))
    (subst (IsPermutation (xs ++ (ys ++ f ∷ []))) (sym (append_assoc xs (f ∷ []) ys))
    (IsPermutation-append_right xs (ys ++ f ∷ []) (f ∷ ys) (IsPermutation-to_front ys f)))

pack_left : (name octets : Octets) (packed : List File) → name ≢ pack_name → map (appended name octets) (pack_of packed) ≡ pack_of packed
pack_left name octets [] other = refl
pack_left name octets (f ∷ packed) other =
    let one = appended_other name octets (record { name = pack_name; content = pack_octets (f ∷ packed) }) (λ is. other (sym is)) in
    λ i. one i ∷ []

-- a call that makes or extends a file other than the pack, and extends none that is packed
abbrev pub IsPlainCall : List File → FileCall → Type 0
IsPlainCall packed (Create name) = name ≢ pack_name
IsPlainCall packed (Append name octets) = (name ≢ pack_name) × All (λ f. f.name ≢ name) packed

-- such a call does the same to the stored files and to those that they stand for
call_plain : (stored files : List File) (call : FileCall) (s : StandFor stored files) → IsPlainCall s.packed call
    → (r : StandFor (after_call stored call) (after_call files call)) × (r.packed ≡ s.packed)
call_plain stored files (Create name) s plain =
    let f : File = record { name = name; content = [] } in (
      record {
        plain = s.plain ++ f ∷ [];
        packed = s.packed;
        stored_are =
            let pack = pack_of s.packed in
            IsPermutation-trans (stored ++ f ∷ []) ((s.plain ++ pack) ++ f ∷ []) ((s.plain ++ f ∷ []) ++ pack)
            (IsPermutation-append_left (f ∷ []) stored (s.plain ++ pack) s.stored_are) (push_first s.plain pack f);
        files_are = IsPermutation-trans ((s.plain ++ f ∷ []) ++ s.packed) ((s.plain ++ s.packed) ++ f ∷ []) (files ++ f ∷ [])
            (IsPermutation-sym ((s.plain ++ s.packed) ++ f ∷ []) ((s.plain ++ f ∷ []) ++ s.packed) (push_first s.plain s.packed f))
            (IsPermutation-append_left (f ∷ []) (s.plain ++ s.packed) files s.files_are);
        no_pack = All-append (λ (g : File). g.name ≢ pack_name) s.plain (f ∷ []) s.no_pack
            (All-cons (λ (g : File). g.name ≢ pack_name) f [] plain (All-nil (λ (g : File). g.name ≢ pack_name)));
        members = s.members;
      },
      refl,
    )
call_plain stored files (Append name octets) s plain =
    let more = appended name octets in
    let split : map more (s.plain ++ pack_of s.packed) ≡ map more s.plain ++ pack_of s.packed =
    map-append more s.plain (pack_of s.packed) ∙ ap (λ fs. map more s.plain ++ fs) (pack_left name octets s.packed plain.0) in
    let kept : map more (s.plain ++ s.packed) ≡ map more s.plain ++ s.packed =
    map-append more s.plain s.packed ∙ ap (λ fs. map more s.plain ++ fs) (apart_all name octets s.packed plain.1) in (
      record {
        plain = map more s.plain;
        packed = s.packed;
        stored_are = subst (IsPermutation (map more stored)) split
            (IsPermutation-map more stored (s.plain ++ pack_of s.packed) s.stored_are);
        files_are = subst (λ (fs : List File). IsPermutation fs (map more files)) kept
            (IsPermutation-map more (s.plain ++ s.packed) files s.files_are);
        no_pack = keeps_names name octets s.plain s.no_pack;
        members = s.members;
      },
      refl,
    )

pub calls_plain : (stored files : List File) (calls : List FileCall) (s : StandFor stored files) → All (IsPlainCall s.packed) calls
    → StandFor (after_calls stored calls) (after_calls files calls)
calls_plain stored files [] s plain = s
calls_plain stored files (call ∷ calls) s plain =
    let one = call_plain stored files call s (All-head (IsPlainCall s.packed) call calls plain) in
    calls_plain (after_call stored call) (after_call files call) calls one.0
    (subst (λ (packed : List File). All (IsPlainCall packed) calls) (sym one.1) (All-tail (IsPlainCall s.packed) call calls plain))

-- ---- one more file in the pack

pack_push : (packed : List File) (f : File) → pack_octets (packed ++ f ∷ []) ≡ pack_octets packed ++ member_octets f
unfolding pack_octets
pack_push packed f =
    flat_map-append member_octets packed (f ∷ []) ∙ ap (λ o. flat_map member_octets packed ++ o) (append-nil (member_octets f))

one_packed : (plain packed files : List File) (f : File) → IsPermutation (plain ++ packed) files
    → IsPermutation (plain ++ (packed ++ f ∷ [])) (files ++ f ∷ [])
one_packed plain packed files f same =
    subst (λ (fs : List File). IsPermutation fs (files ++ f ∷ [])) (append_assoc plain packed (f ∷ []))
    (IsPermutation-append_left (f ∷ []) (plain ++ packed) files same)

one_member : (packed : List File) (f : File) → All IsMember packed → IsMember f → All IsMember (packed ++ f ∷ [])
one_member packed f each one = All-append IsMember packed (f ∷ []) each (All-cons IsMember f [] one (All-nil IsMember))

-- the pack's file
abbrev pack_file : List File → File
pack_file packed = record { name = pack_name; content = pack_octets packed }

-- the pack grows at its end, and nothing else changes
grown : (stored plain packed : List File) (f : File) → HasNoPack plain → IsPermutation stored (plain ++ pack_file packed ∷ [])
    → IsPermutation (map (appended pack_name (member_octets f)) stored) (plain ++ pack_file (packed ++ f ∷ []) ∷ [])
grown stored plain packed f alone same =
    subst (IsPermutation (map more stored)) split (IsPermutation-map more stored (plain ++ pack_file packed ∷ []) same)
  where
    more : File → File
    more = appended pack_name (member_octets f)

    one : more (pack_file packed) ≡ pack_file (packed ++ f ∷ [])
    one =
        appended_here pack_name (member_octets f) (pack_octets packed)
        ∙ ap (λ (o : Octets). record { name = pack_name; content = o }) (sym (pack_push packed f))

    split : map more (plain ++ pack_file packed ∷ []) ≡ plain ++ pack_file (packed ++ f ∷ []) ∷ []
    split =
        map-append more plain (pack_file packed ∷ [])
        ∙ (λ i. apart_all pack_name (member_octets f) plain alone i ++ one i ∷ [])

grow_by : (stored files : List File) (f : File) (plain packed : List File) → IsPermutation stored (plain ++ pack_of packed)
    → IsPermutation (plain ++ packed) files → HasNoPack plain → All IsMember packed → IsMember f
    → StandFor (after_calls stored (packing_calls packed f)) (files ++ f ∷ [])
unfolding pack_octets
grow_by stored files f plain [] stored_are files_are no_pack members one =
    let made : File = record { name = pack_name; content = [] } in
    let begun : IsPermutation (stored ++ made ∷ []) (plain ++ made ∷ []) =
    IsPermutation-append_left (made ∷ []) stored plain (subst (IsPermutation stored) (append-nil plain) stored_are) in
    record {
      plain = plain;
      packed = f ∷ [];
      stored_are = grown (stored ++ made ∷ []) plain [] f no_pack begun;
      files_are = one_packed plain [] files f files_are;
      no_pack = no_pack;
      members = one_member [] f members one;
    }
grow_by stored files f plain (g ∷ packed) stored_are files_are no_pack members one = record {
  plain = plain;
  packed = g ∷ packed ++ f ∷ [];
  stored_are = grown stored plain (g ∷ packed) f no_pack stored_are;
  files_are = one_packed plain (g ∷ packed) files f files_are;
  no_pack = no_pack;
  members = one_member (g ∷ packed) f members one;
}

pub packs_grow : PacksGrow
packs_grow stored files f s one = grow_by stored files f s.plain s.packed s.stored_are s.files_are s.no_pack s.members one

-- ---- a file at its place

module _ (f : File) (rest : Octets) (fits : length f.content < 256 ^ 4) where
  abbrev name_size : ℕ
  name_size = length f.name

  abbrev its : Octets
  its = member_octets f ++ rest

  abbrev after_name : Octets
  after_name = little_bytes 4 (length f.content) ++ (f.content ++ rest)

  joined : its ≡ name_size ∷ f.name ++ after_name
  joined = joined_first f rest

  past_name : drop (1 + name_size) its ≡ after_name
  past_name =
      let one : 1 + name_size ≡ suc name_size = omega arith in
      ap (λ (n : ℕ). drop n its) one ∙ ap (drop (suc name_size)) joined ∙ drop-append_seam f.name after_name

  its_size : number_at (1 + name_size) 4 its ≡ length f.content
  unfolding number_at
  its_size = ap (little_number 4) past_name ∙ little_number-reads_back 4 (length f.content) (f.content ++ rest) fits

  past_size : drop (5 + name_size) its ≡ f.content ++ rest
  past_size =
      let counted = little_bytes 4 (length f.content) in
      let places : 5 + name_size ≡ (1 + name_size) + length counted = omega (arith, length-little 4 (length f.content)) in
      ap (λ (n : ℕ). drop n its) places ∙ sym (drop-drop (length counted) (1 + name_size) its) ∙ ap (drop (length counted)) past_name
      ∙ drop-append_seam counted (f.content ++ rest)

  named : part 1 name_size its ≡ f.name
  named = ap (λ (o : Octets). take name_size (drop 1 o)) joined ∙ take-append_seam f.name after_name

  contained : part (5 + name_size) (number_at (1 + name_size) 4 its) its ≡ f.content
  contained =
      ap (λ (n : ℕ). take n (drop (5 + name_size) its)) its_size
      ∙ ap (take (length f.content)) past_size
      ∙ take-append_seam f.content rest

pub member_read : MembersAreRead
member_read f front rest one =
    ap member_in (drop-append_seam front (member_octets f ++ rest))
    ∙ (λ i. record { name = named f rest one.fits i; content = contained f rest one.fits i })

pub packed_stays : PackedFilesStay
packed_stays old new inode from size f keeps at =
    let pack : File = record { name = pack_name; content = at.front ++ (member_octets f ++ at.rest) } in
    let grown = keeps inode pack at.pack_is in
    record {
      front = at.front;
      rest = at.rest ++ grown.0;
      from_is = at.from_is;
      size_is = at.size_is;
      pack_is = grown.1 ∙ ap (λ (o : Octets). Some (record { name = pack_name; content = o }))
          (append_assoc at.front (member_octets f ++ at.rest) grown.0
          ∙ ap (λ (o : Octets). at.front ++ o) (append_assoc (member_octets f) at.rest grown.0));
    }

-- one of many files at its place
pub is_at : (inodes : List (Option File)) (places : List ChangePlace) (files : List File) (n : ℕ) (p : ChangePlace) (f : File)
    → AreAt inodes places files → slice_get places n ≡ Some p → slice_get files n ≡ Some f → IsAt inodes p f
is_at inodes [] files n p f are here is = absurd (cc)
is_at inodes (q ∷ places) [] n p f are here is = absurd are
is_at inodes (q ∷ places) (g ∷ files) zero p f are here is =
    let place : q ≡ p = cc in
    let file : g ≡ f = cc in
    subst (λ (x : ChangePlace × File). IsAt inodes x.0 x.1) (λ i. (place i, file i)) are.0
is_at inodes (q ∷ places) (g ∷ files) (suc n) p f are here is = is_at inodes places files n p f are.1 here is

-- as many places as files
pub are_many : (inodes : List (Option File)) (places : List ChangePlace) (files : List File) → AreAt inodes places files
    → length places ≡ length files
are_many inodes [] [] are = refl
are_many inodes [] (f ∷ files) are = absurd are
are_many inodes (p ∷ places) [] are = absurd are
are_many inodes (p ∷ places) (f ∷ files) are = omega (arith, are_many inodes places files are.1)

-- the octets of a packed file before its content
abbrev pub member_front : File → Octets
member_front f = length f.name ∷ f.name ++ little_bytes 4 (length f.content)

pub member_parts : (f : File) → member_octets f ≡ member_front f ++ f.content
member_parts f = sym (append_assoc (length f.name ∷ f.name) (little_bytes 4 (length f.content)) f.content)

pub front_size : (f : File) → length (member_front f) ≡ 5 + length f.name
front_size f =
    omega (
      arith,
      length-append (length f.name ∷ f.name) (little_bytes 4 (length f.content)),
      length-little 4 (length f.content),
    )
