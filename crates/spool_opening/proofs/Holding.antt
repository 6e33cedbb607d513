-- The changes that were read are held where their files are all that there are.
use Rattle.std.proofs.Common.{◌≡◌, ◌≢◌, ◌<◌, ◌≤◌, ℕ, ◌+◌, Bool, true, false, List, [], ◌∷◌, ◌++◌, length, get_or, take, min}
use Rattle.std.proofs.Common.{refl, sym, ◌∙◌, ap, subst, arith, Option, Some, None, inl, inr, length-append}
use Rattle.std.specs.List.{All, Contains}
use Rattle.std.proofs.lemmas.Bool.{cases_lt, true≢false}
use Rattle.std.proofs.lemmas.List.{get_or_past, take_all}
use Rattle.std.proofs.lemmas.List.Elements.{All-contains, All-contains_itself, Contains-append_cases, Contains-append_left}
use Rattle.std.proofs.lemmas.List.Elements.{Contains-append_right}
use Rattle.std.proofs.lemmas.List.Sorted.{Contains-permutation, IsPermutation-sym, length_permutation}
use Rattle.std.proofs.lemmas.Option.{slice_get-get_or}
use Rattle.model.specs.Stream.{Octets}
use Rattle.model.specs.Files.{File, IsFileSystem, files_in, most_inodes, table}
use Rattle.model.specs.Indexed.{FilePlaces, IsAt}
use Rattle.model.specs.Layout.{Holds}
use Rattle.model.specs.Packs.{IsMember, IsStored, StandFor, most_changes, pack_name, pack_octets, pack_of}
use Rattle.model.specs.Spool.{Spool}
use Rattle.model.specs.FileKinds.{is_of_change}
use Rattle.model.specs.SpoolFiles.{change_file, files_of}
use Rattle.model.proofs.HoldsOne.{no_change}
use Rattle.model.proofs.Inodes.{is_among, where_is}
use Rattle.model.proofs.Opening.{files_counted, files_make_spool}
use Rattle.model.proofs.Packing.{has_pack, is_stored, none_packed, pack_stored}
use Rattle.fs_layout.proofs.Tables.{length-table, there_once}
use Rattle.spool_index.specs.View.{IndexView}
use Rattle.spool_index.specs.Viewed.{place_of}
use Rattle.spool_index.specs.declared.places.ChangePlace.{ChangePlace}
use Rattle.spool_reading.specs.Sorted.{AreFirst, AreSorted}
use Rattle.spool_reading.proofs.Finding.{has_change, in_spool, member_of_change}
use Rattle.spool_reading.proofs.Members.{at_once}
use Rattle.spool_reading.proofs.Slots.{slot_low, slot_of}
use Rattle.spool_opening.specs.Ended.{AreAsMany, IsNameOf, IsOpened, IsWholeAt}
use Rattle.spool_opening.specs.Laws.{FilesAreAsMany, IndexIsWhole, ReadIsHeld}
use Rattle.spool_opening.specs.Replayed.{IsReplayed}
use Rattle.spool_opening.specs.Stored.{AreRead, file_for, name_for}
use Rattle.spool_index.proofs.Named.{are_by_name}
use Rattle.spool_opening.proofs.Formats.{no_pack}
use Rattle.spool_opening.proofs.GroupFiles.{has_index, index_is, named_for}
use Rattle.spool_opening.proofs.Whole.{read_all}

-- ---- how many files there are

-- stored files have one pack
same_packed : (stored files others : List File) (s : StandFor stored files) (r : StandFor stored others) → s.packed ≡ r.packed
same_packed stored files others s r = by_packed s.packed refl where
  by_packed : (packed : List File) → s.packed ≡ packed → packed ≡ r.packed
  by_packed [] none = sym (none_packed stored others r (no_pack stored files s none))
  by_packed (f ∷ packed) is =
      let among : Contains (f ∷ packed) f = (0, omega arith, refl) in
      let pack : File = record { name = pack_name; content = pack_octets (f ∷ packed) } in
      let there : Contains (s.plain ++ pack_of s.packed) pack =
      Contains-append_right s.plain (pack_of s.packed) pack
      (subst (λ (fs : List File). Contains (pack_of fs) pack) (sym is) (has_pack (f ∷ packed) f among)) in
      pack_stored stored others r (f ∷ packed) (subst (λ (fs : List File). All IsMember fs) is s.members)
      (Contains-permutation (s.plain ++ pack_of s.packed) stored pack (IsPermutation-sym stored (s.plain ++ pack_of s.packed) s.stored_are)
      there)

pack_count : (packed : List File) → length (pack_of packed) ≡ min (length packed) 1
pack_count [] = refl
pack_count (f ∷ packed) = omega arith

-- as many are stored as are meant, but the packed ones, and one for the pack
stored_count : (stored files : List File) (s : StandFor stored files) → length stored + length s.packed
    ≡ min (length s.packed) 1 + length files
stored_count stored files s =
    omega (
      arith,
      length_permutation stored (s.plain ++ pack_of s.packed) s.stored_are,
      length-append s.plain (pack_of s.packed),
      pack_count s.packed,
      length_permutation (s.plain ++ s.packed) files s.files_are,
      length-append s.plain s.packed,
    )

pub files_as_many : FilesAreAsMany
files_as_many host inodes blocks S slots named packed held sorted =
    let s : StandFor (files_in (table inodes blocks)) (files_of S) = subst (λ (fs : List File). StandFor fs (files_of S)) held.held.contents
    held.same in
    omega (
      arith,
      stored_count (files_in (table inodes blocks)) (files_of S) s,
      files_counted S,
      sorted.packed_is,
      ap (λ (fs : List File). length fs)
          (same_packed (files_in (table inodes blocks)) sorted.files (files_of S) sorted.stand s),
    )

pub index_whole : IndexIsWhole
index_whole host inodes blocks S k held f there not other =
    let has = in_spool host inodes blocks S f held other (is_among (table inodes blocks) k f there) in
    let its = named_for S f has not in
    let index = index_is its.0 S its.1.0 f.content
    (subst (λ (o : Octets). Contains (files_of S) (record { name = o; content = f.content })) its.1.1 has) in
    record { which = its.0; group = its.1.0; here = index.here; is = its.1.1; size_is = ap (λ (o : Octets). length o) index.is }

-- ---- each file is one of the changes'

-- a file that is no change's is stored as it is, and is not the pack
record IsPlain (stored : List File) (f : File) : Type 0 where
  stored_is : Contains stored f
  other : f.name ≢ pack_name

plain_if_not : (stored files : List File) (s : StandFor stored files) (f : File) → Contains files f → is_of_change f ≡ false
    → IsPlain stored f
plain_if_not stored files s f has not =
    elim (Contains-append_cases s.plain s.packed f (Contains-permutation files (s.plain ++ s.packed) f
    (IsPermutation-sym (s.plain ++ s.packed) files s.files_are) has)) [
      | inl plain ↦ record {
        stored_is = Contains-permutation (s.plain ++ pack_of s.packed) stored f
            (IsPermutation-sym stored (s.plain ++ pack_of s.packed) s.stored_are) (Contains-append_left s.plain (pack_of s.packed) f plain);
        other = All-contains (λ (g : File). g.name ≢ pack_name) s.plain f s.no_pack plain;
      }
      | inr packed ↦ absurd (true≢false (sym (member_of_change f (All-contains IsMember s.packed f s.members packed)) ∙ not))
    ]

module _ (host : Octets) (inodes : ℕ) (blocks : List Octets) (R : Spool) (rule : IsFileSystem inodes blocks)
    (read : AreRead host inodes blocks R) where
  change_there : (slots : List (Option ChangePlace)) (named : List (Octets × ℕ)) (packed : ℕ)
      → AreSorted (table inodes blocks) slots named packed → AreFirst (length R) slots → (f : File)
      → IsStored (files_in (table inodes blocks)) f → is_of_change f ≡ true → Contains (files_of R) f
  change_there slots named packed sorted first f stored of = by_slot slot.0 slot.1 slot.2 slot.3 where
    slot : (n : ℕ) × (place : ChangePlace) × (get_or slots n None ≡ Some place) × IsAt (table inodes blocks) (place_of place) f
    slot = sorted.all f stored of

    by_slot : (n : ℕ) (p : ChangePlace) → get_or slots n None ≡ Some p → IsAt (table inodes blocks) (place_of p) f → Contains (files_of R) f
    by_slot n p taken there =
        let low : n < length R = elim (cases_lt n (length R)) [
          | inl less ↦ less
          | inr past ↦ absurd (let none = first.rest n past in cc)
        ] in
        let c = get_or R n no_change in
        let bound = slot_low slots n p taken in
        let many = sorted.few in
        let its = slot_of (table inodes blocks) n c slots named packed (omega arith) sorted
        (read.changes n c (slice_get-get_or R n no_change low)).1 in
        let places : Some its.0 ≡ Some p = sym its.1 ∙ taken in
        let one : its.0 ≡ p = cc in
        let same : change_file (record { serial = n + 1; change = c }) ≡ f =
        at_once (table inodes blocks) p (change_file (record { serial = n + 1; change = c })) f
        (subst (λ (q : ChangePlace). IsAt (table inodes blocks) (place_of q) (change_file (record { serial = n + 1; change = c }))) one
        its.2)
        there in
        subst (Contains (files_of R)) same (has_change R n low)

  index_there : (k : ℕ) (f : File) → get_or (table inodes blocks) k None ≡ Some f → IsNameOf R f.name (length f.content)
      → Contains (files_of R) f
  index_there k f there is =
      let front = read.fronts is.which is.group is.here in
      let here : get_or (table inodes blocks) k None ≡ Some (record { name = name_for is.which is.group; content = f.content }) = there
      ∙ ap (λ (o : Octets). Some (record { name = o; content = f.content })) is.is in
      let one = there_once inodes blocks rule front.place k (name_for is.which is.group) front.content f.content front.there here in
      let whole : f.content ≡ file_for is.which R is.group =
      sym (take_all (length (file_for is.which R is.group)) f.content (omega (arith, is.size_is)))
      ∙ ap (take (length (file_for is.which R is.group))) (sym one) ∙ front.front in
      subst (Contains (files_of R)) (λ i. record { name = sym is.is i; content = sym whole i }) (has_index is.which R is.group is.here)

  other_there : ((k : ℕ) → k < inodes → IsWholeAt (table inodes blocks) R k) → (f : File) → IsPlain (files_in (table inodes blocks)) f
      → is_of_change f ≡ false → Contains (files_of R) f
  other_there whole f plain not =
      let at = where_is (table inodes blocks) f plain.stored_is in
      let size = length-table inodes blocks in
      let inside : at.0 < inodes = elim (cases_lt at.0 inodes) [
        | inl less ↦ less
        | inr past ↦ absurd (let none = get_or_past (table inodes blocks) at.0 None (omega arith) in let there = at.1 in cc)
      ] in
      index_there at.0 f at.1 (whole at.0 inside f at.1 not plain.other)

  pub one_of : (slots : List (Option ChangePlace)) (named : List (Octets × ℕ)) (packed : ℕ)
      → (sorted : AreSorted (table inodes blocks) slots named packed) → AreFirst (length R) slots
      → ((k : ℕ) → k < inodes → IsWholeAt (table inodes blocks) R k)
      → (f : File) → Contains sorted.files f → Contains (files_of R) f
  one_of slots named packed sorted first whole f has = by_kind (is_of_change f) refl where
    by_kind : (b : Bool) → is_of_change f ≡ b → Contains (files_of R) f
    by_kind true of = change_there slots named packed sorted first f
        (is_stored (files_in (table inodes blocks)) sorted.files sorted.stand f has) of
    by_kind false not = other_there whole f (plain_if_not (files_in (table inodes blocks)) sorted.files sorted.stand f has not) not

pub read_held : ReadIsHeld
read_held host inodes blocks R slots named packed rule read sorted first whole count =
    files_make_spool host inodes blocks (files_in (table inodes blocks)) sorted.files R (record { rule = rule; contents = refl })
    read.lawful sorted.stand sorted.once
    (λ k d low. one_of host inodes blocks R rule read slots named packed sorted first whole (get_or sorted.files k d)
    (All-contains_itself sorted.files k d low))
    (omega (
      arith,
      count,
      stored_count (files_in (table inodes blocks)) sorted.files sorted.stand,
      sorted.packed_is,
      files_counted R,
    ))

-- ---- the end

pub few_first : (inodes : List (Option File)) (slots : List (Option ChangePlace)) (named : List (Octets × ℕ)) (packed m count : ℕ)
    → AreSorted inodes slots named packed → AreFirst count slots → m ≡ count → m ≤ most_changes
few_first inodes slots named packed m count sorted first is = omega (arith, sorted.few, first.few)

-- a spool that the blocks hold is the changes that were replayed
pub opened_is : (host : Octets) (inodes : ℕ) (blocks : List Octets) (R S : Spool) (slots : List (Option ChangePlace))
    (named : List (Octets × ℕ)) (packed count : ℕ) → inodes ≤ most_inodes → Holds host inodes blocks S → AreRead host inodes blocks R
    → AreSorted (table inodes blocks) slots named packed → AreFirst count slots → length R ≡ count → Holds host inodes blocks R
opened_is host inodes blocks R S slots named packed count few held read sorted first is =
    subst (Holds host inodes blocks)
    (read_all host inodes blocks R S slots named packed few held read sorted (subst (λ (n : ℕ). AreFirst n slots) (sym is) first)) held

pub opened : (host : Octets) (inodes : ℕ) (blocks : List Octets) (x : IndexView) (p : FilePlaces) (R : Spool)
    (slots : List (Option ChangePlace)) (named : List (Octets × ℕ)) (packed count : ℕ) → inodes ≤ most_inodes → IsFileSystem inodes blocks
    → IsReplayed host inodes blocks x p R → AreSorted (table inodes blocks) slots named packed → AreFirst count slots → length R ≡ count
    → ((k : ℕ) → k < inodes → IsWholeAt (table inodes blocks) R k)
    → AreAsMany (table inodes blocks) packed R → IsOpened host inodes blocks x p
opened host inodes blocks x p R slots named packed count few rule replayed sorted first is whole many =
    let held = read_held host inodes blocks R slots named packed rule replayed.read sorted
    (subst (λ (n : ℕ). AreFirst n slots) (sym is) first) whole many in
    record {
      changes = R;
      held = held;
      indexed = replayed.indexed;
      placed = are_by_name host inodes blocks R p few held replayed.placed;
    }
