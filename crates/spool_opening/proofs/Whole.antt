-- All changes, and the files beside theirs.
use Rattle.std.proofs.Common.{◌≡◌, ◌≢◌, ◌≤◌, ℕ, ◌+◌, ◌*◌, Bool, true, false, List, [], ◌∷◌, ◌++◌, length, get_or, refl, sym, ◌∙◌, ap, subst}
use Rattle.std.proofs.Common.{arith, min, Option, Some, None}
use Rattle.std.specs.Prelude.{◌↔◌, MatchOption, nat_eq, option_map}
use Rattle.std.proofs.lemmas.Bool.{eq-eqb, eqb-true, true≢false}
use Rattle.std.proofs.lemmas.List.{take_all}
use Rattle.model.specs.Stream.{Octets}
use Rattle.model.specs.Files.{File, most_inodes, table}
use Rattle.model.specs.Indexed.{FilePlaces, GroupIndex, group_index}
use Rattle.model.specs.Layout.{Holds}
use Rattle.model.specs.Spool.{Spool, entries, group_named, groups, is_here}
use Rattle.model.specs.FileKinds.{is_of_change}
use Rattle.model.specs.Packs.{pack_name}
use Rattle.model.specs.SpoolFiles.{numbers_file, numbers_name, overview_file, overview_name}
use Rattle.model.proofs.Indexing.{numbers_size}
use Rattle.spool_groups.specs.Filing.{end_of}
use Rattle.spool_index.specs.View.{IndexView, Indexes}
use Rattle.spool_index.proofs.LookUps.{group_is}
use Rattle.spool_index.proofs.Growing.{overview_size}
use Rattle.spool_index.specs.Places.{AreNamed}
use Rattle.spool_records.specs.Kinds.{front_of}
use Rattle.spool_records.specs.declared.names.FileKind.{FileKind}
use Rattle.spool_records.specs.declared.names.FileKind.TheVariants as kind
use Rattle.spool_index.specs.declared.places.ChangePlace.{ChangePlace}
use Rattle.spool_reading.specs.Sorted.{AreFirst, AreSorted}
use Rattle.spool_reading.proofs.Groups.{high_is}
use Rattle.spool_reading.proofs.Slots.{first_once, slots_as_many}
use Rattle.spool_opening.specs.Ended.{IsNameOf, IsWholeAt}
use Rattle.spool_opening.specs.Laws.{AllIsRead}
use Rattle.spool_opening.specs.Replayed.{AreReplayedTo}
use Rattle.spool_opening.specs.Stored.{Numbers, Overview, Which, file_for, name_for}
use Rattle.spool_opening.proofs.Fronts.{is_front}
use Rattle.spool_opening.proofs.Growing.{none_is_read}
use Rattle.spool_opening.proofs.Sizes.{here_is}

-- ---- all changes

pub none_replayed : (host : Octets) (inodes : ℕ) (blocks : List Octets) (x : IndexView) (p : FilePlaces) → Indexes [] x
    → p ≡ record { changes = []; numbers = []; overviews = [] } → AreReplayedTo host inodes blocks x p 0
unfolding entries groups
none_replayed host inodes blocks x p is none = record {
  changes = [];
  replayed = record {
    read = none_is_read host inodes blocks;
    indexed = is;
    placed = subst (AreNamed (table inodes blocks) []) (sym none) (record { changes_are = tt; numbers_are = refl; overviews_are = refl });
  };
  count_is = refl;
}

-- a spool that the blocks hold has as many
pub as_many : (host : Octets) (inodes : ℕ) (blocks : List Octets) (S : Spool) (slots : List (Option ChangePlace))
    (named : List (Octets × ℕ)) (packed count : ℕ) → inodes ≤ most_inodes → Holds host inodes blocks S
    → AreSorted (table inodes blocks) slots named packed → AreFirst count slots → length S ≡ count
as_many host inodes blocks S slots named packed count few held sorted first =
    first_once (length S) count slots (slots_as_many host inodes blocks S slots named packed few held sorted) first

-- so it is these
pub read_all : AllIsRead
read_all host inodes blocks R S slots named packed few held read sorted first =
    let count = as_many host inodes blocks S slots named packed (length R) few held sorted first in
    sym (is_front host inodes blocks S R few held read ∙ take_all (length R) S (omega (arith, count)))

-- ---- sizes by the index

pub numbers_found : (S : Spool) (name : Octets) (i : GroupIndex) (high : ℕ) → Some i ≡ option_map (group_index S) (group_named S name)
    → high ≡ length i.filed → (is_here S name ≡ true) × (16 * high ≡ length (numbers_file S name))
numbers_found S name i high is count =
    let its = group_is S name i is in
    let many = high_is S its.group in (
      here_is S name i is,
      ap (λ (n : ℕ). 16 * n) (count ∙ ap (λ (j : GroupIndex). length j.filed) its.its_index ∙ many) ∙ sym (numbers_size S its.group.name)
          ∙ ap (λ (g : Octets). length (numbers_file S g)) its.its_name,
    )

pub overview_found : (S : Spool) (name : Octets) (i : GroupIndex) (size : ℕ) → Some i ≡ option_map (group_index S) (group_named S name)
    → size ≡ end_of i → (is_here S name ≡ true) × (size ≡ length (overview_file S name))
overview_found S name i size is end =
    let its = group_is S name i is in (
      here_is S name i is,
      end ∙ ap end_of its.its_index ∙ overview_size S its.group
          ∙ ap (λ (g : Octets). length (overview_file S g)) its.its_name,
    )

-- ---- by name

first_octet : (a b : Octets) (x y : ℕ) → a ≡ b → get_or a 0 0 ≡ x → get_or b 0 0 ≡ y → x ≡ y
first_octet a b x y same p q = sym p ∙ ap (λ (o : Octets). get_or o 0 0) same ∙ q

-- a name of no kind
pub no_kind_named : (S : Spool) (name : Octets) (n : ℕ) → ((k : FileKind) (rest : Octets) → name ≡ front_of k ++ rest → ⊥)
    → IsNameOf S name n → ⊥
no_kind_named S name n none named = by_which named.which named.is where
  by_which : (w : Which) → name ≡ name_for w named.group → ⊥
  by_which Numbers is = none kind.Numbers named.group is
  by_which Overview is = none kind.Overview named.group is

-- what was found of one group is what was found of the name
pub by_group : (S : Spool) (w : Which) (name group : Octets) (o : Option ℕ) → name ≡ name_for w group
    → MatchOption o (is_here S group ≡ true → ⊥) (λ n. (is_here S group ≡ true) × (n ≡ length (file_for w S group)))
    → MatchOption o ((n : ℕ) → IsNameOf S name n → ⊥) (λ n. IsNameOf S name n)
by_group S w name group (Some n) is found = record { which = w; group = group; here = found.0; is = is; size_is = found.1 }
by_group S w name group None is none =
    λ n named. none (ap (is_here S) (same_group w named.which named.group is named.is) ∙ named.here) where
      same_group : (v u : Which) (other : Octets) → name ≡ name_for v group → name ≡ name_for u other → group ≡ other
      same_group Numbers Numbers other one two = let same : 110 ∷ 46 ∷ group ≡ 110 ∷ 46 ∷ other = sym one ∙ two in cc
      same_group Overview Overview other one two = let same : 111 ∷ 46 ∷ group ≡ 111 ∷ 46 ∷ other = sym one ∙ two in cc
      same_group Numbers Overview other one two =
          absurd (let octets : 110 ≡ 111 = first_octet (numbers_name group) (overview_name other) 110 111 (sym one ∙ two) refl refl in
          omega arith)
      same_group Overview Numbers other one two =
          absurd (let octets : 111 ≡ 110 = first_octet (overview_name group) (numbers_name other) 111 110 (sym one ∙ two) refl refl in
          omega arith)

-- one name has one size
pub one_size : (S : Spool) (name : Octets) (n m : ℕ) → IsNameOf S name n → IsNameOf S name m → n ≡ m
one_size S name n m one two = by_which one.which two.which one.is two.is one.size_is two.size_is where
  by_which : (v u : Which) → name ≡ name_for v one.group → name ≡ name_for u two.group → n ≡ length (file_for v S one.group)
      → m ≡ length (file_for u S two.group) → n ≡ m
  by_which Numbers Numbers p q size size' = let same : 110 ∷ 46 ∷ one.group ≡ 110 ∷ 46 ∷ two.group = sym p ∙ q in
      let groups' : one.group ≡ two.group = cc in size ∙ ap (λ (g : Octets). length (numbers_file S g)) groups' ∙ sym size'
  by_which Overview Overview p q size size' = let same : 111 ∷ 46 ∷ one.group ≡ 111 ∷ 46 ∷ two.group = sym p ∙ q in
      let groups' : one.group ≡ two.group = cc in size ∙ ap (λ (g : Octets). length (overview_file S g)) groups' ∙ sym size'
  by_which Numbers Overview p q size size' =
      absurd (let octets : 110 ≡ 111 = first_octet (numbers_name one.group) (overview_name two.group) 110 111 (sym p ∙ q) refl refl in
      omega arith)
  by_which Overview Numbers p q size size' =
      absurd (let octets : 111 ≡ 110 = first_octet (overview_name one.group) (numbers_name two.group) 111 110 (sym p ∙ q) refl refl in
      omega arith)

-- ---- one file

pub whole_none : (inodes : List (Option File)) (S : Spool) (at : ℕ) → get_or inodes at None ≡ None → IsWholeAt inodes S at
whole_none inodes S at none f there not other = absurd (cc)

pub whole_change : (inodes : List (Option File)) (S : Spool) (at : ℕ) (f : File) → get_or inodes at None ≡ Some f → is_of_change f ≡ true
    → IsWholeAt inodes S at
whole_change inodes S at f there of g there' not other =
    absurd (let same : Some f ≡ Some g = sym there ∙ there' in let one : f ≡ g = cc in
    true≢false (sym of ∙ ap is_of_change one ∙ not))

pub whole_pack : (inodes : List (Option File)) (S : Spool) (at : ℕ) (f : File) → get_or inodes at None ≡ Some f → f.name ≡ pack_name
    → IsWholeAt inodes S at
whole_pack inodes S at f there is g there' not other =
    absurd (let same : Some f ≡ Some g = sym there ∙ there' in let one : f ≡ g = cc in other (ap (λ (h : File). h.name) (sym one) ∙ is))

pub whole_named : (inodes : List (Option File)) (S : Spool) (at : ℕ) (f : File) (name : Octets) (n size : ℕ)
    → get_or inodes at None ≡ Some f → f.name ≡ name → size ≡ length f.content → IsNameOf S name n → size ≡ n → IsWholeAt inodes S at
whole_named inodes S at f name n size there named long is same g there' not other =
    let files : Some f ≡ Some g = sym there ∙ there' in
    let one : f ≡ g = cc in
    subst (λ (h : File). IsNameOf S h.name (length h.content)) one
    (subst (λ (p : Octets × ℕ). IsNameOf S p.0 p.1) (λ i. (sym named i, (sym same ∙ long) i)) is)

pub named_whole : (inodes : List (Option File)) (S : Spool) (at : ℕ) (f : File) (name : Octets) → get_or inodes at None ≡ Some f
    → f.name ≡ name → is_of_change f ≡ false → name ≢ pack_name → IsWholeAt inodes S at → IsNameOf S name (length f.content)
named_whole inodes S at f name there named not other whole =
    subst (λ (o : Octets). IsNameOf S o (length f.content)) named (whole f there not (λ is. other (sym named ∙ is)))

-- ---- how many

pub change_by_name : (f : File) (name : Octets) (b : Bool) → f.name ≡ name
    → ((content : Octets) → is_of_change (record { name = name; content = content }) ≡ b) → is_of_change f ≡ b
change_by_name f name b named is = ap (λ (o : Octets). is_of_change (record { name = o; content = f.content })) named ∙ is f.content

-- as many are used as the changes have files
pub count_used : (free pack count group_count inodes packed files changes made : ℕ) → free + files ≡ inodes → pack ≡ min packed 1
    → count ≡ changes → group_count ≡ made
    → (nat_eq (free + pack + count + 2 * group_count) (inodes + packed) ≡ true)
    ↔ (files + packed ≡ min packed 1 + (changes + 2 * made))
count_used free pack count group_count inodes packed files changes made used pack_is count_is groups_are = (
  λ yes. omega (arith, used, pack_is, count_is, groups_are, eqb-true (free + pack + count + 2 * group_count) (inodes + packed) yes),
  λ same. eq-eqb (free + pack + count + 2 * group_count) (inodes + packed) (omega (arith, used, pack_is, count_is, groups_are, same)),
)
