-- Files by their places and names.
use Rattle.std.proofs.Common.{◌≡◌, ◌≤◌, inl, append-nil, ℕ, zero, suc, ◌+◌, List, [], ◌∷◌, ◌++◌, length, get_or, map, refl, sym, ◌∙◌}
use Rattle.std.proofs.Common.{ap, subst, arith}
use Rattle.std.specs.Prelude.{filter_map, Option, Some, None, option_map}
use Rattle.std.specs.List.{Contains, cons_option}
use Rattle.std.proofs.lemmas.List.{map_push}
use Rattle.model.specs.Stream.{Octets}
use Rattle.model.specs.Files.{File, most_inodes, table}
use Rattle.model.specs.Layout.{Holds}
use Rattle.model.specs.Spool.{Spool, SpoolEntry, NewsGroup, entries, entries_from, group_made, groups, news_group}
use Rattle.model.specs.SpoolFiles.{change_file, entry_files, files_of, numbers_file, numbers_name, overview_file, overview_name}
use Rattle.model.specs.declared.change.Change.{Change}
use Rattle.model.specs.declared.change.Change.TheVariants.{Group, Article, Expire}
use Rattle.model.proofs.ByKind.{overview_there}
use Rattle.model.proofs.Growing.{entries_more, groups_more}
use Rattle.model.proofs.HoldsOne.{changes_few}
use Rattle.model.proofs.Inodes.{is_among}
use Rattle.model.proofs.Joined.{joined_has, map_twice}
use Rattle.model.proofs.Naming.{names_distinct, no_pack_name}
use Rattle.model.proofs.Packing.{is_meant, packed_stays}
use Rattle.model.specs.Indexed.{Alone, AreAt, ChangePlace, KeepsFiles, Packed}
use Rattle.spool_index.specs.Laws.{PlacesAreByName, PlacesGrowByChange, PlacesGrowByGroup, PlacesHaveNames}
use Rattle.spool_index.specs.Places.{AreNamedAt, IsNamedAt, name_of, names_of}

-- ---- files have names

named_file : (o : Option File) (f : File) → o ≡ Some f → option_map (λ (g : File). g.name) o ≡ Some f.name
named_file o f is = ap (option_map (λ (g : File). g.name)) is

names_from : {X : Type 0} (inodes : List (Option File)) (f : X → File) (places : List ℕ) (xs : List X)
    → map (λ k. get_or inodes k None) places ≡ map (λ x. Some (f x)) xs → names_of inodes places ≡ map (λ x. Some (f x).name) xs
names_from inodes f [] [] same = refl
names_from inodes f [] (x ∷ xs) same = absurd (cc)
names_from inodes f (k ∷ places) [] same = absurd (cc)
names_from inodes f (k ∷ places) (x ∷ xs) same =
    let first : get_or inodes k None ≡ Some (f x) = cc in
    let rest : map (λ j. get_or inodes j None) places ≡ map (λ y. Some (f y)) xs = cc in
    let head = named_file (get_or inodes k None) (f x) first in
    let tail = names_from inodes f places xs rest in
    λ i. head i ∷ tail i

all_named : (inodes : List (Option File)) (places : List ChangePlace) (files : List File) → AreAt inodes places files
    → AreNamedAt inodes places files
all_named inodes [] [] are = tt
all_named inodes [] (f ∷ files) are = absurd are
all_named inodes (p ∷ places) [] are = absurd are
all_named inodes (Alone k ∷ places) (f ∷ files) are =
    (named_file (get_or inodes k None) f are.0, all_named inodes places files are.1)
all_named inodes (Packed inode from size ∷ places) (f ∷ files) are = (are.0, all_named inodes places files are.1)

pub have_names : PlacesHaveNames
have_names inodes blocks S places are = record {
  changes_are = all_named (table inodes blocks) places.changes (map change_file (entries S)) are.changes_are;
  numbers_are = names_from (table inodes blocks) (λ (g : NewsGroup). record { name = numbers_name g.name; content = numbers_file S g.name })
      places.numbers (groups S) are.numbers_are;
  overviews_are = names_from (table inodes blocks) (λ (g : NewsGroup). record {
    name = overview_name g.name;
    content = overview_file S g.name;
  }) places.overviews (groups S) are.overviews_are;
}

-- ---- names have files

-- a file of this name
record HasName (o : Option File) (name : Octets) : Type 0 where
  file : File
  is : o ≡ Some file
  named : file.name ≡ name

with_name : (o : Option File) (name : Octets) → option_map (λ (f : File). f.name) o ≡ Some name → HasName o name
with_name None name is = absurd (cc)
with_name (Some f) name is = record { file = f; is = refl; named = cc }

-- each of these files is the one with its name
abbrev AreTheirs : List (Option File) → List File → Type 0
AreTheirs inodes files = (k : ℕ) (f : File) → Contains files f → name_of inodes k ≡ Some f.name → get_or inodes k None ≡ Some f

theirs : (host : Octets) (inodes : ℕ) (blocks : List Octets) (S : Spool) → inodes ≤ most_inodes → Holds host inodes blocks S
    → AreTheirs (table inodes blocks) (files_of S)
theirs host inodes blocks S few held k f has named =
    let here = with_name (get_or (table inodes blocks) k None) f.name named in
    let stored : Contains held.files here.file =
    subst (λ (fs : List File). Contains fs here.file) (sym held.held.contents) (is_among (table inodes blocks) k here.file here.is) in
    let meant : Contains (files_of S) here.file =
    is_meant held.files (files_of S) held.same here.file (λ is. no_pack_name S f has (sym here.named ∙ is)) (inl stored) in
    let one : here.file ≡ f =
    names_distinct host S here.file f (omega (arith, few, changes_few host inodes blocks S held)) held.lawful meant has here.named in
    here.is ∙ ap (λ (g : File). Some g) one

files_from : {X : Type 0} (inodes : List (Option File)) (files : List File) (f : X → File) (places : List ℕ) (xs : List X)
    → AreTheirs inodes files → ((x : X) → Contains xs x → Contains files (f x))
    → names_of inodes places ≡ map (λ x. Some (f x).name) xs → map (λ k. get_or inodes k None) places ≡ map (λ x. Some (f x)) xs
files_from inodes files f [] [] are have same = refl
files_from inodes files f [] (x ∷ xs) are have same = absurd (cc)
files_from inodes files f (k ∷ places) [] are have same = absurd (cc)
files_from inodes files f (k ∷ places) (x ∷ xs) are have same =
    let first : name_of inodes k ≡ Some (f x).name = cc in
    let rest : names_of inodes places ≡ map (λ y. Some (f y).name) xs = cc in
    let head = are k (f x) (have x (0, omega arith, refl)) first in
    let tail = files_from inodes files f places xs are (λ y has. have y (suc has.0, omega (arith, has.1), has.2)) rest in
    λ i. head i ∷ tail i

-- a group comes from the change that made it, and its numbers come after that change's file
record IsMadeBy (S : Spool) (n : ℕ) (R : Spool) (g : NewsGroup) : Type 0 where
  entry : SpoolEntry
  here : Contains (entries_from n R) entry
  numbers : Contains (entry_files S entry) (record { name = numbers_name g.name; content = numbers_file S g.name })

later : (S : Spool) (n : ℕ) (c : Change) (R : Spool) (g : NewsGroup) → IsMadeBy S (suc n) R g → IsMadeBy S n (c ∷ R) g
later S n c R g made = record {
  entry = made.entry;
  here = (suc made.here.0, omega (arith, made.here.1), made.here.2);
  numbers = made.numbers;
}

made_by : (S : Spool) (n : ℕ) (R : Spool) (g : NewsGroup) → Contains (filter_map group_made (entries_from n R)) g → IsMadeBy S n R g
made_by S n [] g (k, low, is) = absurd (omega arith)
made_by S n (Group created ∷ R) g (zero, low, is) =
    let named : created.name ≡ g.name = ap (λ (h : NewsGroup). h.name) is in
    record {
      entry = record { serial = n; change = Group created };
      here = (0, omega arith, refl);
      numbers = (1, omega arith, ap (λ (q : Octets). record { name = numbers_name q; content = numbers_file S q }) named);
    }
made_by S n (Group created ∷ R) g (suc k, low, is) =
    later S n (Group created) R g (made_by S (suc n) R g (k, omega arith, is))
made_by S n (Article filing ∷ R) g has = later S n (Article filing) R g (made_by S (suc n) R g has)
made_by S n (Expire expiry ∷ R) g has = later S n (Expire expiry) R g (made_by S (suc n) R g has)

has_change : (S : Spool) (e : SpoolEntry) → Contains (entries S) e → Contains (files_of S) (change_file e)
unfolding files_of
has_change S e has = joined_has (entry_files S) (entries S) e (change_file e) has (0, omega arith, refl)

has_numbers : (S : Spool) (g : NewsGroup) → Contains (groups S) g
    → Contains (files_of S) (record { name = numbers_name g.name; content = numbers_file S g.name })
unfolding files_of entries groups
has_numbers S g has =
    let made = made_by S 1 S g has in
    joined_has (entry_files S) (entries_from 1 S) made.entry (record { name = numbers_name g.name; content = numbers_file S g.name })
    made.here made.numbers

all_at : (inodes : List (Option File)) (all : List File) (places : List ChangePlace) (files : List File) → AreTheirs inodes all
    → ((f : File) → Contains files f → Contains all f) → AreNamedAt inodes places files → AreAt inodes places files
all_at inodes all [] [] are have named = tt
all_at inodes all [] (f ∷ files) are have named = absurd named
all_at inodes all (p ∷ places) [] are have named = absurd named
all_at inodes all (Alone k ∷ places) (f ∷ files) are have named = (
  are k f (have f (0, omega arith, refl)) named.0,
  all_at inodes all places files are (λ g has. have g (suc has.0, omega (arith, has.1), has.2)) named.1,
)
all_at inodes all (Packed inode from size ∷ places) (f ∷ files) are have named = (
  named.0,
  all_at inodes all places files are (λ g has. have g (suc has.0, omega (arith, has.1), has.2)) named.1,
)

change_files : (S : Spool) (es : List SpoolEntry) → ((e : SpoolEntry) → Contains es e → Contains (files_of S) (change_file e)) → (f : File)
    → Contains (map change_file es) f → Contains (files_of S) f
change_files S [] have f (k, low, is) = absurd (omega arith)
change_files S (e ∷ es) have f (zero, low, is) = subst (Contains (files_of S)) is (have e (0, omega arith, refl))
change_files S (e ∷ es) have f (suc k, low, is) =
    change_files S es (λ d has. have d (suc has.0, omega (arith, has.1), has.2)) f (k, omega arith, is)

pub are_by_name : PlacesAreByName
are_by_name host inodes blocks S places few held named =
    let are = theirs host inodes blocks S few held in
    record {
      changes_are = all_at (table inodes blocks) (files_of S) places.changes (map change_file (entries S)) are
          (change_files S (entries S) (has_change S)) named.changes_are;
      numbers_are = files_from (table inodes blocks) (files_of S) (λ (g : NewsGroup). record {
        name = numbers_name g.name;
        content = numbers_file S g.name;
      }) places.numbers (groups S) are (has_numbers S) named.numbers_are;
      overviews_are = files_from (table inodes blocks) (files_of S) (λ (g : NewsGroup). record {
        name = overview_name g.name;
        content = overview_file S g.name;
      }) places.overviews (groups S) are (overview_there S) named.overviews_are;
    }

-- ---- one change more

-- a file keeps its name
pub name_kept : (old new : List (Option File)) (k : ℕ) (name : Octets) → KeepsFiles old new → name_of old k ≡ Some name
    → name_of new k ≡ Some name
name_kept old new k name keeps named =
    let its = with_name (get_or old k None) name named in
    named_file (get_or new k None) _ (keeps k its.file its.is).1 ∙ ap (λ (q : Octets). Some q) its.named

kept_names : (old new : List (Option File)) (places : List ℕ) (names : List Octets) → KeepsFiles old new
    → names_of old places ≡ map Some names → names_of new places ≡ map Some names
kept_names old new [] [] keeps same = refl
kept_names old new [] (q ∷ names) keeps same = absurd (cc)
kept_names old new (k ∷ places) [] keeps same = absurd (cc)
kept_names old new (k ∷ places) (q ∷ names) keeps same =
    let first : name_of old k ≡ Some q = cc in
    let rest : names_of old places ≡ map Some names = cc in
    let head = name_kept old new k q keeps first in
    let tail = kept_names old new places names keeps rest in
    λ i. head i ∷ tail i

-- with one more place, whose file has this name
one_more : {X : Type 0} (old new : List (Option File)) (named : X → Octets) (places : List ℕ) (xs : List X) (at : ℕ) (x : X)
    → KeepsFiles old new → names_of old places ≡ map (λ y. Some (named y)) xs → name_of new at ≡ Some (named x)
    → names_of new (places ++ at ∷ []) ≡ map (λ y. Some (named y)) (xs ++ x ∷ [])
one_more old new named places xs at x keeps same here =
    let kept : names_of new places ≡ map (λ y. Some (named y)) xs =
    kept_names old new places (map named xs) keeps (same ∙ sym (map_twice Some named xs)) ∙ map_twice Some named xs in
    let joined = map_push (λ k. name_of new k) places at in
    let other = map_push (λ y. Some (named y)) xs x in
    joined ∙ (λ i. kept i ++ here i ∷ []) ∙ sym other

no_more : (S : Spool) (c : Change) → group_made (record { serial = length S + 1; change = c }) ≡ None → groups (S ++ c ∷ []) ≡ groups S
no_more S c none = groups_more S c ∙ ap (λ gs. groups S ++ gs) (empty (record { serial = length S + 1; change = c }) none)
    ∙ append-nil (groups S)
  where
    empty : (e : SpoolEntry) → group_made e ≡ None → filter_map group_made (e ∷ []) ≡ []
    empty e is = ap (λ (o : Option NewsGroup). cons_option o []) is

still : {X : Type 0} (old new : List (Option File)) (named : X → Octets) (places : List ℕ) (xs : List X) → KeepsFiles old new
    → names_of old places ≡ map (λ y. Some (named y)) xs → names_of new places ≡ map (λ y. Some (named y)) xs
still old new named places xs keeps same = kept_names old new places (map named xs) keeps (same ∙ sym (map_twice Some named xs))
    ∙ map_twice Some named xs

-- a place that is known stays known
still_at : (old new : List (Option File)) (p : ChangePlace) (f : File) → KeepsFiles old new → IsNamedAt old p f → IsNamedAt new p f
still_at old new (Alone inode) f keeps named = name_kept old new inode f.name keeps named
still_at old new (Packed inode from size) f keeps named = packed_stays old new inode from size f keeps named

one_at : (old new : List (Option File)) (places : List ChangePlace) (files : List File) (at : ChangePlace) (f : File) → KeepsFiles old new
    → AreNamedAt old places files → IsNamedAt new at f → AreNamedAt new (places ++ at ∷ []) (files ++ f ∷ [])
one_at old new [] [] at f keeps named here = (here, tt)
one_at old new [] (g ∷ files) at f keeps named here = absurd named
one_at old new (p ∷ places) [] at f keeps named here = absurd named
one_at old new (p ∷ places) (g ∷ files) at f keeps named here =
    (still_at old new p g keeps named.0, one_at old new places files at f keeps named.1 here)

changes_more : (S : Spool) (c : Change)
    → map change_file (entries (S ++ c ∷ []))
    ≡ map change_file (entries S) ++ change_file (record { serial = length S + 1; change = c }) ∷ []
changes_more S c = ap (map change_file) (entries_more S c) ∙ map_push change_file (entries S) (record { serial = length S + 1; change = c })

pub grow_by_change : PlacesGrowByChange
grow_by_change old new S c places at none named keeps here =
    let same : groups S ≡ groups (S ++ c ∷ []) = sym (no_more S c none) in
    record {
      changes_are = subst (AreNamedAt new (places.changes ++ at ∷ [])) (sym (changes_more S c))
          (one_at old new places.changes (map change_file (entries S)) at (change_file (record { serial = length S + 1; change = c }))
          keeps named.changes_are here);
      numbers_are = still old new (λ (g : NewsGroup). numbers_name g.name) places.numbers (groups S) keeps named.numbers_are
          ∙ ap (map (λ (g : NewsGroup). Some (numbers_name g.name))) same;
      overviews_are = still old new (λ (g : NewsGroup). overview_name g.name) places.overviews (groups S) keeps named.overviews_are
          ∙ ap (map (λ (g : NewsGroup). Some (overview_name g.name))) same;
    }

pub grow_by_group : PlacesGrowByGroup
grow_by_group old new S created places at numbers overview named keeps here second third =
    let c : Change = Group created in
    let g : NewsGroup = news_group (length S + 1) created in
    record {
      changes_are = subst (AreNamedAt new (places.changes ++ Alone at ∷ [])) (sym (changes_more S c))
          (one_at old new places.changes (map change_file (entries S)) (Alone at)
          (change_file (record { serial = length S + 1; change = c })) keeps named.changes_are here);
      numbers_are = one_more old new (λ (h : NewsGroup). numbers_name h.name) places.numbers
          (groups S) numbers g keeps named.numbers_are second
          ∙ ap (map (λ (h : NewsGroup). Some (numbers_name h.name))) (sym (groups_more S c));
      overviews_are = one_more old new (λ (h : NewsGroup). overview_name h.name) places.overviews
          (groups S) overview g keeps named.overviews_are third
          ∙ ap (map (λ (h : NewsGroup). Some (overview_name h.name))) (sym (groups_more S c));
    }
