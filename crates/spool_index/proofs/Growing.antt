-- The index of a spool with one change more.
use Rattle.std.proofs.Common.{◌≡◌, ℕ, zero, suc, ◌+◌, ◌<◌, ◌≤◌, List, [], ◌∷◌, ◌++◌, length, map, take, get_or, refl, sym, ◌∙◌, ap, arith}
use Rattle.std.proofs.Common.{zero-add, Bool, true, false, cond, length-append}
use Rattle.std.specs.Prelude.{Option, Some, None, bytes_eq, find, filter_map, flat_map, option_map, not, ◌||◌, ◌&&◌, nat_le}
use Rattle.std.specs.List.{list_any, list_all}
use Rattle.std.specs.Option.{option_or}
use Rattle.std.proofs.lemmas.Bool.{and_parts, not-true, or_parts, or_from}
use Rattle.std.proofs.lemmas.List.{append-nil, length-map, map_push, take_all}
use Rattle.std.proofs.lemmas.List.Elements.{filter_map-append}
use Rattle.std.proofs.lemmas.List.Folds.{find-append, list_any_more}
use Rattle.std.proofs.lemmas.Slice.Eq.{bytes_eq-Decides}
use Rattle.model.specs.Stream.{Octets}
use Rattle.model.specs.Article.{Carried, are_distinct, groups_of, id}
use Rattle.model.specs.Names.{is_group_name}
use Rattle.model.specs.Indexed.{GroupIndex, ends_from, group_index, line_start, new_index, with_article, with_expiry}
use Rattle.model.specs.Lawful.{IsLawful, MayExpire, MayFile, MayMake}
use Rattle.model.specs.Spool.{Spool, SpoolEntry, entries_from, entries, NewsArticle, NewsGroup, article_filed, articles, by_id, filed_in}
use Rattle.model.specs.Spool.{group_named, groups, has_id, is_here, is_name, news_article, news_group}
use Rattle.model.specs.FileCalls.{next_line}
use Rattle.model.specs.SpoolFiles.{overview_file, overview_lines, overview_of}
use Rattle.model.specs.declared.change.Change.{Change}
use Rattle.model.specs.declared.change.Change.TheVariants.{Group, Article, Expire}
use Rattle.model.specs.declared.change.Expiry.{Expiry}
use Rattle.model.specs.declared.change.Filing.{Filing}
use Rattle.model.specs.declared.change.NewGroup.{NewGroup}
use Rattle.model.proofs.Growing.{entries_more, filter_distinct, groups_more}
use Rattle.model.proofs.HoldsOne.{carried_cause}
use Rattle.model.proofs.Ids.{no_cause}
use Rattle.model.proofs.Indexing.{articles_grow, empty_index, expiries_grow, groups_grow}
use Rattle.model.proofs.Joined.{bytes_swap, map_twice}
use Rattle.spool_groups.specs.Filing.{AreLineSizes, end_of, filed_by, filed_once, with_line}
use Rattle.spool_index.specs.Kept.{kept}
use Rattle.spool_index.specs.View.{IndexView, Indexes, serial_in}
use Rattle.spool_index.specs.declared.note.Note.{Note}

-- ---- no change

pub none_indexed : (x : IndexView) → x.notes ≡ [] → x.groups ≡ [] → ((wanted : Octets) → serial_in x wanted ≡ None) → Indexes [] x
unfolding entries
none_indexed x notes groups' ids = record {
  notes_are = notes;
  groups_are = groups' ∙ empty_index.groups_are;
  ids_are = λ wanted. ids wanted ∙ empty_index.ids_are wanted;
}

-- ---- how many

pub entries_count : (n : ℕ) (S : Spool) → length (entries_from n S) ≡ length S
entries_count n [] = refl
entries_count n (c ∷ S) = ap suc (entries_count (suc n) S)

count_entries : (S : Spool) → length (entries S) ≡ length S
unfolding entries
count_entries S = entries_count 1 S

pub notes_count : (S : Spool) (x : IndexView) → Indexes S x → length x.notes ≡ length S
notes_count S x is =
    ap (λ (ns : List Note). length ns) is.notes_are ∙ length-map (entries S) kept ∙ count_entries S

pub new_serial : (S : Spool) (x : IndexView) (notes : List Note) (count : ℕ) → notes ≡ x.notes → Indexes S x → count ≡ length notes
    → count + 1 ≡ length S + 1
new_serial S x notes count same is counted = let all : length notes ≡ length S = ap (λ (ns : List Note). length ns) same
    ∙ notes_count S x is in omega (arith, all, counted)

-- ---- one change more

notes_more : (S : Spool) (x : IndexView) (c : Change) → Indexes S x
    → x.notes ++ kept (record { serial = length S + 1; change = c }) ∷ [] ≡ map kept (entries (S ++ c ∷ []))
notes_more S x c is =
    let e : SpoolEntry = record { serial = length S + 1; change = c } in
    ap (λ ns. ns ++ kept e ∷ []) is.notes_are
    ∙ sym (map_push kept (entries S) e)
    ∙ ap (map kept) (sym (entries_more S c))

articles_of_more : (S : Spool) (c : Change)
    → articles (S ++ c ∷ []) ≡ articles S ++ filter_map article_filed (record { serial = length S + 1; change = c } ∷ [])
unfolding articles
articles_of_more S c = ap (filter_map article_filed) (entries_more S c)
    ∙ filter_map-append article_filed (entries S) (record { serial = length S + 1; change = c } ∷ [])

-- no article more
ids_same : (S : Spool) (c : Change) (wanted : Octets) → filter_map article_filed (record { serial = length S + 1; change = c } ∷ []) ≡ []
    → by_id (S ++ c ∷ []) wanted ≡ by_id S wanted
unfolding by_id
ids_same S c wanted none = ap (find (has_id wanted)) (articles_of_more S c ∙ ap (λ (as' : List NewsArticle). articles S ++ as') none
    ∙ append-nil (articles S))

ids_more : (S : Spool) (filing : Filing) (wanted : Octets) →
    by_id (S ++ Article filing ∷ []) wanted ≡ option_or (by_id S wanted)
    (cond (bytes_eq (id filing.text) wanted) (Some (news_article (length S + 1) filing)) None)
unfolding by_id
ids_more S filing wanted = ap (find (has_id wanted)) (articles_of_more S (Article filing))
    ∙ find-append (has_id wanted) (articles S) _

map_same : {X Y : Type 0} (f h : X → Y) (xs : List X) → ((x : X) → f x ≡ h x) → map f xs ≡ map h xs
map_same f h [] same = refl
map_same f h (x ∷ xs) same = λ i. same x i ∷ map_same f h xs same i

-- ---- a group more

map_apart : {Y : Type 0} (f h : NewsGroup → Y) (name : Octets) (gs : List NewsGroup)
    → ((g : NewsGroup) → bytes_eq name g.name ≡ false → f g ≡ h g) → find (λ (g : NewsGroup). is_name name g.name) gs ≡ None
    → map f gs ≡ map h gs
map_apart f h name [] same none = refl
map_apart f h name (g ∷ gs) same none = by_test (bytes_eq g.name name) refl none (λ later. map_apart f h name gs same later) where
  by_test : (b : Bool) → bytes_eq g.name name ≡ b → cond b (Some g) (find (λ (x : NewsGroup). is_name name x.name) gs) ≡ None
      → (find (λ (x : NewsGroup). is_name name x.name) gs ≡ None → map f gs ≡ map h gs) → map f (g ∷ gs) ≡ map h (g ∷ gs)
  by_test true at found rest = absurd (cc)
  by_test false at found rest = λ i. same g (bytes_swap g.name name at) i ∷ rest found i

groups_apart : (S : Spool) (created : NewGroup) → group_named S created.name ≡ None
    → map (group_index (S ++ Group created ∷ [])) (groups S) ≡ map (group_index S) (groups S)
unfolding group_named
groups_apart S created none =
    map_apart (group_index (S ++ Group created ∷ [])) (group_index S) created.name (groups S)
    (λ g apart. groups_grow.others S created g apart) none

pub group_indexed : (host : Octets) (S : Spool) (x y : IndexView) (created : NewGroup) (new : GroupIndex) (note : Note) → IsLawful host S
    → MayMake S created → Indexes S x → y.notes ≡ x.notes ++ note ∷ []
    → note ≡ kept (record { serial = length S + 1; change = Group created })
    → y.groups ≡ x.groups ++ new ∷ []
    → new ≡ new_index S (news_group (length S + 1) created)
    → ((wanted : Octets) → serial_in y wanted ≡ serial_in x wanted) → Indexes (S ++ Group created ∷ []) y
group_indexed host S x y created new note lawful may is notes note_is groups' new_is ids = record {
  notes_are = notes ∙ ap (λ (n : Note). x.notes ++ n ∷ []) note_is ∙ notes_more S x c is;
  groups_are =
      groups' ∙ ap (λ (i : GroupIndex). x.groups ++ i ∷ []) (new_is
      ∙ sym (groups_grow.its_own host S created g lawful may refl))
      ∙ ap (λ (gs : List GroupIndex). gs ++ group_index R g ∷ []) (is.groups_are
      ∙ sym (groups_apart S created may.new))
      ∙ sym (map_push (group_index R) (groups S) g) ∙ ap (map (group_index R)) (sym (groups_more S c));
  ids_are = λ wanted.
      ids wanted ∙ is.ids_are wanted
      ∙ ap (option_map (λ (a : NewsArticle). a.serial)) (sym (ids_same S c wanted refl));
} where
  c : Change
  c = Group created

  R : Spool
  R = S ++ Group created ∷ []

  g : NewsGroup
  g = news_group (length S + 1) created

-- ---- an expiry more

pub expiry_indexed : (host : Octets) (S : Spool) (x y : IndexView) (expiry : Expiry) (note : Note) → MayExpire S expiry → Indexes S x
    → y.notes ≡ x.notes ++ note ∷ [] → note ≡ kept (record { serial = length S + 1; change = Expire expiry })
    → y.groups ≡ map (λ i. cond (bytes_eq expiry.group i.group.name) (with_expiry S expiry.number i) i) x.groups
    → ((wanted : Octets) → serial_in y wanted ≡ serial_in x wanted) → Indexes (S ++ Expire expiry ∷ []) y
expiry_indexed host S x y expiry note may is notes note_is groups' ids = record {
  notes_are = notes ∙ ap (λ (n : Note). x.notes ++ n ∷ []) note_is ∙ notes_more S x c is;
  groups_are =
      groups' ∙ ap (map (λ (i : GroupIndex). cond (bytes_eq expiry.group i.group.name) (with_expiry S expiry.number i) i)) is.groups_are
      ∙ map_twice (λ (i : GroupIndex). cond (bytes_eq expiry.group i.group.name) (with_expiry S expiry.number i) i) (group_index S)
      (groups S)
      ∙ map_same (λ (g : NewsGroup). cond (bytes_eq expiry.group g.name) (with_expiry S expiry.number (group_index S g)) (group_index S g))
      (group_index R) (groups S) (λ g. sym (expiries_grow host S expiry g may))
      ∙ ap (map (group_index R)) (sym (groups_more S c ∙ append-nil (groups S)));
  ids_are = λ wanted.
      ids wanted ∙ is.ids_are wanted
      ∙ ap (option_map (λ (a : NewsArticle). a.serial)) (sym (ids_same S c wanted refl));
} where
  c : Change
  c = Expire expiry

  R : Spool
  R = S ++ Expire expiry ∷ []

-- ---- an article more

pub filed_distinct : (host : Octets) (S : Spool) (filing : Filing) → MayFile host S filing → are_distinct filing.envelope.groups ≡ true
filed_distinct host S filing may =
    let names = groups_of filing.text in
    ap are_distinct may.filed
    ∙ filter_distinct (is_here S) names
    (and_parts (nat_le (length names) 16 && list_all is_group_name names) (are_distinct names)
    (no_cause Carried filing.text (carried_cause filing.text may.carried)).good_groups).1

-- a name differs from all before it
lacks_front : (x h : Octets) (names : List Octets) (k : ℕ) → k < length names → list_any (bytes_eq x) names ≡ false
    → bytes_eq (get_or names k []) h ≡ true → bytes_eq x h ≡ false
lacks_front x h [] k low none at = absurd (omega arith)
lacks_front x h (y ∷ names) zero low none at =
    let parts = or_parts (bytes_eq x y) (list_any (bytes_eq x) names) none in
    ap (bytes_eq x) (sym ((bytes_eq-Decides y h).0 at)) ∙ parts.0
lacks_front x h (y ∷ names) (suc k) low none at =
    let parts = or_parts (bytes_eq x y) (list_any (bytes_eq x) names) none in
    lacks_front x h names k (omega arith) parts.1 at

once : (names : List Octets) (k : ℕ) (h : Octets) → are_distinct names ≡ true → k < length names → bytes_eq (get_or names k []) h ≡ true
    → list_any (is_name h) (take k names) ≡ false
unfolding are_distinct
once [] k h distinct low at = absurd (omega arith)
once (x ∷ names) zero h distinct low at = refl
once (x ∷ names) (suc k) h distinct low at =
    let parts = and_parts (not (list_any (bytes_eq x) names)) (are_distinct names) distinct in
    or_from (bytes_eq x h) (list_any (is_name h) (take k names))
    (lacks_front x h names k (omega arith) (not-true (list_any (bytes_eq x) names) parts.0) at)
    (once names k h parts.1 (omega arith) at)

-- where the last line ends
last_from : ℕ → List ℕ → ℕ
last_from start [] = start
last_from start (n ∷ ns) = last_from n ns

last_is : (n : ℕ) (ns : List ℕ) → get_or (n ∷ ns) (length ns) 0 ≡ last_from n ns
unfolding last_from
last_is n [] = refl
last_is n (m ∷ ns) = last_is m ns

end_is : (ends : List ℕ) → line_start ends (length ends) ≡ last_from 0 ends
unfolding last_from
end_is [] = refl
end_is (n ∷ ns) = last_is n ns

ends_total : (start : ℕ) (ls : List Octets) → last_from start (ends_from start ls) ≡ start + length (flat_map (λ l. l) ls)
unfolding last_from
ends_total start [] = omega arith
ends_total start (l ∷ ls) = ends_total (start + length l) ls ∙ omega (arith, length-append l (flat_map (λ x. x) ls))

pub overview_size : (S : Spool) (g : NewsGroup) → end_of (group_index S g) ≡ length (overview_file S g.name)
unfolding overview_of
overview_size S g =
    let ls : List Octets = overview_lines (filed_in S g.name) in
    end_is (ends_from 0 ls) ∙ ends_total 0 ls ∙ zero-add (length (flat_map (λ l. l) ls))

module _ (S : Spool) (filing : Filing) (sizes : List ℕ) (distinct : are_distinct filing.envelope.groups ≡ true)
    (sized : AreLineSizes S filing.text filing.envelope.groups sizes) (g : NewsGroup) where
  its : GroupIndex
  its = group_index S g

  line_is : (name : Octets) (size : ℕ) → bytes_eq name g.name ≡ true → size ≡ length (next_line S filing.text name)
      → with_line (length S + 1) size (group_index S g) ≡ with_article S filing.text (group_index S g)
  line_is name size at is =
      let ends : end_of (group_index S g) + size ≡ length (overview_file S g.name) + length (next_line S filing.text g.name) =
      (λ i. overview_size S g i + (is ∙ ap (λ (n : Octets). length (next_line S filing.text n)) ((bytes_eq-Decides name g.name).0 at)) i) in
      ap (λ (n : ℕ). record (group_index S g) {
        filed = (group_index S g).filed ++ (length S + 1) ∷ [];
        ends = (group_index S g).ends ++ n ∷ [];
        last = length S + 1;
      }) ends

  step : (b t : Bool) (name : Octets) (size : ℕ) → bytes_eq name g.name ≡ t → (t ≡ true → b ≡ false)
      → size ≡ length (next_line S filing.text name)
      → filed_once (length S + 1) name size (cond b (with_article S filing.text (group_index S g)) (group_index S g))
      ≡ cond (b || t) (with_article S filing.text (group_index S g)) (group_index S g)
  step true true name size at apart is = absurd (let clash : true ≡ false = apart refl in cc)
  step true false name size at apart is =
      ap (λ (z : Bool). cond z (with_line (length S + 1) size (with_article S filing.text (group_index S g)))
      (with_article S filing.text (group_index S g))) at
  step false true name size at apart is = ap (λ (z : Bool). cond z (with_line (length S + 1) size (group_index S g)) (group_index S g)) at
      ∙ line_is name size at is
  step false false name size at apart is = ap (λ (z : Bool). cond z (with_line (length S + 1) size (group_index S g)) (group_index S g)) at

  filed_front : (k : ℕ) → k ≤ length filing.envelope.groups
      → filed_by (length S + 1) filing.envelope.groups sizes k (group_index S g)
      ≡ cond (list_any (is_name g.name) (take k filing.envelope.groups))
      (with_article S filing.text (group_index S g)) (group_index S g)
  filed_front zero low = refl
  filed_front (suc k) low =
      let name : Octets = get_or filing.envelope.groups k [] in
      let next : suc k ≡ k + 1 = omega arith in
      let more : list_any (is_name g.name) (take (suc k) filing.envelope.groups)
      ≡ (list_any (is_name g.name) (take k filing.envelope.groups) || bytes_eq name g.name) =
      ap (λ (n : ℕ). list_any (is_name g.name) (take n filing.envelope.groups)) next
      ∙ list_any_more (is_name g.name) filing.envelope.groups k [] (omega arith) in
      ap (filed_once (length S + 1) name (get_or sizes k 0)) (filed_front k (omega arith))
      ∙ step (list_any (is_name g.name) (take k filing.envelope.groups)) (bytes_eq name g.name) name (get_or sizes k 0) refl
      (λ at. once filing.envelope.groups k g.name distinct (omega arith) at) (sized k (omega arith))
      ∙ ap (λ (b : Bool). cond b (with_article S filing.text (group_index S g)) (group_index S g)) (sym more)

  filed_all : filed_by (length S + 1) filing.envelope.groups sizes (length filing.envelope.groups) (group_index S g)
      ≡ group_index (S ++ Article filing ∷ []) g
  filed_all =
      filed_front (length filing.envelope.groups) (omega arith)
      ∙ ap (λ (names : List Octets). cond (list_any (is_name g.name) names) (with_article S filing.text (group_index S g))
      (group_index S g)) (take_all (length filing.envelope.groups) filing.envelope.groups (omega arith))
      ∙ sym (articles_grow S filing g)

-- the id that is new
found : {X : Type 0} (serial : X → ℕ) (old : Option X) (new : X) (b d : Bool) → (b ≡ true → d ≡ true) → (d ≡ true → b ≡ true)
    → (b ≡ true → old ≡ None)
    → cond b (Some (serial new)) (option_map serial old) ≡ option_map serial (option_or old (cond d (Some new) None))
found {X} serial old new true true one two none = ap (λ (o : Option X). option_map serial (option_or o (Some new))) (sym (none refl))
found {X} serial old new false false one two none = kept_same old where
  kept_same : (o : Option X) → option_map serial o ≡ option_map serial (option_or o None)
  kept_same None = refl
  kept_same (Some x) = refl
found serial old new true false one two none = absurd (let clash : false ≡ true = one refl in cc)
found serial old new false true one two none = absurd (let clash : false ≡ true = two refl in cc)

same_key : (q key : Octets) → bytes_eq q key ≡ true → bytes_eq key q ≡ true
same_key q key is = (bytes_eq-Decides key q).1 (sym ((bytes_eq-Decides q key).0 is))

pub article_indexed : (host : Octets) (S : Spool) (x y : IndexView) (filing : Filing) (key : Octets) (sizes : List ℕ) (note : Note)
    (serial : ℕ) → MayFile host S filing → Indexes S x
    → y.notes ≡ x.notes ++ note ∷ [] → note ≡ kept (record { serial = length S + 1; change = Article filing })
    → AreLineSizes S filing.text filing.envelope.groups sizes → serial ≡ length S + 1
    → y.groups ≡ map (filed_by serial filing.envelope.groups sizes (length filing.envelope.groups)) x.groups
    → key ≡ id filing.text → ((q : Octets) → serial_in y q ≡ cond (bytes_eq q key) (Some serial) (serial_in x q))
    → Indexes (S ++ Article filing ∷ []) y
article_indexed host S x y filing key sizes note serial may is notes note_is sized serial_is groups' key_is ids = record {
  notes_are = notes ∙ ap (λ (n : Note). x.notes ++ n ∷ []) note_is ∙ notes_more S x c is;
  groups_are =
      groups' ∙ ap (λ (n : ℕ). map (filed_by n filing.envelope.groups sizes (length filing.envelope.groups)) x.groups) serial_is
      ∙ ap (map (filed_by (length S + 1) filing.envelope.groups sizes (length filing.envelope.groups))) is.groups_are
      ∙ map_twice (filed_by (length S + 1) filing.envelope.groups sizes (length filing.envelope.groups)) (group_index S) (groups S)
      ∙ map_same (λ (g : NewsGroup). filed_by (length S + 1) filing.envelope.groups sizes (length filing.envelope.groups)
      (group_index S g)) (group_index R)
      (groups S) (λ g. filed_all S filing sizes (filed_distinct host S filing may) sized g)
      ∙ ap (map (group_index R)) (sym (groups_more S c ∙ append-nil (groups S)));
  ids_are = λ q.
      ids q ∙ ap (λ (k : Octets). cond (bytes_eq q k) (Some serial) (serial_in x q)) key_is
      ∙ ap (λ (n : ℕ). cond (bytes_eq q (id filing.text)) (Some n) (serial_in x q)) serial_is
      ∙ ap (λ (o : Option ℕ). cond (bytes_eq q (id filing.text)) (Some (length S + 1)) o) (is.ids_are q)
      ∙ found (λ (a : NewsArticle). a.serial) (by_id S q) (news_article (length S + 1) filing)
      (bytes_eq q (id filing.text)) (bytes_eq (id filing.text) q)
      (same_key q (id filing.text)) (same_key (id filing.text) q)
      (λ at. ap (by_id S) ((bytes_eq-Decides q (id filing.text)).0 at) ∙ may.new)
      ∙ ap (option_map (λ (a : NewsArticle). a.serial)) (sym (ids_more S filing q));
} where
  c : Change
  c = Article filing

  R : Spool
  R = S ++ Article filing ∷ []
