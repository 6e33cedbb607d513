-- The numbers and the overviews of a spool's groups, among its files.
use Rattle.std.proofs.Common.{◌≡◌, ◌≢◌, ℕ, zero, suc, Bool, true, false, cond, List, ◌∷◌, [], get_or, refl, sym, ◌∙◌, ap}
use Rattle.std.proofs.Common.{subst, arith, Option, Some}
use Rattle.std.specs.Prelude.{filter_map, find, bytes_eq, is_some}
use Rattle.std.specs.List.{Contains}
use Rattle.std.proofs.lemmas.Bool.{true≢false}
use Rattle.std.proofs.lemmas.Slice.Eq.{bytes_eq-Decides}
use Rattle.model.specs.Stream.{Octets}
use Rattle.model.specs.Files.{File}
use Rattle.model.specs.Spool.{Spool, SpoolEntry, entries_from, entries, NewsGroup, group_made, group_named, groups, is_here, is_name}
use Rattle.model.specs.Spool.{news_group}
use Rattle.model.specs.FileKinds.{is_of_change}
use Rattle.model.specs.Packs.{IsMember, pack_name}
use Rattle.model.specs.SpoolFiles.{change_file, entry_files, files_of, index_files, numbers_name, numbers_file, overview_name}
use Rattle.model.specs.SpoolFiles.{overview_file}
use Rattle.model.specs.declared.change.Change.{Change}
use Rattle.model.specs.declared.change.Change.TheVariants.{Group, Article, Expire}
use Rattle.model.specs.declared.change.NewGroup.{NewGroup}
use Rattle.model.proofs.Joined.{joined_from, joined_has}
use Rattle.model.proofs.Opening.{of_change}
use Rattle.spool_opening.specs.Stored.{Which, Numbers, Overview, name_for, file_for}

-- ---- the files of a group

pub record MakesGroup (es : List SpoolEntry) (g : Octets) : Type 0 where
  pub serial : ℕ
  pub created : NewGroup
  pub named : created.name ≡ g
  pub here : Contains es (record { serial = serial; change = Group created })

later : (e : SpoolEntry) (es : List SpoolEntry) (g : Octets) → MakesGroup es g → MakesGroup (e ∷ es) g
later e es g makes = record {
  serial = makes.serial;
  created = makes.created;
  named = makes.named;
  here = (suc makes.here.0, omega (arith, makes.here.1), makes.here.2);
}

group_made_at : (n : ℕ) (cs : Spool) (g : Octets)
    → is_some (find (λ (h : NewsGroup). is_name g h.name) (filter_map group_made (entries_from n cs))) ≡ true
    → MakesGroup (entries_from n cs) g
group_made_at n [] g some = absurd (true≢false (sym some))
group_made_at n (Article filing ∷ cs) g some =
    later (record { serial = n; change = Article filing }) (entries_from (suc n) cs) g (group_made_at (suc n) cs g some)
group_made_at n (Expire expiry ∷ cs) g some =
    later (record { serial = n; change = Expire expiry }) (entries_from (suc n) cs) g (group_made_at (suc n) cs g some)
group_made_at n (Group created ∷ cs) g some =
    by_test (bytes_eq created.name g) refl some
    (λ found. later (record { serial = n; change = Group created }) (entries_from (suc n) cs) g (group_made_at (suc n) cs g found))
  where
    its : NewsGroup
    its = news_group n created

    rest : Option NewsGroup
    rest = find (λ (h : NewsGroup). is_name g h.name) (filter_map group_made (entries_from (suc n) cs))

    by_test : (b : Bool) → bytes_eq created.name g ≡ b → is_some (cond b (Some its) rest) ≡ true
        → (is_some rest ≡ true → MakesGroup (entries_from n (Group created ∷ cs)) g)
        → MakesGroup (entries_from n (Group created ∷ cs)) g
    by_test true at found onward =
        let same : created.name ≡ g = (bytes_eq-Decides created.name g).0 at in
        record { serial = n; created = created; named = same; here = (0, omega arith, refl) }
    by_test false at found onward = onward found

made_group_here : (n : ℕ) (cs : Spool) (created : NewGroup) (m : ℕ)
    → Contains (entries_from n cs) (record { serial = m; change = Group created })
    → is_some (find (λ (h : NewsGroup). is_name created.name h.name) (filter_map group_made (entries_from n cs))) ≡ true
made_group_here n [] created m (k, low, is) = absurd (omega arith)
made_group_here n (c ∷ cs) created m (suc k, low, is) = past c (made_group_here (suc n) cs created m (k, omega arith, is)) where
  over : (b : Bool) (h : NewsGroup) (o : Option NewsGroup) → is_some o ≡ true → is_some (cond b (Some h) o) ≡ true
  over true h o its = refl
  over false h o its = its

  past : (d : Change)
      → is_some (find (λ (h : NewsGroup). is_name created.name h.name) (filter_map group_made (entries_from (suc n) cs))) ≡ true
      → is_some (find (λ (h : NewsGroup). is_name created.name h.name) (filter_map group_made (entries_from n (d ∷ cs)))) ≡ true
  past (Group other) its = over (bytes_eq other.name created.name) (news_group n other) _ its
  past (Article filing) its = its
  past (Expire expiry) its = its
made_group_here n (Group other ∷ cs) created m (zero, low, is) =
    let same : other.name ≡ created.name = name_same (ap (λ (e : SpoolEntry). e.change) is) in
    ap (λ (b : Bool). is_some (cond b
    (Some (news_group n other))
    (find (λ (h : NewsGroup). is_name created.name h.name) (filter_map group_made (entries_from (suc n) cs)))))
    ((bytes_eq-Decides other.name created.name).1 same)
  where
    name_same : Group other ≡ Group created → other.name ≡ created.name
    name_same same = let one : other ≡ created = cc in ap (λ (h : NewGroup). h.name) one
made_group_here n (Article filing ∷ cs) created m (zero, low, is) =
    absurd (let same : Article filing ≡ Group created = ap (λ (e : SpoolEntry). e.change) is in cc)
made_group_here n (Expire expiry ∷ cs) created m (zero, low, is) =
    absurd (let same : Expire expiry ≡ Group created = ap (λ (e : SpoolEntry). e.change) is in cc)

pub has_index : (w : Which) (S : Spool) (g : Octets) → is_here S g ≡ true
    → Contains (files_of S) (record { name = name_for w g; content = file_for w S g })
unfolding files_of entries groups group_named
has_index Numbers S g here =
    let makes = group_made_at 1 S g here in
    joined_has (entry_files S) (entries_from 1 S)
    (record { serial = makes.serial; change = Group makes.created })
    (record { name = numbers_name g; content = numbers_file S g }) makes.here
    (1, omega arith, ap (λ (o : Octets). record { name = numbers_name o; content = numbers_file S o }) makes.named)
has_index Overview S g here =
    let makes = group_made_at 1 S g here in
    joined_has (entry_files S) (entries_from 1 S)
    (record { serial = makes.serial; change = Group makes.created })
    (record { name = overview_name g; content = overview_file S g }) makes.here
    (2, omega arith, ap (λ (o : Octets). record { name = overview_name o; content = overview_file S o }) makes.named)

-- and no other file has its name
pub record IsIndex (w : Which) (S : Spool) (g content : Octets) : Type 0 where
  pub here : is_here S g ≡ true
  pub is : content ≡ file_for w S g

first_of : Which → ℕ
first_of Numbers = 110
first_of Overview = 111

not_change : (w : Which) (e : SpoolEntry) (g content : Octets) → change_file e ≡ record { name = name_for w g; content = content } → ⊥
not_change w e g content is = by_kind w e.serial e.change is where
  by_kind : (v : Which) (n : ℕ) (c : Change) → change_file (record { serial = n; change = c }) ≡ record {
    name = name_for v g;
    content = content;
  } → ⊥
  by_kind Numbers n (Group created) same =
      absurd (let octets : 103 ≡ 110 = ap (λ (f : File). get_or f.name 0 0) same in omega arith)
  by_kind Numbers n (Article filing) same = absurd (let octets : 97 ≡ 110 = ap (λ (f : File). get_or f.name 0 0) same in
      omega arith)
  by_kind Numbers n (Expire expiry) same = absurd (let octets : 120 ≡ 110 = ap (λ (f : File). get_or f.name 0 0) same in omega arith)
  by_kind Overview n (Group created) same =
      absurd (let octets : 103 ≡ 111 = ap (λ (f : File). get_or f.name 0 0) same in omega arith)
  by_kind Overview n (Article filing) same = absurd (let octets : 97 ≡ 111 = ap (λ (f : File). get_or f.name 0 0) same in
      omega arith)
  by_kind Overview n (Expire expiry) same = absurd (let octets : 120 ≡ 111 = ap (λ (f : File). get_or f.name 0 0) same in omega arith)

index_of_change : (w : Which) (S : Spool) (n : ℕ) (c : Change) (g content : Octets)
    → Contains (index_files S c) (record { name = name_for w g; content = content })
    → (created : NewGroup) × ((c ≡ Group created) × ((created.name ≡ g) × (content ≡ file_for w S g)))
index_of_change w S n (Article filing) g content (k, low, is) = absurd (omega arith)
index_of_change w S n (Expire expiry) g content (k, low, is) = absurd (omega arith)
index_of_change Numbers S n (Group created) g content (zero, low, is) =
    let names : 110 ∷ 46 ∷ created.name ≡ 110 ∷ 46 ∷ g = ap (λ (f : File). f.name) is in
    let same : created.name ≡ g = cc in
    (created, (refl, (same, sym (ap (λ (f : File). f.content) is) ∙ ap (numbers_file S) same)))
index_of_change Numbers S n (Group created) g content (suc zero, low, is) =
    absurd (let octets : 111 ≡ 110 = ap (λ (f : File). get_or f.name 0 0) is in omega arith)
index_of_change Overview S n (Group created) g content (zero, low, is) =
    absurd (let octets : 110 ≡ 111 = ap (λ (f : File). get_or f.name 0 0) is in omega arith)
index_of_change Overview S n (Group created) g content (suc zero, low, is) =
    let names : 111 ∷ 46 ∷ created.name ≡ 111 ∷ 46 ∷ g = ap (λ (f : File). f.name) is in
    let same : created.name ≡ g = cc in
    (created, (refl, (same, sym (ap (λ (f : File). f.content) is) ∙ ap (overview_file S) same)))
index_of_change w S n (Group created) g content (suc (suc k), low, is) = absurd (omega arith)

pub index_is : (w : Which) (S : Spool) (g content : Octets) → Contains (files_of S) (record { name = name_for w g; content = content })
    → IsIndex w S g content
unfolding files_of entries groups group_named
index_is w S g content has =
    let source = joined_from (entry_files S) (entries_from 1 S) (record { name = name_for w g; content = content }) has in
    by_place source.item source.here source.has
  where
    by_place : (e : SpoolEntry) → Contains (entries_from 1 S) e
        → Contains (entry_files S e) (record { name = name_for w g; content = content })
        → IsIndex w S g content
    by_place e there (zero, low, is) = absurd (not_change w e g content is)
    by_place e there (suc k, low, is) =
        let its = index_of_change w S e.serial e.change g content (k, omega arith, is) in
        let made : Contains (entries_from 1 S) (record { serial = e.serial; change = Group its.0 }) =
        subst (λ (c : Change). Contains (entries_from 1 S) (record { serial = e.serial; change = c })) its.1.0 there in
        record {
          here = subst (λ (name : Octets). is_here S name ≡ true) its.1.1.0 (made_group_here 1 S its.0 e.serial made);
          is = its.1.1.1;
        }

-- ---- a file that is no change's

index_named : (S : Spool) (c : Change) (f : File) → Contains (index_files S c) f → (w : Which) × ((g : Octets) × (f.name ≡ name_for w g))
index_named S (Group created) f (zero, low, is) = (Numbers, (created.name, ap (λ (h : File). h.name) (sym is)))
index_named S (Group created) f (suc zero, low, is) = (Overview, (created.name, ap (λ (h : File). h.name) (sym is)))
index_named S (Group created) f (suc (suc k), low, is) = absurd (omega arith)
index_named S (Article filing) f (k, low, is) = absurd (omega arith)
index_named S (Expire expiry) f (k, low, is) = absurd (omega arith)

pub named_for : (S : Spool) (f : File) → Contains (files_of S) f → is_of_change f ≡ false
    → (w : Which) × ((g : Octets) × (f.name ≡ name_for w g))
unfolding files_of entries
named_for S f has not =
    let source = joined_from (entry_files S) (entries_from 1 S) f has in
    by_place source.item source.has
  where
    by_place : (e : SpoolEntry) → Contains (entry_files S e) f → (w : Which) × ((g : Octets) × (f.name ≡ name_for w g))
    by_place e (zero, low, is) = absurd (true≢false (sym (of_change e.serial e.change) ∙ ap is_of_change is ∙ not))
    by_place e (suc k, low, is) = index_named S e.change f (k, omega arith, is)

-- ---- and not the pack's

-- numbers and overviews may not be packed
pub not_member : (w : Which) (g content : Octets) → ¬ (IsMember (record { name = name_for w g; content = content }))
not_member Numbers g content is = true≢false (sym is.kind)
not_member Overview g content is = true≢false (sym is.kind)

pub not_pack : (w : Which) (g : Octets) → name_for w g ≢ pack_name
not_pack Numbers g is = absurd (let octets : 110 ≡ 112 = ap (λ (o : Octets). get_or o 0 0) is in omega arith)
not_pack Overview g is = absurd (let octets : 111 ≡ 112 = ap (λ (o : Octets). get_or o 0 0) is in omega arith)
