-- An article is replayed.
use Rattle.std.proofs.Common.{◌≡◌, ◌<◌, ◌≤◌, ℕ, zero, suc, ◌+◌, ◌^◌, Bool, true, false, cond, List, [], ◌∷◌, ◌++◌, length, get_or, refl}
use Rattle.std.proofs.Common.{sym, ◌∙◌, ap, subst, arith, Option, Some, None}
use Rattle.std.specs.Prelude.{bytes_eq, filter, find, is_some, option_map, slice_get, ◌||◌}
use Rattle.std.specs.List.{list_any}
use Rattle.std.proofs.lemmas.List.{length-take}
use Rattle.std.proofs.lemmas.Option.{slice_get-map}
use Rattle.std.proofs.lemmas.Slice.Eq.{bytes_eq-Decides}
use Rattle.model.specs.Stream.{Octets}
use Rattle.model.specs.Article.{groups_of}
use Rattle.model.specs.Files.{File, HasRoom, IsFileSystem, table}
use Rattle.model.specs.Indexed.{FilePlaces, GroupIndex, group_index}
use Rattle.model.specs.Lawful.{MayFile}
use Rattle.model.specs.Packs.{most_changes}
use Rattle.model.specs.Spool.{Spool, NewsGroup, group_named, groups, is_here, is_name}
use Rattle.model.specs.SpoolFiles.{overview_file, overview_name}
use Rattle.model.specs.declared.cause.Cause.{Cause}
use Rattle.model.specs.declared.change.Change.TheVariants.{Article}
use Rattle.model.specs.declared.change.Envelope.{Envelope}
use Rattle.model.specs.declared.change.Filing.{Filing}
use Rattle.spool_groups.specs.Filing.{AreLineSizes, EndBelow, end_of}
use Rattle.spool_index.specs.View.{IndexView, Indexes}
use Rattle.spool_index.proofs.Growing.{overview_size}
use Rattle.spool_index.specs.Places.{AreNamed, with_change}
use Rattle.spool_index.specs.Viewed.{place_of}
use Rattle.spool_index.specs.declared.places.ChangePlace.{ChangePlace}
use Rattle.spool_index.proofs.Named.{grow_by_change}
use Rattle.spool_opening.specs.Replayed.{AllGoOn, AreHere, IsBounded, IsItsFile, IsReplayed}
use Rattle.spool_opening.specs.Stored.{HasPiece, Overview, Which, file_for, name_for, piece_for}
use Rattle.spool_reading.proofs.Contents.{content_fits}
use Rattle.spool_opening.proofs.Growing.{article_is_read}
use Rattle.spool_opening.proofs.Replaying.{its_file_there, its_name, keeps_self}

pub bounded : (host : Octets) (inodes : ℕ) (blocks : List Octets) (x : IndexView) (p : FilePlaces) (R : Spool) → HasRoom inodes blocks
    → IsFileSystem inodes blocks → IsReplayed host inodes blocks x p R → length R ≤ most_changes → IsBounded x
bounded host inodes blocks x p R room rule replayed few = record {
  changes = R;
  indexed = replayed.indexed;
  few = few;
  short = λ g here.
      let has = replayed.read.fronts Overview g here in
      let fits = content_fits inodes blocks has.place (record { name = overview_name g; content = has.content }) room rule has.there in
      omega (arith, fits, ap (λ (o : Octets). length o) has.front, length-take (length (overview_file R g)) has.content);
}

pub are_here : (S : Spool) (names : List Octets) → AreHere S (filter (is_here S) names)
are_here S [] = λ k low. absurd (omega arith)
are_here S (x ∷ names) = by_test (is_here S x) refl (are_here S names) where
  by_test : (b : Bool) → is_here S x ≡ b → AreHere S (filter (is_here S) names)
      → AreHere S (cond b (x ∷ filter (is_here S) names) (filter (is_here S) names))
  by_test true is rest zero low = is
  by_test true is rest (suc k) low = rest k (omega arith)
  by_test false is rest k low = rest k low

found_at : (gs : List NewsGroup) (k : ℕ) (h : NewsGroup) → slice_get gs k ≡ Some h
    → is_some (find (λ (g : NewsGroup). is_name h.name g.name) gs) ≡ true
found_at [] zero h is = absurd (cc)
found_at [] (suc k) h is = absurd (cc)
found_at (g ∷ gs) zero h is =
    let same : g ≡ h = cc in
    ap (λ (b : Bool). is_some (cond b (Some g) (find (λ (x : NewsGroup). is_name h.name x.name) gs)))
    ((bytes_eq-Decides g.name h.name).1 (ap (λ (x : NewsGroup). x.name) same))
found_at (g ∷ gs) (suc k) h is = over (is_name h.name g.name) (found_at gs k h is) where
  over : (b : Bool) → is_some (find (λ (x : NewsGroup). is_name h.name x.name) gs) ≡ true
      → is_some (cond b (Some g) (find (λ (x : NewsGroup). is_name h.name x.name) gs)) ≡ true
  over true rest = refl
  over false rest = rest

its_group : (S : Spool) (o : Option NewsGroup) (i : GroupIndex) → option_map (group_index S) o ≡ Some i
    → (h : NewsGroup) × ((o ≡ Some h) × (group_index S h ≡ i))
its_group S None i is = absurd (cc)
its_group S (Some h) i is = (h, (refl, cc))

pub ends_below : (x : IndexView) → IsBounded x → EndBelow (2 ^ 32) x.groups
unfolding group_named
ends_below x bounds = λ k i is.
    let S = bounds.changes in
    let mapped : option_map (group_index S) (slice_get (groups S) k) ≡ Some i = sym (slice_get-map (group_index S) (groups S) k)
    ∙ ap (λ (gs : List GroupIndex). slice_get gs k) (sym bounds.indexed.groups_are) ∙ is in
    let its = its_group S (slice_get (groups S) k) i mapped in
    let here : is_here S its.0.name ≡ true = found_at (groups S) k its.0 its.1.0 in
    omega (arith, bounds.short its.0.name here, overview_size S its.0, ap end_of its.1.1)

any_at : (g : Octets) (gs : List Octets) → list_any (is_name g) gs ≡ true → (k : ℕ) × ((k < length gs) × (get_or gs k [] ≡ g))
any_at g [] some = absurd (cc)
any_at g (x ∷ gs) some = by_test (bytes_eq x g) refl some (any_at g gs) where
  by_test : (b : Bool) → bytes_eq x g ≡ b → (b || list_any (is_name g) gs) ≡ true
      → (list_any (is_name g) gs ≡ true → (k : ℕ) × ((k < length gs) × (get_or gs k [] ≡ g)))
      → (k : ℕ) × ((k < length (x ∷ gs)) × (get_or (x ∷ gs) k [] ≡ g))
  by_test true is found rest = (0, (omega arith, (bytes_eq-Decides x g).0 is))
  by_test false is found rest = let at = rest found in (suc at.0, (omega (arith, at.1.0), at.1.1))

pub pieces_by_names : (inodes : List (Option File)) (S : Spool) (text : Octets) (gs : List Octets) → AllGoOn inodes S text gs
    → (w : Which) (g : Octets) → list_any (is_name g) gs ≡ true
    → HasPiece inodes (name_for w g) (length (file_for w S g)) (piece_for w S text g)
pieces_by_names inodes S text gs all w g filed =
    let at = any_at g gs filed in
    subst (λ (h : Octets). HasPiece inodes (name_for w h) (length (file_for w S h)) (piece_for w S text h)) at.1.1 (all at.0 w at.1.0)

pub article_replayed : (host : Octets) (inodes : ℕ) (blocks : List Octets) (R : Spool) (x y : IndexView) (p q : FilePlaces)
    (at : ChangePlace) (f : Filing) → IsFileSystem inodes blocks → IsReplayed host inodes blocks x p R
    → IsItsFile inodes blocks at (length R + 1) (Article f) → MayFile host R f
    → AllGoOn (table inodes blocks) R f.text f.envelope.groups → Indexes (R ++ Article f ∷ []) y → q ≡ with_change (place_of at) p
    → IsReplayed host inodes blocks y q (R ++ Article f ∷ [])
article_replayed host inodes blocks R x y p q at f rule replayed its may all indexed placed = record {
  read = article_is_read host inodes blocks R replayed.read f rule may its.is.room
      (its_file_there inodes blocks at (length R + 1) (Article f) its)
      (pieces_by_names (table inodes blocks) R f.text f.envelope.groups all);
  indexed = indexed;
  placed =
      subst (AreNamed (table inodes blocks) (R ++ Article f ∷ [])) (sym placed)
      (grow_by_change (table inodes blocks) (table inodes blocks) R (Article f) p (place_of at) refl replayed.placed
      (keeps_self (table inodes blocks)) (its_name inodes blocks at (length R + 1) (Article f) its));
}

-- ---- what the code has

pub no_cause_there : (o : Option Cause) (x : Cause) → o ≡ None → o ≡ Some x → ⊥
no_cause_there o x none some = absurd (cc)

pub filed_here : (S : Spool) (article : Octets) (filed : List Octets) → filed ≡ filter (is_here S) (groups_of article) → AreHere S filed
filed_here S article filed are = subst (AreHere S) (sym are) (are_here S (groups_of article))

pub may_of_text : (host : Octets) (S : Spool) (article text : Octets) (e : Envelope) → article ≡ text
    → MayFile host S (record { text = article; envelope = e }) → MayFile host S (record { text = text; envelope = e })
may_of_text host S article text e same may = subst (λ (t : Octets). MayFile host S (record { text = t; envelope = e })) same may

pub same_groups : (host : Octets) (S : Spool) (f : Filing) (filed : List Octets) → filed ≡ filter (is_here S) (groups_of f.text)
    → MayFile host S f → filed ≡ f.envelope.groups
same_groups host S f filed are may = are ∙ sym may.filed

pub all_of_text : (inodes : List (Option File)) (S : Spool) (article text : Octets) (filed gs : List Octets) → article ≡ text → filed ≡ gs
    → AllGoOn inodes S article filed → AllGoOn inodes S text gs
all_of_text inodes S article text filed gs same groups' all =
    subst (λ (p : Octets × List Octets). AllGoOn inodes S p.0 p.1) (λ i. (same i, groups' i)) all

pub sizes_of_text : (S : Spool) (article text : Octets) (filed gs : List Octets) (sizes lengths : List ℕ) → article ≡ text → filed ≡ gs
    → lengths ≡ sizes → AreLineSizes S article filed sizes → AreLineSizes S text gs lengths
sizes_of_text S article text filed gs sizes lengths same groups' sized is =
    subst (λ (p : Octets × List Octets × List ℕ). AreLineSizes S p.0 p.1 p.2) (λ i. (same i, groups' i, sym sized i)) is
