-- One change more is read, and the end.
use Rattle.std.proofs.Common.{◌≡◌, ℕ, zero, suc, ◌+◌, Bool, true, false, cond, List, [], ◌∷◌, ◌++◌, length, take, refl, sym, ◌∙◌, ap, subst}
use Rattle.std.proofs.Common.{arith, Option, Some, None}
use Rattle.std.specs.Prelude.{slice_get, find, filter_map, bytes_eq, is_some}
use Rattle.std.specs.List.{list_any}
use Rattle.std.specs.Option.{option_or}
use Rattle.std.proofs.lemmas.Bool.{true≢false}
use Rattle.std.proofs.lemmas.List.{append-nil}
use Rattle.std.proofs.lemmas.List.Folds.{find-append}
use Rattle.std.proofs.lemmas.Option.{slice_get_past}
use Rattle.std.proofs.lemmas.Slice.Eq.{bytes_eq-Decides}
use Rattle.model.specs.Stream.{Octets}
use Rattle.model.specs.Files.{IsFileSystem, files_in, table}
use Rattle.model.specs.Lawful.{IsLawful, MayFollow}
use Rattle.model.specs.Spool.{Spool, NewsGroup, entries, group_made, group_named, groups, is_here, is_name, news_group}
use Rattle.model.specs.FileKinds.{HasRoomInFile}
use Rattle.model.specs.Packs.{IsStored}
use Rattle.model.specs.SpoolFiles.{change_file, numbers_of, overview_of}
use Rattle.model.specs.declared.change.Change.{Change}
use Rattle.model.specs.declared.change.Change.TheVariants.{Group, Article, Expire}
use Rattle.model.specs.declared.change.Expiry.{Expiry}
use Rattle.model.specs.declared.change.Filing.{Filing}
use Rattle.model.specs.declared.change.NewGroup.{NewGroup}
use Rattle.model.proofs.Growing.{groups_more, new_has_nothing}
use Rattle.model.proofs.LawfulLaws.{lawful_more}
use Rattle.spool_opening.specs.Stored.{AreRead, HasFront, HasPiece, IsFileAt, Numbers, Overview, Which, file_for, name_for, piece_for}
use Rattle.spool_opening.proofs.Fronts.{article_grows, front_grows, other_grows}

-- ---- lawful

-- ---- the changes

changes_more : (P : ℕ → Change → Type 0) (R : Spool) (c : Change) → ((n : ℕ) (d : Change) → slice_get R n ≡ Some d → P n d) → P (length R) c
    → (n : ℕ) (d : Change) → slice_get (R ++ c ∷ []) n ≡ Some d → P n d
changes_more P [] c old new zero d is = let same : c ≡ d = cc in subst (P 0) same new
changes_more P [] c old new (suc n) d is = absurd (cc)
changes_more P (e ∷ R) c old new zero d is = old 0 d is
changes_more P (e ∷ R) c old new (suc n) d is = changes_more (λ m. P (suc m)) R c (λ m f at. old (suc m) f at) new n d is

-- ---- groups that are here

pub here_more : (S : Spool) (c : Change) (g : Octets)
    → group_named (S ++ c ∷ []) g ≡ option_or (group_named S g)
    (find (λ (h : NewsGroup). is_name g h.name) (filter_map group_made (record { serial = length S + 1; change = c } ∷ [])))
unfolding group_named
here_more S c g = ap (find (λ (h : NewsGroup). is_name g h.name)) (groups_more S c)
    ∙ find-append (λ (h : NewsGroup). is_name g h.name) (groups S) _

or_none : (o : Option NewsGroup) → is_some (option_or o None) ≡ true → is_some o ≡ true
or_none None some = some
or_none (Some h) some = refl

-- no group is made
here_before : (S : Spool) (c : Change) (g : Octets) → filter_map group_made (record { serial = length S + 1; change = c } ∷ []) ≡ []
    → is_here (S ++ c ∷ []) g ≡ true → is_here S g ≡ true
here_before S c g none here =
    or_none (group_named S g) (sym (ap (λ (o : Option NewsGroup). is_some o) (here_more S c g
    ∙ ap (λ (gs : List NewsGroup). option_or (group_named S g) (find (λ (h : NewsGroup). is_name g h.name) gs)) none)) ∙ here)

-- ---- a file with more in front

named_same : (inodes : ℕ) (blocks : List Octets) (w : Which) (g : Octets) (old new : Octets) → new ≡ old
    → HasFront (table inodes blocks) (name_for w g) old → HasFront (table inodes blocks) (name_for w g) new
named_same inodes blocks w g old new same has = subst (HasFront (table inodes blocks) (name_for w g)) (sym same) has

-- a new group has nothing yet
nothing : (host : Octets) (R : Spool) (name : Octets) → IsLawful host R → group_named R name ≡ None → (w : Which) → file_for w R name ≡ []
unfolding numbers_of overview_of
nothing host R name lawful new Numbers = ap numbers_of (new_has_nothing host R name lawful new)
nothing host R name lawful new Overview = ap overview_of (new_has_nothing host R name lawful new)

module _ (host : Octets) (inodes : ℕ) (blocks : List Octets) (R : Spool) (read : AreRead host inodes blocks R) where
  pub expiry_is_read : (e : Expiry) → let c = Expire e in MayFollow host R c → HasRoomInFile (length R + 1) c
      → IsStored (files_in (table inodes blocks)) (change_file (record { serial = length R + 1; change = c }))
      → AreRead host inodes blocks (R ++ c ∷ [])
  expiry_is_read e may room there = record {
    lawful = lawful_more host [] R (Expire e) read.lawful may;
    changes = changes_more (λ n c. HasRoomInFile (n + 1) c
        × IsStored (files_in (table inodes blocks)) (change_file (record { serial = n + 1; change = c }))) R
        (Expire e) read.changes (room, there);
    fronts = λ w g here. named_same inodes blocks w g _ _ (other_grows w R (Expire e) g refl)
        (read.fronts w g (here_before R (Expire e) g refl here));
  }

  pub article_is_read : (f : Filing) → let c = Article f in IsFileSystem inodes blocks
      → MayFollow host R c → HasRoomInFile (length R + 1) c
      → IsStored (files_in (table inodes blocks)) (change_file (record { serial = length R + 1; change = c }))
      → ((w : Which) (g : Octets) → list_any (is_name g) f.envelope.groups ≡ true
      → HasPiece (table inodes blocks) (name_for w g) (length (file_for w R g)) (piece_for w R f.text g))
      → AreRead host inodes blocks (R ++ c ∷ [])
  article_is_read f rule may room there pieces = record {
    lawful = lawful_more host [] R (Article f) read.lawful may;
    changes = changes_more (λ n c. HasRoomInFile (n + 1) c
        × IsStored (files_in (table inodes blocks)) (change_file (record { serial = n + 1; change = c }))) R
        (Article f) read.changes (room, there);
    fronts = λ w g here. by_test w g (read.fronts w g (here_before R (Article f) g refl here))
        (list_any (is_name g) f.envelope.groups) refl;
  } where
    by_test : (w : Which) (g : Octets) → HasFront (table inodes blocks) (name_for w g) (file_for w R g) → (b : Bool)
        → list_any (is_name g) f.envelope.groups ≡ b → HasFront (table inodes blocks) (name_for w g) (file_for w (R ++ Article f ∷ []) g)
    by_test w g has true filed =
        named_same inodes blocks w g _ _ (article_grows w R f g
        ∙ ap (λ (b : Bool). file_for w R g ++ cond b (piece_for w R f.text g) []) filed)
        (front_grows inodes blocks (name_for w g) (file_for w R g) (piece_for w R f.text g) rule has (pieces w g filed))
    by_test w g has false filed =
        named_same inodes blocks w g _ _ (article_grows w R f g
        ∙ ap (λ (b : Bool). file_for w R g ++ cond b (piece_for w R f.text g) []) filed ∙ append-nil (file_for w R g)) has

  pub group_is_read : (created : NewGroup) → let c = Group created in
      MayFollow host R c → HasRoomInFile (length R + 1) c
      → IsStored (files_in (table inodes blocks)) (change_file (record { serial = length R + 1; change = c }))
      → ((w : Which) → (k : ℕ) × ((content : Octets) × IsFileAt (table inodes blocks) k (name_for w created.name) content))
      → AreRead host inodes blocks (R ++ c ∷ [])
  group_is_read created may room there files = record {
    lawful = lawful_more host [] R (Group created) read.lawful may;
    changes = changes_more (λ n c. HasRoomInFile (n + 1) c
        × IsStored (files_in (table inodes blocks)) (change_file (record { serial = n + 1; change = c }))) R
        (Group created) read.changes (room, there);
    fronts = λ w g here. by_test w g (bytes_eq created.name g) refl here;
  } where
    or_other : (o : Option NewsGroup) → is_some (option_or o None) ≡ true → is_some o ≡ true
    or_other None some = some
    or_other (Some h) some = refl

    by_test : (w : Which) (g : Octets) (b : Bool) → bytes_eq created.name g ≡ b → is_here (R ++ Group created ∷ []) g ≡ true
        → HasFront (table inodes blocks) (name_for w g) (file_for w (R ++ Group created ∷ []) g)
    by_test w g true same here =
        let one : created.name ≡ g = (bytes_eq-Decides created.name g).0 same in
        let file = files w in
        let none : file_for w (R ++ Group created ∷ []) g ≡ [] =
        other_grows w R (Group created) g refl ∙ ap (file_for w R) (sym one)
        ∙ nothing host R created.name read.lawful may.new w in
        record {
          place = file.0;
          content = file.1.0;
          there = subst (λ (o : Octets). IsFileAt (table inodes blocks) file.0 (name_for w o) file.1.0) one file.1.1;
          front = ap (λ (o : Octets). take (length o) file.1.0) none ∙ sym none;
        }
    by_test w g false same here =
        let its : NewsGroup = news_group (length R + 1) created in
        let before : is_here R g ≡ true =
        or_other (group_named R g) (sym (ap (λ (o : Option NewsGroup). is_some o) (here_more R (Group created) g
        ∙ ap (λ (b : Bool). option_or (group_named R g) (cond b (Some its) None)) same)) ∙ here) in
        named_same inodes blocks w g _ _ (other_grows w R (Group created) g refl) (read.fronts w g before)

-- no change was read yet
pub none_is_read : (host : Octets) (inodes : ℕ) (blocks : List Octets) → AreRead host inodes blocks []
unfolding group_named groups entries
none_is_read host inodes blocks = record {
  lawful = tt;
  changes = λ n c is. absurd (no_element [] n c refl is);
  fronts = λ w g here. absurd (true≢false (sym here));
} where
  no_element : (R : Spool) (n : ℕ) (c : Change) → length R ≡ 0 → slice_get R n ≡ Some c → ⊥
  no_element R n c none is = absurd (let past = slice_get_past R n (omega arith) in cc)
