-- One change more is replayed.
use Rattle.std.proofs.Common.{◌≡◌, ℕ, ◌+◌, List, [], ◌∷◌, ◌++◌, length, append-nil, refl, sym, ◌∙◌, ap, subst, Option, Some}
use Rattle.std.specs.Prelude.{option_map}
use Rattle.model.specs.Stream.{Octets}
use Rattle.model.specs.Files.{File, files_in, table}
use Rattle.model.specs.Indexed.{FilePlaces, IsAt, KeepsFiles}
use Rattle.model.specs.Lawful.{MayExpire, MayMake}
use Rattle.model.specs.Spool.{Spool}
use Rattle.model.specs.SpoolFiles.{change_file, numbers_name, overview_name}
use Rattle.model.specs.declared.change.Change.{Change}
use Rattle.model.specs.declared.change.Change.TheVariants.{Group, Expire}
use Rattle.model.specs.declared.change.Expiry.{Expiry}
use Rattle.model.specs.declared.change.NewGroup.{NewGroup}
use Rattle.model.specs.Packs.{IsStored}
use Rattle.spool_index.specs.View.{IndexView, Indexes}
use Rattle.spool_index.specs.Places.{AreNamed, IsNamedAt, name_of, with_change, with_group}
use Rattle.spool_index.specs.Viewed.{place_of}
use Rattle.spool_index.specs.declared.places.ChangePlace.{ChangePlace}
use Rattle.spool_index.specs.declared.places.ChangePlace.TheVariants.{Alone, Packed}
use Rattle.spool_index.proofs.Named.{grow_by_change, grow_by_group}
use Rattle.spool_opening.specs.Replayed.{IsItsFile, IsReplayed}
use Rattle.spool_opening.specs.Stored.{IsFileAt, Numbers, Overview, Which, name_for}
use Rattle.spool_opening.proofs.Growing.{expiry_is_read, group_is_read}

pub its_file_there : (inodes : ℕ) (blocks : List Octets) (at : ChangePlace) (serial : ℕ) (c : Change) → IsItsFile inodes blocks at serial c
    → IsStored (files_in (table inodes blocks)) (change_file (record { serial = serial; change = c }))
its_file_there inodes blocks at serial c its = subst (IsStored (files_in (table inodes blocks))) (sym its.is.file) its.stored

-- what is known of a file at its place
named_at : (inodes : List (Option File)) (at : ChangePlace) (f : File) → IsAt inodes (place_of at) f → IsNamedAt inodes (place_of at) f
named_at inodes (Alone inode) f there = ap (option_map (λ (g : File). g.name)) there
named_at inodes (Packed inode from size) f there = there

pub its_name : (inodes : ℕ) (blocks : List Octets) (at : ChangePlace) (serial : ℕ) (c : Change) → IsItsFile inodes blocks at serial c
    → IsNamedAt (table inodes blocks) (place_of at) (change_file (record { serial = serial; change = c }))
its_name inodes blocks at serial c its =
    subst (IsNamedAt (table inodes blocks) (place_of at)) (sym its.is.file)
    (named_at (table inodes blocks) at (record { name = its.name; content = its.content }) its.there)

-- files that stay as they are
pub keeps_self : (inodes : List (Option File)) → KeepsFiles inodes inodes
keeps_self inodes k f is = ([], is ∙ ap (λ (o : Octets). Some (record { name = f.name; content = o })) (sym (append-nil f.content)))

pub expiry_replayed : (host : Octets) (inodes : ℕ) (blocks : List Octets) (R : Spool) (x y : IndexView) (p q : FilePlaces)
    (at : ChangePlace) (e : Expiry) → IsReplayed host inodes blocks x p R
    → IsItsFile inodes blocks at (length R + 1) (Expire e) → MayExpire R e → Indexes (R ++ Expire e ∷ []) y
    → q ≡ with_change (place_of at) p → IsReplayed host inodes blocks y q (R ++ Expire e ∷ [])
expiry_replayed host inodes blocks R x y p q at e replayed its may indexed placed = record {
  read = expiry_is_read host inodes blocks R replayed.read e may its.is.room
      (its_file_there inodes blocks at (length R + 1) (Expire e) its);
  indexed = indexed;
  placed =
      subst (AreNamed (table inodes blocks) (R ++ Expire e ∷ [])) (sym placed)
      (grow_by_change (table inodes blocks) (table inodes blocks) R (Expire e) p (place_of at) refl replayed.placed
      (keeps_self (table inodes blocks)) (its_name inodes blocks at (length R + 1) (Expire e) its));
}

named_there : (inodes : ℕ) (blocks : List Octets) (at : ℕ) (name content : Octets) → IsFileAt (table inodes blocks) at name content
    → name_of (table inodes blocks) at ≡ Some name
named_there inodes blocks at name content there = ap (option_map (λ (f : File). f.name)) there

pub group_replayed : (host : Octets) (inodes : ℕ) (blocks : List Octets) (R : Spool) (x y : IndexView) (p q : FilePlaces)
    (at numbers overview : ℕ) (created : NewGroup) → IsReplayed host inodes blocks x p R
    → IsItsFile inodes blocks (Alone at) (length R + 1) (Group created) → MayMake R created
    → ((content : Octets) × IsFileAt (table inodes blocks) numbers (numbers_name created.name) content)
    → ((content : Octets) × IsFileAt (table inodes blocks) overview (overview_name created.name) content)
    → Indexes (R ++ Group created ∷ []) y → q ≡ with_group at numbers overview p
    → IsReplayed host inodes blocks y q (R ++ Group created ∷ [])
group_replayed host inodes blocks R x y p q at numbers overview created replayed its may numbered shown indexed placed = record {
  read = group_is_read host inodes blocks R replayed.read created may its.is.room
      (its_file_there inodes blocks (Alone at) (length R + 1) c its) files;
  indexed = indexed;
  placed =
      subst (AreNamed (table inodes blocks) (R ++ c ∷ [])) (sym placed)
      (grow_by_group (table inodes blocks) (table inodes blocks) R created p at numbers overview replayed.placed
      (keeps_self (table inodes blocks)) (its_name inodes blocks (Alone at) (length R + 1) c its)
      (named_there inodes blocks numbers (numbers_name created.name) numbered.0 numbered.1)
      (named_there inodes blocks overview (overview_name created.name) shown.0 shown.1));
} where
  c : Change
  c = Group created

  files : (w : Which) → (k : ℕ) × ((content : Octets) × IsFileAt (table inodes blocks) k (name_for w created.name) content)
  files Numbers = (numbers, numbered)
  files Overview = (overview, shown)
