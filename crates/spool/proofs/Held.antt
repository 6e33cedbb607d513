-- What blocks that hold a spool leave free, and the change that they get.
use Rattle.std.proofs.Common.{◌≡◌, ℕ, List, [], ◌∷◌, ◌++◌, refl, sym, subst}
use Rattle.std.specs.Prelude.{replicate, OnErr, OnOk, Result, Ok, Err, None}
use Rattle.model.specs.Stream.{Octets}
use Rattle.model.specs.Files.{HasRoom, IsFileSystem, table}
use Rattle.model.specs.Lawful.{MayFollow}
use Rattle.model.specs.Spool.{Spool, entries, groups}
use Rattle.model.specs.SpoolFiles.{files_of}
use Rattle.model.specs.declared.change.Change.{Change}
use Rattle.model.proofs.HoldsOne.{empty_none, holds_one}
use mathlib.Core.HLevel.{is_prop→PathP}
use Rattle.std.proofs.Math.Logic.{∥∥₁_elim, ∥∥₁_prop}
use Rattle.std.specs.Prelude.{IsTrue}
use Rattle.model.specs.Names.{is_host}
use Rattle.model.specs.Indexed.{ArePlaces, FilePlaces}
use Rattle.spool_index.specs.View.{IndexView, Indexes}
use Rattle.journal_volume.specs.Volume.{VolumeView}
use Rattle.spool.specs.Kept.{CanStand, StandsIn, spool_set}
use Rattle.spool_growing.specs.Kept.{IsHeld, IsKept}
use Rattle.spool.specs.View.{Adds, SpoolView}
use Rattle.spool_growing.specs.declared.kept.Kept.{Kept}
use Rattle.spool_growing.specs.Growing.{IsGrown}

-- ---- the fields of a spool that is used whole

pub the_changes : (host : Octets) (inodes : ℕ) (blocks : List Octets) (S : Spool) → IsHeld host inodes blocks S
    → (T : StandsIn host inodes blocks) → T.changes ≡ S
the_changes host inodes blocks S is T =
    ∥∥₁_elim T.held (spool_set T.changes S) (λ other. holds_one host host inodes blocks T.changes S is.room.few other.held is.held)

-- with the changes that stand in the blocks
pub kept_stands : (host : Octets) (inodes : ℕ) (v : VolumeView) (i : IndexView) (p : FilePlaces) (S : Spool)
    (T : StandsIn host inodes v.cache) → IsKept host inodes v i p S → IsKept host inodes v i p T.changes
kept_stands host inodes v i p S T kept =
    subst (λ (R : Spool). IsKept host inodes v i p R) (sym (the_changes host inodes v.cache S kept.is T)) kept

-- the spool as its callers see it
abbrev pub view_of : (host : Octets) (k : Kept) → StandsIn host k.inodes k.volume.cache → SpoolView
view_of host k S = record {
  host = host;
  inodes = k.inodes;
  changes = S.changes;
  blocks = k.volume.cache;
  dirty = k.volume.dirty;
  sound = S.held;
}

pub kept_view : (host : Octets) (k l : Kept) (S : StandsIn host k.inodes k.volume.cache) (R : StandsIn host l.inodes l.volume.cache)
    → l ≡ k → R.changes ≡ S.changes → view_of host l R ≡ view_of host k S
kept_view host k l S R same changes = λ i. record {
  host = host;
  inodes = (same i).inodes;
  changes = changes i;
  blocks = (same i).volume.cache;
  dirty = (same i).volume.dirty;
  sound = is_prop→PathP (λ j. ∥ IsHeld host (same j).inodes (same j).volume.cache (changes j) ∥₁) (λ j. ∥∥₁_prop) R.held S.held i;
}

pub cleaned : (host : Octets) (inodes : ℕ) (v w : VolumeView) (i : IndexView) (p : FilePlaces) (S : Spool) → w ≡ record v { dirty = [] }
    → IsKept host inodes v i p S → IsKept host inodes w i p S
cleaned host inodes v w i p S same kept =
    let clean : IsKept host inodes (record v { dirty = [] }) i p S =
    record { is = kept.is; seen = kept.seen; indexed = kept.indexed; placed = kept.placed } in
    subst (λ (x : VolumeView). IsKept host inodes x i p S) (sym same) clean

-- the spool with the change
pub added : (host : Octets) (k l : Kept) (S : StandsIn host k.inodes k.volume.cache) (R : StandsIn host l.inodes l.volume.cache)
    (c : Change) (old : SpoolView) → view_of host k S ≡ old → R.changes ≡ S.changes ++ c ∷ [] → IsGrown k l c
    → Adds old (view_of host l R) c
added host k l S R c old view changes grown =
    subst (λ (x : SpoolView). Adds x (view_of host l R) c) view
    (record { host = refl; inodes = grown.inodes; changes = changes; dirties = grown.dirties })

-- the blocks hold some changes still, as before or with one more
pub still_stands : {T E : Type 0} (r : Result T E) (host : Octets) (k l : Kept) (S : Spool) (c : Change)
    → IsKept host k.inodes k.volume k.index k.places S → MayFollow host S c → OnOk r (IsGrown k l c) → OnErr r (l ≡ k)
    → StandsIn host l.inodes l.volume.cache
still_stands (Ok x) host k l S c kept may grown same =
    let its : IsGrown k l c = grown in
    record { changes = S ++ c ∷ []; held = ∣ (its.kept host S kept may).is ∣₁ }
still_stands (Err e) host k l S c kept may grown same =
    let stands : StandsIn host k.inodes k.volume.cache = record { changes = S; held = ∣ kept.is ∣₁ } in
    subst (λ (j : Kept). StandsIn host j.inodes j.volume.cache) (sym same) stands

pub if_err : {T E P : Type 0} (r : Result T E) → P → OnErr r P
if_err (Ok x) is = tt
if_err (Err e) is = is

-- a spool without changes stands in an empty file system
pub nothing_stands : (host : Octets) (inodes : ℕ) (v : VolumeView) (i : IndexView) (p : FilePlaces) → IsTrue (is_host host)
    → HasRoom inodes v.cache → IsFileSystem inodes v.cache → table inodes v.cache ≡ replicate inodes None → v.seen ≡ v.cache
    → Indexes [] i → p ≡ record { changes = []; numbers = []; overviews = [] } → CanStand host inodes v i p
unfolding files_of entries groups
nothing_stands host inodes v i p named room rule none seen indexed places = record {
  changes = [];
  kept = record {
    is = record { named = named; room = room; held = empty_none host inodes v.cache rule none };
    seen = seen;
    indexed = indexed;
    placed = subst (ArePlaces inodes v.cache []) (sym places) (record { changes_are = tt; numbers_are = refl; overviews_are = refl });
  };
}
