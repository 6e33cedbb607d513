-- What is kept of a spool with one change more.
use Rattle.std.proofs.Common.{◌≡◌, ◌≢◌, ◌⊎◌, inl, inr, ◌↔◌, ◌≤◌, ℕ, ◌+◌, List, [], ◌∷◌, ◌++◌, length, refl, sym}
use Rattle.std.proofs.Common.{◌∙◌, ap, subst, arith}
use Rattle.std.specs.Prelude.{Some, None, option_map}
use Rattle.std.proofs.lemmas.Bool.{cases_eq}
use Rattle.model.specs.Stream.{Octets}
use Rattle.model.specs.Files.{File, HasRoom, IsFileSystem, free_inodes, table}
use Rattle.model.specs.Indexed.{ArePlaces}
use Rattle.model.specs.Room.{files_made}
use Rattle.model.specs.Lawful.{MayMake}
use Rattle.model.specs.Packs.{pack_name}
use Rattle.model.specs.Records.{group_record}
use Rattle.model.specs.Spool.{Spool, group_named, news_group}
use Rattle.model.specs.FileCalls.{Create, change_calls, making_calls}
use Rattle.model.specs.SpoolFiles.{expiry_name, group_name}
use Rattle.model.specs.SpoolFiles.{numbers_name, overview_name}
use Rattle.model.specs.declared.change.Change.{Change}
use Rattle.model.specs.declared.change.Change.TheVariants.{Group}
use Rattle.model.specs.declared.change.NewGroup.{NewGroup}
use Rattle.fs.specs.Calls.{IsFileAt, IsThere}
use Rattle.spool_growing.specs.declared.file_calls.Free.{Free}
use Rattle.spool_growing.specs.declared.kept.Kept.{Kept}
use Rattle.spool_growing.specs.Calls.{Calls, CreatesAt, IsKnown, MakesAt, SameFilesBut}
use Rattle.spool_growing.proofs.Calling.{calls_then}
use Rattle.spool_growing.proofs.Taken.{creates, inodes_taken}
use Rattle.fs_inodes.proofs.Grown.{one_name}
use Rattle.spool_index.specs.View.{Indexes}
use Rattle.spool_index.specs.Places.{AreNamed, name_of, with_group}
use Rattle.spool_index.proofs.Named.{are_by_name, grow_by_group, have_names, name_kept}
use Rattle.journal_volume.specs.Volume.{VolumeView}
use Rattle.spool_growing.specs.Growing.{LacksGroup, MakesGroup, group_calls}
use Rattle.spool_growing.specs.Kept.{IsHeld}
use Rattle.std.specs.List.{Contains}
use Rattle.model.specs.Volume.{AreDistinct}
use Rattle.model.specs.Lawful.{IsLawful}
use Rattle.fs.specs.Touches.{Touches}
use Rattle.journal_volume.specs.Volume.{Differs}
use Rattle.spool_growing.specs.Growing.{Dirties, IsGrown, IsOnStage, IsReady, IsStaged, OnlyStages}
use Rattle.spool_growing.proofs.Dirty.{dirties}
use Rattle.spool_growing.proofs.Absent.{lacks_names, lacks_serial, not_first}
use Rattle.spool_growing.proofs.Held.{changes_are_few, grown, not_there}

-- ---- names that are not there

pub lacks_group : (host : Octets) (inodes : ℕ) (blocks : List Octets) (S : Spool) (name : Octets) → IsHeld host inodes blocks S
    → group_named S name ≡ None → LacksGroup inodes blocks name
lacks_group host inodes blocks S name is none = record {
  group = not_there host inodes blocks S is (group_name name)
      (not_first (group_name name) pack_name 103 112 refl refl (λ e. omega arith)) (λ f has. (lacks_names S name none f has).group);
  numbers = not_there host inodes blocks S is (numbers_name name)
      (not_first (numbers_name name) pack_name 110 112 refl refl (λ e. omega arith)) (λ f has. (lacks_names S name none f has).numbers);
  overview = not_there host inodes blocks S is (overview_name name)
      (not_first (overview_name name) pack_name 111 112 refl refl (λ e. omega arith)) (λ f has. (lacks_names S name none f has).overview);
}

pub lacks_expiry : (host : Octets) (inodes : ℕ) (blocks : List Octets) (S : Spool) → IsHeld host inodes blocks S
    → ¬ (IsThere (table inodes blocks) (expiry_name (length S + 1)))
lacks_expiry host inodes blocks S is =
    not_there host inodes blocks S is (expiry_name (length S + 1))
    (not_first (expiry_name (length S + 1)) pack_name 120 112 refl refl (λ e. omega arith))
    (λ f has. (lacks_serial S (omega (arith, changes_are_few host inodes blocks S is)) f has).expiry)

-- another name is there still not
pub still_absent : (inodes at : ℕ) (name content q : Octets) (old new : List Octets) → SameFilesBut inodes at old new
    → IsFileAt (table inodes new) at name content → name ≢ q → ¬ (IsThere (table inodes old) q) → ¬ (IsThere (table inodes new) q)
still_absent inodes at name content q old new others there other none (k, c, here) = by_place (cases_eq k at) where
  by_place : (k ≡ at) ⊎ (k ≢ at) → ⊥
  by_place (inl same) = other (one_name (table inodes new) at name q content c there
      (subst (λ (j : ℕ). IsFileAt (table inodes new) j q c) same here))
  by_place (inr apart) = none (k, c, sym (others k apart) ∙ here)

-- ---- the files of a group

named : (inodes k : ℕ) (name content : Octets) (blocks : List Octets) → IsFileAt (table inodes blocks) k name content
    → name_of (table inodes blocks) k ≡ Some name
named inodes k name content blocks there = ap (option_map (λ (f : File). f.name)) there

pub makes_group : (inodes at numbers overview : ℕ) (name octets : Octets) (a b c d : List Octets)
    → MakesAt inodes at (group_name name) octets a b → CreatesAt inodes numbers (numbers_name name) b c
    → CreatesAt inodes overview (overview_name name) c d
    → MakesGroup inodes at numbers overview name octets a d
makes_group inodes at numbers overview name octets a b c d first second third = record {
  calls = calls_then inodes (making_calls (group_name name) octets) (Create (numbers_name name) ∷ Create (overview_name name) ∷ []) a b d
      first.calls
      (calls_then inodes (Create (numbers_name name) ∷ []) (Create (overview_name name) ∷ []) b c d second.calls third.calls);
  group = name_kept (table inodes c) (table inodes d) at (group_name name) third.calls.keeps
      (name_kept (table inodes b) (table inodes c) at (group_name name) second.calls.keeps
      (named inodes at (group_name name) octets b first.there));
  first = name_kept (table inodes c) (table inodes d) numbers (numbers_name name) third.calls.keeps
      (named inodes numbers (numbers_name name) [] c second.there);
  second = named inodes overview (overview_name name) [] d third.there;
  used = third.used;
}

-- ---- the whole

-- ---- after the stage was applied

pub applied_dirties : (v m w : VolumeView) → v.seen ≡ v.cache → ◌≡◌ {A = List Octets × List ℕ} (m.cache, m.dirty) (v.cache, v.dirty)
    → length m.seen ≡ length v.seen → Touches 254 v.seen m.seen → w.cache ≡ m.seen
    → ((k : ℕ) → Contains w.dirty k ↔ (Contains m.dirty k ⊎ Differs m.cache m.seen k)) → AreDistinct w.dirty
    → Dirties v.cache w.cache v.dirty w.dirty
applied_dirties v m w seen kept count touches cache exactly once =
    let touched : Touches 254 v.cache w.cache =
    subst (λ (bs : List Octets). Touches 254 v.cache bs) (sym cache) (subst (λ (bs : List Octets). Touches 254 bs m.seen) seen touches)
    in
    let same_cache : m.cache ≡ v.cache = ap (λ (x : List Octets × List ℕ). x.0) kept in
    let same_dirty : m.dirty ≡ v.dirty = ap (λ (x : List Octets × List ℕ). x.1) kept in
    dirties v.cache w.cache v.dirty w.dirty (ap length cache ∙ (count ∙ ap length seen)) touched
    (λ k. subst (λ (bs : List Octets). Contains w.dirty k ↔ (Contains v.dirty k ⊎ Differs v.cache bs k)) (sym cache)
    (subst (λ (bs : List Octets). Contains w.dirty k ↔ (Contains v.dirty k ⊎ Differs bs m.seen k)) same_cache
    (subst (λ (ds : List ℕ). Contains w.dirty k ↔ (Contains ds k ⊎ Differs m.cache m.seen k)) same_dirty (exactly k))))
    once

pub group_staged : (k m : Kept) (next : Free) (g : NewGroup) (at numbers overview : ℕ) (octets : Octets)
    → IsOnStage k m next → MakesGroup k.inodes at numbers overview g.name octets k.volume.seen m.volume.seen
    → m.places ≡ with_group at numbers overview k.places
    → ((host : Octets) (S : Spool) → IsLawful host S → MayMake S g → Indexes S k.index → Indexes (S ++ Group g ∷ []) m.index)
    → ((S : Spool) → Indexes S k.index → octets ≡ group_record (news_group (length S + 1) g))
    → IsStaged k m next (Group g)
unfolding creates
group_staged k m next g at numbers overview octets stage made places indexed says = record {
  stage = stage;
  kept = λ host S kept may.
      let c : Change = Group g in
      let made' : MakesGroup k.inodes at numbers overview g.name octets k.volume.cache m.volume.seen =
      subst (λ (bs : List Octets). MakesGroup k.inodes at numbers overview g.name octets bs m.volume.seen) kept.seen made in
      let calls : Calls k.inodes (change_calls S c) k.volume.cache m.volume.seen =
      subst (λ (o : Octets). Calls k.inodes (group_calls g.name o) k.volume.cache m.volume.seen) (says S kept.indexed) made'.calls in
      let is = grown host k.inodes k.volume.cache S kept.is c m.volume.seen may calls in
      let placed = grow_by_group (table k.inodes k.volume.cache) (table k.inodes m.volume.seen) S g k.places at numbers overview
      (have_names k.inodes k.volume.cache S k.places kept.placed) made'.calls.keeps made'.group made'.first made'.second in
      record {
        is = is;
        seen = refl;
        indexed = indexed host S kept.is.held.lawful may kept.indexed;
        placed = are_by_name host k.inodes m.volume.seen (S ++ c ∷ []) m.places is.room.few is.held
            (subst (AreNamed (table k.inodes m.volume.seen) (S ++ c ∷ [])) (sym places) placed);
      };
  free = λ room rule.
      omega (arith, inodes_taken k.inodes (group_calls g.name octets) k.volume.seen m.volume.seen made.calls room rule);
}

pub change_grown : (k m : Kept) (w : VolumeView) (next free : Free) (c : Change) → IsReady k c → IsStaged k m next c
    → w.cache ≡ m.volume.seen → w.seen ≡ m.volume.seen
    → ((n : ℕ) → Contains w.dirty n ↔ (Contains m.volume.dirty n ⊎ Differs m.volume.cache m.volume.seen n)) → AreDistinct w.dirty
    → IsKnown k.inodes free w.seen → IsGrown k (record m { volume = w; free = free }) c
change_grown k m w next free c ready staged cache now exactly once known =
    let stage = staged.stage in
    let moved : ◌≡◌ {A = ℕ × List Octets} (k.inodes, m.volume.seen) (m.inodes, w.cache) = λ i. (sym stage.inodes i, sym cache i) in
    record {
      inodes = stage.inodes;
      kept = λ host S kept may. let its = staged.kept host S kept may in record {
        is = subst (λ (x : ℕ × List Octets). IsHeld host x.0 x.1 (S ++ c ∷ [])) moved its.is;
        seen = now ∙ sym cache;
        indexed = its.indexed;
        placed = subst (λ (x : ℕ × List Octets). ArePlaces x.0 x.1 (S ++ c ∷ []) m.places) moved its.placed;
      };
      free = subst (λ (x : List Octets × (ℕ × List Octets)). HasRoom k.inodes x.0 → IsFileSystem k.inodes x.0
          → free_inodes k.inodes x.0 ≤ free_inodes x.1.0 x.1.1 + files_made c) (λ i. (ready.kept.seen i, moved i)) staged.free;
      dirties = applied_dirties k.volume m.volume w ready.kept.seen stage.volume stage.count stage.touches cache exactly once;
      known = subst (λ (x : ℕ × List Octets). IsKnown x.0 free x.1) (λ i. (sym stage.inodes i, (now ∙ sym cache) i)) known;
    }

-- ---- after the stage was dropped

pub as_before : (k m : Kept) (w : VolumeView) → k.volume.seen ≡ k.volume.cache → OnlyStages k m
    → w ≡ record m.volume { seen = m.volume.cache } → ◌≡◌ {A = Kept} (record m { volume = w }) k
as_before k m w seen only dropped = λ i. record {
  inodes = only.inodes i;
  free = only.free i;
  volume = (dropped ∙ back) i;
  index = only.index i;
  places = only.places i;
} where
  back : record m.volume { seen = m.volume.cache } ≡ k.volume
  back = λ i. record {
    cache = (only.volume i).0;
    seen = (ap (λ (x : List Octets × List ℕ). x.0) only.volume ∙ sym seen) i;
    dirty = (only.volume i).1;
  }
