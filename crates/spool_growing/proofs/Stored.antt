-- What is kept of a spool with one change more, whose file was put at a place.
use Rattle.std.proofs.Common.{◌≡◌, ℕ, ◌+◌, List, [], ◌∷◌, ◌++◌, length, refl, sym, ◌∙◌, ap, subst, arith}
use Rattle.std.specs.Prelude.{None}
use Rattle.model.specs.Stream.{Octets}
use Rattle.model.specs.Files.{table}
use Rattle.model.specs.FileCalls.{index_calls}
use Rattle.model.specs.Indexed.{ChangePlace}
use Rattle.model.specs.Lawful.{MayExpire, MayFollow}
use Rattle.model.specs.Packs.{IsMember}
use Rattle.model.specs.Records.{expiry_record}
use Rattle.model.specs.Spool.{Spool, group_made, news_expiry}
use Rattle.model.specs.SpoolFiles.{expiry_name}
use Rattle.model.specs.declared.change.Change.{Change}
use Rattle.model.specs.declared.change.Change.TheVariants.{Group, Article, Expire}
use Rattle.model.specs.declared.change.Expiry.{Expiry}
use Rattle.model.proofs.Asking.{changes_ask_few}
use Rattle.spool_index.specs.View.{Indexes}
use Rattle.spool_index.specs.Places.{AreNamed, with_change}
use Rattle.spool_index.proofs.Named.{are_by_name, grow_by_change, have_names}
use Rattle.spool_growing.specs.Calls.{Calls}
use Rattle.spool_growing.specs.declared.file_calls.Free.{Free}
use Rattle.spool_growing.specs.declared.kept.Kept.{Kept}
use Rattle.spool_growing.specs.Growing.{IsOnStage, IsStaged, applied}
use Rattle.spool_growing.specs.Kept.{IsHeld, IsKept}
use Rattle.spool_growing.specs.Putting.{PutsAt}
use Rattle.model.specs.Files.{File}
use Rattle.spool_growing.proofs.Calling.{kept_twice, no_calls}
use Rattle.spool_growing.proofs.Held.{changes_are_few, own_file, put_grown}
use Rattle.spool_growing.proofs.Packing.{named_after, one_created}
use Rattle.spool_growing.proofs.Taken.{inodes_taken}

-- the file of an article or an expiry may stand in the pack
own_member : (host : Octets) (inodes : ℕ) (blocks : List Octets) (S : Spool) (c : Change) → IsHeld host inodes blocks S → MayFollow host S c
    → group_made (record { serial = length S + 1; change = c }) ≡ None → IsMember (own_file S c)
own_member host inodes blocks S (Group g) is may none = absurd (cc)
own_member host inodes blocks S (Article f) is may none =
    let asks = changes_ask_few host S (Article f) (changes_are_few host inodes blocks S is) is.held.lawful may in
    record { kind = refl; fits = omega (arith, asks.made) }
own_member host inodes blocks S (Expire e) is may none =
    let asks = changes_ask_few host S (Expire e) (changes_are_few host inodes blocks S is) is.held.lawful may in
    record { kind = refl; fits = omega (arith, asks.made) }

-- a change whose file was put at a place, and whose groups' files grew
pub kept_with_put : (host : Octets) (k m : Kept) (S : Spool) (c : Change) (at : ChangePlace) (mid : List Octets)
    → group_made (record { serial = length S + 1; change = c }) ≡ None
    → IsKept host k.inodes k.volume k.index k.places S → MayFollow host S c
    → PutsAt k.inodes at (own_file S c) k.volume.seen mid → Calls k.inodes (index_calls S c) mid m.volume.seen
    → m.places ≡ with_change at k.places → Indexes (S ++ c ∷ []) m.index
    → IsKept host k.inodes (applied m.volume) m.index m.places (S ++ c ∷ [])
kept_with_put host k m S c at mid none kept may puts more places indexed =
    let old = table k.inodes k.volume.cache in
    let new = table k.inodes m.volume.seen in
    let puts' : PutsAt k.inodes at (own_file S c) k.volume.cache mid =
    subst (λ (bs : List Octets). PutsAt k.inodes at (own_file S c) bs mid) kept.seen puts in
    let is = put_grown host k.inodes k.volume.cache S kept.is c at mid m.volume.seen may
    (own_member host k.inodes k.volume.cache S c kept.is may none) puts' more in
    let placed = grow_by_change old new S c k.places at none (have_names k.inodes k.volume.cache S k.places kept.placed)
    (kept_twice old (table k.inodes mid) new puts'.made.keeps more.keeps)
    (named_after (table k.inodes mid) new at (own_file S c) more.keeps puts'.there) in
    record {
      is = is;
      seen = refl;
      indexed = indexed;
      placed = are_by_name host k.inodes m.volume.seen (S ++ c ∷ []) m.places is.room.few is.held
          (subst (AreNamed new (S ++ c ∷ [])) (sym places) placed);
    }

-- ---- an expiry

pub expiry_staged : (k m : Kept) (next : Free) (e : Expiry) (at : ChangePlace) (serial : ℕ) (octets : Octets)
    → IsOnStage k m next → PutsAt k.inodes at (record { name = expiry_name serial; content = octets }) k.volume.seen m.volume.seen
    → m.places ≡ with_change at k.places
    → ((S : Spool) → MayExpire S e → Indexes S k.index → Indexes (S ++ Expire e ∷ []) m.index)
    → ((S : Spool) → Indexes S k.index → serial ≡ length S + 1) → octets ≡ expiry_record (news_expiry serial e)
    → IsStaged k m next (Expire e)
expiry_staged k m next e at serial octets stage puts places indexed serials says =
    let its : File = record { name = expiry_name serial; content = octets } in
    record {
      stage = stage;
      kept = λ host S kept may.
          let n = serials S kept.indexed in
          let file : its ≡ own_file S (Expire e) = λ i. record {
            name = expiry_name (n i);
            content = (says ∙ ap (λ (j : ℕ). expiry_record (news_expiry j e)) n) i;
          } in
          kept_with_put host k m S (Expire e) at m.volume.seen refl kept may
          (subst (λ (f : File). PutsAt k.inodes at f k.volume.seen m.volume.seen) file puts)
          (no_calls k.inodes m.volume.seen puts.made.room puts.made.rule) places (indexed S may kept.indexed);
      free = λ room rule.
          omega (
            arith,
            inodes_taken k.inodes puts.calls k.volume.seen m.volume.seen puts.made room rule,
            one_created (table k.inodes k.volume.seen) at its puts.calls puts.putting,
          );
    }
