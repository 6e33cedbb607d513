-- What blocks that hold changes leave free, and the change that they get.
use Rattle.std.proofs.Common.{◌≡◌, ◌≢◌, inl, inr, ◌≤◌, ℕ, ◌+◌, false, List, [], ◌∷◌, ◌++◌, length, refl, sym, ◌∙◌, ap, subst}
use Rattle.std.proofs.Common.{arith, append-nil}
use Rattle.std.specs.Prelude.{Some, nat_lt, ◌||◌, IsPermutation}
use Rattle.std.specs.List.{Contains}
use Rattle.std.proofs.lemmas.Bool.{ltb-false, or_parts}
use Rattle.std.proofs.lemmas.List.Elements.{All-contains, All-contains_itself, All-weaker}
use Rattle.std.proofs.lemmas.List.Sorted.{Contains-permutation, IsPermutation-refl}
use Rattle.model.specs.Stream.{Octets}
use Rattle.model.specs.Files.{File, files_in, table}
use Rattle.model.specs.Lawful.{MayFollow}
use Rattle.model.specs.Indexed.{Alone, ChangePlace, Packed}
use Rattle.model.specs.Packs.{HasNoPack, IsMember, StandFor, member_octets, most_changes, pack_name, pack_of, packed_calls, packing_calls}
use Rattle.model.specs.Room.{blocks_asked, blocks_for_change, extends_large, files_made, has_all_groups, inodes_for_change, is_full}
use Rattle.model.specs.Room.{is_full_for}
use Rattle.model.specs.Spool.{Spool}
use Rattle.model.specs.FileCalls.{Append, FileCall, change_calls, index_calls, making_calls}
use Rattle.model.specs.SpoolFiles.{change_file, files_of}
use Rattle.model.specs.declared.change.Change.{Change}
use Rattle.model.specs.declared.change.Change.TheVariants.{Group, Article, Expire}
use Rattle.model.proofs.Counting.{used_and_free}
use Rattle.model.proofs.HoldsOne.{changes_few}
use Rattle.model.proofs.Inodes.{is_among, where_is}
use Rattle.model.proofs.PackedGrowing.{packed_grow, spools_grow}
use Rattle.model.proofs.Packing.{is_meant, none_packed}
use Rattle.fs.specs.Calls.{IsThere}
use Rattle.spool_growing.specs.Calls.{Calls}
use Rattle.spool_growing.specs.Growing.{HasFree}
use Rattle.spool_growing.specs.Kept.{IsHeld}
use Rattle.spool_growing.specs.Putting.{ArePutting, PutsAt}
use Rattle.spool_growing.proofs.Calling.{calls_then}

-- ---- the calls of one change more

-- the file of the change
abbrev pub own_file : Spool → Change → File
own_file S c = change_file (record { serial = length S + 1; change = c })

-- where it stands by itself
made_alone : (S : Spool) (c : Change)
    → change_calls S c ≡ making_calls (own_file S c).name (own_file S c).content ++ index_calls S c
made_alone S (Group g) = refl
made_alone S (Article f) = refl
made_alone S (Expire e) = refl

-- where there is a pack already
packed_more : (packed : List File) (f : File) → packed ≢ [] → packing_calls packed f ≡ Append pack_name (member_octets f) ∷ []
packed_more [] f some = absurd (some refl)
packed_more (g ∷ packed) f some = refl

-- if there is a pack, some files are in it
some_packed : (stored plain packed : List File) (f : File) → HasNoPack plain → IsPermutation stored (plain ++ pack_of packed)
    → Contains stored f → f.name ≡ pack_name → packed ≢ []
some_packed stored plain packed f alone same has named none =
    let among : Contains (plain ++ []) f =
    subst (λ (ps : List File). Contains (plain ++ pack_of ps) f) none (Contains-permutation stored (plain ++ pack_of packed) f same has) in
    All-contains (λ (g : File). g.name ≢ pack_name) plain f alone (subst (λ (fs : List File). Contains fs f) (append-nil plain) among) named

-- ---- blocks that hold changes

module _ (host : Octets) (inodes : ℕ) (blocks : List Octets) (S : Spool) (is : IsHeld host inodes blocks S) where
  pub changes_are_few : length S ≤ most_changes
  changes_are_few = omega (arith, changes_few host inodes blocks S is.held, is.room.few)

  -- the files that are stored
  stand_for : StandFor (files_in (table inodes blocks)) (files_of S)
  stand_for = subst (λ (fs : List File). StandFor fs (files_of S)) is.held.held.contents is.held.same

  pub not_there : (q : Octets) → q ≢ pack_name → ((f : File) → Contains (files_of S) f → f.name ≢ q) → ¬ (IsThere (table inodes blocks) q)
  not_there q plain lacks (k, content, there) =
      let f : File = record { name = q; content = content } in
      lacks f (is_meant (files_in (table inodes blocks)) (files_of S) stand_for f plain
      (inl (is_among (table inodes blocks) k f there))) refl

  pub enough : (c : Change) → is_full blocks inodes S (Some c) ≡ false → HasFree inodes (files_made c) blocks
  unfolding is_full_for
  enough c room =
      let free = blocks_for_change blocks c in
      let left = inodes_for_change blocks inodes c in
      let first = or_parts (nat_lt free blocks_asked) (nat_lt left (files_made c) || (extends_large S c || has_all_groups S c)) room in
      let second = or_parts (nat_lt left (files_made c)) (extends_large S c || has_all_groups S c) first.1 in
      record {
        inodes_free = omega (arith, ltb-false left (files_made c) second.0, used_and_free inodes blocks is.room is.held.held.rule);
        blocks_free = omega (arith, ltb-false free blocks_asked first.0);
      }

  -- they lead to the blocks that hold it
  pub grown : (c : Change) (new : List Octets) → MayFollow host S c → Calls inodes (change_calls S c) blocks new
      → IsHeld host inodes new (S ++ c ∷ [])
  grown c new may calls =
      let stored = files_in (table inodes blocks) in
      record {
        named = is.named;
        room = calls.room;
        held = spools_grow host inodes new stored (files_in (table inodes new)) S c (omega (arith, changes_are_few)) is.held.lawful may
            stand_for (record { rule = calls.rule; contents = refl }) (calls.files stored (IsPermutation-refl stored));
      }

  -- no file is packed if there is no pack
  none_packed_yet : ¬ (IsThere (table inodes blocks) pack_name) → stand_for.packed ≡ []
  none_packed_yet none =
      let stored = files_in (table inodes blocks) in
      none_packed stored (files_of S) stand_for
      (All-weaker (Contains stored) (λ (f : File). f.name ≢ pack_name)
      (λ f has named. let at = where_is (table inodes blocks) f has in
      none (at.0, f.content, at.1 ∙ ap (λ (q : Octets). Some (record { name = q; content = f.content })) named)) stored
      (All-contains_itself stored))

  -- the calls that put the change's file into the pack
  packing_is : (f : File) (inode from size : ℕ) (calls : List FileCall) → ArePutting (table inodes blocks) (Packed inode from size) f calls
      → calls ≡ packing_calls stand_for.packed f
  packing_is f inode from size calls (inl ((k, content, there), are)) =
      are ∙ sym (packed_more stand_for.packed f (some_packed (files_in (table inodes blocks)) stand_for.plain stand_for.packed
      (record { name = pack_name; content = content }) stand_for.no_pack stand_for.stored_are
      (is_among (table inodes blocks) k (record { name = pack_name; content = content }) there) refl))
  packing_is f inode from size calls (inr (none, are)) =
      are ∙ ap (λ (packed : List File). packing_calls packed f) (sym (none_packed_yet none))

  -- a change's file was put at its place, and then its groups' files grew: the blocks hold that change too
  pub put_grown : (c : Change) (at : ChangePlace) (mid new : List Octets) → MayFollow host S c → IsMember (own_file S c)
      → PutsAt inodes at (own_file S c) blocks mid → Calls inodes (index_calls S c) mid new → IsHeld host inodes new (S ++ c ∷ [])
  put_grown c (Alone inode) mid new may one puts more =
      grown c new may (subst (λ (cs : List FileCall). Calls inodes cs blocks new)
      (ap (λ (cs : List FileCall). cs ++ index_calls S c) puts.putting ∙ sym (made_alone S c))
      (calls_then inodes puts.calls (index_calls S c) blocks mid new puts.made more))
  put_grown c (Packed inode from size) mid new may one puts more =
      let stored = files_in (table inodes blocks) in
      let calls : Calls inodes (packed_calls stand_for.packed S c) blocks new = subst (λ (cs : List FileCall). Calls inodes cs blocks new)
      (ap (λ (cs : List FileCall). cs ++ index_calls S c) (packing_is (own_file S c) inode from size puts.calls puts.putting))
      (calls_then inodes puts.calls (index_calls S c) blocks mid new puts.made more) in
      record {
        named = is.named;
        room = calls.room;
        held = packed_grow host inodes new stored (files_in (table inodes new)) S c (omega (arith, changes_are_few)) is.held.lawful may
            stand_for one (record { rule = calls.rule; contents = refl }) (calls.files stored (IsPermutation-refl stored));
      }
