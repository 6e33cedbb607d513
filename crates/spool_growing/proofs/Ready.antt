-- What a growth may take for granted, of the blocks that it sees.
use Rattle.std.proofs.Common.{◌≡◌, ◌≤◌, ℕ, ◌+◌, false, List, length, sym, subst, ap, arith}
use Rattle.std.specs.Prelude.{Some}
use Rattle.model.specs.Stream.{Octets}
use Rattle.model.specs.Files.{table}
use Rattle.model.specs.Indexed.{ArePlaces, FilePlaces}
use Rattle.model.specs.Packs.{most_changes}
use Rattle.model.specs.Records.{largest_record}
use Rattle.model.specs.Room.{files_made, is_full}
use Rattle.model.specs.Spool.{Spool}
use Rattle.model.specs.declared.change.Change.{Change}
use Rattle.model.specs.declared.change.Filing.{Filing}
use Rattle.model.proofs.Asking.{changes_ask_few}
use Rattle.journal_volume.specs.Volume.{VolumeView}
use Rattle.spool_index.specs.View.{IndexView, Indexes}
use Rattle.spool_growing.specs.declared.file_calls.Piece.{Piece}
use Rattle.spool_growing.specs.declared.kept.Kept.{Kept}
use Rattle.spool_growing.specs.Articles.{ArePieces}
use Rattle.spool_growing.specs.Calls.{IsKnown}
use Rattle.spool_growing.specs.Growing.{HasFree, IsReady}
use Rattle.spool_growing.specs.Kept.{IsHeld, IsKept}
use Rattle.spool_growing.proofs.Held.{changes_are_few, enough, own_file}

module _ {k : Kept} {c : Change} (ready : IsReady k c) where
  pub held_seen : IsHeld ready.host k.inodes k.volume.seen ready.changes
  held_seen = subst (λ (bs : List Octets). IsHeld ready.host k.inodes bs ready.changes) (sym ready.kept.seen) ready.kept.is

  pub few_changes : length ready.changes ≤ most_changes
  few_changes = changes_are_few ready.host k.inodes k.volume.cache ready.changes ready.kept.is

  -- the record of the change
  pub short_record : (octets : Octets) → octets ≡ (own_file ready.changes c).content → length octets ≤ largest_record
  short_record octets says =
      let asks = changes_ask_few ready.host ready.changes c few_changes ready.kept.is.held.lawful ready.may in
      omega (arith, ap (λ (o : Octets). length o) says, asks.made)

  pub free_seen : HasFree k.inodes (files_made c) k.volume.seen
  free_seen = subst (λ (bs : List Octets). HasFree k.inodes (files_made c) bs) (sym ready.kept.seen)
      (enough ready.host k.inodes k.volume.cache ready.changes ready.kept.is c ready.room)

  pub known_seen : IsKnown k.inodes k.free k.volume.seen
  known_seen = subst (λ (bs : List Octets). IsKnown k.inodes k.free bs) (sym ready.kept.seen) ready.known

  pub room_seen : is_full k.volume.seen k.inodes ready.changes (Some c) ≡ false
  room_seen = subst (λ (bs : List Octets). is_full bs k.inodes ready.changes (Some c) ≡ false) (sym ready.kept.seen) ready.room

-- what an article adds to the files of its groups, handed on as these pieces
pub pieces_seen : {host : Octets} {inodes : ℕ} {v : VolumeView} {i : IndexView} {p : FilePlaces} {S : Spool}
    (kept : IsKept host inodes v i p S) (f : Filing) (n : ℕ) (gs : List Octets) (ps qs : List Piece)
    → ((R : Spool) → Indexes R i → n ≡ length R) → gs ≡ f.envelope.groups → qs ≡ ps
    → ((R : Spool) → Indexes R i → n + 1 ≡ length R + 1 → (m : ℕ) (blocks : List Octets) → ArePlaces m blocks R p
    → ArePieces (table m blocks) R f.text gs ps)
    → ArePieces (table inodes v.seen) S f.text f.envelope.groups qs
pieces_seen {host} {inodes} {v} {i} {p} {S} kept f n gs ps qs count groups same are =
    let placed : ArePlaces inodes v.seen S p = subst (λ (bs : List Octets). ArePlaces inodes bs S p) (sym kept.seen) kept.placed in
    subst (λ (x : List Octets × List Piece). ArePieces (table inodes v.seen) S f.text x.0 x.1) (λ j. (groups j, sym same j))
    (are S kept.indexed (ap (λ (m : ℕ). m + 1) (count S kept.indexed)) inodes v.seen placed)
