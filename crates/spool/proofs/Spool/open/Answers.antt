use Rattle.std.proofs.Common.{◌≡◌, ℕ, List, IsTrue, subst, sym}
use Rattle.model.specs.Files.{HasRoom}
use Rattle.model.specs.Indexed.{ArePlaces, FilePlaces}
use Rattle.model.specs.Layout.{Holds, HoldsIn}
use Rattle.model.specs.Names.{is_host}
use Rattle.model.specs.Spool.{Spool}
use Rattle.model.specs.Stream.{Octets}
use Rattle.spool_index.specs.View.{IndexView}
use Rattle.journal_volume.specs.Volume.{VolumeView}
use Rattle.spool_opening.specs.Ended.{IsOpened}
use Rattle.spool.specs.Kept.{CanStand}
use Rattle.spool.proofs.Spool.open.Goals as goal

-- the blocks that are seen are those of the cache
moved : (format : ℕ) (host other : Octets) (inodes : ℕ) (blocks seen : List Octets) (S : Spool) → other ≡ host → seen ≡ blocks
    → HoldsIn format host inodes blocks S → HoldsIn format other inodes seen S
moved format host other inodes blocks seen S same is held =
    subst (λ (p : Octets × List Octets). HoldsIn format p.0 inodes p.1 S) (λ i. (sym same i, sym is i)) held

-- what was opened can stand
stands : (host other : Octets) (inodes : ℕ) (v : VolumeView) (x : IndexView) (p : FilePlaces) → IsTrue (is_host host) → other ≡ host
    → v.seen ≡ v.cache → HasRoom inodes v.cache → IsOpened other inodes v.seen x p → CanStand host inodes v x p
stands host other inodes v x p named same seen room opened =
    let held : Holds host inodes v.cache opened.changes =
    subst (λ (q : Octets × List Octets). Holds q.0 inodes q.1 opened.changes) (λ i. (same i, seen i)) opened.held in
    record {
      changes = opened.changes;
      kept = record {
        is = record { named = named; room = room; held = held };
        seen = seen;
        indexed = opened.indexed;
        placed = subst (λ (b : List Octets). ArePlaces inodes b opened.changes p) seen opened.placed;
      };
    }

pub returns-in-Err-clause-damaged : goal.returns-in-Err-clause-damaged
returns-in-Err-clause-damaged c = λ e S held.
    c.in-Err.ensures.damaged e S
    (moved c.args.format c.args.host c.as_slice.result.now c.args.inodes c.args.volume.cache c.args.volume.seen S
    c.as_slice.ensures c.requires.seen held)

pub of-requires : goal.of-requires
of-requires c = stands c.args.host c.as_slice.result.now c.args.inodes c.args.volume c.in-Ok.opened.index c.in-Ok.opened.places
    c.requires.named c.as_slice.ensures c.requires.seen c.requires.room c.in-Ok.ensures.ok

pub returns-clause-held : goal.returns-clause-held
returns-clause-held c =
    let opened = c.in-Ok.ensures.ok in
    let volume = c.args.volume in
    let held : HoldsIn c.args.format c.args.host c.args.inodes volume.cache opened.changes =
    moved c.args.format c.as_slice.result.now c.args.host c.args.inodes volume.seen volume.cache opened.changes (sym c.as_slice.ensures)
    (sym c.requires.seen) (c.in-Ok.ensures.format opened.changes opened.held) in
    subst (HoldsIn c.args.format c.args.host c.args.inodes volume.cache) (sym (c.of.ensures.changes opened.changes held.held)) held
