use Rattle.std.proofs.Common.{◌≡◌, ◌-◌, length, refl, ◌∙◌, ap, arith}
use Rattle.std.specs.Prelude.{slice_get}
use Rattle.model_renewed.specs.Renewed.{renewed}
use Rattle.spool.specs.View.{SpoolView}
use Rattle.volume_renewing.proofs.Ways.{next_may_follow, way_added, way_kept, way_stays, way_then}
use Rattle.volume_renewing.proofs.change_copying.copy_next.Goals as goal

pub returns-in_err-make_room-clause-way : goal.returns-in_err-make_room-clause-way
returns-in_err-make_room-clause-way g c =
    way_kept g.D.Disk.device c.args.old.now.changes c.args.new.now c.make_room.new.self c.requires.begun
    c.make_room.ensures.spool c.make_room.ensures.time c.make_room.ensures.prefix

pub returns-in_err-change-clause-way : goal.returns-in_err-change-clause-way
returns-in_err-change-clause-way g c =
    way_kept g.D.Disk.device c.args.old.now.changes c.args.new.now c.make_room.new.self c.requires.begun
    c.make_room.ensures.spool c.make_room.ensures.time c.make_room.ensures.prefix

pub add_left-requires-clause-may : goal.add_left-requires-clause-may
add_left-requires-clause-may g c =
    let S = c.args.old.now.changes in
    let mid = c.make_room.new.self in
    let kept = way_kept g.D.Disk.device S c.args.new.now mid c.requires.begun
    c.make_room.ensures.spool c.make_room.ensures.time c.make_room.ensures.prefix in
    let place : length mid.spool.changes ≡ c.args.serial - 1 =
    omega (arith, c.requires.comes_next, ap (λ (s : SpoolView). length s.changes) c.make_room.ensures.spool) in
    next_may_follow g.D.Disk.device S mid mid kept.front c.args.old.now refl (kept.host ∙ c.requires.host) c.in_ok-change.change
    (ap (slice_get (renewed S)) place ∙ c.in_ok-change.ensures)

pub returns-in-Ok-clause-way : goal.returns-in-Ok-clause-way
returns-in-Ok-clause-way g c =
    let S = c.args.old.now.changes in
    let mid = c.make_room.new.self in
    let kept = way_kept g.D.Disk.device S c.args.new.now mid c.requires.begun
    c.make_room.ensures.spool c.make_room.ensures.time c.make_room.ensures.prefix in
    let place : length mid.spool.changes ≡ c.args.serial - 1 =
    omega (arith, c.requires.comes_next, ap (λ (s : SpoolView). length s.changes) c.make_room.ensures.spool) in
    way_then g.D.Disk.device S c.args.new.now mid c.add_left.new.new kept
    (way_added g.D.Disk.device S mid c.add_left.new.new kept.front c.in_ok-change.change
    (ap (slice_get (renewed S)) place ∙ c.in_ok-change.ensures) c.in-Ok.ensures.added.1 c.add_left.ensures.journal)

pub returns-in-Err-Memory-clause-way : goal.returns-in-Err-Memory-clause-way
returns-in-Err-Memory-clause-way g c =
    let S = c.args.old.now.changes in
    let mid = c.make_room.new.self in
    let kept = way_kept g.D.Disk.device S c.args.new.now mid c.requires.begun
    c.make_room.ensures.spool c.make_room.ensures.time c.make_room.ensures.prefix in
    way_then g.D.Disk.device S c.args.new.now mid c.add_left.new.new kept
    (way_stays g.D.Disk.device S mid c.add_left.new.new kept.front c.in-Err-Memory.ensures.added.1 c.add_left.ensures.journal)

pub returns-in_err-commit-in-Err-Full-clause-way : goal.returns-in_err-commit-in-Err-Full-clause-way
returns-in_err-commit-in-Err-Full-clause-way g c =
    let S = c.args.old.now.changes in
    let mid = c.make_room.new.self in
    let kept = way_kept g.D.Disk.device S c.args.new.now mid c.requires.begun
    c.make_room.ensures.spool c.make_room.ensures.time c.make_room.ensures.prefix in
    let stays = way_then g.D.Disk.device S c.args.new.now mid c.add_left.new.new kept
    (way_stays g.D.Disk.device S mid c.add_left.new.new kept.front c.in-Err-Full.ensures.added.1 c.add_left.ensures.journal) in
    way_then g.D.Disk.device S c.args.new.now c.add_left.new.new c.commit.new.self stays
    (way_kept g.D.Disk.device S c.add_left.new.new c.commit.new.self stays.front
    c.commit.ensures.spool c.commit.ensures.time c.commit.ensures.prefix)

pub returns-clause-way : goal.returns-clause-way
returns-clause-way g c =
    let S = c.args.old.now.changes in
    let mid = c.make_room.new.self in
    let kept = way_kept g.D.Disk.device S c.args.new.now mid c.requires.begun
    c.make_room.ensures.spool c.make_room.ensures.time c.make_room.ensures.prefix in
    let stays = way_then g.D.Disk.device S c.args.new.now mid c.add_left.new.new kept
    (way_stays g.D.Disk.device S mid c.add_left.new.new kept.front c.in-Err-Full.ensures.added.1 c.add_left.ensures.journal) in
    way_then g.D.Disk.device S c.args.new.now c.add_left.new.new c.commit.new.self stays
    (way_kept g.D.Disk.device S c.add_left.new.new c.commit.new.self stays.front
    c.commit.ensures.spool c.commit.ensures.time c.commit.ensures.prefix)
