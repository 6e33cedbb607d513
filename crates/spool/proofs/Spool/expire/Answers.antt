use Rattle.std.proofs.Common.{◌≡◌, Some, ◌-◌, inl, inr, true, false, refl, ◌∙◌, sym}
use Rattle.model.specs.Files.{free_blocks, free_inodes}
use Rattle.model.specs.Room.{is_full}
use Rattle.model.specs.declared.change.Change.TheVariants.{Expire}
use Rattle.model.specs.declared.change.Expiry.{Expiry}
use Rattle.spool.specs.Refusals.{has_number}
use Rattle.spool.proofs.Full.{expiry_refused, full_expiry, last_serial}
use Rattle.spool.proofs.Spool.expire.Goals as goal

pub returns-then-lacks_room : goal.returns-then-lacks_room
returns-then-lacks_room c =
    let s = c.args.self.now in
    let expiry : Expiry = record { group = c.args.name.now; number = c.args.number } in
    let there : has_number s.changes c.args.name.now c.args.number ≡ true = sym c.has_number.ensures ∙ c.if-not-has_number.false in
    let full : is_full s.blocks s.inodes s.changes (Some (Expire expiry)) ≡ true =
    full_expiry (free_blocks s.blocks - 0) (free_inodes s.inodes s.blocks - 0) s.changes expiry ∙ sym c.lacks_room.ensures ∙
    c.if-lacks_room.true in
    (inr (expiry_refused s c.args.name.now c.args.number true true there full), refl)

pub push-requires-clause-room : goal.push-requires-clause-room
push-requires-clause-room c =
    let s = c.args.self.now in
    let expiry : Expiry = record { group = c.args.name.now; number = c.args.number } in
    full_expiry (free_blocks s.blocks - 0) (free_inodes s.inodes s.blocks - 0) s.changes expiry ∙ sym c.lacks_room.ensures ∙
    c.if-lacks_room.false

pub returns-in-Err : goal.returns-in-Err
returns-in-Err c =
    let s = c.args.self.now in
    let expiry : Expiry = record { group = c.args.name.now; number = c.args.number } in
    let there : has_number s.changes c.args.name.now c.args.number ≡ true = sym c.has_number.ensures ∙ c.if-not-has_number.false in
    let room : is_full s.blocks s.inodes s.changes (Some (Expire expiry)) ≡ false =
    full_expiry (free_blocks s.blocks - 0) (free_inodes s.inodes s.blocks - 0) s.changes expiry ∙ sym c.lacks_room.ensures ∙
    c.if-lacks_room.false in
    (inl (refl, expiry_refused s c.args.name.now c.args.number true false there room), c.in-Err.ensures.err)

pub returns-in-Ok : goal.returns-in-Ok
returns-in-Ok c =
    let s = c.args.self.now in
    let expiry : Expiry = record { group = c.args.name.now; number = c.args.number } in
    let adds = c.in-Ok.ensures.ok in
    let there : has_number s.changes c.args.name.now c.args.number ≡ true = sym c.has_number.ensures ∙ c.if-not-has_number.false in
    let room : is_full s.blocks s.inodes s.changes (Some (Expire expiry)) ≡ false =
    full_expiry (free_blocks s.blocks - 0) (free_inodes s.inodes s.blocks - 0) s.changes expiry ∙ sym c.lacks_room.ensures ∙
    c.if-lacks_room.false in (
      expiry_refused s c.args.name.now c.args.number true false there room,
      (last_serial s c.push.new.self (Expire expiry) c.len.result adds c.len.ensures, adds),
    )
