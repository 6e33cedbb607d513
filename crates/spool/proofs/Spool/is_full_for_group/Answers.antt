use Rattle.std.proofs.Common.{◌≡◌, ℕ, ◌-◌, Bool, length, map, ◌∙◌, sym, ap}
use Rattle.std.specs.Prelude.{nat_le, ◌||◌}
use Rattle.std.proofs.lemmas.List.{length-map}
use Rattle.model.specs.Files.{free_blocks, free_inodes}
use Rattle.model.specs.Spool.{groups}
use Rattle.spool_groups.specs.Shown.{shown}
use Rattle.spool.specs.View.{SpoolView}
use Rattle.spool.proofs.Full.{full_group, group_count}
use Rattle.spool.proofs.Spool.is_full_for_group.Goals as goal

pub returns-then-lacks_room : goal.returns-then-lacks_room
returns-then-lacks_room c = λ group.
    let s = c.args.self.now in
    let rest = nat_le 4096 (length (groups s.changes)) in
    c.if-lacks_room.true ∙ ap (λ (b : Bool). b || rest) (sym c.if-lacks_room.true ∙ c.lacks_room.ensures)
    ∙ sym (full_group (free_blocks s.blocks - 0) (free_inodes s.inodes s.blocks - 0) s.changes group)

pub returns-else-lacks_room : goal.returns-else-lacks_room
returns-else-lacks_room c = λ group.
    let s = c.args.self.now in
    let rest = nat_le 4096 (length (groups s.changes)) in
    let list = c.groups.ensures.spool c.self.inside.stands.changes c.self.invariant.0.indexed in
    let count : length c.groups.result.now ≡ length (groups s.changes) =
    sym (length-map c.groups.result.now shown) ∙ group_count c.self.inside.stands.changes (map shown c.groups.result.now) list
    ∙ ap (λ (x : SpoolView). length (groups x.changes)) c.self.view_is in
    ap (λ (n : ℕ). nat_le 4096 n) count ∙ ap (λ (b : Bool). b || rest) (sym c.if-lacks_room.false ∙ c.lacks_room.ensures)
    ∙ sym (full_group (free_blocks s.blocks - 0) (free_inodes s.inodes s.blocks - 0) s.changes group)
