use Rattle.std.proofs.Common.{length, subst, ℕ, ◌-◌, arith}
use Rattle.fs.specs.Touches.{Touches, touched_by_growth}
use Rattle.spool_growing.proofs.Calling.{appended, has_room, is_below, is_file, its_size, known_appended}
use Rattle.spool_growing.proofs.file_calls.append_to.Goals as goal

pub extend-requires-clause-below : goal.extend-requires-clause-below
extend-requires-clause-below g c =
    let its = c.requires.there in
    is_below c.args.inodes c.args.at (g.B.Blocks.blocks c.args.blocks.now) c.requires.room c.requires.rule its.name its.content its.there

pub extend-requires-clause-file : goal.extend-requires-clause-file
extend-requires-clause-file g c =
    let its = c.requires.there in
    is_file c.args.inodes c.args.at (g.B.Blocks.blocks c.args.blocks.now) c.requires.room c.requires.rule its.name its.content its.there

pub extend-requires-clause-enough : goal.extend-requires-clause-enough
extend-requires-clause-enough g c =
    let its = c.requires.there in
    has_room c.args.inodes c.args.at (g.B.Blocks.blocks c.args.blocks.now) c.requires.room c.requires.rule its.name its.content its.there
    (length c.args.octets.now) its.small c.requires.free

pub overflow_sub-free : goal.overflow_sub-free
overflow_sub-free g c = omega (arith, c.requires.known.count, c.in_ok-taken.ensures.taken)

pub returns-clause-appended : goal.returns-clause-appended
returns-clause-appended g c =
    appended c.args.inodes c.args.at c.args.octets.now (g.B.Blocks.blocks c.args.blocks.now)
    (g.B.Blocks.blocks c.extend.new.blocks) c.requires.rule c.in_ok-taken.ensures.grown

pub returns-clause-known : goal.returns-clause-known
returns-clause-known g c =
    let old = g.B.Blocks.blocks c.args.blocks.now in
    let new = g.B.Blocks.blocks c.extend.new.blocks in
    let taken = c.in_ok-taken.taken in
    known_appended c.args.inodes c.args.at c.args.octets.now c.args.free.now (c.args.free.now.blocks - taken) old new
    c.requires.room c.requires.rule (appended c.args.inodes c.args.at c.args.octets.now old new c.requires.rule c.in_ok-taken.ensures.grown)
    (omega (arith, c.requires.known.count, c.in_ok-taken.ensures.taken)) c.requires.known

pub returns-clause-touches : goal.returns-clause-touches
returns-clause-touches g c name content there =
    let old = g.B.Blocks.blocks c.args.blocks.now in
    let new = g.B.Blocks.blocks c.extend.new.blocks in
    subst (λ (n : ℕ). Touches (touched_by_growth n (length c.args.octets.now)) old new)
    (its_size c.args.inodes c.args.at old c.requires.room c.requires.rule name content there) c.in_ok-taken.ensures.touches
