use Rattle.std.proofs.Common.{◌≡◌, ◌+◌, length, ◌∙◌, arith}
use Rattle.model.specs.Files.{File}
use Rattle.model.specs.Packs.{member_octets, pack_name}
use Rattle.fs.specs.Touches.{touched_by_growth}
use Rattle.fs_layout.proofs.Touching.{touches_more}
use Rattle.spool_growing.specs.Putting.{touched_by_put}
use Rattle.spool_growing.proofs.Calling.{is_below, its_size}
use Rattle.spool_growing.proofs.Packing.{begun, begun_touches, extended, extended_touches, short_member}
use Rattle.spool_growing.proofs.putting.put_packed.Goals as goal

pub returns-in_default-clause-puts : goal.returns-in_default-clause-puts
returns-in_default-clause-puts g c =
    let its : File = record { name = c.args.name.now; content = c.args.octets.now } in
    let says : c.deref.result.now ≡ member_octets its = c.deref.ensures.value ∙ c.in_ok-member.ensures in
    begun c.args.inodes c.in_ok-inode.inode c.len-size.result its c.deref.result.now (g.B.Blocks.blocks c.args.blocks.now)
    (g.B.Blocks.blocks c.make_file.new.blocks) c.in_default.ensures.pack says (omega (arith, c.len-size.ensures, c.deref.ensures.len))
    c.in_ok-inode.ensures.made

pub returns-in_default-clause-touches : goal.returns-in_default-clause-touches
returns-in_default-clause-touches g c =
    let its : File = record { name = c.args.name.now; content = c.args.octets.now } in
    let says : c.deref.result.now ≡ member_octets its = c.deref.ensures.value ∙ c.in_ok-member.ensures in
    let count = length c.args.octets.now in
    let more = length c.deref.result.now in
    touches_more (2 + touched_by_growth 0 more) (touched_by_put count) (g.B.Blocks.blocks c.args.blocks.now)
    (g.B.Blocks.blocks c.make_file.new.blocks)
    (begun_touches count more c.requires.short (short_member its c.deref.result.now says c.requires.name.1)) c.in_ok-inode.ensures.touches

pub size_of-end-requires-clause-below : goal.size_of-end-requires-clause-below
size_of-end-requires-clause-below g c =
    let pack = c.in-Some.ensures.pack in
    is_below c.args.inodes c.in-Some.inode (g.B.Blocks.blocks c.args.blocks.now) c.requires.room c.requires.rule pack_name pack.0 pack.1

pub append_to-requires-clause-there : goal.append_to-requires-clause-there
append_to-requires-clause-there g c =
    let pack = c.in-Some.ensures.pack in
    let size = its_size c.args.inodes c.in-Some.inode (g.B.Blocks.blocks c.args.blocks.now) c.requires.room c.requires.rule pack_name pack.0
    pack.1 in
    record {
      name = pack_name;
      content = pack.0;
      there = pack.1;
      small = omega (
        arith,
        c.if-saturating_add-gt-MOST_OCTETS.false,
        c.saturating_add.ensures,
        c.from.ensures,
        c.size_of-end.ensures,
        size,
        c.len-size.ensures,
        c.deref-2.ensures.len,
      );
    }

pub returns-clause-puts : goal.returns-clause-puts
returns-clause-puts g c =
    let old = g.B.Blocks.blocks c.args.blocks.now in
    let its : File = record { name = c.args.name.now; content = c.args.octets.now } in
    let says : c.deref-2.result.now ≡ member_octets its = c.deref-2.ensures.value ∙ c.in_ok-member.ensures in
    let pack = c.in-Some.ensures.pack in
    let size = its_size c.args.inodes c.in-Some.inode old c.requires.room c.requires.rule pack_name pack.0 pack.1 in
    extended c.args.inodes c.in-Some.inode c.size_of-end.result c.len-size.result its pack.0 c.deref-2.result.now old
    (g.B.Blocks.blocks c.append_to.new.blocks) pack.1 (c.size_of-end.ensures ∙ size) says
    (omega (arith, c.len-size.ensures, c.deref-2.ensures.len)) c.in_ok-append_to.ensures.appended

pub returns-clause-touches : goal.returns-clause-touches
returns-clause-touches g c =
    let its : File = record { name = c.args.name.now; content = c.args.octets.now } in
    let says : c.deref-2.result.now ≡ member_octets its = c.deref-2.ensures.value ∙ c.in_ok-member.ensures in
    let pack = c.in-Some.ensures.pack in
    let count = length c.args.octets.now in
    let more = length c.deref-2.result.now in
    touches_more (touched_by_growth (length pack.0) more) (touched_by_put count) (g.B.Blocks.blocks c.args.blocks.now)
    (g.B.Blocks.blocks c.append_to.new.blocks)
    (extended_touches count more (length pack.0) c.requires.short (short_member its c.deref-2.result.now says c.requires.name.1))
    (c.in_ok-append_to.ensures.touches pack_name pack.0 pack.1)
