use Rattle.std.proofs.Common.{◌++◌, arith, ap, ◌∙◌, ℕ, List, length}
use Rattle.std.proofs.lemmas.Result.{IfOk-weaker}
use Rattle.model.specs.Files.{table}
use Rattle.model.specs.Indexed.{IsPackedAt}
use Rattle.model.specs.Packs.{member_octets, pack_name}
use Rattle.spool_reading.proofs.Contents.{named_file}
use Rattle.spool_reading.proofs.Members.{packed_within, read_packed}
use Rattle.spool_reading.proofs.inode_files.file_in.Goals as goal

pub file_at-requires-clause-below : goal.file_at-requires-clause-below
file_at-requires-clause-below g c =
    let its = c.requires.there in
    let blocks = g.B.Blocks.blocks c.args.blocks.now in
    let there = rw c.in-Alone.is at its.1 in
    (named_file c.args.inodes blocks c.in-Alone.inode its.0 c.requires.rule there).below

pub member_in-requires : goal.member_in-requires
member_in-requires g c =
    let its = c.requires.there in
    let inodes = table c.args.inodes (g.B.Blocks.blocks c.args.blocks.now) in
    let at = rw c.in-Packed.is at its.1 in
    let read = c.in_ok-octets-in-Packed.ensures (record { name = pack_name; content = at.front ++ (member_octets its.0 ++ at.rest) })
    at.pack_is in
    record {
      there = (
        its.0,
        c.deref.ensures.value ∙ read_packed inodes c.in-Packed.inode c.in-Packed.from c.in-Packed.size c.from.result c.from-in-Packed.result
            its.0 c.in_ok-octets-in-Packed.octets.items at c.from.ensures c.from-in-Packed.ensures read.0,
      );
    }

pub returns-in_ok-octets-in-Packed-clause-is : goal.returns-in_ok-octets-in-Packed-clause-is
returns-in_ok-octets-in-Packed-clause-is g c =
    let inodes = table c.args.inodes (g.B.Blocks.blocks c.args.blocks.now) in
    IfOk-weaker c.member_in.result _ _
    (λ file is f there.
    let at : IsPackedAt inodes c.in-Packed.inode c.in-Packed.from c.in-Packed.size f = rw c.in-Packed.is at there in
    let read = c.in_ok-octets-in-Packed.ensures (record { name = pack_name; content = at.front ++ (member_octets f ++ at.rest) })
    at.pack_is in
    is f (c.deref.ensures.value ∙ read_packed inodes c.in-Packed.inode c.in-Packed.from c.in-Packed.size c.from.result
    c.from-in-Packed.result f c.in_ok-octets-in-Packed.octets.items at c.from.ensures c.from-in-Packed.ensures read.0))
    c.member_in.ensures.is

pub returns-in_ok-octets-in-Packed-clause-short : goal.returns-in_ok-octets-in-Packed-clause-short
returns-in_ok-octets-in-Packed-clause-short g c =
    let its = c.requires.there in
    let inodes = table c.args.inodes (g.B.Blocks.blocks c.args.blocks.now) in
    let at : IsPackedAt inodes c.in-Packed.inode c.in-Packed.from c.in-Packed.size its.0 = rw c.in-Packed.is at its.1 in
    let read = c.in_ok-octets-in-Packed.ensures (record { name = pack_name; content = at.front ++ (member_octets its.0 ++ at.rest) })
    at.pack_is in
    let octets = c.deref.ensures.value ∙ read_packed inodes c.in-Packed.inode c.in-Packed.from c.in-Packed.size c.from.result
    c.from-in-Packed.result its.0 c.in_ok-octets-in-Packed.octets.items at c.from.ensures c.from-in-Packed.ensures read.0 in
    IfOk-weaker c.member_in.result _ _
    (λ file short. omega (
      arith,
      short,
      ap (λ (o : List ℕ). length o) octets,
      read.1,
      packed_within inodes c.in-Packed.inode c.in-Packed.from
          c.in-Packed.size its.0 at,
    ))
    c.member_in.ensures.short
