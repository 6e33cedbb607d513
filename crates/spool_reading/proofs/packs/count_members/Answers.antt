use Rattle.std.proofs.Common.{arith, sym, subst, ℕ, ◌+◌, ◌++◌, refl}
use Rattle.model.specs.Files.{table}
use Rattle.model.specs.Packs.{pack_name, pack_octets}
use Rattle.spool_reading.specs.Sorting.{MayBeMember}
use Rattle.spool_reading.proofs.Contents.{content_fits}
use Rattle.spool_reading.proofs.Members.{AreCounted, all_counted, count_few, empty_pack, member_some, none_counted, one_counted}
use Rattle.spool_reading.proofs.Members.{pack_goes_on, tail_is, tail_size}
use Rattle.spool_reading.proofs.packs.count_members.Goals as goal

pub returns-then-pack-eq0-clause-damaged : goal.returns-then-pack-eq0-clause-damaged
returns-then-pack-eq0-clause-damaged g c = λ e host S held.
    let its = c.requires.there in
    empty_pack host c.args.inodes (g.B.Blocks.blocks c.args.blocks.now) S held c.args.pack.now.inode its.0 its.1
    (omega (arith, its.2, c.if-pack-eq0.true))

pub loop-from-init : goal.loop-from-init
loop-from-init g c =
    none_counted (table c.args.inodes (g.B.Blocks.blocks c.args.blocks.now)) c.args.pack.now.inode c.args.pack.now.size c.requires.there

pub returns-in_default-clause-damaged : goal.returns-in_default-clause-damaged
returns-in_default-clause-damaged g c = λ e host S held.
    let blocks = g.B.Blocks.blocks c.args.blocks.now in
    let inodes = table c.args.inodes blocks in
    let so = c.loop-from.invariant in
    let none = rw c.in_default.is at c.in_ok-member.ensures in
    let tail = tail_is inodes c.args.pack.now.inode c.args.pack.now.size c.loop-from.from c.loop-from.count so in
    let size = tail_size inodes c.args.pack.now.inode c.args.pack.now.size c.loop-from.from c.loop-from.count so in
    none (pack_octets so.done ++ so.tail) so.there
    (subst MayBeMember (sym tail)
    (pack_goes_on host c.args.inodes blocks S held c.args.pack.now.inode
    (pack_octets so.done ++ so.tail) so.tail so.done so.there so.each refl
    (omega (arith, size, c.loop-from-test.true))))

pub overflow_add-from : goal.overflow_add-from
overflow_add-from g c =
    let blocks = g.B.Blocks.blocks c.args.blocks.now in
    let so = c.loop-from.invariant in
    let its = (rw c.in-Some.is at c.in_ok-member.ensures) (pack_octets so.done ++ so.tail) so.there in
    let next = one_counted (table c.args.inodes blocks) c.args.pack.now.inode c.args.pack.now.size c.loop-from.from c.loop-from.count so
    c.in-Some.member.size c.in-Some.member.serial its in
    let fits = content_fits c.args.inodes blocks c.args.pack.now.inode
    (record { name = pack_name; content = pack_octets so.done ++ so.tail })
    c.requires.room c.requires.rule so.there in
    omega (arith, next.1, fits, so.size_is, c.from-from.ensures)

pub overflow_add-count : goal.overflow_add-count
overflow_add-count g c =
    let blocks = g.B.Blocks.blocks c.args.blocks.now in
    let so = c.loop-from.invariant in
    let few = count_few (table c.args.inodes blocks) c.args.pack.now.inode c.args.pack.now.size c.loop-from.from c.loop-from.count so in
    let fits = content_fits c.args.inodes blocks c.args.pack.now.inode
    (record { name = pack_name; content = pack_octets so.done ++ so.tail })
    c.requires.room c.requires.rule so.there in
    omega (arith, few, fits, so.size_is, c.loop-from-test.true)

pub loop-from-smaller : goal.loop-from-smaller
loop-from-smaller g c =
    let so = c.loop-from.invariant in
    let its = (rw c.in-Some.is at c.in_ok-member.ensures) (pack_octets so.done ++ so.tail) so.there in
    omega (arith, member_some _ c.in-Some.member.size c.in-Some.member.serial its, c.from-from.ensures, c.loop-from-test.true)

pub loop-from-preserved : goal.loop-from-preserved
loop-from-preserved g c =
    let inodes = table c.args.inodes (g.B.Blocks.blocks c.args.blocks.now) in
    let so = c.loop-from.invariant in
    let its = (rw c.in-Some.is at c.in_ok-member.ensures) (pack_octets so.done ++ so.tail) so.there in
    let next = one_counted inodes c.args.pack.now.inode c.args.pack.now.size c.loop-from.from c.loop-from.count so c.in-Some.member.size
    c.in-Some.member.serial its in
    subst (λ (n : ℕ). AreCounted inodes c.args.pack.now.inode c.args.pack.now.size (c.loop-from.from + n) (c.loop-from.count + 1))
    (sym c.from-from.ensures) next.0

pub returns-clause-ok : goal.returns-clause-ok
returns-clause-ok g c =
    let inodes = table c.args.inodes (g.B.Blocks.blocks c.args.blocks.now) in
    let so = c.loop-from.invariant in (
      so.done,
      all_counted inodes c.args.pack.now.inode c.args.pack.now.size c.loop-from.from c.loop-from.count so c.loop-from-test.false
          (omega (arith, c.if-pack-eq0.false)),
      so.count_is,
    )
