use Rattle.std.proofs.Common.{◌≤◌, Bool, IsTrue, length, sym, subst, arith, ℕ}
use Rattle.model.specs.Files.{first_data}
use Rattle.model.specs.Stream.{Octets}
use Rattle.volume_new.specs.Formatting.{HasBitmap, IsLaidOut, tables_of}
use Rattle.volume_new.proofs.Ends.{out_quiet, out_then}
use Rattle.volume_new.proofs.Laid.{bitmap_beside, out_synced, parts_are, parts_same}
use Rattle.volume_new.proofs.laying.lay_out.Goals as goal

pub returns-in_err-write_superblock-clause-leaves : goal.returns-in_err-write_superblock-clause-leaves
returns-in_err-write_superblock-clause-leaves g c =
    out_then _ _ _ (out_then _ _ _ c.write_zeros.ensures.leaves c.write_bitmap.ensures.leaves) c.write_superblock.ensures.leaves

pub returns-clause-leaves : goal.returns-clause-leaves
returns-clause-leaves g c =
    out_then _ _ _
    (out_then _ _ _ (out_then _ _ _ c.write_zeros.ensures.leaves c.write_bitmap.ensures.leaves) c.write_superblock.ensures.leaves)
    (out_quiet _ _ c.sync.ensures.time c.sync.ensures.crash c.sync.ensures.since)

pub returns-clause-laid : goal.returns-clause-laid
returns-clause-laid g c t =
    let s = c.args.superblock.now in
    let old = g.D.Disk.device c.write_bitmap.new.disk in
    let mid = g.D.Disk.device c.write_superblock.new.disk in
    let new = g.D.Disk.device c.sync.new.disk in
    let first = first_data c.args.blocks c.args.inodes in
    let t1 = subst (λ (b : Bool). IsTrue b) (sym c.write_zeros.ensures.leaves.time.tells) t in
    let t2 = subst (λ (b : Bool). IsTrue b) (sym c.write_bitmap.ensures.leaves.time.tells) t1 in
    let t3 = subst (λ (b : Bool). IsTrue b) (sym c.write_superblock.ensures.leaves.time.tells) t2 in
    let has : HasBitmap first (tables_of first) c.args.blocks old.content =
    subst (λ (n : ℕ). HasBitmap n (tables_of n) c.args.blocks old.content) c.first_data.ensures (c.in_ok-write_bitmap.ensures.marked t1) in
    let is = c.in_ok-write_superblock.ensures.content t2 in
    let room : 4096 ≤ length old.content = omega (arith, has.laid.size) in
    out_synced c.sync.result c.args.blocks c.args.inodes s mid.content new.content
    (subst (λ (o : Octets). IsLaidOut c.args.blocks c.args.inodes s o) (sym is)
    (record {
      bitmap = bitmap_beside first (tables_of first) c.args.blocks old.content _ has (parts_same s old.content c.requires.whole room);
      octets = parts_are s old.content c.requires.whole room;
    }))
    (c.sync.ensures.content t3)
