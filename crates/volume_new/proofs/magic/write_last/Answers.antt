use Rattle.std.proofs.Common.{◌≡◌, ◌⊎◌, arith}
use Rattle.model.specs.Stream.{Octets}
use Rattle.volume_new.specs.Formatting.{LacksMagic, completed}
use Rattle.volume_new.proofs.Ends.{left_last, left_quiet, left_then}
use Rattle.volume_new.proofs.magic.write_last.Goals as goal

pub returns-in_err-write-clause-during : goal.returns-in_err-write-clause-during
returns-in_err-write-clause-during g c =
    let disk = c.args.disk.now in
    let device = g.D.Disk.device disk in
    left_last device (g.D.Disk.device c.write.new.disk) device.content
    (λ t. omega (arith, c.requires.there, g.met.D.Disk.image_size disk device.content t (g.met.D.Disk.counts_content disk t)))
    c.requires.synced c.write.ensures.since

pub returns-clause-during : goal.returns-clause-during
returns-clause-during g c =
    let disk = c.args.disk.now in
    let device = g.D.Disk.device disk in
    left_then (λ (image : Octets). LacksMagic image ⊎ (image ≡ completed device.content)) device (g.D.Disk.device c.write.new.disk)
    (g.D.Disk.device c.sync.new.disk) c.write.ensures.time
    (left_last device (g.D.Disk.device c.write.new.disk) device.content
    (λ t. omega (arith, c.requires.there, g.met.D.Disk.image_size disk device.content t (g.met.D.Disk.counts_content disk t)))
    c.requires.synced c.write.ensures.since)
    (left_quiet (λ (image : Octets). LacksMagic image ⊎ (image ≡ completed device.content)) (g.D.Disk.device c.write.new.disk)
    (g.D.Disk.device c.sync.new.disk) c.sync.ensures.since)
