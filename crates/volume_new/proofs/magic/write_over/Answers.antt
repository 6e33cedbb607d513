use Rattle.std.proofs.Common.{arith}
use Rattle.volume_new.proofs.Ends.{left_over}
use Rattle.volume_new.proofs.magic.write_over.Goals as goal

pub returns-clause-during : goal.returns-clause-during
returns-clause-during g c =
    let disk = c.args.disk.now in
    let device = g.D.Disk.device disk in
    left_over device (g.D.Disk.device c.write.new.disk) device.content
    (λ t. omega (arith, c.requires.there, g.met.D.Disk.image_size disk device.content t (g.met.D.Disk.counts_content disk t)))
    c.requires.synced c.requires.magic
    (λ t time le. g.met.D.Disk.counts_now disk time device.content t le (g.met.D.Disk.counts_content disk t))
    c.write.ensures.since
