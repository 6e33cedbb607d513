use Rattle.journal.proofs.Found.{rest_format, rest_kept, rest_none, rest_stands}
use Rattle.journal.proofs.Whole.{kept_whole}
use Rattle.journal.proofs.opening.at_rest.Goals as goal

pub returns-clause-whole : goal.returns-clause-whole
returns-clause-whole g c =
    let device = g.D.Disk.device c.args.disk in
    kept_whole _ _ _ _ _ _ _ _
    (rest_kept device c.args.superblock.items c.args.blocks c.args.room.items
    (λ t. g.met.D.Disk.image_size c.args.disk device.content t (g.met.D.Disk.counts_content c.args.disk t))
    (g.met.D.Disk.counts_content c.args.disk) c.requires.found)
    (g.met.D.Disk.counts_content c.args.disk)

pub returns-clause-none : goal.returns-clause-none
returns-clause-none g c t =
    let device = g.D.Disk.device c.args.disk in
    rest_none device c.args.superblock.items c.args.blocks c.args.room.items
    (λ s. g.met.D.Disk.image_size c.args.disk device.content s (g.met.D.Disk.counts_content c.args.disk s))
    (g.met.D.Disk.counts_content c.args.disk) c.requires.found t

pub invariant_of-result : goal.invariant_of-result
invariant_of-result g c =
    let device = g.D.Disk.device c.args.disk in
    rest_kept device c.args.superblock.items c.args.blocks c.args.room.items
    (λ s. g.met.D.Disk.image_size c.args.disk device.content s (g.met.D.Disk.counts_content c.args.disk s))
    (g.met.D.Disk.counts_content c.args.disk) c.requires.found

pub returns-clause-stands : goal.returns-clause-stands
returns-clause-stands g c =
    let device = g.D.Disk.device c.args.disk in
    rest_stands device c.args.superblock.items c.args.blocks c.args.room.items
    (λ t. g.met.D.Disk.image_size c.args.disk device.content t (g.met.D.Disk.counts_content c.args.disk t))
    (g.met.D.Disk.counts_content c.args.disk) c.requires.found

pub returns-clause-now : goal.returns-clause-now
returns-clause-now g c t =
    let device = g.D.Disk.device c.args.disk in
    let kept = rest_kept device c.args.superblock.items c.args.blocks c.args.room.items
    (λ s. g.met.D.Disk.image_size c.args.disk device.content s (g.met.D.Disk.counts_content c.args.disk s))
    (g.met.D.Disk.counts_content c.args.disk) c.requires.found in
    λ image left. ((kept.told t).admits image left, kept.formats t image left)

pub returns-clause-format : goal.returns-clause-format
returns-clause-format g c =
    let device = g.D.Disk.device c.args.disk in
    rest_format device c.args.superblock.items c.args.blocks c.args.room.items
    (λ t. g.met.D.Disk.image_size c.args.disk device.content t (g.met.D.Disk.counts_content c.args.disk t))
    (g.met.D.Disk.counts_content c.args.disk) c.requires.found
