use Rattle.std.proofs.Common.{◌∙◌, sym, arith}
use Rattle.model.specs.Files.{content_of, entry}
use Rattle.model.specs.Packs.{pack_name}
use Rattle.fs_layout.proofs.Tables.{no_slot, there_from_slot}
use Rattle.spool_growing.proofs.Packing.{known_begun}
use Rattle.spool_growing.proofs.putting.find_pack.Goals as goal

pub returns-in-Some-clause-pack : goal.returns-in-Some-clause-pack
returns-in-Some-clause-pack g c = c.requires.known.pack c.in-Some.at c.in-Some.is

pub returns-in_default-find-clause-pack : goal.returns-in_default-find-clause-pack
returns-in_default-find-clause-pack g c =
    no_slot c.args.inodes (g.B.Blocks.blocks c.args.blocks.now) c.requires.rule pack_name
    (λ k low same. c.in_default-find.ensures k low (same ∙ sym c.slot_for.ensures))

pub returns-clause-pack : goal.returns-clause-pack
returns-clause-pack g c =
    let blocks = g.B.Blocks.blocks c.args.blocks.now in
    let found = c.in-Some-find.ensures in (
      content_of blocks (entry c.args.inodes blocks c.in-Some-find.at),
      there_from_slot c.args.inodes blocks c.requires.rule c.in-Some-find.at pack_name found.below (omega arith)
          (found.is ∙ c.slot_for.ensures),
    )

pub returns-clause-known : goal.returns-clause-known
returns-clause-known g c =
    let blocks = g.B.Blocks.blocks c.args.blocks.now in
    let found = c.in-Some-find.ensures in
    known_begun c.args.inodes c.in-Some-find.at (content_of blocks (entry c.args.inodes blocks c.in-Some-find.at)) c.args.free.now blocks
    (there_from_slot c.args.inodes blocks c.requires.rule c.in-Some-find.at pack_name found.below (omega arith)
    (found.is ∙ c.slot_for.ensures)) c.requires.known
