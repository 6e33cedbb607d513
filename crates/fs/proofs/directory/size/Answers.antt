use Rattle.std.proofs.Common.{refl, sym, ◌∙◌}
use Rattle.model.specs.Files.{entry, content_of}
use Rattle.model.proofs.Owning.{content_size}
use Rattle.fs_layout.proofs.Tables.{no_slot, there_from_slot}
use Rattle.fs.proofs.directory.size.Goals as goal

pub returns-in_default-clause-refused : goal.returns-in_default-clause-refused
returns-in_default-clause-refused g c =
    let blocks = g.B.Blocks.blocks c.args.blocks.now in (
      refl,
      no_slot c.args.inodes blocks c.requires.rule c.args.name.now
          (λ k low same. c.in_default.ensures k low (same ∙ sym c.slot_for.ensures)),
    )

pub returns-clause-found : goal.returns-clause-found
returns-clause-found g c =
    let blocks = g.B.Blocks.blocks c.args.blocks.now in
    let found = c.in-Some.ensures in
    let at = c.in-Some.at in (
      at,
      content_of blocks (entry c.args.inodes blocks at),
      there_from_slot c.args.inodes blocks c.requires.rule at c.args.name.now found.below c.requires.name.0 (found.is ∙ c.slot_for.ensures),
      c.size_of.ensures ∙ sym (content_size blocks (entry c.args.inodes blocks at) c.requires.room.blocks_whole
          (λ b owns. (c.requires.rule.within at b found.below owns).1)),
    )
