use Rattle.std.proofs.Common.{sym, ◌∙◌}
use Rattle.model.specs.Files.{content_of, entry}
use Rattle.fs_layout.proofs.Tables.{no_slot, there_from_slot, file_from_slot}
use Rattle.fs.proofs.octets.read_at.Goals as goal

pub returns-in_default-clause-not_found : goal.returns-in_default-clause-not_found
returns-in_default-clause-not_found g c =
    let blocks = g.B.Blocks.blocks c.args.blocks.now in
    λ e. no_slot c.args.inodes blocks c.requires.rule c.args.name.now
    (λ k low same. c.in_default.ensures k low (same ∙ sym c.slot_for.ensures))

pub read_entry-requires-clause-file : goal.read_entry-requires-clause-file
read_entry-requires-clause-file g c =
    let found = c.in-Some.ensures in
    file_from_slot c.args.inodes (g.B.Blocks.blocks c.args.blocks.now) c.requires.rule c.in-Some.at c.args.name.now found.below
    c.requires.name.0 (found.is ∙ c.slot_for.ensures)

pub returns-clause-found : goal.returns-clause-found
returns-clause-found g c =
    let blocks = g.B.Blocks.blocks c.args.blocks.now in
    let found = c.in-Some.ensures in
    let at = c.in-Some.at in (
      at,
      content_of blocks (entry c.args.inodes blocks at),
      there_from_slot c.args.inodes blocks c.requires.rule at c.args.name.now found.below c.requires.name.0 (found.is ∙ c.slot_for.ensures),
      c.in_ok-octets.ensures,
    )
