use Rattle.std.proofs.Common.{rules, ◌≡◌, refl, sym, ◌∙◌}
use Rattle.std.proofs.lemmas.Result.{IfErr-weaker}
use Rattle.model.specs.Files.{entry, content_of, table}
use Rattle.fs_layout.specs.declared.errors.FsError.TheVariants.{Full}
use Rattle.fs_layout.proofs.Tables.{no_slot, there_from_slot}
use Rattle.fs.specs.Calls.{HasNoFreeInode, IsThere}
use Rattle.fs.proofs.directory.create.Goals as goal

pub returns-in-Some-clause-exists : goal.returns-in-Some-clause-exists
returns-in-Some-clause-exists g c =
    let blocks = g.B.Blocks.blocks c.args.blocks.now in
    let found = c.in-Some.ensures in
    λ e. (
      (
        c.in-Some.field-0,
        content_of blocks (entry c.args.inodes blocks c.in-Some.field-0),
        there_from_slot c.args.inodes blocks c.requires.rule c.in-Some.field-0 c.args.name.now found.below c.requires.name.0 (found.is
            ∙ c.slot_for.ensures),
      ),
      refl,
    )

pub create_absent-requires-clause-absent : goal.create_absent-requires-clause-absent
create_absent-requires-clause-absent g c =
    no_slot c.args.inodes (g.B.Blocks.blocks c.args.blocks.now) c.requires.rule c.args.name.now
    (λ k low same. c.in_default.ensures k low (same ∙ sym c.slot_for.ensures))

pub returns-clause-full : goal.returns-clause-full
returns-clause-full g c =
    let blocks = g.B.Blocks.blocks c.args.blocks.now in
    let absent = no_slot c.args.inodes blocks c.requires.rule c.args.name.now
    (λ k low same. c.in_default.ensures k low (same ∙ sym c.slot_for.ensures)) in
    IfErr-weaker c.create_absent.result
    (λ e. e ≡ Full → HasNoFreeInode c.args.inodes blocks × (c.create_absent.new.blocks ≡ c.args.blocks.now))
    (λ e. e ≡ Full → (¬ (IsThere (table c.args.inodes blocks) c.args.name.now)) × HasNoFreeInode c.args.inodes blocks
    × (c.create_absent.new.blocks ≡ c.args.blocks.now))
    (λ e had is. (absent, (had is).0, (had is).1)) c.create_absent.ensures.full

pub returns-in-Some-clause-full : goal.returns-in-Some-clause-full
returns-in-Some-clause-full c = search rules
