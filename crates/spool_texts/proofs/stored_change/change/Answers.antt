use Rattle.std.proofs.Common.{sym, ap, ◌∙◌, arith}
use Rattle.std.proofs.lemmas.Result.{IfOk-weaker}
use Rattle.std.specs.Prelude.{Some}
use Rattle.model.specs.declared.change.Change.{Change}
use Rattle.spool_reading.specs.StoredChanges.{change_of}
use Rattle.spool_index.specs.declared.places.ChangePlace.TheVariants.{Alone}
use Rattle.spool_texts.proofs.Copied.{few_serials, is_change, is_its_file, low, read_same, there_file}
use Rattle.spool_texts.proofs.stored_change.change.Goals as goal

pub offset_bounds-changes-serial : goal.offset_bounds-changes-serial
offset_bounds-changes-serial g c =
    let blocks = g.B.Blocks.blocks c.args.blocks.now in
    omega (
      arith,
      few_serials c.args.inodes blocks c.requires.room.few c.args.places.now c.changes.result.now c.args.serial
          c.changes.ensures c.requires.there,
    )

pub bounds-changes-serial : goal.bounds-changes-serial
bounds-changes-serial g c =
    let blocks = g.B.Blocks.blocks c.args.blocks.now in
    low c.args.inodes blocks c.requires.room.few c.args.places.now c.changes.result.now c.args.serial c.changes.ensures c.requires.there

pub file_in-requires-clause-there : goal.file_in-requires-clause-there
file_in-requires-clause-there g c =
    let blocks = g.B.Blocks.blocks c.args.blocks.now in (
      _,
      there_file c.args.inodes blocks c.requires.room.few c.args.places.now c.changes.result.now c.args.serial c.changes.ensures
          c.requires.there (Alone 0),
    )

pub unreachable-requires : goal.unreachable-requires
unreachable-requires g c =
    let blocks = g.B.Blocks.blocks c.args.blocks.now in
    let none = rw c.in_default.is at c.in_ok-said.ensures in
    let there = there_file c.args.inodes blocks c.requires.room.few c.args.places.now c.changes.result.now c.args.serial c.changes.ensures
    c.requires.there (Alone 0) in
    let own = is_its_file c.args.inodes blocks c.requires.room.few c.args.places.now c.changes.result.now c.args.serial c.changes.ensures
    c.requires.there c.in_ok-file.file.name.items c.in_ok-file.file.content.items (c.in_ok-file.ensures.is _ there) in
    none _ (read_same c.args.serial _ c.in_ok-file.file.name.items c.deref.result.now c.in_ok-file.file.content.items c.deref-2.result.now
    (sym c.deref.ensures.value) (sym c.deref-2.ensures.value) own)

pub returns : goal.returns
returns g c =
    let blocks = g.B.Blocks.blocks c.args.blocks.now in
    let said = rw c.in-Some.is at c.in_ok-said.ensures in
    let there = there_file c.args.inodes blocks c.requires.room.few c.args.places.now c.changes.result.now c.args.serial c.changes.ensures
    c.requires.there (Alone 0) in
    IfOk-weaker c.change_said.result _ _
    (λ change is host S held.
    is_change c.args.inodes blocks c.requires.room.few c.args.places.now c.changes.result.now c.args.serial c.changes.ensures
    c.requires.there c.in_ok-file.file.name.items c.in_ok-file.file.content.items
    (change_of c.in-Some.said) (c.in_ok-file.ensures.is _ there)
    (read_same c.args.serial (change_of c.in-Some.said) c.deref.result.now c.in_ok-file.file.name.items c.deref-2.result.now
    c.in_ok-file.file.content.items c.deref.ensures.value c.deref-2.ensures.value said) host S held
    ∙ ap (λ (d : Change). Some d) (sym is))
    c.change_said.ensures
