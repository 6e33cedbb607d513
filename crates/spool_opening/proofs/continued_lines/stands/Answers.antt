use Rattle.std.proofs.Common.{◌++◌, ap, sym, ◌∙◌}
use Rattle.std.proofs.lemmas.Bool.{true≢false}
use Rattle.model.specs.Files.{table}
use Rattle.model.specs.Indexed.{value_of}
use Rattle.spool_records.specs.Kinds.{front_of}
use Rattle.spool_opening.proofs.Going.{no_piece, piece_by_test, piece_fits}
use Rattle.spool_opening.proofs.continued_lines.stands.Goals as goal

pub returns-in_default-clause-stands : goal.returns-in_default-clause-stands
returns-in_default-clause-stands g c = (
  λ yes. absurd (true≢false (sym yes)),
  λ has. absurd (no_piece (table c.args.inodes (g.B.Blocks.blocks c.args.blocks.now)) c.args.files.now.slots.items c.args.files.now.named
      c.args.files.now.packed (front_of c.args.kind ++ c.args.group.now) c.args.piece.now c.args.after c.requires.sorted c.requires.index
      (ap (value_of c.args.files.now.named) (sym (c.deref.ensures.value ∙ c.in_ok-name.ensures)) ∙ sym c.in_default.ensures) has),
)

pub returns-clause-stands : goal.returns-clause-stands
returns-clause-stands g c =
    let name = front_of c.args.kind ++ c.args.group.now in
    let found = ap (value_of c.args.files.now.named) (sym (c.deref.ensures.value ∙ c.in_ok-name.ensures)) ∙ sym c.in-Some.ensures in
    let its = c.requires.sorted.from name c.in-Some.at found in
    piece_by_test c.args.inodes (g.B.Blocks.blocks c.args.blocks.now) name c.args.piece.now its.0 c.as_slice.result.now
    c.args.after c.in-Some.at c.eq.result c.requires.rule its.1
    (c.as_slice.ensures.value ∙ (c.in_ok-there.ensures (record { name = name; content = its.0 }) its.1).0) c.eq.ensures

pub returns-clause-short : goal.returns-clause-short
returns-clause-short g c = λ yes.
    let name = front_of c.args.kind ++ c.args.group.now in
    let found = ap (value_of c.args.files.now.named) (sym (c.deref.ensures.value ∙ c.in_ok-name.ensures)) ∙ sym c.in-Some.ensures in
    let its = c.requires.sorted.from name c.in-Some.at found in
    piece_fits c.args.inodes (g.B.Blocks.blocks c.args.blocks.now) name c.args.piece.now c.args.after c.requires.room
    c.requires.rule
    ((piece_by_test c.args.inodes (g.B.Blocks.blocks c.args.blocks.now) name c.args.piece.now its.0 c.as_slice.result.now
    c.args.after c.in-Some.at c.eq.result c.requires.rule its.1
    (c.as_slice.ensures.value ∙ (c.in_ok-there.ensures (record { name = name; content = its.0 }) its.1).0) c.eq.ensures).0 yes)
