use Rattle.std.proofs.Common.{◌≡◌, length, sym, ◌∙◌}
use Rattle.std.proofs.lemmas.Bool.{eqb-true}
use Rattle.journal_volume.proofs.InPieces.{in_none, zeros_are}
use Rattle.journal_volume.proofs.pieces.block_of_piece.Goals as goal

pub returns-then-is_empty-clause-octets : goal.returns-then-is_empty-clause-octets
returns-then-is_empty-clause-octets c =
    let none : length c.args.piece.now ≡ 0 = eqb-true (length c.args.piece.now) 0 (sym c.if-is_empty.ensures) in
    zeros_are ∙ sym (in_none c.args.piece.now c.args.number none)
