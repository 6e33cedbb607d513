use Rattle.std.proofs.Common.{ℕ, ◌+◌, ◌/◌, List, sym, ◌∙◌, ap, subst, arith}
use Rattle.journal_volume.specs.Pieces.{ArePieces, view_of}
use Rattle.journal_volume.proofs.InPieces.{none_are, zeros_in}
use Rattle.journal_volume.proofs.pieces.Pieces.new.Goals as goal

pub returns : goal.returns
returns c =
    ap (λ (l : List (List ℕ)). (view_of c.args.count l).blocks) c.in_ok-pieces.ensures
    ∙ zeros_in c.args.count (c.args.count / 256 + 1)

pub invariant_of-result : goal.invariant_of-result
invariant_of-result c =
    subst (λ (l : List (List ℕ)). ArePieces c.args.count l) (sym c.in_ok-pieces.ensures)
    (none_are c.args.count (c.args.count / 256 + 1) (omega arith))
