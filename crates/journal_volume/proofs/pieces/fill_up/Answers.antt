use Rattle.std.proofs.Common.{◌≡◌, ℕ, ◌-◌, ◌++◌, List, length, replicate, take, ◌∙◌, ap}
use Rattle.journal_volume.specs.Pieces.{block_in}
use Rattle.journal_volume.proofs.InPieces.{length-filled, in_filled}
use Rattle.journal_volume.proofs.pieces.fill_up.Goals as goal

pub returns-clause-size : goal.returns-clause-size
returns-clause-size c =
    let size = c.args.size in
    let old = c.args.piece.now in
    let filled : c.resize.new.self.items ≡ take size old.items ++ replicate (size - length old.items) 0 =
    c.in_ok-resize.ensures.items ∙ ap (λ (m : ℕ). take size old.items ++ replicate (size - m) 0) old.ok.0 in
    length-filled size old.items c.resize.new.self.items c.requires filled

pub returns-clause-blocks : goal.returns-clause-blocks
returns-clause-blocks c k fits =
    let size = c.args.size in
    let old = c.args.piece.now in
    let filled : c.resize.new.self.items ≡ take size old.items ++ replicate (size - length old.items) 0 =
    c.in_ok-resize.ensures.items ∙ ap (λ (m : ℕ). take size old.items ++ replicate (size - m) 0) old.ok.0 in
    in_filled size old.items c.resize.new.self.items c.requires filled k fits

pub returns-in_err-resize-clause-blocks : goal.returns-in_err-resize-clause-blocks
returns-in_err-resize-clause-blocks c k fits = ap (λ (l : List ℕ). block_in l k) c.in_err-resize.ensures.items
