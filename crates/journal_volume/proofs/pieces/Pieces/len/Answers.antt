use Rattle.std.proofs.Common.{◌≡◌, length, sym, ◌∙◌, ap, subst}
use Rattle.std.specs.List.{All}
use Rattle.journal_volume.specs.Pieces.{PiecesView, octets_of}
use Rattle.journal_volume.proofs.InPieces.{length-view, view_whole}
use Rattle.journal_volume.proofs.pieces.Pieces.len.Goals as goal

pub returns-clause-count : goal.returns-clause-count
returns-clause-count c =
    let pieces = octets_of c.self.inside.pieces.items in
    sym (length-view c.self.inside.count pieces) ∙ ap (λ (v : PiecesView). length v.blocks) c.self.view_is

pub returns-clause-whole : goal.returns-clause-whole
returns-clause-whole c =
    subst (λ (v : PiecesView). All (λ octets. length octets ≡ 4096) v.blocks) c.self.view_is
    (view_whole c.self.inside.count (octets_of c.self.inside.pieces.items) c.self.invariant)
