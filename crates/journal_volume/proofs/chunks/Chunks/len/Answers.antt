use Rattle.std.proofs.Common.{◌≡◌, length, sym, ◌∙◌, ap, subst}
use Rattle.std.specs.List.{All}
use Rattle.journal_volume.specs.Chunks.{ChunksView}
use Rattle.journal_volume.proofs.InChunks.{length-view, view_whole}
use Rattle.journal_volume.proofs.chunks.Chunks.len.Goals as goal

pub returns-clause-count : goal.returns-clause-count
returns-clause-count c =
    let s = c.self.inside in
    c.len.ensures.count ∙ c.self.invariant.size ∙ sym (length-view s.made s.slots)
    ∙ ap (λ (v : ChunksView). length v.blocks) c.self.view_is

pub returns-clause-whole : goal.returns-clause-whole
returns-clause-whole c =
    subst (λ (v : ChunksView). All (λ octets. length octets ≡ 4096) v.blocks) c.self.view_is
    (view_whole c.self.inside.made c.self.inside.slots c.self.invariant)
