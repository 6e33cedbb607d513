use Rattle.std.proofs.Common.{◌<◌, ℕ, ◌*◌, length, take, sym, ◌∙◌, ap, subst, arith, length-take, zero-add}
use Rattle.disk.proofs.Images.{length-part}
use Rattle.model.specs.Volume.{block}
use Rattle.journal_laws.proofs.Blocks.{get_or-blocks_from}
use Rattle.journal_segments.specs.Staged.{Staged}
use Rattle.journal_segments.proofs.segment.Segment.image.Goals as goal

pub returns-clause-image : goal.returns-clause-image
returns-clause-image c =
    let s = c.self.inside in
    let within : c.args.i < length (take s.count s.numbers.items) =
    subst (λ (v : Staged). c.args.i < length v.numbers) (sym c.self.view_is) c.requires in
    rw (← c.self.view_is)
    (c.block_at.ensures ∙ ap (block c.args.i) c.as_slice.ensures.value ∙ ap (λ (k : ℕ). block k s.images.items) (sym (zero-add c.args.i))
    ∙ sym (get_or-blocks_from 0 (length (take s.count s.numbers.items)) c.args.i s.images.items within))

pub returns-clause-size : goal.returns-clause-size
returns-clause-size c =
    let s = c.self.inside in
    let within : c.args.i < length (take s.count s.numbers.items) =
    subst (λ (v : Staged). c.args.i < length v.numbers) (sym c.self.view_is) c.requires in
    ap length (c.block_at.ensures ∙ ap (block c.args.i) c.as_slice.ensures.value)
    ∙ length-part (4096 * c.args.i) 4096 s.images.items
    (omega (arith, within, length-take s.count s.numbers.items, c.self.invariant.few, c.self.invariant.octets_size))
