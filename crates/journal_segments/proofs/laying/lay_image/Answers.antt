use Rattle.std.proofs.Common.{◌≡◌, ◌<◌, ◌+◌, ℕ, List, [], length, get_or, take, sym, ◌∙◌, ap, subst, arith}
use Rattle.model.specs.Volume.{laid_over}
use Rattle.journal_segments.proofs.Laid.{image_passed, image_put, images_put}
use Rattle.journal_segments.proofs.laying.lay_image.Goals.{then-from-block, else-from-block}
use Rattle.journal_segments.proofs.laying.lay_image.Goals as goal

pub loop-i-preserved : goal.loop-i-preserved
loop-i-preserved c = record {
  whole = omega (arith, c.if-from-block.auto.octets, c.loop-i.invariant.whole);
  laid = λ blocks below first.
      let numbers = c.args.segment.now.numbers in
      let images = c.args.segment.now.images in
      let within : c.loop-i.i < length numbers = omega (arith, c.loop-i-test.true, c.count-i-end.ensures.count) in
      let number : get_or numbers c.loop-i.i 0 ≡ c.from.result = sym (c.from.ensures ∙ c.number.ensures) in
      let so_far = c.loop-i.invariant.laid blocks below first in
      elim c.if-from-block.branch [
        | then-from-block w ↦
            image_put numbers images blocks c.loop-i.i c.args.block within c.requires.full c.loop-i.octets c.if-from-block.octets below
            so_far (number ∙ w.if-from-block.true) (w.octets-is ∙ w.copy_from_slice.ensures.after ∙ w.image.ensures.image)
        | else-from-block w ↦
            subst (λ (o : List ℕ). get_or (laid_over blocks (take (c.loop-i.i + 1) numbers) (take (c.loop-i.i + 1) images)) c.args.block []
            ≡ o) (sym w.octets-is)
            (image_passed numbers images blocks c.loop-i.i c.args.block within c.requires.full c.loop-i.octets so_far
            (λ e. w.if-from-block.false (sym number ∙ e)))
      ];
}

pub returns-clause-laid : goal.returns-clause-laid
returns-clause-laid c blocks below first =
    ap (λ (l : List (List ℕ)). get_or l c.args.block [])
    (sym (images_put c.args.segment.now.numbers c.args.segment.now.images blocks c.loop-i.i
    (omega (arith, c.loop-i-test.false, c.loop-i.auto.i-end, c.count-i-end.ensures.count)) c.requires.full))
    ∙ c.loop-i.invariant.laid blocks below first
