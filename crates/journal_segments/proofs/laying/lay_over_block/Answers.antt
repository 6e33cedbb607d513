use Rattle.std.proofs.Common.{rules, ◌≡◌, ◌<◌, ℕ, List, [], length, get_or, ◌∙◌, subst, arith}
use Rattle.std.proofs.lemmas.List.{get_or_default}
use Rattle.model.specs.Volume.{laid_over}
use Rattle.journal_segments.specs.Staged.{Staged, none_staged, staged_at}
use Rattle.journal_segments.proofs.Laid.{block_put}
use Rattle.journal_segments.proofs.laying.lay_over_block.Goals as goal

pub loop-i-preserved : goal.loop-i-preserved
loop-i-preserved c =
    let there : c.loop-i.i < length c.args.room.now.items = omega (arith, c.loop-i-test.true, c.requires.there) in
    let is : c.index.result.now ≡ staged_at c.args.room.now.items c.loop-i.i = c.index.ensures
    ∙ get_or_default c.args.room.now.items c.loop-i.i c.index.result.now none_staged there in
    record {
      whole = c.lay_image.ensures.whole;
      laid = λ blocks below first.
          block_put c.args.room.now.items c.loop-i.i c.args.block there blocks below c.loop-i.octets c.lay_image.new.octets
          (subst (λ (s : Staged). (bs : List (List ℕ)) → c.args.block < length bs → get_or bs c.args.block [] ≡ c.loop-i.octets
          → get_or (laid_over bs s.numbers s.images) c.args.block [] ≡ c.lay_image.new.octets) is c.lay_image.ensures.laid)
          (c.loop-i.invariant.laid blocks below first);
    }

pub loop-i-init : goal.loop-i-init
loop-i-init c = search rules

pub returns-clause-laid : goal.returns-clause-laid
returns-clause-laid c = search rules
