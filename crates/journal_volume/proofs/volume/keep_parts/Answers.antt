use Rattle.std.proofs.Common.{◌<◌, ℕ, ◌+◌, ◌/◌, Vec, Global, List, length, sym, ◌∙◌, ap, subst, arith}
use Rattle.std.specs.List.{Contains}
use Rattle.std.proofs.lemmas.Bool.{false≢true}
use Rattle.journal_volume.specs.Numbers.{Numbers}
use Rattle.journal_volume.proofs.Keeping.{IsKeeping, keeping_more, keeping_same}
use Rattle.journal_volume.proofs.volume.keep_parts.Goals as goal
use Rattle.journal_volume.proofs.volume.keep_parts.Goals.{then-not-has+in_ok-keep_part, else-not-has}

pub returns-in_err-keep_part-clause-these : goal.returns-in_err-keep_part-clause-these
returns-in_err-keep_part-clause-these c p member =
    c.loop-number.invariant.these p (subst (λ (s : Numbers). Contains s.members p) c.in_err-keep_part.ensures.kept member)

pub loop-number-preserved : goal.loop-number-preserved
loop-number-preserved c =
    let first = c.args.first in
    let end = c.args.end in
    let at = c.loop-number.number in
    let blocks = c.args.blocks.now.blocks in
    let was = c.args.kept.now in
    let had = c.args.octets.now.items in
    let kept = c.loop-number.kept in
    let octets = c.loop-number.octets.items in
    let so_far = c.loop-number.invariant in
    elim c.if-not-has.branch [
      | then-not-has+in_ok-keep_part w ↦
          let bound = so_far.bound ∙ c.requires.bound in
          let there : at / 16 < length blocks = omega (arith, c.requires.bound, c.requires.there, c.loop-number-test.true) in
          let other : ¬ (Contains kept.members at) = λ member. absurd (false≢true (sym w.if-not-has.true ∙ c.has.ensures.1 member)) in
          let more = keeping_more first end at blocks was had kept octets so_far c.len-count.ensures.whole bound there other
          w.part_of.result.now w.part_of.ensures.octets w.part_of.ensures.whole w.keep_part.new.kept w.keep_part.new.octets.items
          w.in_ok-keep_part.ensures.kept w.in_ok-keep_part.ensures.octets w.keep_part.ensures.valid c.loop-number.auto.number
          c.loop-number-test.true in
          subst (λ (s : Numbers). IsKeeping first end (at + 1) blocks was had s c.if-not-has.octets.items) (sym w.kept-is)
          (subst (λ (l : List ℕ). IsKeeping first end (at + 1) blocks was had w.keep_part.new.kept l)
          (sym (ap (λ (v : Vec ℕ Global). v.items) w.octets-is)) more)
      | else-not-has w ↦
          let more = keeping_same first end at blocks was had kept octets so_far (c.has.ensures.0 w.if-not-has.false) in
          subst (λ (s : Numbers). IsKeeping first end (at + 1) blocks was had s c.if-not-has.octets.items) (sym w.kept-is)
          (subst (λ (l : List ℕ). IsKeeping first end (at + 1) blocks was had kept l)
          (sym (ap (λ (v : Vec ℕ Global). v.items) w.octets-is)) more)
    ]
