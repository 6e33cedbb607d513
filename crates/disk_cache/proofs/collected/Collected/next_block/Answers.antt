use Rattle.disk_cache.proofs.Slots.{next_slot, no_next}
use Rattle.disk_cache.proofs.collected.Collected.next_block.Goals as goal

pub returns-in-Some-clause-next : goal.returns-in-Some-clause-next
returns-in-Some-clause-next c =
    next_slot c.args.self.now.slots c.args.from c.range.result (c.range.ensures.in_range tt) _ _ c.in-Some.ensures.steps

pub returns-in-Some-clause-few : goal.returns-in-Some-clause-few
returns-in-Some-clause-few c =
    let next = next_slot c.args.self.now.slots c.args.from c.range.result (c.range.ensures.in_range tt) _ _ c.in-Some.ensures.steps in
    c.args.self.now.sound.few _ _ next.has

pub returns-in-None-clause-none : goal.returns-in-None-clause-none
returns-in-None-clause-none c none b low =
    no_next c.args.self.now.slots c.args.from c.range.result (c.range.ensures.in_range tt) c.in-None.ensures.steps.0 b low
