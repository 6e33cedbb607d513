use Rattle.std.proofs.Common.{◌≡◌, List, ◌++◌, ◌-◌, ◌<◌, length, sym, subst, ◌∙◌, ap, arith, length-append}
use Rattle.std.proofs.lemmas.List.{length-map}
use Rattle.kernel_outbox.specs.Lines.{AllAreKept, QueueView, outputs_of}
use Rattle.kernel_outbox.specs.Queue.{ReadyEntry, buffered, give, entry_of, octets_in}
use Rattle.kernel_outbox.specs.Slots.{entry_at, entries_in}
use Rattle.kernel_outbox.proofs.GivingLaws.{give-buffered}
use Rattle.kernel_outbox.proofs.LinesLaws.{waiting_is}
use Rattle.kernel_outbox.proofs.BufferLaws.{given-entries, given-within, given-along, given-counted, given-few}
use Rattle.kernel_outbox.proofs.queue.Queue.give.Goals as goal

pub overflow_sub-self-2 : goal.overflow_sub-self-2
overflow_sub-self-2 g c =
    let made = g.S.Source.octets_of c.args.source.now in
    let q = c.self.inside in
    let before = c.into.inside.octets.items in
    let gives = c.give_front-ended.ensures.gives in
    let gave = give c.args.durable (65_536 - length before) q.given (outputs_of made q.outputs.items) in
    let keeps = g.S.Source.keeps c.args.source.now in
    let kept : AllAreKept keeps q.outputs.items =
    subst (λ (view : QueueView). AllAreKept keeps view.held) (sym c.self.view_is) c.requires.kept in
    omega (
      arith,
      waiting_is made keeps (g.met.S.Source.counted c.args.source.now) q.outputs.items kept,
      ap length gives.octets_are,
      length-append before gave.octets,
      give-buffered c.args.durable (65_536 - length before) q.given (outputs_of made q.outputs.items),
    )

pub invariant_of-self : goal.invariant_of-self
invariant_of-self g c =
    let made = g.S.Source.octets_of c.args.source.now in
    let q = c.self.inside in
    let before = c.into.inside.octets.items in
    let gives = c.give_front-ended.ensures.gives in
    let gave = give c.args.durable (65_536 - length before) q.given (outputs_of made q.outputs.items) in
    let keeps = g.S.Source.keeps c.args.source.now in
    let kept : AllAreKept keeps q.outputs.items =
    subst (λ (view : QueueView). AllAreKept keeps view.held) (sym c.self.view_is) c.requires.kept in
    omega (
      arith,
      waiting_is made keeps (g.met.S.Source.counted c.args.source.now) q.outputs.items kept,
      waiting_is made keeps (g.met.S.Source.counted c.args.source.now) c.give_front-ended.new.outputs.items
          c.give_front-ended.ensures.kept,
      ap length gives.octets_are,
      ap buffered gives.held_is,
      length-append before gave.octets,
      give-buffered c.args.durable (65_536 - length before) q.given (outputs_of made q.outputs.items),
    )

pub invariant_of-into : goal.invariant_of-into
invariant_of-into g c =
    let made = g.S.Source.octets_of c.args.source.now in
    let b = c.into.inside in
    let gives = c.give_front-ended.ensures.gives in
    let start : c.len-start.result ≡ length b.octets.items = c.len-start.ensures ∙ b.octets.ok.0 in
    let end : c.len-end.result ≡ length c.give_front-ended.new.octets.items = c.len-end.ensures ∙ c.give_front-ended.new.octets.ok.0 in
    let few = given-few b.octets.items c.give_front-ended.new.octets.items b.slots.items c.end_entry.new.slots.items c.args.number
    c.len-start.result c.len-end.result _ _ _ _ c.into.invariant.within gives start end c.end_entry.ensures.items in
    let room : length b.slots.items < 4096 =
    omega (
      arith,
      c.requires,
      ap (λ (entries : List ReadyEntry). length entries) c.into.view_is,
      length-map b.slots.items (entry_at b.octets.items),
    ) in
    let now : c.end_entry.new.slots.len ≡ length c.end_entry.new.slots.items = c.end_entry.new.slots.ok.0 in
    record {
      within = given-within b.octets.items c.give_front-ended.new.octets.items b.slots.items c.end_entry.new.slots.items c.args.number
          c.len-start.result c.len-end.result _ _ _ _ c.into.invariant.within gives start end c.end_entry.ensures.items;
      along = given-along b.octets.items c.give_front-ended.new.octets.items b.slots.items c.end_entry.new.slots.items c.args.number
          c.len-start.result c.len-end.result _ _ _ _ c.into.invariant.within gives start end c.end_entry.ensures.items
          c.into.invariant.along;
      counted = given-counted b.octets.items c.give_front-ended.new.octets.items b.slots.items c.end_entry.new.slots.items c.args.number
          c.len-start.result c.len-end.result _ _ _ _ c.into.invariant.within gives start end c.end_entry.ensures.items
          c.into.invariant.counted;
      octets = c.give_front-ended.ensures.bound;
      octet_room = c.give_front-ended.ensures.room;
      few = omega (arith, few, room, now);
      room = omega (arith, c.into.invariant.room, c.end_entry.ensures.capacity);
    }

pub returns-clause-entries : goal.returns-clause-entries
returns-clause-entries g c =
    let made = g.S.Source.octets_of c.args.source.now in
    let q = c.self.inside in
    let b = c.into.inside in
    let gives = c.give_front-ended.ensures.gives in
    given-entries b.octets.items c.give_front-ended.new.octets.items b.slots.items c.end_entry.new.slots.items c.args.number
    c.len-start.result c.len-end.result _ _ _ _
    c.into.invariant.within gives (c.len-start.ensures ∙ b.octets.ok.0) (c.len-end.ensures
    ∙ c.give_front-ended.new.octets.ok.0) c.end_entry.ensures.items
    ∙ ap (λ room. entries_in b.octets.items b.slots.items ++ entry_of c.args.number
    (give c.args.durable (65_536 - room) q.given (outputs_of made q.outputs.items))) (sym c.into.invariant.counted)
    ∙ ap (λ entries. entries ++ entry_of c.args.number (give c.args.durable (65_536 - octets_in entries) q.given
    (outputs_of made q.outputs.items)))
    c.into.view_is
    ∙ ap (λ (view : QueueView). c.args.into.now ++ entry_of c.args.number
    (give c.args.durable (65_536 - octets_in c.args.into.now) view.given (outputs_of made view.held))) c.self.view_is
