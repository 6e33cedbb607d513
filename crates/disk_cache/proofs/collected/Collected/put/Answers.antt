use Rattle.std.proofs.Common.{◌+◌, ◌-◌, ◌*◌}
use Rattle.std.specs.BTreeMap.{get}
use Rattle.std.specs.Ordering.{nat_cmp}
use Rattle.disk_cache.proofs.Putting.{cut_piece, put_inside, put_outside, put_sound}
use Rattle.disk_cache.proofs.collected.Collected.put.Goals as goal

pub invariant_of-self : goal.invariant_of-self
invariant_of-self c = record {
  sound =
      rw c.put_part.ensures
      (put_sound (get nat_cmp c.args.self.now.slots) c.args.self.now.owners.items c.args.self.now.fills.items
      c.args.self.now.flags.items c.args.self.now.octets.items c.args.from.now _ c.args.at c.args.block c.index-slot.result.now
      c.max-low.result (4096 * c.args.block + c.min.result) (4096 * c.index-slot.result.now + (c.max-low.result - 4096 * c.args.block))
      (cut_piece (get nat_cmp c.args.self.now.slots) c.args.self.now.owners.items c.args.self.now.fills.items c.args.self.now.flags.items
      c.args.self.now.octets.items c.args.from.now c.args.at c.args.block c.index-slot.result.now c.max-low.result c.min.result
      c.args.self.now.sound c.index-slot.ensures c.max-low.ensures c.min.ensures c.requires.low c.requires.high) _ _
      (record {
        inside = c.note.ensures.inside;
        outside = c.note.ensures.outside;
        fills_size = c.note.ensures.fills;
        flags_size = c.note.ensures.flags;
      }));
}

pub returns-clause-inside : goal.returns-clause-inside
returns-clause-inside c k low high here =
    rw c.put_part.ensures
    (put_inside (get nat_cmp c.args.self.now.slots) c.args.self.now.owners.items c.args.self.now.fills.items
    c.args.self.now.flags.items c.args.self.now.octets.items c.args.from.now _ c.args.at c.args.block c.index-slot.result.now
    c.max-low.result (4096 * c.args.block + c.min.result) (4096 * c.index-slot.result.now + (c.max-low.result - 4096 * c.args.block))
    (cut_piece (get nat_cmp c.args.self.now.slots) c.args.self.now.owners.items c.args.self.now.fills.items c.args.self.now.flags.items
    c.args.self.now.octets.items c.args.from.now c.args.at c.args.block c.index-slot.result.now c.max-low.result c.min.result
    c.args.self.now.sound c.index-slot.ensures c.max-low.ensures c.min.ensures c.requires.low c.requires.high) _ _
    (record {
      inside = c.note.ensures.inside;
      outside = c.note.ensures.outside;
      fills_size = c.note.ensures.fills;
      flags_size = c.note.ensures.flags;
    }) k low high here)

pub returns-clause-outside : goal.returns-clause-outside
returns-clause-outside c k out =
    rw c.put_part.ensures
    (put_outside (get nat_cmp c.args.self.now.slots) c.args.self.now.owners.items c.args.self.now.fills.items
    c.args.self.now.flags.items c.args.self.now.octets.items c.args.from.now _ c.args.at c.args.block c.index-slot.result.now
    c.max-low.result (4096 * c.args.block + c.min.result) (4096 * c.index-slot.result.now + (c.max-low.result - 4096 * c.args.block))
    (cut_piece (get nat_cmp c.args.self.now.slots) c.args.self.now.owners.items c.args.self.now.fills.items c.args.self.now.flags.items
    c.args.self.now.octets.items c.args.from.now c.args.at c.args.block c.index-slot.result.now c.max-low.result c.min.result
    c.args.self.now.sound c.index-slot.ensures c.max-low.ensures c.min.ensures c.requires.low c.requires.high) _ _
    (record {
      inside = c.note.ensures.inside;
      outside = c.note.ensures.outside;
      fills_size = c.note.ensures.fills;
      flags_size = c.note.ensures.flags;
    }) k out)
