-- What the index keeps of a group, stated in terms of the spool.
use Rattle.std.specs.Prelude.{map}
use Rattle.model.specs.Indexed.{GroupIndex}
use Rattle.spool_groups.specs.declared.group.Group as declared

-- what is kept of a group
abbrev pub shown : declared.Group → GroupIndex
shown g = record {
  group = record { serial = g.serial; name = g.name; status = g.status; description = g.description; moment = g.moment };
  filed = map (λ l. l.serial) g.lines.items;
  ends = map (λ l. l.end) g.lines.items;
  low = g.low;
  expired = map (λ e. record { serial = e.serial; group = g.name; number = e.number }) g.expired.items;
  last = g.last;
}
