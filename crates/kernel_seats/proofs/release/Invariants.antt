use Rattle.std.proofs.Common.{◌-◌, length}
use Rattle.kernel_seats.specs.Lined.{AllAreLined, all_seen}
use Rattle.kernel_seats.proofs.Rest.{IsRest}
use Rattle.kernel_seats.proofs.release.Given as goal

abbrev pub invariant-loop-at : goal.invariant-loop-at
invariant-loop-at g l = record {
  rest : IsRest l.durable (all_seen (g.S.Source.octets_of l.source) l.fn.seats.items) l.into l.at
      (all_seen (g.S.Source.octets_of l.source) l.seats.items);
  lined : AllAreLined (g.S.Source.keeps l.source) l.seats.items;
}

abbrev pub decreases-loop-at : goal.decreases-loop-at
decreases-loop-at g l = length l.seats.items - l.at
