use Rattle.std.proofs.Common.{inl, inr, arith}
use Rattle.disk_cache.proofs.collected.show_slot.Goals as goal

pub returns-clause-inside : goal.returns-clause-inside
returns-clause-inside c k within low high = c.loop-k.invariant.below k low (omega (arith, within, low, high, c.loop-k-test.false))

pub returns-clause-outside : goal.returns-clause-outside
returns-clause-outside c k (inl below) = c.loop-k.invariant.front k below
returns-clause-outside c k (inr above) = c.loop-k.invariant.rest k (omega (arith, above))
