use Rattle.std.proofs.Common.{inl, inr, arith}
use Rattle.std.proofs.lemmas.Bool.{cases_lt}
use Rattle.disk_cache.proofs.giving.next_at.Goals as goal

pub loop-at-preserved : goal.loop-at-preserved
loop-at-preserved c = record {
  low = omega (arith, c.loop-at.invariant.low);
  high = omega (arith, c.loop-at-test.true, c.requires.whole.flags_size);
  none = λ k low high is. elim (cases_lt k c.loop-at.at) [
    | inl before ↦ c.loop-at.invariant.none k low before is
    | inr behind ↦ c.next_in_slot-found.ensures.none k behind (omega (arith, high, c.if-found-past.false)) is
  ];
}
