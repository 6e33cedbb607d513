use Rattle.std.proofs.Common.{◌≡◌, ◌<◌, ◌^◌, ℕ, map}
use Rattle.std.specs.Prelude.{Some, slice_get}
use Rattle.model.specs.Indexed.{GroupIndex}
use Rattle.spool_groups.specs.Filing.{end_of}
use Rattle.spool_groups.specs.Shown.{shown}
use Rattle.test_texts.proofs.indexes.overviews_fit.Given as goal

abbrev pub invariant-loop-group : goal.invariant-loop-group
invariant-loop-group l = (k : ℕ) (i : GroupIndex) → k < l.group-index → slice_get (map shown l.groups) k ≡ Some i → end_of i < 2 ^ 32
