use Rattle.std.proofs.Common.{◌≡◌, ℕ, ◌<◌}
use Rattle.std.specs.Prelude.{slice_index_or}
use Rattle.text_networks.specs.declared.prefixes.Network.{Network}
use Rattle.text_networks.specs.Networks.{Holds}
use Rattle.text_networks.proofs.callers.any_holds.Given as goal

-- none of the networks so far holds the address
abbrev pub invariant-loop-network : goal.invariant-loop-network
invariant-loop-network l = (k : ℕ) → k < l.network-index → (n : Network) → slice_index_or l.networks k n ≡ n → Holds n l.address → ⊥
