-- The state of a volume has no float.
use Rattle.std.proofs.Common.{◌≡◌, Bool, false, List, [], ◌∷◌, map, refl, ap}
use Rattle.std.specs.Prelude.{◌||◌}
use Rattle.serde_json.specs.View.{items_of}
use Rattle.serde_json.specs.Written.{has_float, items_have_float}
use Rattle.volume_states.specs.Json.{group_data, status_data}
use Rattle.volume_states.specs.declared.state.GroupStatus.{GroupStatus}
use Rattle.volume_states.specs.declared.state.VolumeStatus.{VolumeStatus}

groups_no_float : (gs : List GroupStatus) → items_have_float (items_of (map group_data gs)) ≡ false
groups_no_float [] = refl
groups_no_float (g ∷ gs) = groups_no_float gs

pub no_float : (s : VolumeStatus) → has_float (status_data s) ≡ false
no_float s = ap (λ (b : Bool). b || false) (groups_no_float s.groups.items)
