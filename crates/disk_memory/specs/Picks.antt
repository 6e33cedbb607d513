-- What a crash makes of each touched octet.
use Rattle.std.specs.Prelude.{ℕ, ◌+◌, ◌%◌, Bool, if◌then◌else◌, List, [], ◌∷◌, ◌++◌, length, take, drop, slice_index_or}
use Rattle.disk_memory.specs.declared.Pick.{Pick}
use Rattle.disk_memory.specs.declared.Pick.TheVariants.{Old, New, Fill}

-- the octet that one pick leaves
abbrev pub octet_of : Pick → ℕ → ℕ → ℕ
octet_of Old old new = old
octet_of New old new = new
octet_of (Fill octet) old new = octet

-- the pick for the k-th touched octet: the picks are taken in turn, and without picks it is Old
abbrev pub pick_for : List Pick → ℕ → Pick
pick_for [] k = Old
pick_for (p ∷ ps) k = slice_index_or (p ∷ ps) (k % length (p ∷ ps)) Old

-- the image that the picks leave, where k touched octets came before
abbrev pub picked_from : List Pick → ℕ → List Bool → List ℕ → List ℕ → List ℕ
picked_from picks k (t ∷ touched) (old ∷ synced) (new ∷ present) =
    (if t then octet_of (pick_for picks k) old new else new)
    ∷ picked_from picks (if t then k + 1 else k) touched synced present
picked_from picks k touched synced present = []

-- the same where the octets below a place are settled, k touched ones among them
abbrev pub settled : List Pick → ℕ → ℕ → List Bool → List ℕ → List ℕ → List ℕ
settled picks k at touched synced present = take at present ++ picked_from picks k (drop at touched) (drop at synced) (drop at present)
