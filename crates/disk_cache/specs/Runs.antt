-- What a sync gives the device: in rising place, one write for each longest run of collected octets.
use Rattle.std.specs.Prelude.{ℕ, ◌+◌, ◌==◌, if◌then◌else◌, List, [], ◌∷◌, ◌++◌, map, Option, Some, None}
use Rattle.disk.specs.Calls.{Call}

-- octets from a place on
pub record Run : Type 0 where
  pub at : ℕ
  pub octets : List ℕ

-- an octet put before some runs: it joins the run that begins right after it
unfoldable pub join : ℕ → ℕ → List Run → List Run
join at octet [] = record { at = at; octets = octet ∷ [] } ∷ []
join at octet (run ∷ runs) =
    if run.at == at + 1
    then record { at = at; octets = octet ∷ run.octets } ∷ runs
    else record { at = at; octets = octet ∷ [] } ∷ run ∷ runs

-- the runs of collected octets from a place on
abbrev pub runs_from : ℕ → List (Option ℕ) → List Run
runs_from at [] = []
runs_from at (None ∷ rest) = runs_from (at + 1) rest
runs_from at (Some octet ∷ rest) = join at octet (runs_from (at + 1) rest)

-- the writes of runs
abbrev pub writes_of : List Run → List Call
writes_of runs = map (λ (run : Run). Call.Write run.at run.octets) runs

-- the device calls of a sync
abbrev pub calls_of : List (Option ℕ) → List Call
calls_of collected = writes_of (runs_from 0 collected) ++ Call.Sync ∷ []
