use Rattle.std.proofs.Common.{◌≡◌, ◌∷◌, ◌++◌, length, take}
use Rattle.std.specs.Prelude.{flat_map}
use Rattle.spool_records.proofs.records_of_articles.push_names.Given as goal

abbrev pub invariant-loop-name : goal.invariant-loop-name
invariant-loop-name l = l.octets.items ≡ l.initial.octets.items ++ flat_map (λ g. length g ∷ g) (take l.name-index l.names)
