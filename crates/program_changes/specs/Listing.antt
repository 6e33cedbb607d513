-- What a list of groups makes of a volume.
use Rattle.std.specs.Prelude.{◌≡◌, ℕ, ◌+◌, List, [], ◌∷◌, ◌++◌, length, None, Some, Result, Ok, Err}
use Rattle.model.specs.declared.change.Change.TheVariants.{Group}
use Rattle.model.specs.declared.change.NewGroup.{NewGroup}
use Rattle.program_changes.specs.declared.listed.GroupOutcome.{GroupOutcome}
use Rattle.program_changes.specs.declared.listed.GroupOutcome.TheVariants.{Made, Here, Full, Refused}
use Rattle.program_lists.specs.Lists.{asked}
use Rattle.program_lists.specs.declared.faults.ListFault.{ListFault}
use Rattle.program_lists.specs.declared.reading.Listed.{Listed}
use Rattle.spool.specs.Refusals.{group_refusal}
use Rattle.spool.specs.View.{Adds, SpoolView}
use Rattle.spool.specs.declared.errors.AddError.TheVariants as add

-- the same changes, of which more may be durable
abbrev pub IsSame : SpoolView → SpoolView → Type 0
IsSame old new = new ≡ record old { dirty = new.dirty }

-- the group was made, or the first test that refuses one refuses it and nothing changed; a line without a group changes nothing
abbrev pub Becomes : SpoolView → SpoolView → Result NewGroup ListFault → GroupOutcome → Type 0
Becomes old new (Ok group) (Made serial) =
    (group_refusal old group.name (Group group) ≡ None) × (serial ≡ length old.changes + 1) × Adds old new (Group group)
Becomes old new (Ok group) Here = (group_refusal old group.name (Group group) ≡ Some add.Exists) × (new ≡ old)
Becomes old new (Ok group) Full = (group_refusal old group.name (Group group) ≡ Some add.Full) × (new ≡ old)
Becomes old new (Ok group) (Refused fault) = ⊥
Becomes old new (Err why) outcome = (outcome ≡ Refused why) × (new ≡ old)

abbrev pub BecomesOf : SpoolView → SpoolView → Listed → GroupOutcome → Type 0
BecomesOf old new listed outcome = Becomes old new (asked listed.asked) outcome

-- each line was tried in turn, on what those before it had left, of which more may have become durable meanwhile
abbrev pub HasAddedAll : SpoolView → List Listed → List GroupOutcome → SpoolView → Type 0
HasAddedAll old [] [] new = IsSame old new
HasAddedAll old [] (outcome ∷ outcomes) new = ⊥
HasAddedAll old (listed ∷ more) [] new = ⊥
HasAddedAll old (listed ∷ more) (outcome ∷ outcomes) new =
    (now later : SpoolView) × IsSame old now × BecomesOf now later listed outcome × HasAddedAll later more outcomes new

-- the first lines were tried
abbrev pub HasAddedFirst : SpoolView → List Listed → SpoolView → Type 0
HasAddedFirst old listed new =
    (first left : List Listed) × (outcomes : List GroupOutcome) × (listed ≡ first ++ left) × HasAddedAll old first outcomes new
