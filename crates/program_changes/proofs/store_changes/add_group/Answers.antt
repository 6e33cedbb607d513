use Rattle.std.proofs.Common.{◌≡◌, ◌||◌, [], ◌∷◌, ◌++◌, List, ℕ, length, sym, ◌∙◌, ap, arith}
use Rattle.std.proofs.lemmas.List.{length-append}
use Rattle.model.specs.Spool.{Spool}
use Rattle.model.specs.declared.change.Change.{Change}
use Rattle.model.specs.declared.change.Change.TheVariants.{Group}
use Rattle.spool.specs.Refusals.{group_refusal}
use Rattle.spool.specs.declared.errors.AddError.TheVariants.{Memory}
use Rattle.text_names.specs.Requests.{group_of}
use Rattle.program_changes.proofs.Making.{failed, is_last, made, refused}
use Rattle.program_changes.proofs.store_changes.add_group.Goals as goal

pub add_group-requires : goal.add_group-requires
add_group-requires g c = omega (arith, ap (λ (dirty : List ℕ). length dirty) c.requires.clean)

pub returns-in-Ok-commit-clause-changes : goal.returns-in-Ok-commit-clause-changes
returns-in-Ok-commit-clause-changes g c =
    let old = c.args.store.now in
    let change : Change = Group (group_of c.args.group.now) in
    made g.D.Disk.device g.met.D.Disk.only_now old c.requires (g.D.Disk.write_grows || g.D.Disk.sync_grows) Memory
    (group_refusal old.spool c.args.group.now.name change) c.add_group.new.self c.commit.new.store change c.add_group.ensures.journal
    c.add_group.ensures.durable c.in-Ok.ensures.tested.0 c.in-Ok.ensures.tested.1.1 _ _ c.in-Ok-commit.ensures.commits

pub returns-in-Err-commit-clause-changes : goal.returns-in-Err-commit-clause-changes
returns-in-Err-commit-clause-changes g c =
    let old = c.args.store.now in
    let change : Change = Group (group_of c.args.group.now) in
    failed g.D.Disk.device g.met.D.Disk.only_now old c.requires (g.D.Disk.write_grows || g.D.Disk.sync_grows) Memory
    (group_refusal old.spool c.args.group.now.name change) c.add_group.new.self c.commit.new.store change c.add_group.ensures.journal
    c.add_group.ensures.durable c.in-Ok.ensures.tested.0 c.in-Ok.ensures.tested.1.1 c.in-Err-commit.error c.in-Err-commit.ensures.commits

pub returns-in-Err-clause-changes : goal.returns-in-Err-clause-changes
returns-in-Err-clause-changes g c =
    let old = c.args.store.now in
    let change : Change = Group (group_of c.args.group.now) in
    refused g.D.Disk.device g.met.D.Disk.only_now old c.requires (g.D.Disk.write_grows || g.D.Disk.sync_grows) Memory
    (group_refusal old.spool c.args.group.now.name change) c.add_group.new.self change c.in-Err.error
    (λ i. record { journal = c.add_group.ensures.journal i; spool = c.in-Err.ensures.tested.1 i; durable = c.add_group.ensures.durable i })
    c.in-Err.ensures.tested.0

pub returns-in-Ok-commit-clause-serial : goal.returns-in-Ok-commit-clause-serial
returns-in-Ok-commit-clause-serial g c =
    is_last c.args.store.now.spool c.add_group.new.self.spool c.commit.new.store.spool (Group (group_of c.args.group.now))
    c.in-Ok.serial c.in-Ok-commit.durable.value
    c.in-Ok-commit.ensures.value c.in-Ok.ensures.tested.1.0 c.in-Ok.ensures.tested.1.1 c.in-Ok-commit.ensures.commits.spool
