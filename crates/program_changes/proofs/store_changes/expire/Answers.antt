use Rattle.std.proofs.Common.{◌≡◌, ◌||◌, [], ◌∷◌, ◌++◌, List, ℕ, length, sym, ◌∙◌, ap, arith}
use Rattle.std.proofs.lemmas.List.{length-append}
use Rattle.model.specs.Spool.{Spool}
use Rattle.model.specs.declared.change.Change.{Change}
use Rattle.model.specs.declared.change.Change.TheVariants.{Expire}
use Rattle.spool.specs.Refusals.{expiry_refusal}
use Rattle.spool.specs.declared.errors.ExpireError.TheVariants.{Memory}
use Rattle.program_changes.proofs.Making.{failed, is_last, made, refused}
use Rattle.program_changes.proofs.store_changes.expire.Goals as goal

pub expire-requires : goal.expire-requires
expire-requires g c = omega (arith, ap (λ (dirty : List ℕ). length dirty) c.requires.clean)

pub returns-in-Ok-commit-clause-changes : goal.returns-in-Ok-commit-clause-changes
returns-in-Ok-commit-clause-changes g c =
    let old = c.args.store.now in
    let change : Change = Expire (record { group = c.args.name.now; number = c.args.number }) in
    made g.D.Disk.device g.met.D.Disk.only_now old c.requires (g.D.Disk.write_grows || g.D.Disk.sync_grows) Memory
    (expiry_refusal old.spool c.args.name.now c.args.number) c.expire.new.self c.commit.new.store change c.expire.ensures.journal
    c.expire.ensures.durable c.in-Ok.ensures.tested.0 c.in-Ok.ensures.tested.1.1 _ _ c.in-Ok-commit.ensures.commits

pub returns-in-Err-commit-clause-changes : goal.returns-in-Err-commit-clause-changes
returns-in-Err-commit-clause-changes g c =
    let old = c.args.store.now in
    let change : Change = Expire (record { group = c.args.name.now; number = c.args.number }) in
    failed g.D.Disk.device g.met.D.Disk.only_now old c.requires (g.D.Disk.write_grows || g.D.Disk.sync_grows) Memory
    (expiry_refusal old.spool c.args.name.now c.args.number) c.expire.new.self c.commit.new.store change c.expire.ensures.journal
    c.expire.ensures.durable c.in-Ok.ensures.tested.0 c.in-Ok.ensures.tested.1.1 c.in-Err-commit.error c.in-Err-commit.ensures.commits

pub returns-in-Err-clause-changes : goal.returns-in-Err-clause-changes
returns-in-Err-clause-changes g c =
    let old = c.args.store.now in
    let change : Change = Expire (record { group = c.args.name.now; number = c.args.number }) in
    refused g.D.Disk.device g.met.D.Disk.only_now old c.requires (g.D.Disk.write_grows || g.D.Disk.sync_grows) Memory
    (expiry_refusal old.spool c.args.name.now c.args.number) c.expire.new.self change c.in-Err.error
    (λ i. record { journal = c.expire.ensures.journal i; spool = c.in-Err.ensures.tested.1 i; durable = c.expire.ensures.durable i })
    c.in-Err.ensures.tested.0

pub returns-in-Ok-commit-clause-serial : goal.returns-in-Ok-commit-clause-serial
returns-in-Ok-commit-clause-serial g c =
    is_last c.args.store.now.spool c.expire.new.self.spool c.commit.new.store.spool
    (Expire (record { group = c.args.name.now; number = c.args.number })) c.in-Ok.serial c.in-Ok-commit.durable.value
    c.in-Ok-commit.ensures.value c.in-Ok.ensures.tested.1.0 c.in-Ok.ensures.tested.1.1 c.in-Ok-commit.ensures.commits.spool
