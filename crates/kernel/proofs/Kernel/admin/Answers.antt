use Rattle.std.proofs.Common.{ap, ◌∙◌}
use Rattle.std.specs.Prelude.{option_map}
use Rattle.model.specs.declared.change.Change.TheVariants.{Group}
use Rattle.text_names.specs.Requests.{group_of}
use Rattle.spool.specs.declared.errors.AddError.TheVariants as add
use Rattle.kernel.specs.Errors.{of_admin}
use Rattle.kernel.specs.Kernel.{early_refusal}
use Rattle.kernel.proofs.AdminLaws.{administers, group_refused, group_tests, kept_made, of_add, passed}
use Rattle.kernel.proofs.Kernel.admin.Goals as goal

pub returns-in-Err-Exists : goal.returns-in-Err-Exists
returns-in-Err-Exists c =
    let early = passed of_admin (early_refusal c.args.self.now) c.in_ok-may_administer.field-0 c.in_ok-may_administer.ensures in
    group_refused c.self.inside c.args.self.now c.self.view_is early c.add_group.new.self (group_of c.args.group.now)
    c.in-Err-Exists.field-0 add.Exists c.in-Err-Exists.field-0-is c.in-Err-Exists.ensures

pub returns-in-Err-Full : goal.returns-in-Err-Full
returns-in-Err-Full c =
    let early = passed of_admin (early_refusal c.args.self.now) c.in_ok-may_administer.field-0 c.in_ok-may_administer.ensures in
    group_refused c.self.inside c.args.self.now c.self.view_is early c.add_group.new.self (group_of c.args.group.now)
    c.in-Err-Full.field-0 add.Full c.in-Err-Full.field-0-is c.in-Err-Full.ensures

pub returns-in-Err-Memory : goal.returns-in-Err-Memory
returns-in-Err-Memory c =
    let early = passed of_admin (early_refusal c.args.self.now) c.in_ok-may_administer.field-0 c.in_ok-may_administer.ensures in
    group_refused c.self.inside c.args.self.now c.self.view_is early c.add_group.new.self (group_of c.args.group.now)
    c.in-Err-Memory.field-0 add.Memory c.in-Err-Memory.field-0-is c.in-Err-Memory.ensures

pub invariant_of-self-2 : goal.invariant_of-self-2
invariant_of-self-2 c =
    let early = passed of_admin (early_refusal c.args.self.now) c.in_ok-may_administer.field-0 c.in_ok-may_administer.ensures in
    kept_made c.self.inside c.args.self.now c.self.view_is early c.add_group.new.self (Group (group_of c.args.group.now)) c.self.invariant
    c.kept.ensures c.in-Ok.ensures.1.1

pub returns : goal.returns
returns c =
    let early = passed of_admin (early_refusal c.args.self.now) c.in_ok-may_administer.field-0 c.in_ok-may_administer.ensures in
    let g = group_of c.args.group.now in (
      group_tests c.self.inside c.args.self.now c.self.view_is early g ∙ ap (option_map of_add) c.in-Ok.ensures.0,
      administers c.self.inside c.args.self.now c.self.view_is early c.add_group.new.self (Group g) c.in-Ok.serial c.self.invariant.lined
          c.in-Ok.ensures.1.0 c.in-Ok.ensures.1.1,
    )
