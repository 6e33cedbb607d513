use Rattle.std.proofs.Common.{◌≡◌, ◌+◌, ap, length, subst, ◌∙◌}
use Rattle.std.specs.Prelude.{None, option_map}
use Rattle.model.specs.Stream.{Octets}
use Rattle.model.specs.declared.change.Change.TheVariants.{Expire}
use Rattle.model.specs.declared.change.Expiry.{Expiry}
use Rattle.spool.specs.View.{Adds}
use Rattle.spool.specs.Refusals.{expiry_refusal}
use Rattle.spool.specs.declared.errors.ExpireError.TheVariants as expire
use Rattle.kernel.specs.Errors.{of_expire}
use Rattle.kernel.specs.Kernel.{early_refusal}
use Rattle.kernel.proofs.AdminLaws.{administers, expiry_refused, expiry_tests, kept_made, of_expiry, passed}
use Rattle.kernel.proofs.Kernel.expire.Goals as goal

pub returns-in-Err-NotFound : goal.returns-in-Err-NotFound
returns-in-Err-NotFound c =
    let early = passed of_expire (early_refusal c.args.self.now) c.in_ok-may_expire.field-0 c.in_ok-may_expire.ensures in
    expiry_refused c.self.inside c.args.self.now c.self.view_is early c.expire.new.self
    (record { group = c.args.name.now; number = c.args.number }) c.as_slice.result.now c.in-Err-NotFound.field-0 expire.NotFound
    c.in-Err-NotFound.field-0-is c.as_slice.ensures.value c.in-Err-NotFound.ensures

pub returns-in-Err-Full : goal.returns-in-Err-Full
returns-in-Err-Full c =
    let early = passed of_expire (early_refusal c.args.self.now) c.in_ok-may_expire.field-0 c.in_ok-may_expire.ensures in
    expiry_refused c.self.inside c.args.self.now c.self.view_is early c.expire.new.self
    (record { group = c.args.name.now; number = c.args.number }) c.as_slice.result.now c.in-Err-Full.field-0 expire.Full
    c.in-Err-Full.field-0-is c.as_slice.ensures.value c.in-Err-Full.ensures

pub returns-in-Err-Memory : goal.returns-in-Err-Memory
returns-in-Err-Memory c =
    let early = passed of_expire (early_refusal c.args.self.now) c.in_ok-may_expire.field-0 c.in_ok-may_expire.ensures in
    expiry_refused c.self.inside c.args.self.now c.self.view_is early c.expire.new.self
    (record { group = c.args.name.now; number = c.args.number }) c.as_slice.result.now c.in-Err-Memory.field-0 expire.Memory
    c.in-Err-Memory.field-0-is c.as_slice.ensures.value c.in-Err-Memory.ensures

pub invariant_of-self-2 : goal.invariant_of-self-2
invariant_of-self-2 c =
    let early = passed of_expire (early_refusal c.args.self.now) c.in_ok-may_expire.field-0 c.in_ok-may_expire.ensures in
    kept_made c.self.inside c.args.self.now c.self.view_is early c.expire.new.self
    (Expire (record { group = c.as_slice.result.now; number = c.args.number })) c.self.invariant c.kept.ensures c.in-Ok.ensures.1.1

pub returns : goal.returns
returns c =
    let early = passed of_expire (early_refusal c.args.self.now) c.in_ok-may_expire.field-0 c.in_ok-may_expire.ensures in
    let x : Expiry = record { group = c.args.name.now; number = c.args.number } in
    let s = c.self.inside.spool in
    let done = subst (λ (g : Octets). (expiry_refusal s g x.number ≡ None) × ((c.in-Ok.serial ≡ length s.changes + 1)
    × Adds s c.expire.new.self (Expire (record { group = g; number = x.number })))) c.as_slice.ensures.value c.in-Ok.ensures in (
      expiry_tests c.self.inside c.args.self.now c.self.view_is early x ∙ ap (option_map of_expiry) done.0,
      administers c.self.inside c.args.self.now c.self.view_is early c.expire.new.self (Expire x) c.in-Ok.serial c.self.invariant.lined
          done.1.0 done.1.1,
    )
