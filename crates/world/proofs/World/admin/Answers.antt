use Rattle.std.proofs.Common.{◌≡◌, ◌∙◌, ℕ, sym, ap, subst}
use Rattle.std.specs.Prelude.{Result, Err}
use Rattle.kernel.specs.Kernel.{TestedOrMemory}
use Rattle.kernel_trace.specs.Events.{Makes}
use Rattle.kernel_trace.specs.Traced.{TracedView}
use Rattle.world.specs.Events.{of_kernel}
use Rattle.world.specs.World.{with_served}
use Rattle.world.specs.declared.events.StepAnswer.{StepAnswer}
use Rattle.world.specs.declared.events.StepAnswer.TheVariants as answer
use Rattle.world.specs.declared.events.StepError.{StepError}
use Rattle.world.specs.declared.events.StepError.TheVariants as error
use Rattle.world.proofs.Refusing.{DidMake, did_admin, admin_step}
use Rattle.world.proofs.World.admin.Goals.{in-Ok, in-Err}
use Rattle.world.specs.Fields.{news_in}
use Rattle.world.specs.World.{WorldView, kernel_of}
use Rattle.kernel.specs.Errors.{of_admin}
use Rattle.kernel.specs.Kernel.{admin_refusal_of, early_refusal}
use Rattle.model.specs.declared.change.Change.{Change}
use Rattle.model.specs.declared.change.Change.TheVariants.{Group}
use Rattle.text_names.specs.Requests.{group_of}
use Rattle.kernel_shared.specs.declared.errors.AdminError.TheVariants.{Memory}
use Rattle.world.proofs.Tying.{Grows-administers}
use Rattle.world.proofs.Sound.{admin_runs, sound_tested}
use Rattle.world.proofs.World.admin.Goals as goal

pub invariant_of-self : goal.invariant_of-self
invariant_of-self g c =
    let old : WorldView g.row.D.Denot =
    record {
      journal = c.self.inside.journal;
      served = c.self.inside.served;
      untold = news_in c.self.inside.ticket c.self.inside.is_committed c.self.inside.has_failed;
    } in
    let change : Change = Group (group_of c.args.group.now) in
    sound_tested of_admin Memory (early_refusal (kernel_of old)) (admin_refusal_of (kernel_of old) change)
    (g.D.Disk.device c.self.inside.journal.disk).tells old c.admin.new.self c.self.inside.ticket c.admin.result _
    (λ serial none done.
    Grows-administers (kernel_of old) c.admin.new.self.kernel change serial (admin_runs (kernel_of old) change none) done.kernel)
    c.kept.ensures.kernel c.admin.ensures c.self.invariant

pub returns : goal.returns
returns g c =
    let inside : WorldView g.row.D.Denot =
    record {
      journal = c.self.inside.journal;
      served = c.self.inside.served;
      untold = news_in c.self.inside.ticket c.self.inside.is_committed c.self.inside.has_failed;
    } in
    let change : Change = Group (group_of c.args.group.now) in
    let served : TracedView = c.admin.new.self in
    let told : c.match-admin.result ≡ admin_step c.admin.result = elim c.match-admin.branch [
      | in-Ok w ↦ w.result-is ∙ ap admin_step (sym w.in-Ok.is)
      | in-Err w ↦ w.result-is ∙ ap Err w.admin_error.ensures ∙ ap admin_step (sym w.in-Err.is)
    ] in
    subst (λ (was : WorldView g.row.D.Denot). TestedOrMemory of_kernel error.Memory (early_refusal (kernel_of was))
    (admin_refusal_of (kernel_of was) change) was (with_served inside served) c.match-admin.result
    (λ a. (serial : ℕ) × (a ≡ answer.Made serial) × Makes was.served served change serial
    × (with_served inside served ≡ with_served was served)))
    c.self.view_is
    (subst (λ (told : Result StepAnswer StepError). TestedOrMemory of_kernel error.Memory (early_refusal (kernel_of inside))
    (admin_refusal_of (kernel_of inside) change) inside (with_served inside served) told (DidMake inside served change))
    (sym told) (did_admin inside served change c.admin.result c.admin.ensures))
