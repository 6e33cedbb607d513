use Rattle.std.proofs.Common.{◌≡◌, ◌∙◌, ℕ, sym, ap, subst}
use Rattle.std.specs.Prelude.{Result, Err}
use Rattle.kernel.specs.Kernel.{TestedOrMemory}
use Rattle.kernel_trace.specs.Events.{Makes}
use Rattle.kernel_trace.specs.Traced.{TracedView}
use Rattle.world.specs.Events.{of_kernel}
use Rattle.world.specs.World.{with_served}
use Rattle.world.specs.declared.events.StepAnswer.{StepAnswer}
use Rattle.world.specs.declared.events.StepAnswer.TheVariants as answer
use Rattle.world.specs.declared.events.StepError.{StepError}
use Rattle.world.specs.declared.events.StepError.TheVariants as error
use Rattle.world.proofs.Refusing.{DidMake, did_expire, expire_step}
use Rattle.world.proofs.World.expire.Goals.{in-Ok, in-Err}
use Rattle.world.specs.Fields.{news_in}
use Rattle.world.specs.World.{WorldView, kernel_of}
use Rattle.kernel.specs.Errors.{of_expire}
use Rattle.kernel.specs.Kernel.{early_refusal, expire_refusal_of}
use Rattle.model.specs.declared.change.Change.{Change}
use Rattle.model.specs.declared.change.Change.TheVariants.{Expire}
use Rattle.kernel_shared.specs.declared.errors.ExpireError.TheVariants.{Memory}
use Rattle.world.proofs.Tying.{Grows-administers}
use Rattle.world.proofs.Sound.{expire_runs, sound_tested}
use Rattle.world.proofs.World.expire.Goals as goal

pub invariant_of-self : goal.invariant_of-self
invariant_of-self g c =
    let old : WorldView g.row.D.Denot =
    record {
      journal = c.self.inside.journal;
      served = c.self.inside.served;
      untold = news_in c.self.inside.ticket c.self.inside.is_committed c.self.inside.has_failed;
    } in
    let change : Change = Expire (record { group = c.args.name.now; number = c.args.number }) in
    sound_tested of_expire Memory (early_refusal (kernel_of old)) (expire_refusal_of (kernel_of old) change)
    (g.D.Disk.device c.self.inside.journal.disk).tells old c.expire.new.self c.self.inside.ticket c.expire.result _
    (λ serial none done.
    Grows-administers (kernel_of old) c.expire.new.self.kernel change serial (expire_runs (kernel_of old) change none) done.kernel)
    c.kept.ensures.kernel c.expire.ensures c.self.invariant

pub returns : goal.returns
returns g c =
    let inside : WorldView g.row.D.Denot =
    record {
      journal = c.self.inside.journal;
      served = c.self.inside.served;
      untold = news_in c.self.inside.ticket c.self.inside.is_committed c.self.inside.has_failed;
    } in
    let change : Change = Expire (record { group = c.args.name.now; number = c.args.number }) in
    let served : TracedView = c.expire.new.self in
    let told : c.match-expire.result ≡ expire_step c.expire.result = elim c.match-expire.branch [
      | in-Ok w ↦ w.result-is ∙ ap expire_step (sym w.in-Ok.is)
      | in-Err w ↦ w.result-is ∙ ap Err w.expire_error.ensures ∙ ap expire_step (sym w.in-Err.is)
    ] in
    subst (λ (was : WorldView g.row.D.Denot). TestedOrMemory of_kernel error.Memory (early_refusal (kernel_of was))
    (expire_refusal_of (kernel_of was) change) was (with_served inside served) c.match-expire.result
    (λ a. (serial : ℕ) × (a ≡ answer.Made serial) × Makes was.served served change serial
    × (with_served inside served ≡ with_served was served)))
    c.self.view_is
    (subst (λ (told : Result StepAnswer StepError). TestedOrMemory of_kernel error.Memory (early_refusal (kernel_of inside))
    (expire_refusal_of (kernel_of inside) change) inside (with_served inside served) told (DidMake inside served change))
    (sym told) (did_expire inside served change c.expire.result c.expire.ensures))
