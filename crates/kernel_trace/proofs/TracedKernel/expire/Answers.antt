use Rattle.std.proofs.Common.{◌≡◌, ◌⊎◌, inl, inr, ℕ, ◌++◌, ◌∷◌, [], ◌∙◌, refl, sym, ap, subst}
use Rattle.std.specs.Prelude.{Option, Some, None, Result, Ok, Err}
use Rattle.std.proofs.lemmas.Result.{err_from_is_err_and}
use Rattle.kernel.specs.Errors.{of_expire}
use Rattle.kernel.specs.Kernel.{Refusal, TestedOrMemory, early_refusal, expire_refusal_of, only_tested}
use Rattle.kernel_shared.specs.declared.errors.ExpireError.{ExpireError}
use Rattle.kernel_shared.specs.declared.errors.ExpireError.TheVariants.{Memory}
use Rattle.model.specs.declared.change.Change.{Change}
use Rattle.model.specs.declared.change.Change.TheVariants.{Expire}
use Rattle.kernel_trace.specs.Events.{Makes}
use Rattle.kernel_trace.specs.Fields.{inputs, seen, view_of}
use Rattle.kernel_trace.specs.Traced.{TracedView}
use Rattle.kernel_trace.proofs.Sound.{sound_makes}
use Rattle.kernel_trace.proofs.TracedKernel.expire.Goals as goal

-- what was tested and passed has no refusal
passed : (refusal : Option Refusal) (u : Unit {0}) → only_tested of_expire refusal ≡ Ok u → refusal ≡ None
passed None u is = refl
passed (Some r) u is = absurd (cc)

-- a refusal that comes after the early tests were passed
refused : (early refusal : Option Refusal) (old new : TracedView) (result : Result ℕ ExpireError) (error : ExpireError) (done : ℕ → Type 0)
    → result ≡ Err error → early ≡ None
    → ((error ≡ Memory) × (refusal ≡ None)) ⊎ ((r : Refusal) × (refusal ≡ Some r) × (error ≡ of_expire r)) → new ≡ old
    → TestedOrMemory of_expire Memory early refusal old new result done
refused early refusal old new result error done is none (inl memory) same =
    subst (λ (r : Result ℕ ExpireError). TestedOrMemory of_expire Memory early refusal old new r done) (sym is)
    (inl (memory.0, none), same)
refused early refusal old new result error done is none (inr tested) same =
    subst (λ (r : Result ℕ ExpireError). TestedOrMemory of_expire Memory early refusal old new r done) (sym is) (inr tested, same)

pub returns-in_err-serial : goal.returns-in_err-serial
returns-in_err-serial c =
    let inside = c.self.inside in
    let change : Change = Expire (record { group = c.args.name.now; number = c.args.number }) in
    let new : TracedView = view_of c.expire.new.self inside.first inside.peers.items c.reserve.new.self.items inside.ready in
    let p = err_from_is_err_and c.from_residual-in_err-serial.result c.from_residual-in_err-serial.ensures.1 in
    let is : c.from_residual-in_err-serial.result ≡ Err c.in_err-serial.field-0.0 = p.1 ∙ ap Err p.2 in
    let early : early_refusal inside.kernel ≡ None =
    passed (early_refusal inside.kernel) _ (sym c.may_expire.ensures ∙ c.in_ok-may_expire.was) in
    subst (λ (was : TracedView). TestedOrMemory of_expire Memory (early_refusal was.kernel) (expire_refusal_of was.kernel change) was new
    c.from_residual-in_err-serial.result (Makes was new change)) c.self.view_is
    (refused (early_refusal inside.kernel) (expire_refusal_of inside.kernel change) (seen inside) new
    c.from_residual-in_err-serial.result c.in_err-serial.field-0.0 (Makes (seen inside) new change) is early c.in_err-serial.ensures.0
    (λ i. view_of (c.in_err-serial.ensures.1 i) inside.first inside.peers.items (c.reserve.ensures.items i) inside.ready))

pub invariant_of-self-2 : goal.invariant_of-self-2
invariant_of-self-2 c =
    let old = seen c.self.inside in
    let done = c.in_ok-serial.ensures.1 in
    sound_makes old _ (inputs c.self.inside.peers.items) _ c.in_ok-serial.serial
    (record {
      kernel = done;
      trace = c.push_reserved.ensures.items ∙ (λ i. c.reserve.ensures.items i ++ c.in-Ok.ensures i ∷ []);
      first = refl;
      sessions = refl;
      ready = refl;
    })
    c.self.invariant
