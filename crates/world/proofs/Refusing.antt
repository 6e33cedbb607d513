-- The operator's changes that are refused: the kernel's refusal is told as the world tells it.
use Rattle.std.proofs.Common.{◌≡◌, ◌⊎◌, inl, inr, ℕ, Bool, true, false, refl, ◌∙◌, ap, subst, length}
use Rattle.std.specs.Prelude.{Some, None, Result, Ok, Err, if◌then◌else◌, nat_lt}
use Rattle.kernel.specs.Errors.{of_admin, of_expire}
use Rattle.kernel.specs.Kernel.{
  KernelView,
  Refusal,
  TestedOrMemory,
  admin_refusal_of,
  early_refusal,
  expire_refusal_of,
  makes_again,
  most_dirty,
}
use Rattle.kernel.specs.Kernel.{takes_none}
use Rattle.kernel.specs.Kernel.{Exists, Full, Halted, LaterDirty, NotFound}
use Rattle.kernel_shared.specs.declared.errors.AdminError.{AdminError}
use Rattle.kernel_shared.specs.declared.errors.AdminError.TheVariants as admin
use Rattle.kernel_shared.specs.declared.errors.ExpireError.{ExpireError}
use Rattle.kernel_shared.specs.declared.errors.ExpireError.TheVariants as expire
use Rattle.model.specs.Room.{is_full}
use Rattle.model.specs.declared.change.Change.{Change}
use Rattle.kernel_trace.specs.Events.{Makes}
use Rattle.kernel_trace.specs.Traced.{TracedView}
use Rattle.world.specs.Events.{of_admin_error, of_expire_error, of_kernel}
use Rattle.world.specs.World.{WorldView, kernel_of, with_served}
use Rattle.world.specs.declared.events.StepAnswer.{StepAnswer}
use Rattle.world.specs.declared.events.StepAnswer.TheVariants as answer
use Rattle.world.specs.declared.events.StepError.{StepError}
use Rattle.world.specs.declared.events.StepError.TheVariants as error

-- ---- which refusals there are

expire_chosen : (halted late none full : Bool) (r : Refusal)
    → (if halted then Some Halted else if late then Some LaterDirty else if none then Some NotFound else if full then Some Full else None)
    ≡ Some r → of_expire_error (of_expire r) ≡ of_kernel r
expire_chosen true late none full r is =
    let same : Halted ≡ r = cc in subst (λ (x : Refusal). of_expire_error (of_expire x) ≡ of_kernel x) same refl
expire_chosen false true none full r is =
    let same : LaterDirty ≡ r = cc in subst (λ (x : Refusal). of_expire_error (of_expire x) ≡ of_kernel x) same refl
expire_chosen false false true full r is =
    let same : NotFound ≡ r = cc in subst (λ (x : Refusal). of_expire_error (of_expire x) ≡ of_kernel x) same refl
expire_chosen false false false true r is =
    let same : Full ≡ r = cc in subst (λ (x : Refusal). of_expire_error (of_expire x) ≡ of_kernel x) same refl
expire_chosen false false false false r is = absurd (cc)

expire_told : (k : KernelView) (c : Change) (r : Refusal) → expire_refusal_of k c ≡ Some r → of_expire_error (of_expire r) ≡ of_kernel r
expire_told k c r is =
    expire_chosen k.halted (nat_lt (most_dirty (length k.blocks)) (length k.dirty)) (takes_none k.spool c)
    (is_full k.blocks k.inodes k.spool (Some c)) r is

admin_chosen : (halted late again full : Bool) (r : Refusal)
    → (if halted then Some Halted else if late then Some LaterDirty else if again then Some Exists else if full then Some Full else None)
    ≡ Some r → of_admin_error (of_admin r) ≡ of_kernel r
admin_chosen true late again full r is =
    let same : Halted ≡ r = cc in subst (λ (x : Refusal). of_admin_error (of_admin x) ≡ of_kernel x) same refl
admin_chosen false true again full r is =
    let same : LaterDirty ≡ r = cc in subst (λ (x : Refusal). of_admin_error (of_admin x) ≡ of_kernel x) same refl
admin_chosen false false true full r is =
    let same : Exists ≡ r = cc in subst (λ (x : Refusal). of_admin_error (of_admin x) ≡ of_kernel x) same refl
admin_chosen false false false true r is =
    let same : Full ≡ r = cc in subst (λ (x : Refusal). of_admin_error (of_admin x) ≡ of_kernel x) same refl
admin_chosen false false false false r is = absurd (cc)

admin_told : (k : KernelView) (c : Change) (r : Refusal) → admin_refusal_of k c ≡ Some r → of_admin_error (of_admin r) ≡ of_kernel r
admin_told k c r is =
    admin_chosen k.halted (nat_lt (most_dirty (length k.blocks)) (length k.dirty)) (makes_again k.spool c)
    (is_full k.blocks k.inodes k.spool (Some c)) r is

-- ---- the answers

-- what the world answers for the answer of its kernel
abbrev pub expire_step : Result ℕ ExpireError → Result StepAnswer StepError
expire_step (Ok serial) = Ok (answer.Made serial)
expire_step (Err e) = Err (of_expire_error e)

abbrev pub admin_step : Result ℕ AdminError → Result StepAnswer StepError
admin_step (Ok serial) = Ok (answer.Made serial)
admin_step (Err e) = Err (of_admin_error e)

-- a group was made, or articles were removed, with this serial
abbrev pub DidMake : {D : Type 0} → WorldView D → TracedView → Change → StepAnswer → Type 0
DidMake was served change a =
    (serial : ℕ) × (a ≡ answer.Made serial) × Makes was.served served change serial × (with_served was served ≡ with_served was served)

pub did_expire : {D : Type 0} (was : WorldView D) (served : TracedView) (change : Change) (result : Result ℕ ExpireError)
    → TestedOrMemory of_expire expire.Memory (early_refusal (kernel_of was)) (expire_refusal_of (kernel_of was) change) was.served served
    result
    (Makes was.served served change)
    → TestedOrMemory of_kernel error.Memory (early_refusal (kernel_of was)) (expire_refusal_of (kernel_of was) change) was
    (with_served was served) (expire_step result) (DidMake was served change)
did_expire was served change (Ok serial) (none, makes) = (none, (serial, refl, makes, refl))
did_expire was served change (Err e) (inl (is, early), same) =
    (inl (ap of_expire_error is, early), ap (λ (s : TracedView). with_served was s) same)
did_expire was served change (Err e) (inr (r, some, is), same) =
    (inr (r, some, ap of_expire_error is ∙ expire_told (kernel_of was) change r some), ap (λ (s : TracedView). with_served was s) same)

pub did_admin : {D : Type 0} (was : WorldView D) (served : TracedView) (change : Change) (result : Result ℕ AdminError)
    → TestedOrMemory of_admin admin.Memory (early_refusal (kernel_of was)) (admin_refusal_of (kernel_of was) change) was.served served
    result
    (Makes was.served served change)
    → TestedOrMemory of_kernel error.Memory (early_refusal (kernel_of was)) (admin_refusal_of (kernel_of was) change) was
    (with_served was served) (admin_step result) (DidMake was served change)
did_admin was served change (Ok serial) (none, makes) = (none, (serial, refl, makes, refl))
did_admin was served change (Err e) (inl (is, early), same) =
    (inl (ap of_admin_error is, early), ap (λ (s : TracedView). with_served was s) same)
did_admin was served change (Err e) (inr (r, some, is), same) =
    (inr (r, some, ap of_admin_error is ∙ admin_told (kernel_of was) change r some), ap (λ (s : TracedView). with_served was s) same)
