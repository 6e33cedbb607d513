-- What a command did stays what it was.
use Rattle.std.proofs.Common.{◌≡◌, sym, subst}
use Rattle.std.specs.Prelude.{Result, Ok, Err, IfOk, IsErr, OnErr, OnOk}

module _ {T E : Type 0} (P : T → Type 0) where
  pub stays_done : (done told : Result T E) → OnOk done (told ≡ done) → OnErr done (IsErr told) → IfOk done P → IfOk told P
  stays_done (Ok t) told same _ holds = subst (λ (r : Result T E). IfOk r P) (sym same) holds
  stays_done (Err e) (Ok t) _ err _ = absurd (no_err err)
    where
      no_err : IsErr {T = T} {E = E} (Ok t) → ⊥
      no_err is = cc
  stays_done (Err e) (Err f) _ _ _ = tt
