-- A call that passed its tests, and another answer to it.
use Rattle.std.proofs.Common.{Ok, Option, None, Some}
use Rattle.kernel.specs.Kernel.{Refusal, Tested}

pub tested_so : {A B E V : Type 0} (as_error : Refusal → E) (memory : E) (refusal : Option Refusal) (old mid new : V) (x : A) (y : B)
    (first : A → Type 0) (second : B → Type 0) → (first x → second y) → Tested as_error memory refusal old mid (Ok x) first
    → Tested as_error memory refusal old new (Ok y) second
tested_so as_error memory None old mid new x y first second goes h = goes h
tested_so as_error memory (Some r) old mid new x y first second goes h = absurd (cc (h.0))
