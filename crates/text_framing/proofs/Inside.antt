-- A reader's fields, at a call of `next`.
use Rattle.std.specs.Prelude.{◌≡◌, ℕ, ◌+◌, ◌-◌, List, ◌++◌, length, take, drop, replicate, Option, Some, None, IfSome}
use Rattle.std.proofs.Common.{sym, ◌∙◌, ap, subst, arith}
use Rattle.std.proofs.lemmas.List.{take_rest}
use Rattle.model.specs.declared.message.Mode.{Mode}
use Rattle.text_framing.specs.declared.Reader.TheInside.{Inside}
use Rattle.text_framing.specs.Held.{HeldInput, NoneEnds}
use Rattle.text_framing.specs.Fields.{held_of, unread, IsSearched}

-- what was searched in the mode that is asked for
pub IsSearched-mode : (awaits : Option Mode) (r : Inside) (m : Mode) → IsSearched awaits r → IfSome awaits (λ awaited. awaited ≡ m)
    → NoneEnds m (replicate r.dropped 0 ++ unread r) 0 (r.dropped + r.searched)
IsSearched-mode None r m searched same = λ n low high. absurd (omega (arith, searched.0, searched.1))
IsSearched-mode (Some awaited) r m searched same =
    subst (λ mode. NoneEnds mode (replicate r.dropped 0 ++ unread r) 0 (r.dropped + r.searched)) same searched

-- the slice after what was handed out
pub unread-slice : (items now : List ℕ) (start : ℕ) → now ≡ items → take (length now - start) (drop start now) ≡ drop start items
unread-slice items now start same = take_rest now start ∙ ap (drop start) same

-- the mode asked for in vain is the same in the value that contracts see
pub awaits_of-view : (r : Inside) (h : HeldInput) (m : Mode) → held_of r ≡ h → IfSome h.awaits (λ awaited. awaited ≡ m)
    → IfSome r.awaits (λ awaited. awaited ≡ m)
awaits_of-view r h m is same = subst (λ v. IfSome v.awaits (λ awaited. awaited ≡ m)) (sym is) same
