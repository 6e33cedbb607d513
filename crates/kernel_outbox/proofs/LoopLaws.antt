-- The loop over the first outputs.
use Rattle.std.proofs.Common.{◌≡◌, ℕ, ◌-◌, ◌<◌, ◌≤◌, Bool, ◌||◌, List, ◌∷◌, ◌++◌, length, take, ◌∙◌, ap, arith, subst, append_assoc}
use Rattle.std.proofs.Common.{length-append}
use Rattle.std.proofs.Math.Bool.{or_assoc}
use Rattle.std.proofs.lemmas.List.{take_all}
use Rattle.kernel_outbox.specs.Lines.{HeldReply, output_of, outputs_of, whole}
use Rattle.kernel_outbox.specs.Queue.{Giving, behind, give}
use Rattle.kernel_outbox.specs.declared.made_lines.Lines.{Lines}
use Rattle.kernel_outbox.proofs.GivingLaws.{give-whole}

-- after what was given so far, the rest makes the whole
pub record GoesOn (whole rest : Giving) (before after : List ℕ) (ended : Bool) : Type 0 where
  pub given : rest.given ≡ whole.given
  pub held : rest.held ≡ whole.held
  pub ended_is : (ended || rest.ended) ≡ whole.ended
  pub octets : after ++ rest.octets ≡ before ++ whole.octets

-- the first output is given whole
pub goes_past : (made : Lines → List ℕ) (all : Giving) (p given : ℕ) (front : HeldReply) (rest held : List HeldReply)
    (before after now : List ℕ) (ended : Bool) → held ≡ front ∷ rest → front.dependency ≤ p → length after < 65_536
    → length (whole made front.reply) ≤ 65_536 - length after
    → now ≡ after ++ take (65_536 - length after) (whole made front.reply)
    → GoesOn all (give p (65_536 - length after) given (outputs_of made held)) before after ended
    → GoesOn all (give p (65_536 - length now) front.dependency (outputs_of made rest)) before now (ended || front.ends)
goes_past made all p given front rest held before after now ended held_is near some short now_is on =
    let octets : List ℕ = whole made front.reply in
    let moved : now ≡ after ++ octets = now_is ∙ ap (λ (os : List ℕ). after ++ os) (take_all (65_536 - length after) octets short) in
    let left : 65_536 - length after - length octets ≡ 65_536 - length now =
    omega (arith, ap (λ (os : List ℕ). length os) moved, length-append after octets) in
    let later : Giving = give p (65_536 - length now) front.dependency (outputs_of made rest) in
    let gives : give p (65_536 - length after) given (outputs_of made held) ≡ behind (output_of made front) later =
    ap (λ (hs : List HeldReply). give p (65_536 - length after) given (outputs_of made hs)) held_is
    ∙ give-whole p (65_536 - length after) given (output_of made front) (outputs_of made rest) near (omega arith) short
    ∙ ap (λ (n : ℕ). behind (output_of made front) (give p n front.dependency (outputs_of made rest))) left in
    let goes : GoesOn all (behind (output_of made front) later) before after ended =
    subst (λ (g : Giving). GoesOn all g before after ended) gives on in
    record {
      given = goes.given;
      held = goes.held;
      ended_is = or_assoc ended front.ends later.ended ∙ goes.ended_is;
      octets = ap (λ (os : List ℕ). os ++ later.octets) moved ∙ append_assoc after octets later.octets ∙ goes.octets;
    }
