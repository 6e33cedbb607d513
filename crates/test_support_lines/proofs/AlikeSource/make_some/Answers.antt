use Rattle.std.proofs.Common.{◌≡◌, ◌∙◌, ℕ, ◌+◌, ◌-◌, List, ◌++◌, ap, append_assoc, arith, replicate}
use Rattle.std.proofs.lemmas.List.{replicate-append-replicate}
use Rattle.test_support_lines.proofs.AlikeSource.make_some.Goals as goal

pub returns-clause-made : goal.returns-clause-made
returns-clause-made c =
    let before = c.args.octets.now.items in
    let all = c.args.lines.octets in
    let some = c.min-some.result in
    let left : some + (all - some) ≡ all = omega (arith, c.min-some.ensures) in
    ap (λ (octets : List ℕ). octets ++ replicate (all - some) 108) c.push_alike.ensures.items
    ∙ append_assoc before (replicate some 108) (replicate (all - some) 108)
    ∙ ap (λ (octets : List ℕ). before ++ octets) (replicate-append-replicate some (all - some) 108)
    ∙ ap (λ (n : ℕ). before ++ replicate n 108) left
