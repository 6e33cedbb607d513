use Rattle.std.proofs.Common.{add-one, ◌≡◌, ◌==◌, ◌++◌, ◌∷◌, ◌+◌, ◌<◌, ◌∙◌, if◌then◌else◌, ap, refl, sym, arith}
use Rattle.std.proofs.Common.{ℕ, zero, suc, List, [], length, map, take, drop, get_or}
use Rattle.std.proofs.Math.ListN.{set}
use Rattle.std.proofs.lemmas.Bool.{cond-false, eqb-true, false_from_ne_true}
use Rattle.text_overview.proofs.replace_tabs.Goals as goal
use Rattle.text_overview.proofs.replace_tabs.Goals.{then-octet-eq-TAB, else-octet-eq-TAB}

abbrev shown : ℕ → ℕ
shown octet = if octet == 9 then 32 else octet

kept : (n : ℕ) → (n ≡ 9 → ⊥) → n ≡ shown n
kept n other = sym (cond-false (n == 9) 32 n (false_from_ne_true (n == 9) (λ same. other (eqb-true n 9 same))))

-- the first i octets are those that are shown
abbrev mixed : List ℕ → ℕ → List ℕ
mixed xs i = map shown (take i xs) ++ drop i xs

next_is : (xs : List ℕ) (i : ℕ) → i < length xs → get_or (mixed xs i) i 0 ≡ get_or xs i 0
next_is [] i low = absurd (omega (arith, low))
next_is (x ∷ xs) zero low = refl
next_is (x ∷ xs) (suc i) low = next_is xs i (omega (arith, low))

one_more : (xs : List ℕ) (i y : ℕ) → i < length xs → y ≡ shown (get_or xs i 0) → set (mixed xs i) i y ≡ mixed xs (suc i)
one_more [] i y low is = absurd (omega (arith, low))
one_more (x ∷ xs) zero y low is = ap (λ v. v ∷ xs) is
one_more (x ∷ xs) (suc i) y low is = ap (λ l. shown x ∷ l) (one_more xs i y (omega (arith, low)) is)

pub loop-octet-preserved : goal.loop-octet-preserved
loop-octet-preserved c =
    let xs = c.args.octets.now in
    let i = c.loop-octet.octet-index in
    let low = c.loop-octet-test.true in
    let so_far = c.loop-octet.invariant in
    let here : get_or c.loop-octet.octets i 0 ≡ get_or xs i 0 = ap (λ l. get_or l i 0) so_far ∙ next_is xs i low in
    let next : mixed xs (suc i) ≡ mixed xs (i + 1) = ap (mixed xs) (sym (add-one i)) in
    elim c.if-octet-eq-TAB.branch [
      | then-octet-eq-TAB w ↦
          let tab : get_or xs i 0 ≡ 9 = sym here ∙ w.if-octet-eq-TAB.true in
          w.octets-is ∙ ap (λ l. set l i 32) so_far ∙ one_more xs i 32 low (sym (ap shown tab)) ∙ next
      | else-octet-eq-TAB w ↦
          w.octets-is ∙ ap (λ v. set c.loop-octet.octets i v) here ∙ ap (λ l. set l i (get_or xs i 0)) so_far
          ∙ one_more xs i (get_or xs i 0) low (kept (get_or xs i 0) (λ tab. w.if-octet-eq-TAB.false (here ∙ tab))) ∙ next
    ]
