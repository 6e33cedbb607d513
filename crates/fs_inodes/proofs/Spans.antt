-- One write after another.
use Rattle.std.proofs.Common.{◌≡◌, ◌≤◌, ℕ, ◌+◌, ◌++◌, length, take, drop, sym, ◌∙◌, ap, arith, length-append, append_assoc}
use Rattle.std.proofs.lemmas.List.{append-nil, take-append-drop, take_at, drop_at, drop-drop, drop_all, length-take-le}
use Rattle.disk.specs.Image.{overwritten}
use Rattle.model.specs.Stream.{Octets}

pub overwritten_none : (at : ℕ) (octets content : Octets) → overwritten at (take 0 octets) content ≡ content
overwritten_none at octets content =
    let none : at + 0 ≡ at = omega arith in
    ap (λ (n : ℕ). take at content ++ drop n content) none ∙ take-append-drop at content

-- a write over all octets
pub overwritten_all : (octets content : Octets) → length content ≤ length octets → overwritten 0 octets content ≡ octets
overwritten_all octets content few =
    ap (λ (l : Octets). octets ++ l) (drop_all (0 + length octets) content (omega (arith, few))) ∙ append-nil octets

pub overwritten_more : (at n : ℕ) (front more content : Octets) → length front ≡ n → at + n ≤ length content
    → overwritten (at + n) more (overwritten at front content) ≡ overwritten at (front ++ more) content
overwritten_more at n front more content size fits =
    ap (λ (l : Octets). l ++ (more ++ drop (at + n + length more) (overwritten at front content))) kept
    ∙ ap (λ (l : Octets). take at content ++ front ++ (more ++ l)) rest
    ∙ append_assoc (take at content) front (more ++ drop (at + length front + length more) content)
    ∙ ap (λ (l : Octets). take at content ++ l) (sym (append_assoc front more (drop (at + length front + length more) content)))
    ∙ ap (λ (m : ℕ). take at content ++ (front ++ more ++ drop m content)) all
  where
    parts : overwritten at front content ≡ take at content ++ front ++ drop (at + length front) content
    parts = sym (append_assoc (take at content) front (drop (at + length front) content))

    long : length (take at content ++ front) ≡ at + n
    long = omega (arith, length-append (take at content) front, length-take-le at content (omega arith))

    kept : take (at + n) (overwritten at front content) ≡ take at content ++ front
    kept = ap (λ (l : Octets). take (at + n) l) parts ∙ take_at (take at content ++ front) (drop (at + length front) content) (at + n) long

    rest : drop (at + n + length more) (overwritten at front content) ≡ drop (at + length front + length more) content
    rest =
        sym (drop-drop (length more) (at + n) (overwritten at front content))
        ∙ ap (λ (l : Octets). drop (length more) l) (ap (λ (l : Octets). drop (at + n) l) parts
        ∙ drop_at (take at content ++ front) (drop (at + length front) content) (at + n) long)
        ∙ drop-drop (length more) (at + length front) content

    all : at + length front + length more ≡ at + length (front ++ more)
    all = omega (arith, length-append front more)

-- a write that goes on past the end
pub overwritten_past : (at n : ℕ) (octets content : Octets) → length content ≡ at + n → n ≤ length octets
    → overwritten at (take n octets) content ++ drop n octets ≡ overwritten at octets content
overwritten_past at n octets content size more =
    ap (λ (l : Octets). take at content ++ (take n octets ++ l) ++ drop n octets)
    (drop_all (at + length (take n octets)) content (omega (arith, front)))
    ∙ ap (λ (l : Octets). take at content ++ l ++ drop n octets) (append-nil (take n octets))
    ∙ append_assoc (take at content) (take n octets) (drop n octets)
    ∙ ap (λ (l : Octets). take at content ++ l) (take-append-drop n octets ∙ sym (append-nil octets))
    ∙ ap (λ (l : Octets). take at content ++ (octets ++ l)) (sym (drop_all (at + length octets) content (omega arith)))
  where
    front : length (take n octets) ≡ n
    front = length-take-le n octets more
