-- Where a text is parted.
use Rattle.std.specs.Prelude.{◌≡◌, ℕ, ◌+◌, ◌-◌, ◌==◌, List, length, take, drop, Some, None, option_map}
use Rattle.std.specs.List.{position}
use Rattle.std.proofs.Common.{◌∙◌, ap, arith, length-drop}
use Rattle.std.proofs.lemmas.List.{take_all}
use Rattle.program_script.specs.Words.{split_at}

pub parted : (octet : ℕ) (text : List ℕ) (at : ℕ) → Some at ≡ position (λ x. x == octet) text
    → Some (take at text, take (length text - (at + 1)) (drop (at + 1) text)) ≡ split_at octet text
parted octet text at found =
    ap (λ rest. Some (take at text, rest))
    (take_all (length text - (at + 1)) (drop (at + 1) text) (omega (arith, length-drop (at + 1) text)))
    ∙ ap (option_map (λ i. (take i text, drop (i + 1) text))) found

pub unparted : (octet : ℕ) (text : List ℕ) → None ≡ position (λ x. x == octet) text → None ≡ split_at octet text
unparted octet text none = ap (option_map (λ i. (take i text, drop (i + 1) text))) none
