-- What is handed out of a reply on its way, and what is made of it.
use Rattle.std.proofs.Common.{◌≡◌, ℕ, ◌+◌, ◌≤◌, List, [], ◌++◌, length, take, drop, refl, sym, ◌∙◌, ap, arith, append-nil}
use Rattle.std.proofs.Common.{length-append, length-drop}
use Rattle.std.proofs.Math.ListN.{drop_of_length-le}
use Rattle.std.proofs.lemmas.List.{drop-append-le, drop-drop, take-append-le, take_all}
use Rattle.kernel_outbox.specs.Lines.{whole}
use Rattle.kernel_outbox.specs.Numbers.{last_line, number_lines}
use Rattle.kernel_outbox.specs.Outgoing.{IsSound, IsStocked, outgoing}
use Rattle.kernel_outbox.specs.declared.made_lines.Lines.{Lines}
use Rattle.kernel_outbox.specs.declared.outgoing.Rest.{Rest}
use Rattle.kernel_outbox.specs.declared.outgoing.Rest.TheVariants as rest
use Rattle.kernel_outbox.proofs.LinesLaws.{AreCounted}

-- the octets that are still to be made
abbrev still : (Lines → List ℕ) → Rest → List ℕ
still made rest.Nothing = []
still made (rest.Numbers numbers) = number_lines numbers.next numbers.left ++ last_line
still made (rest.Lines lines) = made lines

outgoing_is : (made : Lines → List ℕ) (octets : List ℕ) (start : ℕ) (left : Rest)
    → whole made (outgoing octets start left) ≡ drop start octets ++ still made left
outgoing_is made octets start rest.Nothing = refl
outgoing_is made octets start (rest.Numbers numbers) = refl
outgoing_is made octets start (rest.Lines lines) = ap (λ (os : List ℕ). os ++ made lines) (append-nil (drop start octets))

-- the first octets are handed out
pub handed_out : (made : Lines → List ℕ) (octets : List ℕ) (start count : ℕ) (left : Rest) → count ≤ length (drop start octets)
    → whole made (outgoing octets (start + count) left) ≡ drop count (whole made (outgoing octets start left))
handed_out made octets start count left within =
    outgoing_is made octets (start + count) left
    ∙ ap (λ (os : List ℕ). os ++ still made left) (sym (drop-drop count start octets))
    ∙ sym (drop-append-le count (drop start octets) (still made left) within)
    ∙ ap (drop count) (sym (outgoing_is made octets start left))

-- as many octets as fit, of those that are made
pub taken_out : (made : Lines → List ℕ) (octets : List ℕ) (start count : ℕ) (left : Rest) → count ≤ length (drop start octets)
    → take count (drop start octets) ≡ take count (whole made (outgoing octets start left))
taken_out made octets start count left within =
    sym (take-append-le count (drop start octets) (still made left) within)
    ∙ ap (take count) (sym (outgoing_is made octets start left))

-- where no more octets are made than a release hands out, all are made
all_made : (made : Lines → List ℕ) (octets : List ℕ) (start : ℕ) (left : Rest) → IsStocked octets start left
    → length (drop start octets) ≤ 65_536
    → still made left ≡ []
all_made made octets start rest.Nothing stocked few = refl
all_made made octets start (rest.Numbers numbers) stocked few = absurd (omega (arith, few, stocked, length-drop start octets))
all_made made octets start (rest.Lines lines) stocked few = absurd (omega (arith, few, stocked, length-drop start octets))

whole_is : (made : Lines → List ℕ) (octets : List ℕ) (start : ℕ) (left : Rest) → IsStocked octets start left
    → length (drop start octets) ≤ 65_536
    → whole made (outgoing octets start left) ≡ drop start octets
whole_is made octets start left stocked few =
    outgoing_is made octets start left
    ∙ ap (λ (os : List ℕ). drop start octets ++ os) (all_made made octets start left stocked few)
    ∙ append-nil (drop start octets)

-- all of them fit
pub all_out : (made : Lines → List ℕ) (octets : List ℕ) (start room : ℕ) (left : Rest) → IsStocked octets start left
    → length (drop start octets) ≤ room → room ≤ 65_536
    → drop start octets ≡ take room (whole made (outgoing octets start left))
all_out made octets start room left stocked fits few =
    sym (take_all room (drop start octets) fits)
    ∙ ap (take room) (sym (whole_is made octets start left stocked (omega (arith, fits, few))))

pub none_left : (made : Lines → List ℕ) (octets : List ℕ) (start end room : ℕ) (left : Rest) → IsStocked octets start left
    → length (drop start octets) ≤ room → room ≤ 65_536 → length octets ≤ end
    → whole made (outgoing octets end left) ≡ drop room (whole made (outgoing octets start left))
none_left made octets start end room left stocked fits few past =
    outgoing_is made octets end left
    ∙ (λ i. drop_of_length-le octets {i = end} past i
    ++ all_made made octets start left stocked (omega (arith, fits, few)) i)
    ∙ sym (drop_of_length-le (drop start octets) {i = room} fits)
    ∙ ap (drop room) (sym (whole_is made octets start left stocked (omega (arith, fits, few))))

-- lines that a source made, and those that are left
pub lined_sound : (made : Lines → List ℕ) (keeps : Lines → Type 0) → AreCounted made keeps → (capacity more start : ℕ)
    (octets after : List ℕ) (lines left : Lines) → IsSound capacity octets start (rest.Lines lines) → keeps lines → keeps left
    → after ++ made left ≡ drop start octets ++ made lines → capacity ≤ more → IsSound more after 0 (rest.Lines left)
lined_sound made keeps counted capacity more start octets after lines left sound kept still_kept same larger =
    let sizes : length after + left.octets ≡ length (drop start octets) + lines.octets =
    omega (
      arith,
      counted lines kept,
      counted left still_kept,
      ap (λ (os : List ℕ). length os) same,
      length-append after (made left),
      length-append (drop start octets) (made lines),
    ) in
    let before : length (drop start octets ++ []) ≡ length (drop start octets) = ap (λ (os : List ℕ). length os)
    (append-nil (drop start octets)) in
    let now : length (after ++ []) ≡ length after = ap (λ (os : List ℕ). length os) (append-nil after) in
    record {
      within = omega arith;
      short = omega (arith, sizes, before, now, sound.short);
      room = omega (arith, sizes, before, now, sound.room, larger);
    }
