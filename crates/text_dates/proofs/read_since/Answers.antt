use Rattle.std.proofs.Common.{arith, ◌≡◌, ◌∙◌, ap, sym, ℕ, ◌<◌, ◌^◌, ℤ, pos, ◌+ℤ◌, ◌*ℤ◌, w64, to_z, of_z, FitsSigned}
use Rattle.std.specs.Prelude.{Some}
use Rattle.std.proofs.lemmas.Int.{ints, to_z_pos, to_z-of_z}
use Rattle.model.specs.Calendar.{date_at}
use Rattle.text_dates.specs.Since as halves
use Rattle.text_dates.proofs.SinceLaws.{joined, since-parts}
use Rattle.text_dates.proofs.read_since.Goals as goal

pub returns-in_default : goal.returns-in_default
returns-in_default c =
    let days = sym c.in_default.is ∙ c.days_of_text.ensures.value
    ∙ ap (λ d. halves.days_of_text d.year c.args.date.now) (c.parts_at.ensures.date ∙ ap date_at c.seconds.ensures.value) in
    ap (λ d. joined d (halves.seconds_of_text c.args.time.now)) days ∙ sym (since-parts c.args.date.now c.args.time.now c.args.moment)

pub returns-in_default-seconds_of_text : goal.returns-in_default-seconds_of_text
returns-in_default-seconds_of_text c =
    let days = sym c.in-Some.is ∙ c.days_of_text.ensures.value
    ∙ ap (λ d. halves.days_of_text d.year c.args.date.now) (c.parts_at.ensures.date ∙ ap date_at c.seconds.ensures.value) in
    let seconds = sym c.in_default-seconds_of_text.is ∙ c.seconds_of_text.ensures.value in
    ap (joined (Some c.in-Some.days)) seconds ∙ ap (λ d. joined d (halves.seconds_of_text c.args.time.now)) days
    ∙ sym (since-parts c.args.date.now c.args.time.now c.args.moment)

-- the casts lose nothing
exact : (days : ℤ) (seconds : ℕ) → FitsSigned w64 days → FitsSigned w64 (days *ℤ pos 86_400)
    → FitsSigned w64 (days *ℤ pos 86_400 +ℤ pos seconds) → seconds < 2 ^ 63
    → to_z w64 (of_z w64 (to_z w64 (of_z w64 (to_z w64 (of_z w64 days) *ℤ pos 86_400)) +ℤ to_z w64 seconds))
    ≡ days *ℤ pos 86_400 +ℤ pos seconds
exact days seconds one two three small =
    ap (λ d. to_z w64 (of_z w64 (to_z w64 (of_z w64 (d *ℤ pos 86_400)) +ℤ to_z w64 seconds))) (to_z-of_z w64 days one)
    ∙ ap (λ d. to_z w64 (of_z w64 (d +ℤ to_z w64 seconds))) (to_z-of_z w64 (days *ℤ pos 86_400) two)
    ∙ ap (λ s. to_z w64 (of_z w64 (days *ℤ pos 86_400 +ℤ s))) (to_z_pos w64 seconds small)
    ∙ to_z-of_z w64 (days *ℤ pos 86_400 +ℤ pos seconds) three

pub returns : goal.returns
returns c =
    let day = c.in-Some.days in
    let second = c.in-Some-seconds_of_text.seconds in
    let days = sym c.in-Some.is ∙ c.days_of_text.ensures.value
    ∙ ap (λ d. halves.days_of_text d.year c.args.date.now) (c.parts_at.ensures.date ∙ ap date_at c.seconds.ensures.value) in
    let seconds = sym c.in-Some-seconds_of_text.is ∙ c.seconds_of_text.ensures.value in
    let range = c.in-Some.ensures.range in
    let few = c.in-Some-seconds_of_text.ensures.small in
    ap Some (exact day second (omega (arith, ints, range.0, range.1)) (omega (arith, ints, range.0, range.1))
    (omega (arith, ints, range.0, range.1, few)) (omega (arith, few)))
    ∙ ap (joined (Some day)) seconds ∙ ap (λ d. joined d (halves.seconds_of_text c.args.time.now)) days
    ∙ sym (since-parts c.args.date.now c.args.time.now c.args.moment)
