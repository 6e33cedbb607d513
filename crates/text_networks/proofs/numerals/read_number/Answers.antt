use Rattle.std.proofs.Common.{◌≡◌, length, get_or, take, decimal, sym, ap, ◌∙◌, subst, ⊎_elim, arith}
use Rattle.std.specs.Str.Parse.{AllDigits, digits_value}
use Rattle.std.proofs.lemmas.Bool.{false≢true, eq-eqb, eqb-true}
use Rattle.std.proofs.lemmas.Int.Digits.{digits_more, digits_value_more}
use Rattle.std.proofs.lemmas.List.{take_all}
use Rattle.std.proofs.lemmas.Str.{digit_value_digit}
use Rattle.text_networks.proofs.Numeral.{shape, digit_of_decimal, value_of_decimal, front_below, decimal_of_digits}
use Rattle.text_networks.proofs.numerals.read_number.Goals as goal
use Rattle.text_networks.proofs.numerals.read_number.Goals.{then-is_empty-via-then-is_empty}
use Rattle.text_networks.proofs.numerals.read_number.Goals.{then-is_empty-via-else-is_empty+then-numeral-gt-MOST_DIGITS}
use Rattle.text_networks.proofs.numerals.read_number.Goals.{else-numeral-eq48-via-then-numeral-eq48+else-numeral-gt1}
use Rattle.text_networks.proofs.numerals.read_number.Goals.{else-numeral-eq48-via-else-numeral-eq48}

pub returns-then-is_empty-clause-none : goal.returns-then-is_empty-clause-none
returns-then-is_empty-clause-none c =
    λ n small e.
    let right = shape c.args.numeral.now n (omega (arith, small, c.requires)) e in
    elim c.then-is_empty.branch [
      | then-is_empty-via-then-is_empty w ↦ omega (arith, right.some, eqb-true _ _ (sym c.is_empty.ensures ∙ w.if-is_empty.true))
      | then-is_empty-via-else-is_empty+then-numeral-gt-MOST_DIGITS w ↦ omega (arith, right.few, w.if-numeral-gt-MOST_DIGITS.true)
    ]

pub returns-then-numeral-gt1-clause-none : goal.returns-then-numeral-gt1-clause-none
returns-then-numeral-gt1-clause-none c =
    λ n small e.
    let right = shape c.args.numeral.now n (omega (arith, small, c.requires)) e in
    omega (arith, right.lone_zero c.if-numeral-eq48.true, c.if-numeral-gt1.true)

pub returns-then-not-is_ascii_digit-clause-none : goal.returns-then-not-is_ascii_digit-clause-none
returns-then-not-is_ascii_digit-clause-none c =
    λ n small e.
    let digit =
    digit_of_decimal c.args.numeral.now n c.loop-digit.digit-index (omega (arith, small, c.requires)) e c.loop-digit-test.true in
    ⊎_elim (λ low. omega (arith, low, digit.0)) (λ high. omega (arith, high, digit.1)) c.if-not-is_ascii_digit.ensures.cases

pub overflow_mul-number : goal.overflow_mul-number
overflow_mul-number c =
    omega (
      arith,
      c.loop-digit.invariant.value,
      front_below c.args.numeral.now c.loop-digit.digit-index c.loop-digit.invariant.digits
          c.if-numeral-gt-MOST_DIGITS.false,
    )

pub overflow_add-number : goal.overflow_add-number
overflow_add-number c =
    omega (
      arith,
      c.from.ensures,
      c.if-not-is_ascii_digit.ensures.cases.1,
      c.loop-digit.invariant.value,
      front_below c.args.numeral.now c.loop-digit.digit-index c.loop-digit.invariant.digits c.if-numeral-gt-MOST_DIGITS.false,
    )

pub loop-digit-preserved : goal.loop-digit-preserved
loop-digit-preserved c =
    let text = c.args.numeral.now in
    let i = c.loop-digit.digit-index in
    record {
      digits = digits_more 10 text i c.loop-digit-test.true c.loop-digit.invariant.digits c.if-not-is_ascii_digit.ensures.bound;
      value = omega (
        arith,
        digits_value_more 10 text i c.loop-digit-test.true,
        digit_value_digit (get_or text i 0) c.if-not-is_ascii_digit.ensures.cases,
        c.from.ensures,
        c.loop-digit.invariant.value,
      );
    }

pub returns-then-number-limit-clause-none : goal.returns-then-number-limit-clause-none
returns-then-number-limit-clause-none c =
    λ n small e.
    let text = c.args.numeral.now in
    let whole : take c.loop-digit.digit-index text ≡ text = take_all c.loop-digit.digit-index text (omega arith) in
    omega (
      arith,
      c.if-number-limit.true,
      small,
      c.loop-digit.invariant.value,
      ap (digits_value 10) whole,
      value_of_decimal text n (omega (arith, small, c.requires)) e,
    )

pub returns-else-number-limit-clause-found : goal.returns-else-number-limit-clause-found
returns-else-number-limit-clause-found c =
    let text = c.args.numeral.now in
    let whole : take c.loop-digit.digit-index text ≡ text = take_all c.loop-digit.digit-index text (omega arith) in
    let all = subst (AllDigits 10) whole c.loop-digit.invariant.digits in
    let nonempty : length text ≡ 0 → ⊥ = λ none. false≢true (sym c.if-is_empty.false ∙ c.is_empty.ensures ∙ eq-eqb _ _ none) in
    let lone : get_or text 0 0 ≡ 48 → length text ≡ 1 =
    λ zero.
    elim c.else-numeral-eq48.branch [
      | else-numeral-eq48-via-then-numeral-eq48+else-numeral-gt1 w ↦ omega (arith, w.if-numeral-gt1.false, nonempty)
      | else-numeral-eq48-via-else-numeral-eq48 w ↦ absurd (w.if-numeral-eq48.false zero)
    ]
    in
    let value : c.loop-digit.number ≡ digits_value 10 text = c.loop-digit.invariant.value ∙ ap (digits_value 10) whole in (
      decimal_of_digits text all (omega (arith, nonempty)) c.if-numeral-gt-MOST_DIGITS.false lone ∙ ap decimal (sym value),
      c.if-number-limit.false,
    )
