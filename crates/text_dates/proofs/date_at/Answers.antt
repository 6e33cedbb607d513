use Rattle.std.proofs.Common.{arith, ◌∙◌, ◌≡◌, ◌/◌, ◌<◌, pos, ◌+ℤ◌, ◌^◌, ℕ, w64, sym, subst}
use Rattle.std.proofs.lemmas.Int.{ints, to_z_pos}
use Rattle.std.proofs.lemmas.Result.{IfOk-at_ok, IfOk-weaker}
use Rattle.jiff.specs.Words.{epoch_day, IsEpochDay, IsOnly}
use Rattle.jiff_core.specs.declared.unit.Unit.TheVariants.{Day}
use Rattle.jiff.proofs.SpanFacts.{date_add-days, can_add-days}
use Rattle.text_dates.proofs.CivilDates.{first_day}
use Rattle.text_dates.proofs.date_at.Goals as goal

pub unwrap-requires : goal.unwrap-requires
unwrap-requires c =
    let days : ℕ = c.args.moment / 86_400 in
    let few : days < 2 ^ 63 = omega (arith, c.requires) in
    let only : IsOnly Day (pos days) c.days.result = subst (λ n. IsOnly Day n c.days.result) (to_z_pos w64 days few) c.days.ensures in
    let start : epoch_day c.date.result ≡ pos 0 =
    first_day c.date.result.year c.date.result.month c.date.result.day c.date.ensures.0 (omega (arith, ints, c.date.ensures.1))
    (omega (arith, ints, c.date.ensures.2)) in
    let at : epoch_day c.date.result +ℤ pos days ≡ pos days = omega (arith, ints, start) in
    let high : days < 2_932_897 = omega (arith, c.requires) in
    c.checked_add.ensures.succeeds.1
    ((can_add-days c.date.result (pos days) c.days.result only).1
    (subst IsEpochDay (sym at) (omega (arith, ints), omega (arith, ints, high))))

pub returns : goal.returns
returns c =
    let days : ℕ = c.args.moment / 86_400 in
    let few : days < 2 ^ 63 = omega (arith, c.requires) in
    let only : IsOnly Day (pos days) c.days.result = subst (λ n. IsOnly Day n c.days.result) (to_z_pos w64 days few) c.days.ensures in
    let start : epoch_day c.date.result ≡ pos 0 =
    first_day c.date.result.year c.date.result.month c.date.result.day c.date.ensures.0 (omega (arith, ints, c.date.ensures.1))
    (omega (arith, ints, c.date.ensures.2)) in
    let at : epoch_day c.date.result +ℤ pos days ≡ pos days = omega (arith, ints, start) in
    IfOk-at_ok (λ d. epoch_day d ≡ epoch_day c.date.result +ℤ pos days) c.unwrap.ensures
    (IfOk-weaker c.checked_add.result _ _ (λ d e. e
    ∙ date_add-days c.date.result (pos days) c.days.result only) c.checked_add.ensures.value) ∙ at
