use Rattle.std.proofs.Common.{◌≡◌, ◌<◌, ◌≤◌, ℕ, false, ◌+◌, ◌*◌, List, ◌++◌, ◌∷◌, [], length, drop, get_or, take, sym, ◌∙◌, ap, arith, refl}
use Rattle.std.proofs.Math.Seq.{take-add}
use Rattle.std.proofs.lemmas.List.{take_all, take_more}
use Rattle.copy_portions.specs.Copying.{flagged}
use Rattle.server_copying.proofs.copy_job.put_batch.Goals as goal

pub loop-place-preserved : goal.loop-place-preserved
loop-place-preserved c =
    let at = c.loop-place.place in
    let batch = c.args.batch.now in
    let all : length batch.numbers ≡ length c.numbers-number-items.result.now = ap length (sym c.numbers-number-items.ensures) in
    let within : at < length batch.numbers = omega (arith, all, c.loop-place-test.true) in
    let more : 4096 * at + 4096 ≡ 4096 * (at + 1) = omega arith in (
      refl,
      (
        c.push.ensures.numbers
            ∙ ap (λ (l : List ℕ). c.loop-place.portion.numbers ++ get_or l at 0 ∷ []) c.numbers-number-items.ensures
            ∙ ap (λ (l : List ℕ). l ++ get_or batch.numbers at 0 ∷ []) c.loop-place.invariant.1.0
            ∙ sym (take_more batch.numbers at 0 within),
        c.push.ensures.images ∙ ap (λ (l : List ℕ). l ++ c.image.result.now) c.loop-place.invariant.1.1
            ∙ ap (λ (l : List ℕ). take (4096 * at) batch.images ++ l) c.image.ensures.octets
            ∙ sym (take-add (4096 * at) 4096 batch.images)
            ∙ ap (λ (n : ℕ). take n batch.images) more,
      ),
    )

pub returns : goal.returns
returns c =
    let batch = c.args.batch.now in
    let all : length batch.numbers ≡ length c.numbers-number-items.result.now = ap length (sym c.numbers-number-items.ensures) in
    let ended : c.loop-place.place ≡ length batch.numbers = omega (arith, all, c.loop-place.auto.place-end, c.loop-place-test.false) in
    record {
      numbers = c.loop-place.invariant.1.0 ∙ take_all c.loop-place.place batch.numbers (omega (arith, ended));
      images = c.loop-place.invariant.1.1 ∙ ap (λ (n : ℕ). take (4096 * n) batch.images) ended;
      flags = c.remove.ensures ∙ ap (λ (l : List ℕ). flagged false c.args.left.now l) c.numbers.ensures;
    }
