use Rattle.std.proofs.Common.{◌≡◌, ℕ, ◌+◌, ◌-◌, ◌*◌, take, drop, sym, refl, ◌∙◌, ap, arith}
use Rattle.std.proofs.lemmas.Slice.Eq.{slice_eq-Decides}
use Rattle.std.proofs.lemmas.Bool.Decides.{Decides-eqb}
use Rattle.fs_layout.proofs.records.find_in.Goals as goal

pub returns-then-eq : goal.returns-then-eq
returns-then-eq c =
    let place = c.loop-place.place in
    let width : place * 64 + 64 - place * 64 ≡ 64 = omega arith in
    record {
      below = omega arith;
      is = ap (λ (m : ℕ). take m (drop (place * 64) c.args.block.now)) (sym width)
          ∙ (slice_eq-Decides Decides-eqb _ _ _ (sym c.if-eq.true ∙ c.eq.ensures)).0 refl;
      lowest = c.loop-place.invariant;
    }
