use Rattle.std.proofs.Common.{◌≡◌, ◌≤◌, ◌∙◌, ℕ, suc, List, ap, arith, length, get_or, subst, sym, w64, to_z, of_z}
use Rattle.std.specs.Prelude.{nat_lt, slice_index, true, false}
use Rattle.std.specs.Int.{FitsUnsignedBits}
use Rattle.std.proofs.lemmas.Bool.{le-leb, ltb-true}
use Rattle.std.proofs.lemmas.Grind.{get_or_default_zero}
use Rattle.std.proofs.lemmas.Int.{to_z-of_z}
use Rattle.std.proofs.Math.IntN.{nat_abs}
use Rattle.spool_index.specs.Latest.{AreLatest}
use Rattle.spool_index.specs.View.{IndexView}
use Rattle.spool_index.proofs.Growing.{notes_count}
use Rattle.spool_index.proofs.Moments.{all_older, next_since}
use Rattle.spool_index.proofs.Index.older_than.Goals as goal

pub returns-in-Ok-clause-few : goal.returns-in-Ok-clause-few
returns-in-Ok-clause-few c = λ S is.
    omega (
      arith,
      c.moments_below.ensures.bound,
      ap (λ (ms : List ℕ). length ms) c.deref.ensures.value,
      c.self.invariant.1.each,
      ap (λ (x : IndexView). length x.notes) c.self.view_is,
      notes_count S c.args.self.now is,
    )

pub returns-in-Ok-clause-older : goal.returns-in-Ok-clause-older
returns-in-Ok-clause-older c = λ S is.
    let same : to_z w64 (of_z w64 c.args.from) ≡ c.args.from = to_z-of_z w64 c.args.from c.ranges.from in
    let moments : List ℕ = c.self.inside.latest.items in
    let size : length c.deref.result.now ≡ length moments = ap (λ (ms : List ℕ). length ms) c.deref.ensures.value in
    let latest : AreLatest moments c.args.self.now.notes =
    subst (λ (x : IndexView). AreLatest moments x.notes) c.self.view_is c.self.invariant.1 in
    let at = c.moments_below.ensures.partitioned
    (λ i j d order low passed. le-leb (suc (get_or c.deref.result.now i d)) c.in-Ok.moment (omega (
      arith,
      subst (λ (ms : List ℕ). slice_index ms i ≤ slice_index ms j) (sym c.deref.ensures.value)
          (latest.rise i j order (omega (arith, low, size))),
      get_or_default_zero c.deref.result.now i d (omega (arith, order, low)),
      get_or_default_zero c.deref.result.now j d low,
      ltb-true (get_or c.deref.result.now j d) c.in-Ok.moment passed,
    ))) in
    all_older S c.args.self.now moments c.moments_below.result c.args.from c.in-Ok.moment
    (subst (FitsUnsignedBits 64) same c.in-Ok.ensures.0) (c.in-Ok.ensures.1 ∙ ap nat_abs same) latest is
    (λ k low. subst (λ (ms : List ℕ). nat_lt (slice_index ms k) c.in-Ok.moment ≡ true) c.deref.ensures.value (at.0 k 0 (omega arith) low))

pub returns-in-Ok-clause-next : goal.returns-in-Ok-clause-next
returns-in-Ok-clause-next c = λ S is later low.
    let same : to_z w64 (of_z w64 c.args.from) ≡ c.args.from = to_z-of_z w64 c.args.from c.ranges.from in
    let moments : List ℕ = c.self.inside.latest.items in
    let size : length c.deref.result.now ≡ length moments = ap (λ (ms : List ℕ). length ms) c.deref.ensures.value in
    let latest : AreLatest moments c.args.self.now.notes =
    subst (λ (x : IndexView). AreLatest moments x.notes) c.self.view_is c.self.invariant.1 in
    let at = c.moments_below.ensures.partitioned
    (λ i j d order low passed. le-leb (suc (get_or c.deref.result.now i d)) c.in-Ok.moment (omega (
      arith,
      subst (λ (ms : List ℕ). slice_index ms i ≤ slice_index ms j) (sym c.deref.ensures.value)
          (latest.rise i j order (omega (arith, low, size))),
      get_or_default_zero c.deref.result.now i d (omega (arith, order, low)),
      get_or_default_zero c.deref.result.now j d low,
      ltb-true (get_or c.deref.result.now j d) c.in-Ok.moment passed,
    ))) in
    let all : length moments ≡ length S = omega (arith, latest.each, notes_count S c.args.self.now is) in
    next_since S c.args.self.now moments c.moments_below.result c.args.from c.in-Ok.moment
    (subst (FitsUnsignedBits 64) same c.in-Ok.ensures.0) (c.in-Ok.ensures.1 ∙ ap nat_abs same) latest is later
    (λ k less. subst (λ (ms : List ℕ). nat_lt (slice_index ms k) c.in-Ok.moment ≡ true) c.deref.ensures.value (at.0 k 0 (omega arith) less))
    (omega (arith, low, all))
    (subst (λ (ms : List ℕ). nat_lt (slice_index ms c.moments_below.result) c.in-Ok.moment ≡ false) c.deref.ensures.value
    (at.1 c.moments_below.result 0 (omega arith) (omega (arith, low, all, size))))
