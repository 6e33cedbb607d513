-- What `==` and `!=` of octets tell.
use Rattle.std.proofs.Common.{◌≡◌, ◌≢◌, ℕ, List, refl, sym, Bool, true, false, not}
use Rattle.std.proofs.lemmas.Slice.Eq.{slice_eq-Decides}
use Rattle.std.proofs.lemmas.Bool.Decides.{Decides-eqb}
use Rattle.std.specs.Str.{bytes_eq}

pub told_apart : (xs ys : List ℕ) → true ≡ not (bytes_eq xs ys) → xs ≢ ys
told_apart xs ys told same = let equal = (slice_eq-Decides Decides-eqb xs ys (bytes_eq xs ys) refl).1 same in cc

pub told_same : (xs ys : List ℕ) → false ≡ not (bytes_eq xs ys) → xs ≡ ys
told_same xs ys told = (slice_eq-Decides Decides-eqb xs ys (bytes_eq xs ys) refl).0 (twice (bytes_eq xs ys) told)
  where
    twice : (b : Bool) → false ≡ not b → b ≡ true
    twice true e = refl
    twice false e = e

pub told_equal : (xs ys : List ℕ) → true ≡ bytes_eq xs ys → xs ≡ ys
told_equal xs ys told = (slice_eq-Decides Decides-eqb xs ys (bytes_eq xs ys) refl).0 (sym told)
