-- Texts that grow piece by piece.
use Rattle.std.proofs.Common.{◌≡◌, ◌++◌, ◌∙◌, ap, ℕ, List, Result, Ok, Err, OnOk}
use Rattle.std.proofs.lemmas.List.{append_assoc}

-- two pieces behind a text are their sum behind it
pub then : (t u v a b : List ℕ) → u ≡ t ++ a → v ≡ u ++ b → v ≡ t ++ (a ++ b)
then t u v a b first second = second ∙ ap (λ (x : List ℕ). x ++ b) first ∙ append_assoc t a b

-- the same where the last piece may be refused
pub last : {T E : Type 0} (r : Result T E) (t u v a b : List ℕ) → u ≡ t ++ a → OnOk r (v ≡ u ++ b) → OnOk r (v ≡ t ++ (a ++ b))
last (Ok x) t u v a b first second = then t u v a b first second
last (Err x) t u v a b first second = second
