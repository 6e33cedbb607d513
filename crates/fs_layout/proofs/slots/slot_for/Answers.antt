use Rattle.std.proofs.Common.{◌≡◌, ℕ, suc, ◌+◌, List, ◌∷◌, [], ◌++◌, length, replicate, drop, ◌∙◌, ap, arith}
use Rattle.std.proofs.lemmas.List.{drop-replicate}
use Rattle.disk.specs.Image.{overwritten}
use Rattle.fs_layout.proofs.slots.slot_for.Goals as goal

filled : (v : ℕ) (name rest : List ℕ) → overwritten 1 name (v ∷ rest) ≡ v ∷ name ++ drop (length name) rest
filled v name rest =
    let place : 1 + length name ≡ suc (length name) = omega arith in
    ap (λ (n : ℕ). (v ∷ []) ++ (name ++ drop n (v ∷ rest))) place

pub returns : goal.returns
returns c =
    c.put_part.ensures ∙ filled (length c.args.name.now) c.args.name.now (replicate 63 0)
    ∙ ap (λ (l : List ℕ). length c.args.name.now ∷ c.args.name.now ++ l) (drop-replicate (length c.args.name.now) 63 0)
