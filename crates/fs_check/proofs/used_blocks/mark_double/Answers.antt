use Rattle.std.proofs.Common.{ℕ, Bool, cond, List, [], ◌∷◌, sym, ap, subst}
use Rattle.std.proofs.lemmas.Bool.{OnFalse_at, OnFalse_from, ne_eqb}
use Rattle.std.specs.Bool.{OnFalse}
use Rattle.fs_check.specs.Checking.{CanMark}
use Rattle.fs_check.proofs.MarkedLists.{cannot_one}
use Rattle.fs_check.proofs.used_blocks.mark_double.Goals as goal

pub returns-clause-refused : goal.returns-clause-refused
returns-clause-refused c =
    let double = c.args.double in
    let one = ap (λ (b : Bool). cond {A = List ℕ} b [] (double ∷ [])) (ne_eqb double 0 c.if-double-eq0.false) in
    subst (λ (l : List ℕ). OnFalse c.mark.result (¬ (CanMark c.args.count l c.args.marks.now))) (sym one)
    (OnFalse_from c.mark.result (¬ (CanMark c.args.count (double ∷ []) c.args.marks.now))
    (λ some. cannot_one c.args.count double c.args.marks.now (OnFalse_at some c.mark.ensures.refused)))
