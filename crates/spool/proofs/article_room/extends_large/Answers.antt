use Rattle.std.proofs.Common.{◌≡◌, ◌∙◌, Bool, true, ℕ, List, [], get_or, ap, sym, subst}
use Rattle.std.specs.Prelude.{◌||◌}
use Rattle.std.proofs.lemmas.List.Folds.{list_any_more}
use Rattle.model.specs.Spool.{is_here}
use Rattle.spool_reading.proofs.Sizes.{name_here}
use Rattle.spool.proofs.Large.{any_at, one_large}
use Rattle.spool.proofs.article_room.extends_large.Goals as goal

pub returns-then-is_large_in : goal.returns-then-is_large_in
returns-then-is_large_in c = λ S is here.
    let j = c.loop-name.name-index in
    let gs = c.args.groups.now in
    let name : c.as_slice.result.now ≡ get_or gs j [] =
    name_here gs j c.name-item.result c.as_slice.result.now c.loop-name-test.true c.as_slice.ensures c.name-item.is in
    let there = subst (λ (g : List ℕ). is_here S g ≡ true) (sym name) (here j c.loop-name-test.true) in
    let its = c.is_large_in.ensures S is there in
    sym (any_at (one_large S) gs j [] c.loop-name-test.true (ap (one_large S) (sym name) ∙ sym its ∙ c.if-is_large_in.true))

pub loop-name-preserved : goal.loop-name-preserved
loop-name-preserved c = λ S is here.
    let j = c.loop-name.name-index in
    let gs = c.args.groups.now in
    let name : c.as_slice.result.now ≡ get_or gs j [] =
    name_here gs j c.name-item.result c.as_slice.result.now c.loop-name-test.true c.as_slice.ensures c.name-item.is in
    let there = subst (λ (g : List ℕ). is_here S g ≡ true) (sym name) (here j c.loop-name-test.true) in
    let its = c.is_large_in.ensures S is there in
    list_any_more (one_large S) gs j [] c.loop-name-test.true
    ∙ ap (λ (b : Bool). b || one_large S (get_or gs j [])) (c.loop-name.invariant S is here)
    ∙ ap (one_large S) (sym name) ∙ sym its ∙ c.if-is_large_in.false
