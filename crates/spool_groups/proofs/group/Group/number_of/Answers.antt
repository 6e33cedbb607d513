use Rattle.std.proofs.Common.{◌≡◌, ◌∙◌, sym, ap, subst, List, length, map, arith}
use Rattle.std.specs.Prelude.{filter, nat_le}
use Rattle.spool_groups.specs.Finding.{Rise}
use Rattle.spool_groups.specs.declared.group.Line.{Line}
use Rattle.spool_groups.proofs.Searching.{counted, filter_mapped, upto_parts}
use Rattle.spool_groups.proofs.group.Group.number_of.Goals as goal

pub returns : goal.returns
returns c = λ rise.
    let xs : List Line = c.deref.result.now in
    let same : xs ≡ c.args.self.now.lines.items = c.deref.ensures.value in
    let rises : Rise (map (λ (l : Line). l.serial) xs) =
    subst (λ (ls : List Line). Rise (map (λ (l : Line). l.serial) ls)) (sym same) rise in
    let at = c.lines_up_to.ensures.partitioned
    (λ i j d order low passed. upto_parts (λ (l : Line). l.serial) c.args.serial xs rises i j d order low passed) in
    counted (λ (l : Line). nat_le l.serial c.args.serial) xs c.lines_up_to.result c.lines_up_to.ensures.bound
    (λ k d low. at.0 k d (omega arith) low) (λ k d from low. at.1 k d from low)
    ∙ sym (filter_mapped (λ (l : Line). l.serial) (λ n. nat_le n c.args.serial) xs)
    ∙ ap (λ (ls : List Line). length (filter (λ n. nat_le n c.args.serial) (map (λ (l : Line). l.serial) ls))) same
