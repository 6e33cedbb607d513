use Rattle.std.proofs.Common.{◌≡◌, ◌∙◌, ◌-◌, ◌<◌, ℕ, List, sym, ap, subst, map, arith, drop, get_or, length, length-drop}
use Rattle.std.proofs.Common.{take}
use Rattle.std.specs.Prelude.{◌==◌, max, min, nat_le, true}
use Rattle.std.specs.List.{list_any}
use Rattle.std.proofs.lemmas.List.{take_all}
use Rattle.spool_groups.specs.Finding.{Rise, contains}
use Rattle.spool_groups.specs.Shown.{shown}
use Rattle.spool_groups.specs.declared.group.Line.{Line}
use Rattle.spool_groups.proofs.Searching.{upto_parts}
use Rattle.spool_groups.proofs.Marked.{marked_lines}
use Rattle.spool_groups.proofs.Lists.{none_listed}
use Rattle.spool_groups.proofs.marking.lines_after.Goals as goal

pub returns : goal.returns
returns c =
    let some : Rise (map (λ (l : Line). l.serial) c.args.group.now.lines.items) → (serial : ℕ) → c.args.older < serial
    → contains serial (shown c.args.group.now) ≡ list_any (λ (l : Line). l.serial == serial)
    (take (length c.deref-2.result.now - c.max-first.result) (drop c.max-first.result c.deref-2.result.now)) =
    λ rise serial above.
    let xs : List Line = c.args.group.now.lines.items in
    let front : List Line = c.deref.result.now in
    let same : front ≡ xs = c.deref.ensures.value in
    let rises : Rise (map (λ (l : Line). l.serial) front) =
    subst (λ (ls : List Line). Rise (map (λ (l : Line). l.serial) ls)) (sym same) rise in
    let at = c.lines_up_to.ensures.partitioned
    (λ i j d order low passed. upto_parts (λ (l : Line). l.serial) c.args.older front rises i j d order low passed) in
    let first : c.max-first.result ≡ max c.lines_up_to.result (min (c.args.group.now.low - 1) (length xs)) =
    omega (arith, c.max-first.ensures, c.min-expired.ensures, c.saturating_sub.ensures, c.len.ensures, c.args.group.now.lines.ok) in
    sym (ap (λ (ls : List Line). list_any (λ (l : Line). l.serial == serial)
    (take (length ls - c.max-first.result) (drop c.max-first.result ls))) c.deref-2.ensures.value
    ∙ ap (list_any (λ (l : Line). l.serial == serial)) (take_all (length xs - c.max-first.result) (drop c.max-first.result xs)
    (let size = length-drop c.max-first.result xs in omega (arith, size)))
    ∙ marked_lines xs serial c.args.older c.args.group.now.low c.max-first.result c.lines_up_to.result above first
    (λ j d less. subst (λ (ls : List Line). nat_le (get_or ls j d).serial c.args.older ≡ true) same (at.0 j d (omega arith) less))) in
    record {
      some = some;
      none = λ rise empty serial above. some rise serial above ∙ none_listed (λ (l : Line). l.serial == serial) _ empty;
    }
