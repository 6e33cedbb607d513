use Rattle.std.proofs.Common.{◌≡◌, ℕ, List, sym, ◌∙◌, subst}
use Rattle.std.specs.List.{All}
use Rattle.std.proofs.lemmas.Bool.{false≢true, OnTrue_at, OnFalse_at}
use Rattle.fs_check.proofs.Sound.{entries_from_rule, rule_from_passes}
use Rattle.fs_check.proofs.check.Goals as goal

pub returns-then-not-are_entries-clause-damaged : goal.returns-then-not-are_entries-clause-damaged
returns-then-not-are_entries-clause-damaged g c =
    λ e rule. false≢true (sym c.if-not-are_entries.true
    ∙ c.are_entries.ensures.1 (λ k low. (
      entries_from_rule c.args.inodes (g.B.Blocks.blocks c.args.blocks.now) rule.0 k low,
      rule.1 k low,
    )))

pub are_marked-requires-clause-clear : goal.are_marked-requires-clause-clear
are_marked-requires-clause-clear g c =
    subst (λ (xs : List ℕ). All (λ (o : ℕ). o ≡ 0) xs) (sym c.as_mut_slice.ensures.value) c.in_ok-marks.ensures.zero

pub returns-then-not-are_marked-clause-damaged : goal.returns-then-not-are_marked-clause-damaged
returns-then-not-are_marked-clause-damaged g c = λ e rule. OnFalse_at c.if-not-are_marked.true c.are_marked.ensures.refused rule.0

pub returns-clause-sound : goal.returns-clause-sound
returns-clause-sound g c =
    let marked = OnTrue_at c.if-not-are_marked.false c.are_marked.ensures.owners in
    let entries = c.are_entries.ensures.0 c.if-not-are_entries.false in (
      rule_from_passes c.args.inodes (g.B.Blocks.blocks c.args.blocks.now) c.are_marked.new.marks
          (λ k low. (entries k low).0) marked.0 marked.1
          (OnTrue_at c.if-not-are_marked.false c.are_marked.ensures.bits) (c.in_ok-are_names_distinct.ensures.0 c.if-not-branch.false),
      λ k low. (entries k low).1,
    )

pub are_marked-requires-clause-entries : goal.are_marked-requires-clause-entries
are_marked-requires-clause-entries g c k low = (c.are_entries.ensures.0 c.if-not-are_entries.false k low).0

pub are_names_distinct-requires-clause-entries : goal.are_names_distinct-requires-clause-entries
are_names_distinct-requires-clause-entries g c k low = (c.are_entries.ensures.0 c.if-not-are_entries.false k low).0
