-- What goes from the group at a place.
use Rattle.std.proofs.Common.{◌≡◌, ℕ, Bool, true, false, List, [], ◌∷◌, refl, sym, ◌∙◌, ap, subst}
use Rattle.std.specs.Prelude.{IsTrue, Option, Some, None, option_and_then, option_map, slice_get, if◌then◌else◌}
use Rattle.std.proofs.lemmas.Option.{none-some, same_Some, slice_get-map}
use Rattle.kernel_expiring.specs.Ages.{IsAgedGroup, is_old}
use Rattle.kernel_expiring.specs.declared.AgedGroup.{AgedGroup}
use Rattle.kernel_expiring.specs.declared.AgedGroup.TheVariants as group
use Rattle.model.specs.Names.{wildmat_matches}
use Rattle.model.specs.Spool.{NewsGroup, Spool, groups, low}
use Rattle.model.specs.Stream.{Octets}
use Rattle.session_lookups.specs.Held.{Known, all_known, known}
use Rattle.program_rules.specs.Ruled.{IsRuledGroup, before, days_for, days_of_rule, first_rule}
use Rattle.program_rules.specs.declared.reading.Rule.{Rule}

-- the wildmat that decides matches
matched : (rules : List Rule) (name w : Octets) (days : ℕ) → days_for rules name ≡ Some (w, days) → IsTrue (wildmat_matches w name)
matched [] name w days is = absurd (none-some (w, days) is)
matched (rule ∷ more) name w days is =
    by_match (matched more name w days) (wildmat_matches rule.wildmat name) refl rule.days refl is where
      by_match : (days_for more name ≡ Some (w, days) → IsTrue (wildmat_matches w name))
          → (m : Bool) → m ≡ wildmat_matches rule.wildmat name → (d : Option ℕ) → d ≡ rule.days
          → option_and_then days_of_rule (if m then Some rule else first_rule more name) ≡ Some (w, days) → IsTrue (wildmat_matches w name)
      by_match later false is_m d is_d is = later is
      by_match later true is_m None is_d is =
          absurd (none-some (w, days) (ap (option_map (λ (n : ℕ). (rule.wildmat, n))) is_d ∙ is))
      by_match later true is_m (Some d) is_d is =
          let same : (rule.wildmat, d) ≡ (w, days) =
          same_Some (rule.wildmat, d) (w, days) (ap (option_map (λ (n : ℕ). (rule.wildmat, n))) is_d ∙ is) in
          subst (λ (o : Octets). IsTrue (wildmat_matches o name)) (ap (λ (p : Octets × ℕ). p.0) same) (sym is_m)

module _ (S : Spool) (place : ℕ) (rules : List Rule) (now : ℕ) (shown : Known) (at : slice_get (all_known S) place ≡ Some shown) where
  -- the name of the group is the one that a look-up shows
  named : (g : NewsGroup) → slice_get (groups S) place ≡ Some g → shown.listed.group.name ≡ g.name
  named g is =
      ap (λ (k : Known). k.listed.group.name)
      (same_Some shown (known S g) (sym at ∙ slice_get-map (known S) (groups S) place ∙ ap (option_map (known S)) is))

  -- its days decide
  by_days : (w : Octets) (days : ℕ) (result : AgedGroup) → days_for rules shown.listed.group.name ≡ Some (w, days)
      → IsAgedGroup S place w (before now days) result → IsRuledGroup S place rules now result
  by_days w days group.Missing some aged = aged
  by_days w days group.Spared some (below, spares) = (
    below,
    λ g is v other found.
        let mine : days_for rules g.name ≡ Some (w, days) = sym (ap (days_for rules) (named g is)) ∙ some in
        let same : days ≡ other = ap (λ (p : Octets × ℕ). p.1) (same_Some (w, days) (v, other) (sym mine ∙ found)) in
        subst (λ (n : ℕ). is_old S g.name (before now n) (low S g.name) ≡ false) same (spares g is (matched rules g.name w days mine)),
  )
  by_days w days (group.Aged aged) some (below, goes) =
      (below, λ g is. (w, days, sym (ap (days_for rules) (named g is)) ∙ some, goes g is))

  pub ruled : (w : Octets) (days since : ℕ) (result : AgedGroup) → since ≡ before now days
      → days_for rules shown.listed.group.name ≡ Some (w, days) → IsAgedGroup S place w since result → IsRuledGroup S place rules now result
  ruled w days since result is some aged =
      by_days w days result some (subst (λ (n : ℕ). IsAgedGroup S place w n result) is aged)
