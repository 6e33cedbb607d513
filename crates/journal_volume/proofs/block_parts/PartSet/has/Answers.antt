use Rattle.std.proofs.Common.{◌≡◌, ◌<◌, ℕ, ◌+◌, ◌*◌, ◌%◌, Bool, true, false, IsTrue, List, length, get_or, refl, sym, ◌∙◌, ap, subst, arith}
use Rattle.std.specs.List.{Contains}
use Rattle.std.proofs.lemmas.Bool.{false≢true}
use Rattle.std.proofs.lemmas.List.{get_or_default}
use Rattle.journal_volume.specs.Numbers.{Numbers}
use Rattle.journal_volume.proofs.PartIndex.{flag_clear, flag_set, no_flags}
use Rattle.journal_volume.proofs.block_parts.PartSet.has.Goals as goal

pub returns-in-Some : goal.returns-in-Some
returns-in-Some c =
    let inside = c.self.inside in
    let p = c.args.number in
    let i = c.in-Some.place in
    let at : i * 16 + p % 16 ≡ 16 * i + p % 16 = omega arith in
    let low : 16 * i + p % 16 < length inside.flags.items = omega (arith, c.in-Some.ensures.0, c.self.invariant.size) in
    let read : c.index.result.now ≡ get_or inside.flags.items (16 * i + p % 16) false =
    c.index.ensures ∙ ap (λ (k : ℕ). get_or inside.flags.items k c.index.result.now) at
    ∙ get_or_default inside.flags.items (16 * i + p % 16) c.index.result.now false low in
    let same = ap (λ (s : Numbers). s.members) c.self.view_is in (
      λ flag. subst (λ (l : List ℕ). Contains l p) same (flag_set inside.blocks inside.flags.items inside.members.items c.self.invariant i p
          c.in-Some.ensures.0 c.in-Some.ensures.1 (sym read ∙ flag)),
      λ member. not_clear c.index.result.now (λ clear. flag_clear inside.blocks inside.flags.items inside.members.items c.self.invariant i p
          c.in-Some.ensures.0 c.in-Some.ensures.1 (sym read ∙ clear) (subst (λ (l : List ℕ). Contains l p) (sym same) member)),
    )
  where
    not_clear : (b : Bool) → ¬ (b ≡ false) → IsTrue b
    not_clear true other = refl
    not_clear false other = absurd (other refl)

pub returns-in-None : goal.returns-in-None
returns-in-None c =
    let inside = c.self.inside in
    let p = c.args.number in
    let same = ap (λ (s : Numbers). s.members) c.self.view_is in (
      λ flag. absurd (false≢true flag),
      λ member. absurd (no_flags inside.blocks inside.flags.items inside.members.items c.self.invariant p c.in-None.ensures
          (subst (λ (l : List ℕ). Contains l p) (sym same) member)),
    )
