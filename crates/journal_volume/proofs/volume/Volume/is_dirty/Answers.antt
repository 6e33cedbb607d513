use Rattle.std.proofs.Common.{◌≡◌, ◌↔◌, ◌<◌, ℕ, Bool, List, length, get_or, Option, Some, None, refl, sym, ◌∙◌, ap, subst}
use Rattle.std.specs.Prelude.{IsTrue, MatchOption, is_some}
use Rattle.std.specs.List.{Contains}
use Rattle.std.proofs.lemmas.List.{get_or_default}
use Rattle.journal_volume.specs.Volume.{VolumeView}
use Rattle.journal_volume.proofs.volume.Volume.is_dirty.Goals as goal

-- a number has a place exactly if it is a member
place_tells : (found : Option ℕ) (members : List ℕ) (n : ℕ)
    → MatchOption found (¬ (Contains members n)) (λ i. (i < length members) × (get_or members i 0 ≡ n))
    → IsTrue (is_some found) ↔ Contains members n
place_tells None members n none = (λ no. absurd (cc no), λ member. absurd (none member))
place_tells (Some i) members n there = (λ yes. (i, there.0, get_or_default members i n 0 there.0 ∙ there.1), λ member. refl)

pub returns : goal.returns
returns c =
    let inside = c.self.inside in
    let now = c.args.self.now in
    let n = c.args.number in
    let dirty : inside.dirty.members ≡ now.dirty = ap (λ (v : VolumeView). v.dirty) c.self.view_is in
    subst (λ (b : Bool). IsTrue b ↔ Contains now.dirty n) (sym c.is_some.ensures)
    (subst (λ (l : List ℕ). IsTrue (is_some c.place.result) ↔ Contains l n) dirty
    (place_tells c.place.result inside.dirty.members n c.place.ensures))
