use Rattle.std.proofs.Common.{◌≡◌, ◌⊎◌, ◌↔◌, ℕ, List, sym, ◌∙◌, ap, subst}
use Rattle.std.specs.List.{Contains}
use Rattle.journal_volume.specs.Volume.{VolumeView, Differs, before}
use Rattle.journal_volume.proofs.volume.Volume.apply.Goals as goal

pub returns-clause-dirty : goal.returns-clause-dirty
returns-clause-dirty c k =
    let inside = c.self.inside in
    let now = c.args.self.now in
    let blocks = inside.blocks.blocks in
    let first : before blocks c.as_slice.result.now c.deref.result.now ≡ now.cache =
    ap (λ (l : List ℕ). before blocks l c.deref.result.now) c.as_slice.ensures.members
    ∙ ap (λ (l : List ℕ). before blocks inside.kept.members l) c.deref.ensures.value
    ∙ ap (λ (v : VolumeView). v.cache) c.self.view_is in
    let last : blocks ≡ now.seen = ap (λ (v : VolumeView). v.seen) c.self.view_is in
    let old : inside.dirty.members ≡ now.dirty = ap (λ (v : VolumeView). v.dirty) c.self.view_is in
    let new : c.forget.new.self.dirty ≡ c.mark_changed.new.dirty.members = ap (λ (v : VolumeView). v.dirty) c.forget.ensures in
    let P : List ℕ → List ℕ → List (List ℕ) → List (List ℕ) → Type 0 = λ new old a b. Contains new k ↔ (Contains old k ⊎ Differs a b k) in
    subst (λ (l : List ℕ). P l now.dirty now.cache now.seen) (sym new)
    (subst (λ (l : List ℕ). P c.mark_changed.new.dirty.members l now.cache now.seen) old
    (subst (λ (l : List (List ℕ)). P c.mark_changed.new.dirty.members inside.dirty.members l now.seen) first
    (subst (λ (l : List (List ℕ)). P c.mark_changed.new.dirty.members inside.dirty.members
    (before blocks c.as_slice.result.now c.deref.result.now) l) last
    (c.mark_changed.ensures.dirty k))))
