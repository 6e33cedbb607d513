use Rattle.std.proofs.Common.{◌≡◌, ◌<◌, ℕ, List, [], length, get_or, sym, ◌∙◌, ap, subst}
use Rattle.std.specs.List.{All, flat_map}
use Rattle.model.specs.Volume.{blocks_from, laid_over}
use Rattle.journal_volume.specs.Volume.{VolumeView, BatchView, AgreeOutside}
use Rattle.journal_volume.proofs.Copied.{copied_laid}
use Rattle.journal_volume.proofs.volume.Volume.copy_dirty.Goals as goal

pub returns-clause-images : goal.returns-clause-images
returns-clause-images c =
    let inside = c.self.inside in
    let cache : inside.blocks.blocks ≡ c.args.self.now.cache = ap (λ (v : VolumeView). v.seen) (c.self.view_is ∙ c.exchange.ensures) in
    let dirty : inside.dirty.members ≡ c.args.self.now.dirty = ap (λ (v : VolumeView). v.dirty) (c.self.view_is ∙ c.exchange.ensures) in
    ap (λ (b : BatchView). b.images) c.fill.ensures
    ∙ ap (λ (l : List ℕ). flat_map (λ n. get_or inside.blocks.blocks n []) l) (c.as_slice.ensures ∙ dirty)
    ∙ ap (λ (l : List (List ℕ)). flat_map (λ n. get_or l n []) c.args.self.now.dirty) cache

pub returns-clause-below : goal.returns-clause-below
returns-clause-below c =
    let inside = c.self.inside in
    let cache : inside.blocks.blocks ≡ c.args.self.now.cache = ap (λ (v : VolumeView). v.seen) (c.self.view_is ∙ c.exchange.ensures) in
    let numbers : c.fill.new.self.numbers ≡ inside.dirty.members = ap (λ (b : BatchView). b.numbers) c.fill.ensures ∙ c.as_slice.ensures in
    subst (λ (l : List ℕ). All (λ m. m < length c.args.self.now.cache) l) (sym numbers)
    (subst (λ (n : ℕ). All (λ m. m < n) inside.dirty.members) (c.self.invariant.same_bound ∙ ap length cache)
    c.self.invariant.dirty_numbers.below)

pub returns-clause-laid : goal.returns-clause-laid
returns-clause-laid c =
    let inside = c.self.inside in
    let blocks = inside.blocks.blocks in
    let cache : blocks ≡ c.args.self.now.cache = ap (λ (v : VolumeView). v.seen) (c.self.view_is ∙ c.exchange.ensures) in
    let below = subst (λ (n : ℕ). All (λ m. m < n) inside.dirty.members) c.self.invariant.same_bound c.self.invariant.dirty_numbers.below in
    let numbers : c.fill.new.self.numbers ≡ inside.dirty.members = ap (λ (b : BatchView). b.numbers) c.fill.ensures ∙ c.as_slice.ensures in
    let images : c.fill.new.self.images ≡ flat_map (λ n. get_or blocks n []) inside.dirty.members =
    ap (λ (b : BatchView). b.images) c.fill.ensures ∙ ap (λ (l : List ℕ). flat_map (λ n. get_or blocks n []) l) c.as_slice.ensures in
    let P : List ℕ → List ℕ → List (List ℕ) → Type 0 = λ ns octets blocks_are. (blocks : List (List ℕ)) → AgreeOutside ns blocks blocks_are
    → laid_over blocks ns (blocks_from 0 (length ns) octets) ≡ blocks_are in
    subst (λ (l : List ℕ). P l c.fill.new.self.images c.args.self.now.cache) (sym numbers)
    (subst (λ (l : List ℕ). P inside.dirty.members l c.args.self.now.cache) (sym images)
    (subst (λ (l : List (List ℕ)). P inside.dirty.members (flat_map (λ n. get_or blocks n []) inside.dirty.members) l) cache
    (copied_laid blocks inside.dirty.members c.self.invariant.whole below)))
