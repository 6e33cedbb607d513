use Rattle.std.proofs.Common.{◌≡◌, ◌-◌, ◌∙◌, ℕ, ap, length}
use Rattle.model.specs.Room.{blocks_for_change, blocks_left, inodes_for_change, inodes_left}
use Rattle.model.specs.declared.change.Change.{Change}
use Rattle.model.specs.declared.change.Change.TheVariants.{Article}
use Rattle.volume_store.specs.Room.{first_lack}
use Rattle.volume_store.proofs.missing_room.lack_for_articles.Goals as goal

pub returns : goal.returns
returns c = λ filing.
    let s = c.args.spool.now in
    let its : Change = Article filing in
    let few_blocks : c.blocks_left.result ≡ blocks_left (length s.blocks) its =
    c.blocks_left.ensures filing ∙ ap (λ (n : ℕ). blocks_left n its) c.blocks-2.ensures in
    let few_inodes : c.inodes_left.result ≡ inodes_left s.inodes its =
    c.inodes_left.ensures filing ∙ ap (λ (n : ℕ). inodes_left n its) c.inodes.ensures in
    let blocks : c.saturating_sub-blocks.result ≡ blocks_for_change s.blocks its =
    c.saturating_sub-blocks.ensures ∙ (λ i. c.free_blocks.ensures i - few_blocks i) in
    let inodes : c.saturating_sub-inodes.result ≡ inodes_for_change s.blocks s.inodes its =
    c.saturating_sub-inodes.ensures ∙ (λ i. c.free_inodes.ensures i - few_inodes i) in
    c.first_lack.ensures ∙ (λ i. first_lack (blocks i) (inodes i) 1)
