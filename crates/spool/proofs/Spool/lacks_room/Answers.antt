use Rattle.std.proofs.Common.{◌≡◌, ◌-◌, ℕ, ◌∙◌, ap, subst}
use Rattle.std.specs.Prelude.{nat_lt}
use Rattle.std.proofs.lemmas.Bool.{le-ltb, lt-ltb}
use Rattle.model.specs.Files.{free_blocks, free_inodes}
use Rattle.spool.specs.View.{SpoolView}
use Rattle.spool.proofs.Full.{or_false, or_true}
use Rattle.spool.proofs.Spool.lacks_room.Goals as goal

pub returns-then-saturating_sub-lt-BLOCKS_ASKED : goal.returns-then-saturating_sub-lt-BLOCKS_ASKED
returns-then-saturating_sub-lt-BLOCKS_ASKED c =
    let s = c.self.inside in
    let v = c.args.self.now in
    let count : s.kept.free.blocks ≡ free_blocks v.blocks =
    subst (λ (x : SpoolView). s.kept.free.blocks ≡ free_blocks x.blocks) c.self.view_is c.self.invariant.1.count in
    let left = c.saturating_sub.ensures ∙ ap (λ (n : ℕ). n - c.args.blocks_left) count in
    or_true (nat_lt c.saturating_sub.result 256) (nat_lt (free_blocks v.blocks - c.args.blocks_left) 256)
    (nat_lt (free_inodes v.inodes v.blocks - c.args.inodes_left) c.args.files) (ap (λ (n : ℕ). nat_lt n 256) left)
    (lt-ltb c.saturating_sub.result 256 c.if-saturating_sub-lt-BLOCKS_ASKED.true)

pub returns-else-saturating_sub-lt-BLOCKS_ASKED : goal.returns-else-saturating_sub-lt-BLOCKS_ASKED
returns-else-saturating_sub-lt-BLOCKS_ASKED c =
    let s = c.self.inside in
    let v = c.args.self.now in
    let other = c.saturating_sub-else-saturating_sub-lt-BLOCKS_ASKED in
    let count : s.kept.free.blocks ≡ free_blocks v.blocks =
    subst (λ (x : SpoolView). s.kept.free.blocks ≡ free_blocks x.blocks) c.self.view_is c.self.invariant.1.count in
    let inodes : s.kept.free.inodes ≡ free_inodes v.inodes v.blocks =
    subst (λ (x : SpoolView). s.kept.free.inodes ≡ free_inodes x.inodes x.blocks) c.self.view_is c.self.invariant.1.left in
    let left = c.saturating_sub.ensures ∙ ap (λ (n : ℕ). n - c.args.blocks_left) count in
    or_false (nat_lt c.saturating_sub.result 256) (nat_lt (free_blocks v.blocks - c.args.blocks_left) 256)
    (nat_lt (free_inodes v.inodes v.blocks - c.args.inodes_left) c.args.files) (nat_lt other.result c.args.files)
    (ap (λ (n : ℕ). nat_lt n 256) left) (le-ltb c.saturating_sub.result 256 c.if-saturating_sub-lt-BLOCKS_ASKED.false)
    (ap (λ (n : ℕ). nat_lt n c.args.files) (other.ensures ∙ ap (λ (n : ℕ). n - c.args.inodes_left) inodes))
