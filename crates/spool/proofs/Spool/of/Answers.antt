use Rattle.std.proofs.Common.{◌∙◌, List, ap, arith, subst, sym}
use Rattle.model.specs.Files.{HasRoom, free_blocks, free_inodes}
use Rattle.model.specs.Stream.{Octets}
use Rattle.spool.proofs.Held.{kept_stands, the_changes}
use Rattle.spool.proofs.Spool.of.Goals as goal

pub free_block_count-free_blocks-requires : goal.free_block_count-free_blocks-requires
free_block_count-free_blocks-requires c =
    subst (λ (bs : List Octets). HasRoom c.args.inodes bs) (sym c.requires.kept.seen) c.requires.kept.is.room

pub free_inode_count-free_inodes-requires : goal.free_inode_count-free_inodes-requires
free_inode_count-free_inodes-requires c =
    subst (λ (bs : List Octets). HasRoom c.args.inodes bs) (sym c.requires.kept.seen) c.requires.kept.is.room

pub invariant_of-result-2 : goal.invariant_of-result-2
invariant_of-result-2 c =
    let its = c.requires in (
      kept_stands c.args.host c.args.inodes c.args.volume c.args.index c.args.places its.changes c.result-1.given.0 its.kept,
      record {
        used = λ k less. omega (arith, less);
        none = λ b less low. absurd (omega (arith, less));
        left = c.free_inode_count-free_inodes.ensures ∙ ap (free_inodes c.args.inodes) its.kept.seen;
        count = c.free_block_count-free_blocks.ensures ∙ ap free_blocks its.kept.seen;
        pack = λ k none. absurd (cc);
      },
    )

pub returns-clause-changes : goal.returns-clause-changes
returns-clause-changes c =
    λ S held. the_changes c.args.host c.args.inodes c.args.volume.cache S
    (record { named = c.requires.kept.is.named; room = c.requires.kept.is.room; held = held }) c.result-1.given.0
