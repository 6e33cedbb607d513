use Rattle.std.proofs.Common.{◌≡◌, ◌<◌, ℕ, Option, Some, None, List, length, set, take, refl, sym, ◌∙◌, ap, subst, arith}
use Rattle.std.proofs.lemmas.List.{set-set}
use Rattle.model.specs.Files.{File, IsFile, entry, size, content_of, table}
use Rattle.fs_layout.specs.Table.{IsFileAt, Makes}
use Rattle.fs.specs.Calls.{Unlinks}
use Rattle.fs_inodes.specs.Changes.{ReplacesContent}
use Rattle.fs_layout.proofs.Tables.{no_slot, there_from_slot, there_once, file_from_slot}
use Rattle.fs_inodes.proofs.Replacing.{named_now, size_now}
use Rattle.fs_layout.specs.Touches.{TouchesInode}
use Rattle.fs_layout.proofs.Touching.{inode_and_slot}
use Rattle.fs_inodes.proofs.Named.{file_names}
use Rattle.model.specs.Room.{content_blocks}
use Rattle.model.proofs.Owning.{content_size}
use Rattle.fs.proofs.directory.unlink.Goals as goal

module _ (inodes at : ℕ) (name : List ℕ) (old mid : List (List ℕ)) (low : at < inodes)
    (r : ReplacesContent inodes at (take 0 (content_of old (entry inodes old at))) old mid) where
  empty_file : IsFile (entry inodes mid at)
  empty_file = (named_now inodes at (take 0 (content_of old (entry inodes old at))) old mid low r).file

  empty : size (entry inodes mid at) ≡ 0
  empty = size_now inodes at (take 0 (content_of old (entry inodes old at))) old mid low r

  gone : (new : List (List ℕ)) → IsFileAt (table inodes old) at name (content_of old (entry inodes old at))
      → Makes inodes (set (table inodes mid) at None) new → Unlinks inodes name old new
  gone new there makes =
      let files = ap (λ (t : List (Option File)). set t at None) r.makes.files_are
      ∙ set-set (table inodes old) at (Some (record { name = r.name; content = take 0 (content_of old (entry inodes old at)) })) None in
      (at, content_of old (entry inodes old at), there, subst (λ (t : List (Option File)). Makes inodes t new) files makes)

pub returns-in_default-clause-not_found : goal.returns-in_default-clause-not_found
returns-in_default-clause-not_found g c =
    λ e. (
      no_slot c.args.inodes (g.B.Blocks.blocks c.args.blocks.now) c.requires.rule c.args.name.now
          (λ k low same. c.in_default.ensures k low (same ∙ sym c.slot_for.ensures)),
      refl,
    )

pub shrink_to-requires-clause-file : goal.shrink_to-requires-clause-file
shrink_to-requires-clause-file g c =
    let found = c.in-Some.ensures in
    file_from_slot c.args.inodes (g.B.Blocks.blocks c.args.blocks.now) c.requires.rule c.in-Some.at c.args.name.now found.below
    c.requires.name.0 (found.is ∙ c.slot_for.ensures)

pub remove_empty-requires-clause-file : goal.remove_empty-requires-clause-file
remove_empty-requires-clause-file g c =
    empty_file c.args.inodes c.in-Some.at c.args.name.now (g.B.Blocks.blocks c.args.blocks.now)
    (g.B.Blocks.blocks c.shrink_to.new.blocks) c.in-Some.ensures.below c.in_ok-shrink_to.ensures.done

pub remove_empty-requires-clause-empty : goal.remove_empty-requires-clause-empty
remove_empty-requires-clause-empty g c =
    empty c.args.inodes c.in-Some.at c.args.name.now (g.B.Blocks.blocks c.args.blocks.now)
    (g.B.Blocks.blocks c.shrink_to.new.blocks) c.in-Some.ensures.below c.in_ok-shrink_to.ensures.done

pub returns-clause-unlinked : goal.returns-clause-unlinked
returns-clause-unlinked g c =
    let old = g.B.Blocks.blocks c.args.blocks.now in
    let found = c.in-Some.ensures in
    gone c.args.inodes c.in-Some.at c.args.name.now old (g.B.Blocks.blocks c.shrink_to.new.blocks) found.below
    c.in_ok-shrink_to.ensures.done (g.B.Blocks.blocks c.remove_empty.new.blocks)
    (there_from_slot c.args.inodes old c.requires.rule c.in-Some.at c.args.name.now found.below c.requires.name.0 (found.is
    ∙ c.slot_for.ensures))
    c.in_ok-remove_empty.ensures.done

pub returns-clause-touches : goal.returns-clause-touches
returns-clause-touches g c k content is =
    let old = g.B.Blocks.blocks c.args.blocks.now in
    let mid = g.B.Blocks.blocks c.shrink_to.new.blocks in
    let found = c.in-Some.ensures in
    let at = c.in-Some.at in
    let there = there_from_slot c.args.inodes old c.requires.rule at c.args.name.now found.below c.requires.name.0 (found.is
    ∙ c.slot_for.ensures) in
    let file = file_from_slot c.args.inodes old c.requires.rule at c.args.name.now found.below c.requires.name.0 (found.is
    ∙ c.slot_for.ensures) in
    let names = file_names c.args.inodes at old c.requires.room c.requires.rule found.below file in
    let long = content_size old (entry c.args.inodes old at) c.requires.room.blocks_whole
    (λ b owns. (c.requires.rule.within at b found.below owns).1) in
    let sized : size (entry c.args.inodes old at) ≡ length content =
    sym long ∙ ap (λ (o : List ℕ). length o)
    (there_once c.args.inodes old c.requires.rule at k c.args.name.now (content_of old (entry c.args.inodes old at)) content there is)
    in
    let touches : TouchesInode at (content_blocks 0) (content_blocks (length content)) old mid =
    subst (λ (n : ℕ). TouchesInode at (content_blocks 0) (content_blocks n) old mid) sized c.in_ok-shrink_to.ensures.touches in
    inode_and_slot at (length content) 0 old mid (omega arith)
    (λ less. names.no_double (omega (arith, less, sized))) (λ less. names.none 0 (omega (arith, less, sized))) touches
    c.args.inodes (g.B.Blocks.blocks c.remove_empty.new.blocks) c.in_ok-remove_empty.ensures.count
    c.in_ok-remove_empty.ensures.touches
