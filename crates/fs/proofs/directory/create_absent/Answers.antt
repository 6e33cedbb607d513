use Rattle.std.proofs.Common.{ℕ, ◌+◌, ◌/◌, List, inl, inr, length, get_or, refl, ◌∙◌, subst, arith}
use Rattle.std.specs.Prelude.{None}
use Rattle.std.proofs.lemmas.Bool.{cases_lt}
use Rattle.std.proofs.lemmas.List.{get_or_past}
use Rattle.model.specs.Files.{content_of, entry, table}
use Rattle.model.specs.Files.{bitmap_blocks}
use Rattle.fs_layout.specs.Blocks.{PutsRecord}
use Rattle.fs_layout.proofs.Keeps.{marks_same}
use Rattle.fs_layout.proofs.Tables.{file_at_free, get_or-table, length-table, there_from_slot}
use Rattle.fs_layout.proofs.Touching.{slot_then_inode}
use Rattle.fs.proofs.Creating.{creates, free_from_slot, no_free_inode}
use Rattle.fs.proofs.directory.create_absent.Goals as goal

pub find_from-requires-clause-before : goal.find_from-requires-clause-before
find_from-requires-clause-before g c =
    let blocks = g.B.Blocks.blocks c.args.blocks.now in
    λ k low zeros. elim (cases_lt k c.args.inodes) [
      | inl within ↦
          c.requires.used k low
          (get_or-table c.args.inodes blocks k within
          ∙ file_at_free c.args.inodes blocks k (free_from_slot c.args.inodes blocks c.requires.room c.requires.rule k within zeros))
      | inr past ↦ c.requires.used k low
          (get_or_past (table c.args.inodes blocks) k None (omega (arith, length-table c.args.inodes blocks)))
    ]

pub returns-in_default-clause-full : goal.returns-in_default-clause-full
returns-in_default-clause-full g c =
    let blocks = g.B.Blocks.blocks c.args.blocks.now in
    λ e. (no_free_inode c.args.inodes blocks c.requires.room c.requires.rule c.in_default.ensures, refl)

pub returns-clause-created : goal.returns-clause-created
returns-clause-created g c =
    let blocks = g.B.Blocks.blocks c.args.blocks.now in
    let at = c.in-Some.at in
    creates c.args.inodes at c.args.name.now blocks (g.B.Blocks.blocks c.put_slot.new.blocks)
    (g.B.Blocks.blocks c.put_inode.new.blocks)
    c.requires.room c.requires.name c.requires.rule
    (λ k low same. c.requires.absent (
      k,
      content_of blocks (entry c.args.inodes blocks k),
      there_from_slot c.args.inodes blocks c.requires.rule k c.args.name.now low c.requires.name.0 same,
    )) c.in-Some.ensures
    (subst (λ (s : List ℕ). PutsRecord (bitmap_blocks (length blocks) + c.args.inodes / 64) at s blocks
    (g.B.Blocks.blocks c.put_slot.new.blocks))
    c.slot_for-slot.ensures c.in_ok-put_slot.ensures.done)
    c.in_ok-put_inode.ensures.done

pub returns-clause-touches : goal.returns-clause-touches
returns-clause-touches g c =
    slot_then_inode c.args.inodes c.in-Some.at _ c.slot_for-slot.result (g.B.Blocks.blocks c.args.blocks.now)
    (g.B.Blocks.blocks c.put_slot.new.blocks) (g.B.Blocks.blocks c.put_inode.new.blocks)
    c.in_ok-put_slot.ensures.done c.in_ok-put_inode.ensures.done

pub returns-clause-marks : goal.returns-clause-marks
returns-clause-marks g c =
    let old = g.B.Blocks.blocks c.args.blocks.now in
    let new = g.B.Blocks.blocks c.put_inode.new.blocks in
    let slot = c.in_ok-put_slot.ensures.done in
    let inode = c.in_ok-put_inode.ensures.done in
    record {
      count = inode.count ∙ slot.count;
      marks = marks_same old new (bitmap_blocks (length old)) (λ t few. inode.blocks t (omega (arith, few, slot.count))
          ∙ slot.blocks t (omega (arith, few)));
    }
