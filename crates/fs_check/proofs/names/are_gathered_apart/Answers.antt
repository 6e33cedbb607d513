use Rattle.std.proofs.Common.{◌≡◌, ◌+◌, List, ℕ, length, refl, sym, ◌∙◌, subst, arith}
use Rattle.std.specs.BTreeSet.{BTreeSet}
use Rattle.std.proofs.lemmas.Bool.{false≢true, not-false, not-true}
use Rattle.model.specs.Files.{first_data}
use Rattle.fs_check.specs.Checking.{HasDistinctNames}
use Rattle.fs_check.proofs.Slots.{has, HasSlots, slots_none, file_from_slot, no_file_from_slot, slots_same, slots_twice, slots_more}
use Rattle.fs_check.proofs.names.are_gathered_apart.Goals as goal
use Rattle.fs_check.proofs.names.are_gathered_apart.Goals.{else-slot-gt0-via-then-slot-gt0+in_ok-insert+else-not-branch}
use Rattle.fs_check.proofs.names.are_gathered_apart.Goals.{else-slot-gt0-via-else-slot-gt0}

pub returns-then-not-branch : goal.returns-then-not-branch
returns-then-not-branch g c =
    let blocks = g.B.Blocks.blocks c.args.blocks.now in
    let at = c.loop-at.at in
    let slot = c.get_slot.new.into in
    let file = file_from_slot (first_data (length (g.B.Blocks.blocks c.args.blocks.now)) c.args.inodes)
    (length blocks) c.args.inodes at blocks slot c.get_slot.ensures
    (c.requires.entries at c.loop-at-test.true) c.if-slot-gt0.true in (
      (λ distinct. absurd (false≢true distinct)),
      (λ distinct. absurd (
          slots_twice (λ _. 0) 0 at c.args.inodes blocks c.loop-at.slots c.loop-at.invariant slot c.get_slot.ensures file
          c.loop-at-test.true (not-false (has c.loop-at.slots slot) (sym c.in_ok-insert.ensures.added ∙ c.if-not-branch.true)) distinct)),
    )

pub loop-at-init : goal.loop-at-init
loop-at-init g c = slots_none (λ _. 0) c.args.inodes (g.B.Blocks.blocks c.args.blocks.now) c.new-slots.result c.new-slots.ensures.empty

pub loop-at-preserved : goal.loop-at-preserved
loop-at-preserved g c =
    let blocks = g.B.Blocks.blocks c.args.blocks.now in
    let at = c.loop-at.at in
    let slot = c.get_slot.new.into in
    elim c.else-slot-gt0.branch [
      | else-slot-gt0-via-then-slot-gt0+in_ok-insert+else-not-branch w ↦
          let file = file_from_slot (first_data (length (g.B.Blocks.blocks c.args.blocks.now)) c.args.inodes)
          (length blocks) c.args.inodes at blocks slot c.get_slot.ensures
          (c.requires.entries at c.loop-at-test.true) w.if-slot-gt0.true in
          subst (λ (s : BTreeSet (List ℕ)). HasSlots (λ _. 0) 0 (at + 1) c.args.inodes blocks s) (sym w.slots-is)
          (slots_more (λ _. 0) 0 at c.args.inodes blocks c.loop-at.slots c.loop-at.invariant slot c.get_slot.ensures file
          w.insert.new.self refl (not-true (has c.loop-at.slots slot) (sym w.in_ok-insert.ensures.added ∙ w.if-not-branch.false))
          w.in_ok-insert.ensures.updates)
      | else-slot-gt0-via-else-slot-gt0 w ↦
          subst (λ (s : BTreeSet (List ℕ)). HasSlots (λ _. 0) 0 (at + 1) c.args.inodes blocks s) (sym w.slots-is)
          (slots_same (λ _. 0) 0 at c.args.inodes blocks c.loop-at.slots c.loop-at.invariant
          (no_file_from_slot (first_data (length (g.B.Blocks.blocks c.args.blocks.now)) c.args.inodes)
          (length blocks) c.args.inodes at blocks slot c.get_slot.ensures
          (omega (arith, w.if-slot-gt0.false))) (omega arith))
    ]

pub returns : goal.returns
returns g c =
    let blocks = g.B.Blocks.blocks c.args.blocks.now in
    let all : c.loop-at.at ≡ c.args.inodes = omega arith in (
      (λ distinct. subst (λ (n : ℕ). HasDistinctNames n c.args.inodes blocks) all c.loop-at.invariant.distinct),
      (λ distinct. refl),
    )
