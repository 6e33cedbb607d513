use Rattle.std.proofs.Common.{◌≡◌, ◌+◌, List, ℕ, length, refl, sym, ◌∙◌, ap, subst, arith}
use Rattle.std.specs.BTreeSet.{BTreeSet}
use Rattle.std.proofs.lemmas.Bool.{false≢true, not-false, not-true}
use Rattle.model.specs.Files.{first_data, slot_of}
use Rattle.fs_check.specs.Checking.{HasDistinctNames, rank}
use Rattle.fs_check.proofs.Slots.{has, HasSlots, file_from_slot, no_file_from_slot, slots_more, slots_none, slots_ranked, slots_same}
use Rattle.fs_check.proofs.Slots.{slots_twice}
use Rattle.fs_check.proofs.names.are_told_apart.Goals as goal
use Rattle.fs_check.proofs.names.are_told_apart.Goals.{then-next-gt0+else-next-last, else-next-gt0+else-slot-gt0}
use Rattle.fs_check.proofs.names.are_told_apart.Goals.{else-slot-gt0-via-then-slot-gt0+in_ok-insert+else-not-branch}
use Rattle.fs_check.proofs.names.are_told_apart.Goals.{else-slot-gt0-via-else-slot-gt0}

pub loop-at-init : goal.loop-at-init
loop-at-init g c = slots_none rank c.args.inodes (g.B.Blocks.blocks c.args.blocks.now) c.new-others.result c.new-others.ensures.empty

pub returns-then-not-branch : goal.returns-then-not-branch
returns-then-not-branch g c =
    let blocks = g.B.Blocks.blocks c.args.blocks.now in
    let at = c.loop-at.at in
    let slot = c.get_slot.new.into in
    let file = file_from_slot (first_data (length (g.B.Blocks.blocks c.args.blocks.now)) c.args.inodes)
    (length blocks) c.args.inodes at blocks slot c.get_slot.ensures
    (c.requires.entries at c.loop-at-test.true) c.if-slot-gt0.true in (
      (λ distinct. absurd (false≢true distinct)),
      (λ distinct. absurd (
          slots_twice rank c.loop-at.last at c.args.inodes blocks c.loop-at.others c.loop-at.invariant slot c.get_slot.ensures file
          c.loop-at-test.true
          (not-false (has c.loop-at.others slot) (sym c.in_ok-insert.ensures.added ∙ c.if-not-branch.true)) distinct)),
    )

pub loop-at-preserved : goal.loop-at-preserved
loop-at-preserved g c =
    let blocks = g.B.Blocks.blocks c.args.blocks.now in
    let at = c.loop-at.at in
    let last = c.loop-at.last in
    let slot = c.get_slot.new.into in
    let its : c.rank_of-next.result ≡ rank (slot_of c.args.inodes (g.B.Blocks.blocks c.args.blocks.now) c.loop-at.at) =
    c.rank_of-next.ensures ∙ ap rank c.get_slot.ensures in
    elim c.if-next-gt0.branch [
      | then-next-gt0+else-next-last w ↦
          subst (λ (s : BTreeSet (List ℕ)). HasSlots rank c.if-next-gt0.last (at + 1) c.args.inodes blocks s) (sym w.others-is)
          (subst (λ (n : ℕ). HasSlots rank n (at + 1) c.args.inodes blocks c.loop-at.others) (sym w.last-is)
          (slots_ranked rank last at c.args.inodes blocks c.loop-at.others c.loop-at.invariant c.rank_of-next.result its
          (omega (arith, w.if-next-last.false))))
      | else-next-gt0+else-slot-gt0 w ↦
          let none : rank (slot_of c.args.inodes (g.B.Blocks.blocks c.args.blocks.now) c.loop-at.at) ≡ 0 =
          omega (arith, its, w.if-next-gt0.false) in
          subst (λ (n : ℕ). HasSlots rank n (at + 1) c.args.inodes blocks c.if-next-gt0.others) (sym w.last-is)
          (subst (λ (s : BTreeSet (List ℕ)). HasSlots rank last (at + 1) c.args.inodes blocks s) (sym w.others-is)
          (elim w.else-slot-gt0.branch [
            | else-slot-gt0-via-then-slot-gt0+in_ok-insert+else-not-branch v ↦
                let file = file_from_slot (first_data (length (g.B.Blocks.blocks c.args.blocks.now)) c.args.inodes)
                (length blocks) c.args.inodes at blocks slot c.get_slot.ensures
                (c.requires.entries at c.loop-at-test.true) v.if-slot-gt0.true in
                subst (λ (s : BTreeSet (List ℕ)). HasSlots rank last (at + 1) c.args.inodes blocks s) (sym v.others-is)
                (slots_more rank last at c.args.inodes blocks c.loop-at.others c.loop-at.invariant slot c.get_slot.ensures file
                v.insert.new.self none
                (not-true (has c.loop-at.others slot) (sym v.in_ok-insert.ensures.added ∙ v.if-not-branch.false))
                v.in_ok-insert.ensures.updates)
            | else-slot-gt0-via-else-slot-gt0 v ↦
                subst (λ (s : BTreeSet (List ℕ)). HasSlots rank last (at + 1) c.args.inodes blocks s) (sym v.others-is)
                (slots_same rank last at c.args.inodes blocks c.loop-at.others c.loop-at.invariant
                (no_file_from_slot (first_data (length (g.B.Blocks.blocks c.args.blocks.now)) c.args.inodes)
                (length blocks) c.args.inodes at blocks slot c.get_slot.ensures
                (omega (arith, v.if-slot-gt0.false))) (omega (arith, none)))
          ]))
    ]

pub returns : goal.returns
returns g c =
    let blocks = g.B.Blocks.blocks c.args.blocks.now in
    let all : c.loop-at.at ≡ c.args.inodes = omega arith in (
      (λ distinct. subst (λ (n : ℕ). HasDistinctNames n c.args.inodes blocks) all c.loop-at.invariant.distinct),
      (λ distinct. refl),
    )
