use Rattle.std.proofs.Common.{◌≡◌, ℕ, ◌+◌, ◌++◌, length, refl, sym, ◌∙◌, subst, List, ap, arith, length-append}
use Rattle.model.specs.Files.{entry, content_of, most_octets}
use Rattle.model.proofs.Owning.{content_size}
use Rattle.fs_inodes.specs.Growing.{HasNoRoomFor}
use Rattle.fs_inodes.proofs.Grown.{was_size}
use Rattle.fs.proofs.Within.{within_kept}
use Rattle.std.proofs.lemmas.Bool.{OnFalse_at, OnTrue_at}
use Rattle.fs_layout.proofs.Tables.{no_slot, there_from_slot, file_from_slot, there_once}
use Rattle.fs_layout.specs.Touches.{Touches, touched_by_growth}
use Rattle.fs.proofs.octets.append.Goals as goal

pub extend-requires-clause-file : goal.extend-requires-clause-file
extend-requires-clause-file g c =
    let found = c.in-Some.ensures in
    file_from_slot c.args.inodes (g.B.Blocks.blocks c.args.blocks.now) c.requires.rule c.in-Some.at c.args.name.now found.below
    c.requires.name.0 (found.is ∙ c.slot_for.ensures)

pub returns-in_default-clause-not_found : goal.returns-in_default-clause-not_found
returns-in_default-clause-not_found g c =
    let blocks = g.B.Blocks.blocks c.args.blocks.now in
    λ e. (
      no_slot c.args.inodes blocks c.requires.rule c.args.name.now
          (λ k low same. c.in_default.ensures k low (same ∙ sym c.slot_for.ensures)),
      refl,
    )

pub returns-then-not-has_room_for-clause-full : goal.returns-then-not-has_room_for-clause-full
returns-then-not-has_room_for-clause-full g c =
    let blocks = g.B.Blocks.blocks c.args.blocks.now in
    let found = c.in-Some.ensures in
    let at = c.in-Some.at in
    let is : c.size_of-size.result ≡ length (content_of blocks (entry c.args.inodes blocks at)) =
    c.size_of-size.ensures ∙ sym (content_size blocks (entry c.args.inodes blocks at) c.requires.room.blocks_whole
    (λ b owns. (c.requires.rule.within at b found.below owns).1)) in
    λ e. (
      (
        at,
        content_of blocks (entry c.args.inodes blocks at),
        there_from_slot c.args.inodes blocks c.requires.rule at c.args.name.now found.below c.requires.name.0 (found.is
            ∙ c.slot_for.ensures),
        subst (λ (n : ℕ). HasNoRoomFor c.args.format blocks n (n + length c.args.octets.now)) is
            (OnFalse_at c.if-not-has_room_for.true c.has_room_for.ensures.full),
      ),
      refl,
    )

pub returns-clause-appended : goal.returns-clause-appended
returns-clause-appended g c =
    let blocks = g.B.Blocks.blocks c.args.blocks.now in
    let found = c.in-Some.ensures in
    let at = c.in-Some.at in (
      at,
      content_of blocks (entry c.args.inodes blocks at),
      there_from_slot c.args.inodes blocks c.requires.rule at c.args.name.now found.below c.requires.name.0 (found.is ∙ c.slot_for.ensures),
      c.in_ok-extend.ensures.grown,
    )

pub returns-clause-touches : goal.returns-clause-touches
returns-clause-touches g c k content there =
    let old = g.B.Blocks.blocks c.args.blocks.now in
    let new = g.B.Blocks.blocks c.extend.new.blocks in
    let found = c.in-Some.ensures in
    let at = c.in-Some.at in
    let same : content_of old (entry c.args.inodes old at) ≡ content =
    there_once c.args.inodes old c.requires.rule at k c.args.name.now (content_of old (entry c.args.inodes old at)) content
    (there_from_slot c.args.inodes old c.requires.rule at c.args.name.now found.below c.requires.name.0 (found.is ∙ c.slot_for.ensures))
    there in
    let long = content_size old (entry c.args.inodes old at) c.requires.room.blocks_whole
    (λ b owns. (c.requires.rule.within at b found.below owns).1) in
    subst (λ (n : ℕ). Touches (touched_by_growth n (length c.args.octets.now)) old new) (sym long
    ∙ ap (λ (o : List ℕ). length o) same) c.in_ok-extend.ensures.touches

pub returns-clause-format : goal.returns-clause-format
returns-clause-format g c =
    let old = g.B.Blocks.blocks c.args.blocks.now in
    let new = g.B.Blocks.blocks c.extend.new.blocks in
    let found = c.in-Some.ensures in
    let at = c.in-Some.at in
    let file = file_from_slot c.args.inodes old c.requires.rule at c.args.name.now found.below c.requires.name.0 (found.is
    ∙ c.slot_for.ensures) in
    let grown = c.in_ok-extend.ensures.grown in
    let was = was_size c.args.inodes at old c.requires.room c.requires.rule found.below file c.args.octets.now new grown in
    let few = OnTrue_at c.if-not-has_room_for.false c.has_room_for.ensures.within in
    within_kept (most_octets c.args.format) c.args.inodes at grown.name (grown.was ++ c.args.octets.now) old new c.requires.room
    c.requires.rule found.below grown.makes
    (omega (arith, length-append grown.was c.args.octets.now, was, few, c.size_of-size.ensures))
