use Rattle.std.proofs.Common.{◌≡◌, ◌<◌, ◌≤◌, ℕ, ◌-◌, ◌++◌, List, length, take, replicate, refl, sym, ◌∙◌, ap, subst, arith, length-append}
use Rattle.std.proofs.Common.{Bool, cond}
use Rattle.std.proofs.lemmas.List.{append-nil, length-replicate, length-take, take_all}
use Rattle.std.proofs.lemmas.Bool.{OnFalse_at, OnTrue_at, lt-ltb, le-ltb}
use Rattle.model.specs.Files.{HasRoom, IsFileSystem, entry, size, content_of, table, most_octets}
use Rattle.fs_layout.specs.Table.{IsFileAt}
use Rattle.fs_inodes.specs.Growing.{HasNoRoomFor}
use Rattle.fs_inodes.proofs.Grown.{was_size}
use Rattle.fs_inodes.proofs.Named.{file_names}
use Rattle.fs.proofs.Within.{within_kept}
use Rattle.model.specs.Room.{content_blocks}
use Rattle.model.proofs.Owning.{content_size}
use Rattle.fs_inodes.specs.Changes.{ReplacesContent, TakesNone, Rewrites}
use Rattle.fs_inodes.specs.Growing.{GrowsBy}
use Rattle.fs.proofs.Composing.{grown, lowest_none}
use Rattle.fs_inodes.proofs.Replacing.{replaces_same}
use Rattle.fs_layout.proofs.Tables.{file_from_slot, no_slot, there_from_slot, there_once}
use Rattle.fs_layout.specs.Touches.{Touches, TouchesInode, touched_by_cut, touched_by_growth, touched_by_truncation}
use Rattle.fs_layout.proofs.Touching.{inode_touches}
use Rattle.fs.proofs.octets.truncate.Goals as goal

module _ (inodes at end was : ℕ) (name : List ℕ) (old new : List (List ℕ)) (room : HasRoom inodes old) (fs : IsFileSystem inodes old)
    (low : at < inodes) (there : IsFileAt (table inodes old) at name (content_of old (entry inodes old at)))
    (read : was ≡ size (entry inodes old at)) where
  abbrev content : List ℕ
  content = content_of old (entry inodes old at)

  long : was ≡ length content
  long =
      read
      ∙ sym (content_size old (entry inodes old at) room.blocks_whole (λ b owns. (fs.within at b low owns).1))

  shorter : end ≤ was → length new ≡ length old → ReplacesContent inodes at (take end content) old new → TakesNone old new
      → Rewrites inodes name (λ content. take end content ++ replicate (end - length content) 0) old new
  shorter less count done none =
      let nothing : end - length content ≡ 0 = omega (arith, long) in
      let is : take end content ≡ take end content ++ replicate (end - length content) 0 =
      sym (ap (λ (n : ℕ). take end content ++ replicate n 0) nothing ∙ append-nil (take end content)) in (
        at,
        content,
        there,
        replaces_same inodes at (take end content) (take end content ++ replicate (end - length content) 0) old new is
            done,
        lowest_none old new count none,
      )

  longer : was < end → GrowsBy inodes at (replicate (end - was) 0) old new
      → Rewrites inodes name (λ content. take end content ++ replicate (end - length content) 0) old new
  longer more g =
      let is : content ++ replicate (end - was) 0 ≡ take end content ++ replicate (end - length content) 0 =
      ap (λ (n : ℕ). content ++ replicate (end - n) 0) long
      ∙ ap (λ (l : List ℕ). l ++ replicate (end - length content) 0) (sym (take_all end content (omega (arith, long)))) in (
        at,
        content,
        there,
        replaces_same inodes at (content ++ replicate (end - was) 0)
            (take end content ++ replicate (end - length content) 0) old new is
            (grown inodes at (replicate (end - was) 0) name content old new there g),
        g.lowest,
      )

pub returns-in_default-clause-not_found : goal.returns-in_default-clause-not_found
returns-in_default-clause-not_found g c =
    λ e. (
      no_slot c.args.inodes (g.B.Blocks.blocks c.args.blocks.now) c.requires.rule c.args.name.now
          (λ k low same. c.in_default.ensures k low (same ∙ sym c.slot_for.ensures)),
      refl,
    )

pub returns-then-size-was-clause-truncated : goal.returns-then-size-was-clause-truncated
returns-then-size-was-clause-truncated g c =
    let old = g.B.Blocks.blocks c.args.blocks.now in
    let found = c.in-Some.ensures in
    shorter c.args.inodes c.in-Some.at c.args.size c.size_of-was.result c.args.name.now old
    (g.B.Blocks.blocks c.shrink_to.new.blocks) c.requires.room c.requires.rule found.below
    (there_from_slot c.args.inodes old c.requires.rule c.in-Some.at c.args.name.now found.below c.requires.name.0 (found.is
    ∙ c.slot_for.ensures))
    c.size_of-was.ensures (omega arith) c.in_ok-shrink_to.ensures.touches.count c.in_ok-shrink_to.ensures.done
    c.in_ok-shrink_to.ensures.none_taken

pub returns-then-not-has_room_for-clause-full : goal.returns-then-not-has_room_for-clause-full
returns-then-not-has_room_for-clause-full g c =
    let old = g.B.Blocks.blocks c.args.blocks.now in
    let found = c.in-Some.ensures in
    let there = there_from_slot c.args.inodes old c.requires.rule c.in-Some.at c.args.name.now found.below c.requires.name.0 (found.is
    ∙ c.slot_for.ensures) in
    let is = long c.args.inodes c.in-Some.at c.args.size c.size_of-was.result c.args.name.now old old c.requires.room c.requires.rule
    found.below there c.size_of-was.ensures in
    λ e. (
      c.in-Some.at,
      content_of old (entry c.args.inodes old c.in-Some.at),
      there,
      subst (λ (n : ℕ). HasNoRoomFor c.args.format old n c.args.size) is
          (OnFalse_at c.if-not-has_room_for.true c.has_room_for.ensures.full),
      refl,
    )

pub returns-clause-truncated : goal.returns-clause-truncated
returns-clause-truncated g c =
    let old = g.B.Blocks.blocks c.args.blocks.now in
    let found = c.in-Some.ensures in
    longer c.args.inodes c.in-Some.at c.args.size c.size_of-was.result c.args.name.now old
    (g.B.Blocks.blocks c.extend_zeros.new.blocks) c.requires.room c.requires.rule found.below
    (there_from_slot c.args.inodes old c.requires.rule c.in-Some.at c.args.name.now found.below c.requires.name.0 (found.is
    ∙ c.slot_for.ensures))
    c.size_of-was.ensures (omega arith) c.in_ok-extend_zeros.ensures.grown

-- the length of the content that a name has
named : (inodes at was k : ℕ) (name other : List ℕ) (old : List (List ℕ)) → HasRoom inodes old → IsFileSystem inodes old → at < inodes
    → IsFileAt (table inodes old) at name (content_of old (entry inodes old at)) → was ≡ size (entry inodes old at)
    → IsFileAt (table inodes old) k name other → was ≡ length other
named inodes at was k name other old room fs low there read is =
    long inodes at 0 was name old old room fs low there read
    ∙ ap (λ (o : List ℕ). length o) (there_once inodes old fs at k name (content_of old (entry inodes old at)) other there is)

pub returns-then-size-was-clause-touches : goal.returns-then-size-was-clause-touches
returns-then-size-was-clause-touches g c k content is =
    let old = g.B.Blocks.blocks c.args.blocks.now in
    let new = g.B.Blocks.blocks c.shrink_to.new.blocks in
    let found = c.in-Some.ensures in
    let there = there_from_slot c.args.inodes old c.requires.rule c.in-Some.at c.args.name.now found.below c.requires.name.0 (found.is
    ∙ c.slot_for.ensures) in
    let was = named c.args.inodes c.in-Some.at c.size_of-was.result k c.args.name.now content old c.requires.room c.requires.rule
    found.below there c.size_of-was.ensures is in
    let few : touched_by_truncation (length content) c.args.size ≡ touched_by_cut (length content) c.args.size =
    ap (λ (b : Bool). cond b (touched_by_growth (length content) (c.args.size - length content))
    (touched_by_cut (length content) c.args.size)) (le-ltb (length content) c.args.size (omega (arith, was))) in
    let at = c.in-Some.at in
    let file = file_from_slot c.args.inodes old c.requires.rule at c.args.name.now found.below c.requires.name.0 (found.is
    ∙ c.slot_for.ensures) in
    let names = file_names c.args.inodes at old c.requires.room c.requires.rule found.below file in
    let sized : size (entry c.args.inodes old at) ≡ length content = sym c.size_of-was.ensures ∙ was in
    let touches : TouchesInode at (content_blocks c.args.size) (content_blocks (length content)) old new =
    subst (λ (n : ℕ). TouchesInode at (content_blocks c.args.size) (content_blocks n) old new) sized c.in_ok-shrink_to.ensures.touches in
    subst (λ (n : ℕ). Touches n old new) (sym few)
    (inode_touches at (length content) c.args.size old new (omega (arith, was))
    (λ less. names.no_double (omega (arith, less, sized))) (λ less. names.none 0 (omega (arith, less, sized))) touches)

pub returns-clause-touches : goal.returns-clause-touches
returns-clause-touches g c k content is =
    let old = g.B.Blocks.blocks c.args.blocks.now in
    let new = g.B.Blocks.blocks c.extend_zeros.new.blocks in
    let found = c.in-Some.ensures in
    let there = there_from_slot c.args.inodes old c.requires.rule c.in-Some.at c.args.name.now found.below c.requires.name.0 (found.is
    ∙ c.slot_for.ensures) in
    let was = named c.args.inodes c.in-Some.at c.size_of-was.result k c.args.name.now content old c.requires.room c.requires.rule
    found.below there c.size_of-was.ensures is in
    let more : touched_by_truncation (length content) c.args.size ≡ touched_by_growth (length content) (c.args.size - length content) =
    ap (λ (b : Bool). cond b (touched_by_growth (length content) (c.args.size - length content))
    (touched_by_cut (length content) c.args.size)) (lt-ltb (length content) c.args.size (omega (arith, was))) in
    subst (λ (n : ℕ). Touches n old new) (sym more)
    (subst (λ (n : ℕ). Touches (touched_by_growth n (c.args.size - n)) old new) was
    (subst (λ (n : ℕ). Touches (touched_by_growth n (c.args.size - c.size_of-was.result)) old new)
    (sym c.size_of-was.ensures) c.in_ok-extend_zeros.ensures.touches))

pub returns-then-size-was-clause-format : goal.returns-then-size-was-clause-format
returns-then-size-was-clause-format g c =
    let old = g.B.Blocks.blocks c.args.blocks.now in
    let new = g.B.Blocks.blocks c.shrink_to.new.blocks in
    let found = c.in-Some.ensures in
    let at = c.in-Some.at in
    let done = c.in_ok-shrink_to.ensures.done in
    let content = content_of old (entry c.args.inodes old at) in
    let there = there_from_slot c.args.inodes old c.requires.rule at c.args.name.now found.below c.requires.name.0 (found.is
    ∙ c.slot_for.ensures) in
    let is = long c.args.inodes at c.args.size c.size_of-was.result c.args.name.now old old c.requires.room c.requires.rule found.below
    there c.size_of-was.ensures in
    λ all. within_kept (most_octets c.args.format) c.args.inodes at done.name (take c.args.size content) old new c.requires.room
    c.requires.rule found.below done.makes
    (let few = all at found.below in omega (arith, length-take c.args.size content, is, few, c.size_of-was.ensures)) all

pub returns-clause-format : goal.returns-clause-format
returns-clause-format g c =
    let old = g.B.Blocks.blocks c.args.blocks.now in
    let new = g.B.Blocks.blocks c.extend_zeros.new.blocks in
    let found = c.in-Some.ensures in
    let at = c.in-Some.at in
    let zeros = replicate {A = ℕ} (c.args.size - c.size_of-was.result) 0 in
    let file = file_from_slot c.args.inodes old c.requires.rule at c.args.name.now found.below c.requires.name.0 (found.is
    ∙ c.slot_for.ensures) in
    let grown = c.in_ok-extend_zeros.ensures.grown in
    let was = was_size c.args.inodes at old c.requires.room c.requires.rule found.below file
    (replicate {A = ℕ} (c.args.size - c.size_of-was.result) 0) new grown in
    let few = OnTrue_at c.if-not-has_room_for.false c.has_room_for.ensures.within in
    within_kept (most_octets c.args.format) c.args.inodes at grown.name
    (grown.was ++ replicate {A = ℕ} (c.args.size - c.size_of-was.result) 0) old new c.requires.room c.requires.rule found.below
    grown.makes
    (omega (
      arith,
      length-append grown.was (replicate {A = ℕ} (c.args.size - c.size_of-was.result) 0),
      length-replicate {A = ℕ} (c.args.size - c.size_of-was.result) 0,
      was,
      few,
      c.size_of-was.ensures,
    ))
