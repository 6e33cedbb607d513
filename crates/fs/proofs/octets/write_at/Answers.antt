use Rattle.std.proofs.Common.{◌≡◌, ◌<◌, ◌≤◌, ℕ, ◌+◌, ◌-◌, ◌++◌, List, length, refl, sym, ◌∙◌, ap, subst, arith, take, drop, length-append}
use Rattle.std.proofs.Common.{length-drop}
use Rattle.std.proofs.lemmas.List.{length-take-le}
use Rattle.std.proofs.lemmas.Bool.{OnFalse_at, OnTrue_at}
use Rattle.model.specs.Files.{HasRoom, IsFileSystem, entry, size, content_of, table, most_octets}
use Rattle.disk.specs.Image.{overwritten}
use Rattle.disk.proofs.Images.{length-overwritten}
use Rattle.fs_layout.specs.Table.{IsFileAt}
use Rattle.fs_inodes.specs.Changes.{ReplacesContent}
use Rattle.fs_inodes.proofs.Replacing.{size_now}
use Rattle.fs_inodes.specs.Growing.{HasNoRoomFor}
use Rattle.fs_inodes.proofs.Grown.{was_size}
use Rattle.fs.proofs.Within.{within_kept}
use Rattle.model.specs.Asked.{pointers_put}
use Rattle.model.specs.Room.{content_blocks}
use Rattle.model.proofs.Owning.{content_size}
use Rattle.fs.proofs.Composing.{lowest_after, lowest_same, still_file, still_room, written_past}
use Rattle.fs_layout.proofs.Tables.{no_slot, there_from_slot, there_once, file_from_slot}
use Rattle.fs_layout.specs.Touches.{Touches, blocks_reached, touched_by_growth, touched_by_write}
use Rattle.fs_layout.proofs.Touching.{touches_then, touches_more}
use Rattle.fs.proofs.octets.write_at.Given.{Over}
use Rattle.fs.proofs.octets.write_at.Goals as goal
use Rattle.fs.proofs.octets.write_at.Goals.{In-Some}

module _ (inodes at place : ℕ) (name : List ℕ) (old : List (List ℕ)) (room : HasRoom inodes old) (fs : IsFileSystem inodes old)
    (low : at < inodes) where
  long : length (content_of old (entry inodes old at)) ≡ size (entry inodes old at)
  long = content_size old (entry inodes old at) room.blocks_whole (λ b owns. (fs.within at b low owns).1)

  inside : IsFileAt (table inodes old) at name (content_of old (entry inodes old at))
      → ((k : ℕ) (content : List ℕ) → IsFileAt (table inodes old) k name content → place ≤ length content)
      → place ≤ size (entry inodes old at)
  inside there all = omega (arith, all at (content_of old (entry inodes old at)) there, long)

  same_size : (front : List ℕ) (mid : List (List ℕ)) → place + length front ≤ size (entry inodes old at)
      → ReplacesContent inodes at (overwritten place front (content_of old (entry inodes old at))) old mid
      → size (entry inodes mid at) ≡ size (entry inodes old at)
  same_size front mid fits done =
      size_now inodes at (overwritten place front (content_of old (entry inodes old at))) old mid low done
      ∙ length-overwritten place front (content_of old (entry inodes old at)) (omega (arith, fits, long)) ∙ long

-- the file that was found
there_now : (g : Over) (c : In-Some g)
    → IsFileAt (table c.args.inodes (g.B.Blocks.blocks c.args.blocks.now)) c.in-Some.at c.args.name.now
    (content_of (g.B.Blocks.blocks c.args.blocks.now) (entry c.args.inodes (g.B.Blocks.blocks c.args.blocks.now) c.in-Some.at))
there_now g c =
    there_from_slot c.args.inodes (g.B.Blocks.blocks c.args.blocks.now) c.requires.rule c.in-Some.at c.args.name.now c.in-Some.ensures.below
    c.requires.name.0 (c.in-Some.ensures.is ∙ c.slot_for.ensures)

place_in : (g : Over) (c : In-Some g)
    → c.args.place ≤ size (entry c.args.inodes (g.B.Blocks.blocks c.args.blocks.now) c.in-Some.at)
place_in g c =
    inside c.args.inodes c.in-Some.at c.args.place c.args.name.now (g.B.Blocks.blocks c.args.blocks.now) c.requires.room c.requires.rule
    c.in-Some.ensures.below (there_now g c) c.requires.place

-- octets in two pieces
split_reach : (size place within count : ℕ) → within ≤ count → size ≡ place + within
    → blocks_reached place within + touched_by_growth (place + within) (count - within) ≤ touched_by_write size place count
split_reach size place within count less is =
    let end : place + within + (count - within) ≡ place + count = omega arith in
    let same : pointers_put (content_blocks (place + within + (count - within)) - content_blocks (place + within))
    (place + within + (count - within)) ≡ pointers_put (content_blocks (place + count) - content_blocks size) (place + count) =
    ap (λ (n : ℕ). pointers_put (content_blocks n - content_blocks (place + within)) n) end
    ∙ ap (λ (n : ℕ). pointers_put (content_blocks (place + count) - content_blocks n) (place + count)) (sym is) in
    sums (blocks_reached place within) (blocks_reached (place + within) (count - within)) (blocks_reached place count)
    (pointers_put (content_blocks (place + within + (count - within)) - content_blocks (place + within))
    (place + within + (count - within))) (pointers_put (content_blocks (place + count) - content_blocks size) (place + count))
    (omega (arith, less)) same
  where
    sums : (a b r x y : ℕ) → a + b ≤ 1 + r → x ≡ y → a + (1 + b + x) ≤ 2 + r + y
    sums a b r x y two same = omega (arith, two, same)

pub returns-in_default-clause-not_found : goal.returns-in_default-clause-not_found
returns-in_default-clause-not_found g c =
    λ e. (
      no_slot c.args.inodes (g.B.Blocks.blocks c.args.blocks.now) c.requires.rule c.args.name.now
          (λ k low same. c.in_default.ensures k low (same ∙ sym c.slot_for.ensures)),
      refl,
    )

pub overflow_add-end : goal.overflow_add-end
overflow_add-end g c =
    let old = g.B.Blocks.blocks c.args.blocks.now in
    let found = c.in-Some.ensures in
    let low = place_in g (goal.at.overflow_add-end g c).In-Some in
    let small = (file_from_slot c.args.inodes old c.requires.rule c.in-Some.at c.args.name.now found.below c.requires.name.0 (found.is
    ∙ c.slot_for.ensures)).small in
    omega (arith, low, small)

pub returns-then-end-size-clause-written : goal.returns-then-end-size-clause-written
returns-then-end-size-clause-written g c =
    let old = g.B.Blocks.blocks c.args.blocks.now in
    let done = c.in_ok-overwrite.ensures.done in (
      c.in-Some.at,
      content_of old (entry c.args.inodes old c.in-Some.at),
      there_now g (goal.at.returns-then-end-size-clause-written g c).In-Some,
      done,
      lowest_same old (g.B.Blocks.blocks c.overwrite.new.blocks) c.in_ok-overwrite.ensures.marks,
    )

pub returns-then-not-has_room_for-clause-full : goal.returns-then-not-has_room_for-clause-full
returns-then-not-has_room_for-clause-full g c =
    let old = g.B.Blocks.blocks c.args.blocks.now in
    let found = c.in-Some.ensures in
    let is = c.size_of-size.ensures
    ∙ sym (long c.args.inodes c.in-Some.at c.args.place c.args.name.now old c.requires.room c.requires.rule found.below) in
    λ e. (
      c.in-Some.at,
      content_of old (entry c.args.inodes old c.in-Some.at),
      there_now g (goal.at.returns-then-not-has_room_for-clause-full g c).In-Some,
      subst (λ (n : ℕ). HasNoRoomFor c.args.format old n (c.args.place + length c.args.octets.now)) is
          (OnFalse_at c.if-not-has_room_for.true c.has_room_for.ensures.full),
      refl,
    )

pub overflow_sub-within : goal.overflow_sub-within
overflow_sub-within g c =
    let low = place_in g (goal.at.overflow_sub-within g c).In-Some in
    let is = c.size_of-size.ensures in
    omega (arith, low, is)

pub overwrite-requires-2-clause-fits : goal.overwrite-requires-2-clause-fits
overwrite-requires-2-clause-fits g c =
    let low = place_in g (goal.at.overwrite-requires-2-clause-fits g c).In-Some in
    let is = c.size_of-size.ensures in
    let front = length-take-le (c.size_of-size.result - c.args.place) c.args.octets.now (omega arith) in
    omega (arith, low, is, front)

pub extend-requires-clause-file : goal.extend-requires-clause-file
extend-requires-clause-file g c =
    let old = g.B.Blocks.blocks c.args.blocks.now in
    let found = c.in-Some.ensures in
    let low = place_in g (goal.at.extend-requires-clause-file g c).In-Some in
    let is = c.size_of-size.ensures in
    still_file c.args.inodes c.in-Some.at c.args.place c.args.octets.now c.args.name.now old
    (g.B.Blocks.blocks c.overwrite-2.new.blocks) c.requires.room c.requires.rule found.below low
    (omega (arith, is)) c.size_of-size.result (c.size_of-size.result - c.args.place) is refl
    c.in_ok-overwrite-2.ensures.done c.in_ok-overwrite-2.ensures.marks

pub extend-requires-clause-enough : goal.extend-requires-clause-enough
extend-requires-clause-enough g c =
    let old = g.B.Blocks.blocks c.args.blocks.now in
    let found = c.in-Some.ensures in
    let low = place_in g (goal.at.extend-requires-clause-enough g c).In-Some in
    let is = c.size_of-size.ensures in
    still_room c.args.inodes c.in-Some.at c.args.place c.args.octets.now c.args.name.now old
    (g.B.Blocks.blocks c.overwrite-2.new.blocks) c.requires.room c.requires.rule found.below low
    (omega (arith, is)) c.size_of-size.result (c.size_of-size.result - c.args.place) is refl
    c.in_ok-overwrite-2.ensures.done c.in_ok-overwrite-2.ensures.marks
    (OnTrue_at c.if-not-has_room_for.false c.has_room_for.ensures.room)

pub returns-clause-written : goal.returns-clause-written
returns-clause-written g c =
    let old = g.B.Blocks.blocks c.args.blocks.now in
    let mid = g.B.Blocks.blocks c.overwrite-2.new.blocks in
    let new = g.B.Blocks.blocks c.extend.new.blocks in
    let found = c.in-Some.ensures in
    let low = place_in g (goal.at.returns-clause-written g c).In-Some in
    let is = c.size_of-size.ensures in
    let grows = c.in_ok-extend.ensures.grown in (
      c.in-Some.at,
      content_of old (entry c.args.inodes old c.in-Some.at),
      there_now g (goal.at.returns-clause-written g c).In-Some,
      written_past c.args.inodes c.in-Some.at c.args.place c.args.octets.now c.args.name.now old mid c.requires.room c.requires.rule
          found.below low (omega (arith, is)) c.size_of-size.result (c.size_of-size.result - c.args.place) is refl
          c.in_ok-overwrite-2.ensures.done c.in_ok-overwrite-2.ensures.marks new grows,
      lowest_after old mid new grows.count c.in_ok-overwrite-2.ensures.marks grows.lowest,
    )

-- the length of the content of the file of a name
its_size : (inodes at k : ℕ) (name other : List ℕ) (old : List (List ℕ)) → HasRoom inodes old → IsFileSystem inodes old → at < inodes
    → IsFileAt (table inodes old) at name (content_of old (entry inodes old at)) → IsFileAt (table inodes old) k name other
    → size (entry inodes old at) ≡ length other
its_size inodes at k name other old room fs low there is =
    sym (long inodes at 0 name old room fs low)
    ∙ ap (λ (o : List ℕ). length o) (there_once inodes old fs at k name (content_of old (entry inodes old at)) other there is)

pub returns-then-end-size-clause-touches : goal.returns-then-end-size-clause-touches
returns-then-end-size-clause-touches g c k content is =
    let reached = blocks_reached c.args.place (length c.args.octets.now) in
    touches_more reached (touched_by_write (length content) c.args.place (length c.args.octets.now)) (g.B.Blocks.blocks c.args.blocks.now)
    (g.B.Blocks.blocks c.overwrite.new.blocks) (omega arith) c.in_ok-overwrite.ensures.touches

pub returns-clause-touches : goal.returns-clause-touches
returns-clause-touches g c k content named =
    let old = g.B.Blocks.blocks c.args.blocks.now in
    let mid = g.B.Blocks.blocks c.overwrite-2.new.blocks in
    let new = g.B.Blocks.blocks c.extend.new.blocks in
    let at = c.in-Some.at in
    let place = c.args.place in
    let octets = c.args.octets.now in
    let within = c.size_of-size.result - place in
    let found = c.in-Some.ensures in
    let low = place_in g (goal.at.returns-clause-touches g c).In-Some in
    let is = c.size_of-size.ensures in
    let front : length (take within octets) ≡ within = length-take-le within octets (omega arith) in
    let rest : length (take (length octets - within) (drop within octets)) ≡ length octets - within =
    length-take-le (length octets - within) (drop within octets) (omega (arith, length-drop within octets)) in
    let sized : size (entry c.args.inodes mid at) ≡ place + within =
    same_size c.args.inodes at place c.args.name.now old c.requires.room c.requires.rule found.below (take within octets) mid
    (omega (arith, low, is, front)) c.in_ok-overwrite-2.ensures.done ∙ (omega (arith, low, is)) in
    let first : Touches (blocks_reached place within) old mid =
    subst (λ (n : ℕ). Touches (blocks_reached place n) old mid) front c.in_ok-overwrite-2.ensures.touches in
    let second : Touches (touched_by_growth (place + within) (length octets - within)) mid new =
    subst (λ (n : ℕ). Touches (touched_by_growth n (length octets - within)) mid new) sized
    (subst (λ (n : ℕ). Touches (touched_by_growth (size (entry c.args.inodes mid at)) n) mid new) rest c.in_ok-extend.ensures.touches) in
    let its = its_size c.args.inodes at k c.args.name.now content old c.requires.room c.requires.rule found.below (there_now g
    (goal.at.returns-clause-touches g c).In-Some) named in
    touches_more (blocks_reached place within + touched_by_growth (place + within) (length octets - within))
    (touched_by_write (length content) place (length octets)) old new
    (split_reach (length content) place within (length octets) (omega arith) (omega (arith, its, low, is)))
    (touches_then (blocks_reached place within) (touched_by_growth (place + within) (length octets - within)) old mid new first second)

pub returns-then-end-size-clause-format : goal.returns-then-end-size-clause-format
returns-then-end-size-clause-format g c =
    let old = g.B.Blocks.blocks c.args.blocks.now in
    let found = c.in-Some.ensures in
    let at = c.in-Some.at in
    let done = c.in_ok-overwrite.ensures.done in
    let content = content_of old (entry c.args.inodes old at) in
    let its = long c.args.inodes at c.args.place c.args.name.now old c.requires.room c.requires.rule found.below in
    λ all. within_kept (most_octets c.args.format) c.args.inodes at done.name (overwritten c.args.place c.args.octets.now content) old
    (g.B.Blocks.blocks c.overwrite.new.blocks) c.requires.room c.requires.rule found.below done.makes
    (let few = all at found.below in
    omega (arith, length-overwritten c.args.place c.args.octets.now content (omega (arith, its, c.size_of-size.ensures)), its, few)) all

pub returns-clause-format : goal.returns-clause-format
returns-clause-format g c =
    let old = g.B.Blocks.blocks c.args.blocks.now in
    let mid = g.B.Blocks.blocks c.overwrite-2.new.blocks in
    let new = g.B.Blocks.blocks c.extend.new.blocks in
    let at = c.in-Some.at in
    let place = c.args.place in
    let octets = c.args.octets.now in
    let within = c.size_of-size.result - place in
    let found = c.in-Some.ensures in
    let low = place_in g (goal.at.returns-clause-format g c).In-Some in
    let is = c.size_of-size.ensures in
    let front : length (take within octets) ≡ within = length-take-le within octets (omega arith) in
    let rest : length (take (length octets - within) (drop within octets)) ≡ length octets - within =
    length-take-le (length octets - within) (drop within octets) (omega (arith, length-drop within octets)) in
    let done = c.in_ok-overwrite-2.ensures.done in
    let sized = same_size c.args.inodes at place c.args.name.now old c.requires.room c.requires.rule found.below (take within octets) mid
    (omega (arith, low, is, front)) done in
    let content = content_of old (entry c.args.inodes old at) in
    let its = long c.args.inodes at place c.args.name.now old c.requires.room c.requires.rule found.below in
    let file = still_file c.args.inodes at place octets c.args.name.now old mid c.requires.room c.requires.rule found.below low
    (omega (arith, is)) c.size_of-size.result within is refl done c.in_ok-overwrite-2.ensures.marks in
    let grown = c.in_ok-extend.ensures.grown in
    let tail = take (length octets - within) (drop within octets) in
    let was = was_size c.args.inodes at mid done.makes.room done.makes.rule found.below file
    (take (length octets - within) (drop within octets)) new grown in
    let enough = OnTrue_at c.if-not-has_room_for.false c.has_room_for.ensures.within in
    λ all.
    let first = within_kept (most_octets c.args.format) c.args.inodes at done.name (overwritten place (take within octets) content) old mid
    c.requires.room c.requires.rule found.below done.makes
    (let few = all at found.below in
    omega (arith, length-overwritten place (take within octets) content (omega (arith, its, low, is, front)), its, few)) all in
    within_kept (most_octets c.args.format) c.args.inodes at grown.name (grown.was ++ take (length octets - within) (drop within octets))
    mid new done.makes.room done.makes.rule found.below grown.makes
    (omega (arith, length-append grown.was (take (length octets - within) (drop within octets)), was, rest, sized, enough, is, low)) first
