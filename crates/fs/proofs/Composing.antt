-- A change that grows a file after one that doesn't.
use Rattle.std.proofs.Common.{◌≡◌, ◌<◌, ◌≤◌, ℕ, ◌+◌, ◌-◌, Option, List, ◌++◌, length, take, drop, sym, ◌∙◌, ap, subst, arith, length-drop}
use Rattle.std.proofs.lemmas.List.{length-take-le, take_all}
use Rattle.std.proofs.lemmas.Bool.{false≢true}
use Rattle.disk.specs.Image.{overwritten}
use Rattle.disk.proofs.Images.{length-overwritten}
use Rattle.model.specs.Stream.{Octets}
use Rattle.model.specs.Files.{File, HasRoom, IsFile, IsFileSystem, entry, size, content_of, table, free_blocks}
use Rattle.model.proofs.Owning.{content_size}
use Rattle.fs_layout.specs.Table.{IsFileAt}
use Rattle.fs_inodes.specs.Growing.{blocks_for}
use Rattle.fs_inodes.specs.Changes.{ReplacesContent, SameMarks, TakesNone}
use Rattle.fs_inodes.specs.Growing.{TakesLowest, GrowsBy, HasRoomFor}
use Rattle.fs_layout.proofs.Marking.{same_free}
use Rattle.fs_inodes.proofs.Replacing.{replaces_same, replaces_then, there_now, named_now, size_now}
use Rattle.fs_inodes.proofs.Spans.{overwritten_past}
use Rattle.fs_layout.proofs.Tables.{file_or}

-- growth is another content
pub grown : (inodes k : ℕ) (octets name content : Octets) (old new : List Octets) → IsFileAt (table inodes old) k name content
    → GrowsBy inodes k octets old new → ReplacesContent inodes k (content ++ octets) old new
grown inodes k octets name content old new there g =
    let was : g.was ≡ content = ap (λ (o : Option File). (file_or o).content) (sym g.there ∙ there) in
    replaces_same inodes k (g.was ++ octets) (content ++ octets) old new (ap (λ (c : Octets). c ++ octets) was)
    (record { name = g.name; was = g.was; there = g.there; makes = g.makes })

pub grown_then : (inodes k : ℕ) (octets content : Octets) (old mid new : List Octets) → k < inodes
    → ReplacesContent inodes k content old mid → GrowsBy inodes k octets mid new → ReplacesContent inodes k (content ++ octets) old new
grown_then inodes k octets content old mid new low first second =
    replaces_then inodes k content old mid low first (content ++ octets) new
    (grown inodes k octets first.name content mid new (there_now inodes k content old mid low first) second)

-- the lowest are taken
pub lowest_after : (old mid new : List Octets) → length new ≡ length mid → SameMarks old mid → TakesLowest mid new → TakesLowest old new
lowest_after old mid new count same lowest b c inside inside' was is free =
    lowest b c inside inside' (same.marks b (omega (arith, inside, count, same.count)) ∙ was) is free

pub lowest_none : (old new : List Octets) → length new ≡ length old → TakesNone old new → TakesLowest old new
lowest_none old new count none b c inside inside' was is free =
    absurd (false≢true (sym was ∙ none b (omega (arith, inside, count)) is))

pub lowest_same : (old new : List Octets) → SameMarks old new → TakesLowest old new
lowest_same old new same = lowest_none old new same.count (λ b small marked. sym (same.marks b small) ∙ marked)

-- ---- octets over those of a file, and after them

module _ (inodes at place : ℕ) (octets name : Octets) (old mid : List Octets) (room : HasRoom inodes old) (fs : IsFileSystem inodes old)
    (low : at < inodes) (inside : place ≤ size (entry inodes old at)) (beyond : size (entry inodes old at) < place + length octets)
    (was within : ℕ) (was_is : was ≡ size (entry inodes old at)) (within_is : within ≡ was - place)
    (first : ReplacesContent inodes at (overwritten place (take within octets) (content_of old (entry inodes old at))) old mid)
    (same : SameMarks old mid) where
  abbrev content : Octets
  content = content_of old (entry inodes old at)

  long : length content ≡ size (entry inodes old at)
  long = content_size old (entry inodes old at) room.blocks_whole (λ b owns. (fs.within at b low owns).1)

  front : length (take within octets) ≡ within
  front = length-take-le within octets (omega arith)

  abbrev rest : Octets
  rest = take (length octets - within) (drop within octets)

  rest_is : rest ≡ drop within octets
  rest_is = take_all (length octets - within) (drop within octets) (omega (arith, length-drop within octets))

  long_rest : length rest ≡ length octets - within
  long_rest = ap (λ (l : Octets). length l) rest_is ∙ length-drop within octets

  pub still_file : IsFile (entry inodes mid at)
  still_file = (named_now inodes at (overwritten place (take within octets) content) old mid low first).file

  same_size : size (entry inodes mid at) ≡ size (entry inodes old at)
  same_size =
      size_now inodes at (overwritten place (take within octets) content) old mid low first
      ∙ length-overwritten place (take within octets) content (omega (arith, front, long)) ∙ long

  pub still_room : HasRoomFor old was (place + length octets)
      → HasRoomFor mid (size (entry inodes mid at))
      (size (entry inodes mid at) + length (take (length octets - within) (drop within octets)))
  still_room has =
      let end : place + length octets ≡ size (entry inodes mid at) + length rest = omega (arith, long_rest, same_size) in
      let before : was ≡ size (entry inodes mid at) = omega (arith, same_size) in
      let free : free_blocks old ≡ free_blocks mid =
      sym (same_free old mid same.count (λ b below. same.marks b (omega (arith, room.count_few)))) in
      let at_end = subst (λ (n : ℕ). HasRoomFor old was n) end has in
      let at_both = subst (λ (n : ℕ). HasRoomFor old n (size (entry inodes mid at) + length rest)) before at_end in (
        at_both.0,
        subst (λ (n : ℕ). blocks_for (size (entry inodes mid at) + length rest) ≤ n + blocks_for (size (entry inodes mid at)))
            free at_both.1,
      )

  pub written_past : (new : List Octets) → GrowsBy inodes at (take (length octets - within) (drop within octets)) mid new
      → ReplacesContent inodes at (overwritten place octets content) old new
  written_past new g =
      replaces_same inodes at (overwritten place (take within octets) content ++ rest) (overwritten place octets content) old new
      (ap (λ (l : Octets). overwritten place (take within octets) content ++ l) rest_is
      ∙ overwritten_past place within octets content (omega (arith, long)) (omega arith))
      (grown_then inodes at rest (overwritten place (take within octets) content) old mid new low first g)
