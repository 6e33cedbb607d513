use Rattle.std.proofs.Common.{◌≡◌, ◌≤◌, ◌<◌, ℕ, ◌+◌, ◌-◌, List, length, take, drop, refl, sym, ◌∙◌, ap, arith, length-drop, [], ◌∷◌, ◌%◌}
use Rattle.std.proofs.lemmas.List.{length-take-le, take_all}
use Rattle.std.proofs.Math.Seq.{take-add}
use Rattle.disk.specs.Image.{overwritten}
use Rattle.disk.proofs.Images.{length-overwritten}
use Rattle.model.specs.Files.{HasRoom, IsFile, IsFileSystem, entry, size, content_of}
use Rattle.model.proofs.Owning.{content_size}
use Rattle.fs_inodes.specs.Changes.{ReplacesContent, SameMarks}
use Rattle.fs_inodes.proofs.Replacing.{replaces_none, replaces_same, replaces_then, named_now, size_now}
use Rattle.fs_inodes.proofs.Spans.{overwritten_none, overwritten_more}
use Rattle.fs_layout.specs.Touches.{SameBut}
use Rattle.fs_layout.proofs.Touching.{same_then, reached_none, reached_more, reached_all}
use Rattle.fs_inodes.proofs.file_writing.overwrite.Invariants.{Wrote}
use Rattle.fs_inodes.proofs.file_writing.overwrite.Goals as goal

module _ (inodes at place done : ℕ) (octets : List ℕ) (old new : List (List ℕ)) (room : HasRoom inodes old) (fs : IsFileSystem inodes old)
    (low : at < inodes) (file : IsFile (entry inodes old at)) (fits : place + length octets ≤ size (entry inodes old at)) where
  long : length (content_of old (entry inodes old at)) ≡ size (entry inodes old at)
  long = content_size old (entry inodes old at) room.blocks_whole (λ b owns. (fs.within at b low owns).1)

  none : Wrote inodes at place 0 octets old old
  none = record {
    within = omega arith;
    replaced = replaces_none inodes at (overwritten place (take 0 octets) (content_of old (entry inodes old at))) old room fs low file
        (overwritten_none place octets (content_of old (entry inodes old at)));
    marks = record { count = refl; marks = λ b small. refl };
    blocks = [];
    touched = λ b some lacks. refl;
    reached = reached_none place (length octets);
  }

  module _ (so_far : Wrote inodes at place done octets old new) where
    front : length (take done octets) ≡ done
    front = length-take-le done octets so_far.within

    still_file : IsFile (entry inodes new at)
    still_file = (named_now inodes at (overwritten place (take done octets) (content_of old (entry inodes old at))) old new low
        so_far.replaced).file

    content_now : overwritten place (take done octets) (content_of old (entry inodes old at)) ≡ content_of new (entry inodes new at)
    content_now = (named_now inodes at (overwritten place (take done octets) (content_of old (entry inodes old at))) old new low
        so_far.replaced).content_is

    same_size : size (entry inodes new at) ≡ size (entry inodes old at)
    same_size =
        size_now inodes at (overwritten place (take done octets) (content_of old (entry inodes old at))) old new low so_far.replaced
        ∙ length-overwritten place (take done octets) (content_of old (entry inodes old at)) (omega (arith, front, long, so_far.within))
        ∙ long

    part_fits : (some : ℕ) → done + some ≤ length octets
        → place + done + length (take (done + some - done) (drop done octets)) ≤ size (entry inodes new at)
    part_fits some left = let part = length-take-le (done + some - done) (drop done octets) (omega (arith, length-drop done octets)) in
        omega (arith, part, same_size)

    more : (some : ℕ) (newer : List (List ℕ)) → done + some ≤ length octets
        → ReplacesContent inodes at (overwritten (place + done) (take (done + some - done) (drop done octets))
        (content_of new (entry inodes new at))) new newer → SameMarks new newer → (block : ℕ) × SameBut (block ∷ []) new newer
        → done < length octets → 0 < some → (done + some < length octets → (place + (done + some)) % 4096 ≡ 0)
        → Wrote inodes at place (done + some) octets old newer
    more some newer left then marks (block, touches) early positive whole =
        let width : done + some - done ≡ some = omega arith in
        let content_is : overwritten (place + done) (take (done + some - done) (drop done octets)) (content_of new (entry inodes new at))
        ≡ overwritten place (take (done + some) octets) (content_of old (entry inodes old at)) =
        ap (λ (o : List ℕ). overwritten (place + done) (take (done + some - done) (drop done octets)) o) (sym content_now)
        ∙ ap (λ (n : ℕ). overwritten (place + done) (take n (drop done octets))
        (overwritten place (take done octets) (content_of old (entry inodes old at)))) width
        ∙ overwritten_more place done (take done octets) (take some (drop done octets)) (content_of old (entry inodes old at)) front
        (omega (arith, long, so_far.within))
        ∙ ap (λ (o : List ℕ). overwritten place o (content_of old (entry inodes old at))) (sym (take-add done some octets)) in
        record {
          within = left;
          replaced = replaces_same inodes at
              (overwritten (place + done) (take (done + some - done) (drop done octets)) (content_of new (entry inodes new at)))
              (overwritten place (take (done + some) octets) (content_of old (entry inodes old at))) old newer content_is
              (replaces_then inodes at (overwritten place (take done octets) (content_of old (entry inodes old at))) old new low
              so_far.replaced (overwritten (place + done) (take (done + some - done) (drop done octets))
              (content_of new (entry inodes new at))) newer then);
          marks = record {
            count = marks.count ∙ so_far.marks.count;
            marks = λ b small. marks.marks b (omega (arith, small, so_far.marks.count)) ∙ so_far.marks.marks b small;
          };
          blocks = block ∷ so_far.blocks;
          touched = same_then so_far.blocks (block ∷ []) old new newer so_far.marks.count so_far.touched touches;
          reached = reached_more place done some (length octets) block so_far.blocks so_far.reached early positive whole left;
        }

    all : length octets ≤ done → ReplacesContent inodes at (overwritten place octets (content_of old (entry inodes old at))) old new
    all ends =
        replaces_same inodes at (overwritten place (take done octets) (content_of old (entry inodes old at)))
        (overwritten place octets (content_of old (entry inodes old at))) old new
        (ap (λ (o : List ℕ). overwritten place o (content_of old (entry inodes old at))) (take_all done octets ends)) so_far.replaced

pub loop-done-init : goal.loop-done-init
loop-done-init g c = (
  none c.args.inodes c.args.at c.args.place 0 c.args.octets.now (g.B.Blocks.blocks c.args.blocks.now)
      (g.B.Blocks.blocks c.args.blocks.now) c.requires.room c.requires.rule c.requires.below c.requires.file c.requires.fits,
  refl,
)

pub overwrite_part-requires-clause-file : goal.overwrite_part-requires-clause-file
overwrite_part-requires-clause-file g c =
    still_file c.args.inodes c.args.at c.args.place c.loop-done.done c.args.octets.now (g.B.Blocks.blocks c.args.blocks.now)
    (g.B.Blocks.blocks c.loop-done.blocks) c.requires.room c.requires.rule c.requires.below c.requires.file c.requires.fits
    c.loop-done.invariant.0

pub overwrite_part-requires-clause-fits : goal.overwrite_part-requires-clause-fits
overwrite_part-requires-clause-fits g c =
    part_fits c.args.inodes c.args.at c.args.place c.loop-done.done c.args.octets.now (g.B.Blocks.blocks c.args.blocks.now)
    (g.B.Blocks.blocks c.loop-done.blocks) c.requires.room c.requires.rule c.requires.below c.requires.file c.requires.fits
    c.loop-done.invariant.0
    c.min-some.result (omega arith)

pub loop-done-preserved : goal.loop-done-preserved
loop-done-preserved g c = (
  more c.args.inodes c.args.at c.args.place c.loop-done.done c.args.octets.now (g.B.Blocks.blocks c.args.blocks.now)
      (g.B.Blocks.blocks c.loop-done.blocks) c.requires.room c.requires.rule c.requires.below c.requires.file c.requires.fits
      c.loop-done.invariant.0
      c.min-some.result (g.B.Blocks.blocks c.overwrite_part.new.blocks)
      (omega arith) c.in_ok-overwrite_part.ensures.done c.in_ok-overwrite_part.ensures.marks c.in_ok-overwrite_part.ensures.touches
      (omega arith) (omega arith) (λ less. omega (arith, less)),
  c.in_ok-overwrite_part.ensures.kept ∙ c.loop-done.invariant.1,
)

pub returns-clause-done : goal.returns-clause-done
returns-clause-done g c =
    all c.args.inodes c.args.at c.args.place c.loop-done.done c.args.octets.now (g.B.Blocks.blocks c.args.blocks.now)
    (g.B.Blocks.blocks c.loop-done.blocks) c.requires.room c.requires.rule c.requires.below c.requires.file c.requires.fits
    c.loop-done.invariant.0 (omega arith)

pub returns-clause-touches : goal.returns-clause-touches
returns-clause-touches g c =
    let wrote = c.loop-done.invariant.0 in
    record {
      count = wrote.marks.count;
      others = wrote.blocks;
      few = reached_all c.args.place c.loop-done.done (length c.args.octets.now) (length wrote.blocks) wrote.reached wrote.within;
      same = wrote.touched;
    }
