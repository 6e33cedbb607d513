use Rattle.std.proofs.Common.{◌≡◌, ℕ, ◌+◌, ◌-◌, ◌≤◌, List, ◌++◌, length, take, drop, refl, sym, ◌∙◌, ap, subst, arith, length-drop}
use Rattle.std.proofs.Common.{length-take-le}
use Rattle.std.proofs.lemmas.List.{take_all}
use Rattle.std.proofs.Math.Seq.{take-add}
use Rattle.model.specs.Files.{entry, size}
use Rattle.fs_inodes.specs.Growing.{GrowsBy, blocks_for}
use Rattle.fs_inodes.proofs.Grown.{grows_none, grows_then, file_now, no_double_now, no_table_now, size_now, room_now, taken_is, touched}
use Rattle.fs_layout.specs.Touches.{Touches, touched_by_growth}
use Rattle.fs_layout.proofs.Touching.{Spread, spread_none, spread_more, spread_all}
use Rattle.fs_inodes.proofs.growing.extend.Goals as goal

-- a piece of the octets
length_piece : (from some : ℕ) (octets : List ℕ) → from + some ≤ length octets
    → length (take (from + some - from) (drop from octets)) ≡ some
length_piece from some octets fits =
    let width : from + some - from ≡ some = omega arith in
    ap (λ (n : ℕ). length (take n (drop from octets))) width
    ∙ length-take-le some (drop from octets) (omega (arith, length-drop from octets))

piece_more : (from some : ℕ) (octets : List ℕ)
    → take from octets ++ take (from + some - from) (drop from octets) ≡ take (from + some) octets
piece_more from some octets =
    let width : from + some - from ≡ some = omega arith in
    ap (λ (n : ℕ). take from octets ++ take n (drop from octets)) width ∙ sym (take-add from some octets)

pub loop-done-init : goal.loop-done-init
loop-done-init g c = record {
  here = record {
    within = omega arith;
    grown = grows_none c.args.inodes c.args.at (g.B.Blocks.blocks c.args.blocks.now) c.requires.room c.requires.rule c.requires.below
        c.requires.file;
  };
  spread = spread_none c.args.at c.size_of-size.result (length c.args.octets.now) (g.B.Blocks.blocks c.args.blocks.now);
  kept = refl;
}

pub add_piece-requires-clause-file : goal.add_piece-requires-clause-file
add_piece-requires-clause-file g c =
    file_now c.args.inodes c.args.at (g.B.Blocks.blocks c.args.blocks.now) c.requires.room c.requires.rule c.requires.below c.requires.file
    (take c.loop-done.done c.args.octets.now) (g.B.Blocks.blocks c.loop-done.blocks) c.loop-done.invariant.here.grown

pub add_piece-requires-clause-within : goal.add_piece-requires-clause-within
add_piece-requires-clause-within g c =
    let from = c.loop-done.done in
    let long = length-take-le from c.args.octets.now c.loop-done.invariant.here.within in
    let now =
    size_now c.args.inodes c.args.at (g.B.Blocks.blocks c.args.blocks.now) c.requires.room c.requires.rule c.requires.below c.requires.file
    (take from c.args.octets.now) (g.B.Blocks.blocks c.loop-done.blocks) c.loop-done.invariant.here.grown in
    let piece = length_piece from c.min-some.result c.args.octets.now (omega (arith, c.loop-done.invariant.here.within)) in
    omega (arith, long, now, piece, c.size_of-size.ensures)

pub add_piece-requires-clause-enough : goal.add_piece-requires-clause-enough
add_piece-requires-clause-enough g c =
    let from = c.loop-done.done in
    let long = length-take-le from c.args.octets.now c.loop-done.invariant.here.within in
    let some = length (take (from + c.min-some.result - from) (drop from c.args.octets.now)) in
    let piece = length_piece from c.min-some.result c.args.octets.now (omega (arith, c.loop-done.invariant.here.within)) in
    room_now c.args.inodes c.args.at (g.B.Blocks.blocks c.args.blocks.now) c.requires.room c.requires.rule c.requires.below c.requires.file
    (take from c.args.octets.now) (g.B.Blocks.blocks c.loop-done.blocks) c.loop-done.invariant.here.grown some (length c.args.octets.now)
    (omega (arith, long, piece, c.loop-done.invariant.here.within)) c.requires.enough

pub add_piece-requires-clause-none : goal.add_piece-requires-clause-none
add_piece-requires-clause-none g c b less low =
    let grown = c.loop-done.invariant.here.grown in
    grown.kept b (omega (arith, low, grown.count, c.requires.room.count_few)) (c.requires.none b less (omega (arith, low, grown.count)))

pub loop-done-preserved : goal.loop-done-preserved
loop-done-preserved g c =
    let from = c.loop-done.done in
    let some = c.min-some.result in
    let octets = c.args.octets.now in
    let old = g.B.Blocks.blocks c.args.blocks.now in
    let mid = g.B.Blocks.blocks c.loop-done.blocks in
    let new = g.B.Blocks.blocks c.add_piece.new.blocks in
    record {
      here = record {
        within = omega (arith, c.loop-done.invariant.here.within);
        grown =
            subst (λ (l : List ℕ). GrowsBy c.args.inodes c.args.at l old new) (piece_more from some octets)
            (grows_then c.args.inodes c.args.at (take from octets) (take (from + some - from) (drop from octets)) old
            (g.B.Blocks.blocks c.loop-done.blocks) new c.loop-done.invariant.here.grown c.in_ok-add_piece.ensures.grown
            c.requires.room.count_few);
      };
      spread =
          let piece = length_piece from some octets (omega (arith, c.loop-done.invariant.here.within)) in
          let long = length-take-le from octets c.loop-done.invariant.here.within in
          let now : size (entry c.args.inodes mid c.args.at) ≡ c.size_of-size.result + from =
          size_now c.args.inodes c.args.at old c.requires.room c.requires.rule c.requires.below c.requires.file
          (take from octets) mid c.loop-done.invariant.here.grown ∙ omega (arith, long, c.size_of-size.ensures) in
          spread_more c.args.at c.size_of-size.result from some (length octets) old mid new c.loop-done.invariant.spread
          (touched c.args.at (size (entry c.args.inodes mid c.args.at)) (c.size_of-size.result + from)
          (length (take (from + some - from) (drop from octets))) some mid new now piece c.in_ok-add_piece.ensures.touches)
          (omega arith) (omega arith) (λ more. omega (arith, more)) (omega (arith, c.loop-done.invariant.here.within));
      kept = c.in_ok-add_piece.ensures.kept ∙ c.loop-done.invariant.kept;
    }

pub returns-clause-touches : goal.returns-clause-touches
returns-clause-touches g c =
    let old = g.B.Blocks.blocks c.args.blocks.now in
    let new = g.B.Blocks.blocks c.loop-done.blocks in
    let invariant = c.loop-done.invariant in
    let octets = c.args.octets.now in
    let done : c.loop-done.done ≡ length octets = omega (arith, invariant.here.within) in
    let all : length (take c.loop-done.done octets) ≡ length octets = length-take-le c.loop-done.done octets invariant.here.within ∙ done in
    let sum : size (entry c.args.inodes old c.args.at) + length (take c.loop-done.done octets) ≡ c.size_of-size.result + length octets =
    omega (arith, all, c.size_of-size.ensures) in
    subst (λ (n : ℕ). Touches (touched_by_growth n (length octets)) old new) c.size_of-size.ensures
    (spread_all c.args.at c.size_of-size.result (length octets) old new
    (λ few. no_double_now c.args.inodes c.args.at old c.requires.room c.requires.rule c.requires.below c.requires.file
    (take c.loop-done.done octets) new invariant.here.grown (omega (arith, few, sum)))
    (λ few. no_table_now c.args.inodes c.args.at old c.requires.room c.requires.rule c.requires.below c.requires.file
    (take c.loop-done.done octets) new invariant.here.grown (omega (arith, few, sum)))
    (subst (λ (n : ℕ). Spread c.args.at c.size_of-size.result n (length octets) old new) done invariant.spread))

pub returns-clause-taken : goal.returns-clause-taken
returns-clause-taken g c =
    let octets = c.args.octets.now in
    let invariant = c.loop-done.invariant.here in
    let all : length (take c.loop-done.done octets) ≡ length octets = length-take-le c.loop-done.done octets invariant.within
    ∙ omega (arith, invariant.within) in
    taken_is c.args.inodes c.args.at (g.B.Blocks.blocks c.args.blocks.now) c.requires.room c.requires.rule c.requires.below c.requires.file
    (take c.loop-done.done octets) (g.B.Blocks.blocks c.loop-done.blocks) invariant.grown
    c.blocks_more.result
    (ap (λ (n : ℕ). blocks_for n + c.blocks_more.result) (sym c.size_of-size.ensures) ∙ c.blocks_more.ensures
    ∙ ap (λ (n : ℕ). blocks_for (n + length octets)) c.size_of-size.ensures
    ∙ ap (λ (n : ℕ). blocks_for (size (entry c.args.inodes (g.B.Blocks.blocks c.args.blocks.now) c.args.at) + n)) (sym all))

pub returns-clause-grown : goal.returns-clause-grown
returns-clause-grown g c =
    let octets = c.args.octets.now in
    let invariant = c.loop-done.invariant.here in
    subst (λ (l : List ℕ). GrowsBy c.args.inodes c.args.at l (g.B.Blocks.blocks c.args.blocks.now) (g.B.Blocks.blocks c.loop-done.blocks))
    (take_all c.loop-done.done octets (omega (arith, invariant.within))) invariant.grown
