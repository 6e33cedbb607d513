use Rattle.std.proofs.Common.{◌≡◌, ℕ, ◌+◌, ◌%◌, ◌≤◌, List, length, take, replicate, refl, sym, ◌∙◌, ap, subst, arith}
use Rattle.std.proofs.lemmas.List.{length-replicate, take-replicate, replicate-append-replicate}
use Rattle.model.specs.Files.{entry, size}
use Rattle.fs_inodes.specs.Growing.{GrowsBy, HasRoomFor}
use Rattle.fs_inodes.proofs.Grown.{grows_none, grows_then, file_now, no_double_now, no_table_now, size_now, room_now, touched}
use Rattle.fs_layout.specs.Touches.{Touches, touched_by_growth}
use Rattle.fs_layout.proofs.Touching.{Spread, spread_none, spread_more, spread_all}
use Rattle.fs_inodes.proofs.growing.extend_zeros.Goals as goal

-- a front of a block of zeros
front_is : (some : ℕ) → some ≤ 4096 → take some (replicate 4096 0) ≡ replicate {A = ℕ} some 0
front_is some few = take-replicate {X = ℕ} some 4096 0 few

pub loop-from-init : goal.loop-from-init
loop-from-init g c = record {
  here = record {
    within = omega arith;
    grown = grows_none c.args.inodes c.args.at (g.B.Blocks.blocks c.args.blocks.now) c.requires.room c.requires.rule c.requires.below
        c.requires.file;
  };
  spread = spread_none c.args.at c.size_of-size.result (c.args.count) (g.B.Blocks.blocks c.args.blocks.now);
  kept = refl;
}

pub add_piece-requires-clause-file : goal.add_piece-requires-clause-file
add_piece-requires-clause-file g c =
    file_now c.args.inodes c.args.at (g.B.Blocks.blocks c.args.blocks.now) c.requires.room c.requires.rule c.requires.below c.requires.file
    (replicate c.loop-from.from 0) (g.B.Blocks.blocks c.loop-from.blocks) c.loop-from.invariant.here.grown

pub add_piece-requires-clause-within : goal.add_piece-requires-clause-within
add_piece-requires-clause-within g c =
    let from = c.loop-from.from in
    let some = c.min-some.result in
    let now =
    size_now c.args.inodes c.args.at (g.B.Blocks.blocks c.args.blocks.now) c.requires.room c.requires.rule c.requires.below c.requires.file
    (replicate from 0) (g.B.Blocks.blocks c.loop-from.blocks) c.loop-from.invariant.here.grown in
    let long = length-replicate {A = ℕ} from 0 in
    let e_size = size (entry c.args.inodes (g.B.Blocks.blocks c.loop-from.blocks) c.args.at) in
    subst (λ (l : List ℕ). e_size % 4096 + length l ≤ 4096) (sym (front_is some (omega arith)))
    (omega (arith, length-replicate {A = ℕ} some 0, now, long, c.size_of-size.ensures))

pub add_piece-requires-clause-enough : goal.add_piece-requires-clause-enough
add_piece-requires-clause-enough g c =
    let from = c.loop-from.from in
    let some = c.min-some.result in
    let blocks = g.B.Blocks.blocks c.loop-from.blocks in
    let e_size = size (entry c.args.inodes (g.B.Blocks.blocks c.loop-from.blocks) c.args.at) in
    subst (λ (l : List ℕ). HasRoomFor blocks e_size (e_size + length l)) (sym (front_is some (omega arith)))
    (room_now c.args.inodes c.args.at (g.B.Blocks.blocks c.args.blocks.now) c.requires.room c.requires.rule c.requires.below c.requires.file
    (replicate from 0) blocks c.loop-from.invariant.here.grown (length (replicate {A = ℕ} some 0)) c.args.count
    (omega (arith, length-replicate {A = ℕ} from 0, length-replicate {A = ℕ} some 0, c.loop-from.invariant.here.within)) c.requires.enough)

pub loop-from-preserved : goal.loop-from-preserved
loop-from-preserved g c =
    let from = c.loop-from.from in
    let some = c.min-some.result in
    let old = g.B.Blocks.blocks c.args.blocks.now in
    let mid = g.B.Blocks.blocks c.loop-from.blocks in
    let new = g.B.Blocks.blocks c.add_piece.new.blocks in
    let grown : GrowsBy c.args.inodes c.args.at (take some (replicate 4096 0)) mid new = c.in_ok-add_piece.ensures.grown in
    record {
      here = record {
        within = omega (arith, c.loop-from.invariant.here.within);
        grown =
            subst (λ (l : List ℕ). GrowsBy c.args.inodes c.args.at l old new) (replicate-append-replicate {A = ℕ} from some 0)
            (grows_then c.args.inodes c.args.at (replicate from 0) (replicate some 0) old mid new c.loop-from.invariant.here.grown
            (subst (λ (l : List ℕ). GrowsBy c.args.inodes c.args.at l mid new) (front_is some (omega arith)) grown)
            c.requires.room.count_few);
      };
      spread =
          let piece : length (take some (replicate 4096 0)) ≡ some = ap (λ (l : List ℕ). length l) (front_is some (omega arith))
          ∙ length-replicate {A = ℕ} some 0 in
          let long = length-replicate {A = ℕ} from 0 in
          let now : size (entry c.args.inodes mid c.args.at) ≡ c.size_of-size.result + from =
          size_now c.args.inodes c.args.at old c.requires.room c.requires.rule c.requires.below c.requires.file
          (replicate from 0) mid c.loop-from.invariant.here.grown ∙ omega (arith, long, c.size_of-size.ensures) in
          spread_more c.args.at c.size_of-size.result from some (c.args.count) old mid new c.loop-from.invariant.spread
          (touched c.args.at (size (entry c.args.inodes mid c.args.at)) (c.size_of-size.result + from)
          (length (take some (replicate {A = ℕ} 4096 0))) some mid new now piece c.in_ok-add_piece.ensures.touches)
          (omega arith) (omega arith) (λ more. omega (arith, more)) (omega (arith, c.loop-from.invariant.here.within));
      kept = c.in_ok-add_piece.ensures.kept ∙ c.loop-from.invariant.kept;
    }

pub returns-clause-touches : goal.returns-clause-touches
returns-clause-touches g c =
    let old = g.B.Blocks.blocks c.args.blocks.now in
    let new = g.B.Blocks.blocks c.loop-from.blocks in
    let invariant = c.loop-from.invariant in
    let done : c.loop-from.from ≡ c.args.count = omega (arith, invariant.here.within) in
    let sum : size (entry c.args.inodes old c.args.at) + length (replicate {A = ℕ} c.loop-from.from 0)
    ≡ c.size_of-size.result + c.args.count = omega (arith, length-replicate {A = ℕ} c.loop-from.from 0, done, c.size_of-size.ensures) in
    subst (λ (n : ℕ). Touches (touched_by_growth n (c.args.count)) old new) c.size_of-size.ensures
    (spread_all c.args.at c.size_of-size.result (c.args.count) old new
    (λ few. no_double_now c.args.inodes c.args.at old c.requires.room c.requires.rule c.requires.below c.requires.file
    (replicate c.loop-from.from 0) new invariant.here.grown (omega (arith, few, sum)))
    (λ few. no_table_now c.args.inodes c.args.at old c.requires.room c.requires.rule c.requires.below c.requires.file
    (replicate c.loop-from.from 0) new invariant.here.grown (omega (arith, few, sum)))
    (subst (λ (n : ℕ). Spread c.args.at c.size_of-size.result n (c.args.count) old new) done invariant.spread))

pub returns-clause-grown : goal.returns-clause-grown
returns-clause-grown g c =
    let done : c.loop-from.from ≡ c.args.count = omega (arith, c.loop-from.invariant.here.within) in
    subst (λ (n : ℕ). GrowsBy c.args.inodes c.args.at (replicate n 0) (g.B.Blocks.blocks c.args.blocks.now)
    (g.B.Blocks.blocks c.loop-from.blocks)) done c.loop-from.invariant.here.grown
