use Rattle.std.proofs.Common.{◌≡◌, ◌≢◌, ℕ, ◌+◌, ◌-◌, ◌*◌, length, get_or, drop, take, sym, ◌∙◌, ap, subst, arith}
use Rattle.disk.specs.Image.{part}
use Rattle.disk.proofs.Images.{length-part}
use Rattle.journal_volume.specs.Numbers.{Numbers}
use Rattle.journal_volume.specs.Parts.{part_of}
use Rattle.journal_volume.proofs.Marked.{IsMarked, marked_all, marked_other, marked_same}
use Rattle.journal_volume.proofs.Told.{told_apart, told_same}
use Rattle.journal_volume.proofs.volume.mark_changed.Goals as goal
use Rattle.journal_volume.proofs.volume.mark_changed.Goals.{then-ne, else-ne}

pub loop-place-preserved : goal.loop-place-preserved
loop-place-preserved c =
    let at = c.loop-place.place in
    let blocks = c.args.blocks.now.blocks in
    let numbers = c.args.numbers.now in
    let octets = c.args.octets.now in
    let within = c.loop-place-test.true in
    let many : at * 256 + 256 - at * 256 ≡ 256 = omega arith in
    let start : at * 256 ≡ 256 * at = omega arith in
    let given : take (at * 256 + 256 - at * 256) (drop (at * 256) octets) ≡ part (256 * at) 256 octets =
    ap (λ (n : ℕ). take n (drop (at * 256) octets)) many ∙ ap (λ (n : ℕ). take 256 (drop n octets)) start in
    let size : length (part (256 * at) 256 octets) ≡ 256 = length-part (256 * at) 256 octets (omega (arith, c.requires.size)) in
    elim c.if-ne.branch [
      | then-ne w ↦
          let other : part_of blocks (get_or numbers at 0) ≢ part (256 * at) 256 octets =
          λ same. told_apart c.part_of.result.now (take (at * 256 + 256 - at * 256) (drop (at * 256) octets)) w.if-ne.ensures
          (c.part_of.ensures.octets ∙ same ∙ sym given) in
          subst (λ (d : Numbers). IsMarked (at + 1) blocks numbers octets c.args.dirty.now d) (sym w.dirty-is)
          (marked_other at blocks numbers octets c.args.dirty.now c.loop-place.dirty c.loop-place.invariant c.len-count.ensures.whole
          c.requires.there c.requires.size c.requires.distinct within w.mark.new.dirty other size w.mark.ensures.bound
          w.mark.ensures.valid w.mark.ensures.members)
      | else-ne w ↦
          let same : part_of blocks (get_or numbers at 0) ≡ part (256 * at) 256 octets =
          sym c.part_of.ensures.octets
          ∙ told_same c.part_of.result.now (take (at * 256 + 256 - at * 256) (drop (at * 256) octets)) w.if-ne.ensures ∙ given in
          subst (λ (d : Numbers). IsMarked (at + 1) blocks numbers octets c.args.dirty.now d) (sym w.dirty-is)
          (marked_same at blocks numbers octets c.args.dirty.now c.loop-place.dirty c.loop-place.invariant c.len-count.ensures.whole
          c.requires.there c.requires.size c.requires.distinct within same)
    ]

pub returns-clause-dirty : goal.returns-clause-dirty
returns-clause-dirty c =
    marked_all c.loop-place.place c.args.blocks.now.blocks c.args.numbers.now c.args.octets.now c.args.dirty.now c.loop-place.dirty
    c.loop-place.invariant c.loop-place-test.false
