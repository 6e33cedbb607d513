use Rattle.std.proofs.Common.{◌≡◌, ◌≤◌, ℕ, ◌+◌, ◌-◌, ◌*◌, ◌/◌, List, length, get_or, drop, take, sym, ◌∙◌, ap, subst, arith}
use borrow.Rule.Slice.PartMut.{put_mid, mid_of}
use Rattle.disk.specs.Image.{part, overwritten}
use Rattle.disk.proofs.Images.{length-part}
use Rattle.journal_volume.specs.Chunks.{HasOctets}
use Rattle.journal_volume.proofs.Exchanged.{exchanged_all, exchanged_back, exchanged_more, same_count, same_made}
use Rattle.journal_volume.proofs.PartsIn.{length-part_put, part_put, part_put_other, put_mid_is}
use Rattle.journal_volume.proofs.volume.exchange_parts.Goals as goal

pub swap_part-requires-clause-there : goal.swap_part-requires-clause-there
swap_part-requires-clause-there c =
    let l = c.loop-place in
    omega (
      arith,
      c.requires.there l.place 0 c.loop-place-test.true,
      same_count l.place c.args.numbers.now c.args.blocks.now l.blocks c.args.octets.now l.octets l.invariant c.requires.whole
          c.requires.there c.requires.size c.requires.distinct,
    )

pub swap_part-requires-clause-room : goal.swap_part-requires-clause-room
swap_part-requires-clause-room c =
    let l = c.loop-place in
    let same = same_made l.place c.args.numbers.now c.args.blocks.now l.blocks c.args.octets.now l.octets l.invariant c.requires.whole
    c.requires.there c.requires.size c.requires.distinct in
    subst (λ (made : List ℕ). HasOctets made (get_or c.args.numbers.now l.place 0 / 16)) (sym same)
    (c.requires.room l.place 0 c.loop-place-test.true)

pub loop-place-preserved : goal.loop-place-preserved
loop-place-preserved c =
    let l = c.loop-place in
    let numbers = c.args.numbers.now in
    let within = c.loop-place-test.true in
    let many : l.place * 256 + 256 - l.place * 256 ≡ 256 = omega arith in
    let start : l.place * 256 ≡ 256 * l.place = omega arith in
    let fits : 256 * l.place + 256 ≤ length l.octets = omega (arith, l.invariant.size, c.requires.size) in
    let other = c.swap_part.new.other in
    let given : mid_of (l.place * 256) (l.place * 256 + 256 - l.place * 256) l.octets ≡ part (256 * l.place) 256 l.octets =
    ap (λ (n : ℕ). mid_of (l.place * 256) n l.octets) many ∙ ap (λ (n : ℕ). take 256 (drop n l.octets)) start in
    let size : length other ≡ 256 =
    omega (arith, c.swap_part.auto.other, ap length given, length-part (256 * l.place) 256 l.octets fits) in
    let new : put_mid (l.place * 256) (l.place * 256 + 256 - l.place * 256) l.octets other ≡ overwritten (256 * l.place) other l.octets =
    put_mid_is (l.place * 256) (l.place * 256 + 256 - l.place * 256) other l.octets (size ∙ sym many)
    ∙ ap (λ (n : ℕ). overwritten n other l.octets) start in
    exchanged_more l.place numbers c.args.blocks.now l.blocks c.args.octets.now l.octets l.invariant c.requires.whole c.requires.there
    c.requires.size c.requires.distinct within
    c.swap_part.new.blocks (put_mid (l.place * 256) (l.place * 256 + 256 - l.place * 256) l.octets other)
    (mid_of (l.place * 256) (l.place * 256 + 256 - l.place * 256) l.octets) other given
    c.swap_part.ensures.blocks c.swap_part.ensures.other
    (ap length new ∙ length-part_put l.place other l.octets size fits)
    (ap (λ (o : List ℕ). part (256 * l.place) 256 o) new ∙ part_put l.place other l.octets size fits)
    (λ i apart inside. ap (λ (o : List ℕ). part (256 * i) 256 o) new ∙ part_put_other l.place other l.octets size fits i apart)

pub returns-clause-blocks : goal.returns-clause-blocks
returns-clause-blocks c =
    let l = c.loop-place in
    exchanged_all l.place c.args.numbers.now c.args.blocks.now l.blocks c.args.octets.now l.octets l.invariant c.requires.whole
    c.requires.there c.requires.size c.requires.distinct c.loop-place-test.false

pub returns-clause-back : goal.returns-clause-back
returns-clause-back c =
    let l = c.loop-place in
    exchanged_back l.place c.args.numbers.now c.args.blocks.now l.blocks c.args.octets.now l.octets l.invariant c.requires.whole
    c.requires.there c.requires.size c.requires.distinct c.loop-place-test.false
