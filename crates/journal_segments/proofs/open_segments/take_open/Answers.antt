use Rattle.std.proofs.Common.{◌≡◌, ℕ, ◌+◌, sym, ◌∙◌, ap, subst, arith, Result, Err}
use Rattle.std.proofs.lemmas.Bool.{true≢false}
use Rattle.model.specs.Volume.{IsDescriptor, block, descriptor_place}
use Rattle.journal_laws.proofs.Standing.{valid_open}
use Rattle.journal_segments.specs.declared.SegmentError.{SegmentError}
use Rattle.journal_segments.specs.declared.SegmentError.TheVariants.{Fault, NotAVolume}
use Rattle.journal_segments.proofs.Gates.{found_then, taken, twice}
use Rattle.journal_segments.proofs.open_segments.take_open.Goals as goal

pub returns-then-not-is_new-clause-err : goal.returns-then-not-is_new-clause-err
returns-then-not-is_new-clause-err g c =
    record {
      fault = λ is. absurd (let two : NotAVolume ≡ Fault = is in cc);
      no_volume = λ is t. twice (g.D.Disk.device c.args.disk.now) c.args.blocks c.args.place c.args.room.now.items c.args.found
          c.requires.so_far c.read_at.new.room.items c.read_at.ensures.count c.read_at.ensures.others c.read_at.ensures.place
          c.in-Ok.ensures.read c.requires.open
          (λ p. absurd (true≢false (sym (c.is_new.ensures.1 p) ∙ c.if-not-is_new.true)))
          c.requires.segments t;
    }

pub returns-else-not-is_new-clause-found : goal.returns-else-not-is_new-clause-found
returns-else-not-is_new-clause-found g c =
    found_then (g.D.Disk.device c.args.disk.now) (g.D.Disk.device c.read_at.new.disk) c.read_at.ensures.quiet c.in-Ok.ensures.still
    c.args.blocks c.args.place c.put_in.new.room.items (c.args.found + 1)
    (taken (g.D.Disk.device c.args.disk.now) c.args.blocks c.args.place c.args.room.now.items c.args.found c.requires.so_far
    c.read_at.new.room.items c.read_at.ensures.count c.read_at.ensures.others c.read_at.ensures.place c.in-Ok.ensures.read
    c.requires.open
    (c.is_new.ensures.0 c.if-not-is_new.false)
    c.put_in.new.room.items c.put_in.ensures.count c.put_in.ensures.put)

pub returns-in-Err-clause-err : goal.returns-in-Err-clause-err
returns-in-Err-clause-err g c =
    let device = g.D.Disk.device c.args.disk.now in
    record {
      fault = λ is. c.in-Err.ensures.fault (ap (λ (e : SegmentError). let r : Result (Unit {0}) SegmentError = Err e in r) is);
      no_volume = λ is t its_label its_blocks stands.
          c.in-Err.ensures.no_volume (ap (λ (e : SegmentError). let r : Result (Unit {0}) SegmentError = Err e in r) is) t
          (subst (λ (b : ℕ). IsDescriptor b (block (descriptor_place c.args.place) device.content)) (c.requires.blocks t)
          (valid_open device.content its_label its_blocks stands c.args.place
          (omega (arith, c.requires.so_far.within, c.requires.segments t), c.requires.open t)));
    }
