use Rattle.std.proofs.Common.{ℕ, ◌+◌, ◌-◌, ◌*◌, List, length, drop, Option, refl, sym, ◌∙◌, ap, subst, arith}
use Rattle.std.proofs.lemmas.List.{drop_all}
use Rattle.disk.specs.Image.{part}
use Rattle.disk_cache.specs.Runs.{Run, runs_from, writes_of}
use Rattle.disk_cache.specs.Slots.{cell, places}
use Rattle.disk_cache.proofs.Blocks.{IsGivingTo, giving_done, giving_more, giving_refused, giving_starts, length-places, one_run, skipped}
use Rattle.disk_cache.proofs.giving.give_slots.Goals as goal

pub loop-next-init : goal.loop-next-init
loop-next-init g c =
    let s = c.args.slots.now in (
      omega arith,
      giving_starts g.D.Disk.device g.D.Disk.write_grows g.D.Disk.sync_grows (4096 * s.block)
          (places (cell s.fills.now s.flags.now s.octets.now) (length s.flags.now))
          c.args.disk.now,
    )

pub write-requires : goal.write-requires
write-requires g c =
    let run = c.in-Some.ensures.some in
    let at = run.each (c.in-Some.next.end - 1) (omega (arith, run.some)) (omega (arith, run.some)) in
    let last = c.requires.fits (c.in-Some.next.end - 1) (omega (arith, run.some, run.high)) at in
    omega (
      arith,
      last,
      c.loop-next.invariant.1.size,
      run.some,
      run.high,
      c.requires.whole.flags_size,
      c.requires.whole.octets_size,
    )

pub loop-next-preserved : goal.loop-next-preserved
loop-next-preserved g c =
    let s = c.args.slots.now in
    let run = c.in-Some.ensures.some in (
      run.high,
      giving_more g.D.Disk.device g.D.Disk.write_grows g.D.Disk.sync_grows _ (record {
        at = 4096 * s.block + c.in-Some.next.start;
        octets = part c.in-Some.next.start (c.in-Some.next.end - c.in-Some.next.start) s.octets.now;
      }) _ _ _ _
          (subst (λ (runs : List Run). IsGivingTo g.D.Disk.device g.D.Disk.write_grows g.D.Disk.sync_grows
          (writes_of (runs_from (4096 * s.block) (places (cell s.fills.now s.flags.now s.octets.now) (length s.flags.now))))
          (writes_of runs) c.args.disk.now c.loop-next.disk)
          (one_run s.fills.now s.flags.now s.octets.now (4096 * s.block) c.loop-next.from
          (c.requires.whole.octets_size ∙ sym c.requires.whole.flags_size) c.loop-next.invariant.0 c.in-Some.next.start
          c.in-Some.next.end run)
          c.loop-next.invariant.1)
          c.in-Ok.ensures,
    )

pub returns-in-Err-clause-makes : goal.returns-in-Err-clause-makes
returns-in-Err-clause-makes g c =
    let s = c.args.slots.now in
    let run = c.in-Some.ensures.some in
    giving_refused g.D.Disk.device g.D.Disk.write_grows g.D.Disk.sync_grows _ (record {
      at = 4096 * s.block + c.in-Some.next.start;
      octets = part c.in-Some.next.start (c.in-Some.next.end - c.in-Some.next.start) s.octets.now;
    }) _ _ _ _ c.in-Err.error
    (subst (λ (runs : List Run). IsGivingTo g.D.Disk.device g.D.Disk.write_grows g.D.Disk.sync_grows
    (writes_of (runs_from (4096 * s.block) (places (cell s.fills.now s.flags.now s.octets.now) (length s.flags.now))))
    (writes_of runs) c.args.disk.now c.loop-next.disk)
    (one_run s.fills.now s.flags.now s.octets.now (4096 * s.block) c.loop-next.from
    (c.requires.whole.octets_size ∙ sym c.requires.whole.flags_size) c.loop-next.invariant.0 c.in-Some.next.start c.in-Some.next.end run)
    c.loop-next.invariant.1)
    c.in-Err.ensures

pub returns-clause-makes : goal.returns-clause-makes
returns-clause-makes g c =
    let s = c.args.slots.now in
    let n = length-places (cell s.fills.now s.flags.now s.octets.now) (length s.flags.now) in
    giving_done g.D.Disk.device g.D.Disk.write_grows g.D.Disk.sync_grows _ (runs_from (4096 * s.block + c.loop-next.from)
    (drop c.loop-next.from (places (cell s.fills.now s.flags.now s.octets.now) (length s.flags.now)))) _ _
    (skipped s.fills.now s.flags.now s.octets.now (4096 * s.block) c.loop-next.from
    (c.requires.whole.octets_size ∙ sym c.requires.whole.flags_size) c.loop-next.invariant.0 (length s.flags.now)
    c.loop-next.invariant.0 (omega arith) (c.in_default.ensures.none refl)
    ∙ ap (λ (l : List (Option ℕ)). runs_from (4096 * s.block + length s.flags.now) l)
    (drop_all (length s.flags.now) (places (cell s.fills.now s.flags.now s.octets.now) (length s.flags.now)) (omega (arith, n))))
    c.loop-next.invariant.1
