use Rattle.std.proofs.Common.{◌+◌, ◌*◌, length, take, refl, arith, length-take}
use Rattle.journal_loading.proofs.Loads.{loads_none, loaded_more, loaded_all}
use Rattle.journal_loading.proofs.loading.load_all.Goals as goal

pub loop-number-init : goal.loop-number-init
loop-number-init g c = record {
  loads = loads_none g.D.Disk.device c.args.journal.now c.requires.ready.1 c.requires.now;
  running = c.requires.ready.0;
  failures = refl;
  room = refl;
  blocks = λ tells k low. absurd (omega (arith, low));
}

pub loop-number-preserved : goal.loop-number-preserved
loop-number-preserved g c =
    let done = c.in_ok-load_piece.ensures in
    let size = length-take (c.min-some.result * 4096) c.loop-number.piece in
    loaded_more g.D.Disk.device (c.loop-number.number * 256) (length (take (c.min-some.result * 4096) c.loop-number.piece))
    c.args.cache.now.blocks c.loop-number.cache.blocks c.load_piece.new.cache.blocks c.args.journal.now c.loop-number.journal
    c.load_piece.new.journal c.loop-number.invariant done.count done.cache done.loads done.ok.0 done.ok.1
    ((c.loop-number.number + 1) * 256)
    (λ k below there. omega
    (arith, below, there, size, c.min-some.ensures, c.len-count.ensures.count, c.loop-number.auto.piece, c.requires.room))

pub returns-clause-loaded : goal.returns-clause-loaded
returns-clause-loaded g c =
    loaded_all g.D.Disk.device (c.loop-number.number * 256) c.args.cache.now.blocks c.loop-number.cache.blocks c.args.journal.now
    c.loop-number.journal c.loop-number.invariant c.requires.whole c.requires.count
    (omega (arith, c.div_ceil-number-end.ensures, c.loop-number-test.false, c.len-count.ensures.count))
