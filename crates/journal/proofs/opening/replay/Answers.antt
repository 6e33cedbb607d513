use Rattle.std.proofs.Common.{Bool, IsTrue, sym, subst}
use Rattle.disk.specs.Device.{Elapses}
use Rattle.journal.specs.Inside.{IsVolume, LeftAs}
use Rattle.journal.specs.Journal.{IsCaused}
use Rattle.journal.proofs.opening.replay.Goals as goal

-- what the device then holds is among what a crash may leave
pub returns-in-Err-clause-left : goal.returns-in-Err-clause-left
returns-in-Err-clause-left g c t =
    let during = c.in-Err.ensures.during in
    let now = g.met.D.Disk.counts_content c.carry_home.new.self.disk (subst (λ (b : Bool). IsTrue b) (sym during.tells) t) in
    subst (λ (d : g.row.D.Denot). IsVolume c.args.journal.format c.args.journal.label c.args.journal.blocks (g.D.Disk.device d).content)
    (sym c.into_disk.ensures)
    (during.now t (g.D.Disk.device c.carry_home.new.self.disk).content now)

pub returns-in-Err-clause-err : goal.returns-in-Err-clause-err
returns-in-Err-clause-err g c =
    subst (λ (d : g.row.D.Denot). IsCaused c.in-Err.error (g.D.Disk.device c.args.journal.disk) (g.D.Disk.device d)
    × Elapses (g.D.Disk.device c.args.journal.disk) (g.D.Disk.device d)
    × LeftAs (g.D.Disk.device c.args.journal.disk) (g.D.Disk.device d) c.args.journal.format c.args.journal.label c.args.journal.blocks)
    (sym c.into_disk.ensures) (
      c.in-Err.ensures.cause,
      record {
        size = c.in-Err.ensures.during.size;
        tells = c.in-Err.ensures.during.tells;
        later = c.in-Err.ensures.during.later;
      },
      c.in-Err.ensures.during.since,
    )
