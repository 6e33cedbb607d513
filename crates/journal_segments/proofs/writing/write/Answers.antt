use Rattle.std.proofs.Common.{ℕ, subst}
use Rattle.disk.specs.Calls.{Writes}
use Rattle.journal_segments.proofs.writing.write.Goals as goal

pub returns : goal.returns
returns g c =
    subst (λ (at : ℕ). Writes g.D.Disk.write_grows at c.args.octets.now c.write.result (g.D.Disk.device c.args.disk.now)
    (g.D.Disk.device c.write.new.self)) c.start_of.ensures c.write.ensures
