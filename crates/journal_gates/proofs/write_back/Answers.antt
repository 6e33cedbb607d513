use Rattle.std.proofs.Common.{inl, ℕ, sym, subst, arith}
use Rattle.journal_gates.specs.Gates.{IsCount}
use Rattle.journal_gates.proofs.Leaving.{leaves}
use Rattle.journal_gates.proofs.write_back.Goals as goal

pub returns-clause-calls : goal.returns-clause-calls
returns-clause-calls g c =
    inl (record {
      octets = c.read_gates.new.gates;
      few = omega (arith, c.read_gates.auto.gates, c.requires.few);
      read = c.read_gates.new.disk;
      look = c.read_gates.ensures.look;
      seen = c.in_ok-read_gates.ensures.seen;
      count = λ t. subst (λ (n : ℕ). IsCount n (g.D.Disk.device c.args.disk.now)) (sym c.read_gates.auto.gates) (c.requires.count t);
      gates = c.in_ok-read_gates.ensures.gates;
      written = c.write_gates.ensures;
    })

pub returns-clause-leaves : goal.returns-clause-leaves
returns-clause-leaves g c =
    leaves _ g.D.Disk.device g.D.Disk.write_grows g.D.Disk.sync_grows (λ d t. g.met.D.Disk.image_size d (g.D.Disk.device d).content t
    (g.met.D.Disk.counts_content d t))
    c.write_gates.result c.args.disk.now c.write_gates.new.disk
    (record {
      octets = c.read_gates.new.gates;
      few = omega (arith, c.read_gates.auto.gates, c.requires.few);
      read = c.read_gates.new.disk;
      look = c.read_gates.ensures.look;
      seen = c.in_ok-read_gates.ensures.seen;
      count = λ t. subst (λ (n : ℕ). IsCount n (g.D.Disk.device c.args.disk.now)) (sym c.read_gates.auto.gates) (c.requires.count t);
      gates = c.in_ok-read_gates.ensures.gates;
      written = c.write_gates.ensures;
    })
