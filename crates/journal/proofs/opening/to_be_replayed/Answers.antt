use Rattle.std.proofs.Common.{◌≡◌, ◌<◌, ◌+◌, ◌-◌, ℕ, IsTrue, length, arith}
use Rattle.journal.proofs.Found.{replay_format, replay_kept, replay_some, replay_stands, replay_syncs, replay_writes}
use Rattle.journal.proofs.Whole.{kept_whole}
use Rattle.journal.proofs.opening.to_be_replayed.Given.{Over}
use Rattle.journal.proofs.opening.to_be_replayed.Goals as goal

sized : (g : Over) (d : g.row.D.Denot) → IsTrue (g.D.Disk.device d).tells → length (g.D.Disk.device d).content ≡ (g.D.Disk.device d).size
sized g d t = g.met.D.Disk.image_size d (g.D.Disk.device d).content t (g.met.D.Disk.counts_content d t)

above : (n : ℕ) → 0 < n → n ≡ n - 1 + 1
above n some = omega (arith, some)

pub invariant_of-result : goal.invariant_of-result
invariant_of-result g c =
    replay_kept _ _ _ _ (sized g c.args.disk) (g.met.D.Disk.counts_content c.args.disk) _ _
    (above c.args.found c.requires.some) c.requires.found

pub returns-clause-now : goal.returns-clause-now
returns-clause-now g c t image left =
    let kept = invariant_of-result g c in
    ((kept.told t).admits image left, kept.formats t image left)

pub returns-clause-whole : goal.returns-clause-whole
returns-clause-whole g c = kept_whole _ _ _ _ _ _ _ _ (invariant_of-result g c) (g.met.D.Disk.counts_content c.args.disk)

pub returns-clause-stands : goal.returns-clause-stands
returns-clause-stands g c =
    replay_stands _ _ _ _ (sized g c.args.disk) (g.met.D.Disk.counts_content c.args.disk) _ _
    (above c.args.found c.requires.some) c.requires.found

pub returns-clause-open : goal.returns-clause-open
returns-clause-open g c =
    replay_writes _ _ _ _ (sized g c.args.disk) (g.met.D.Disk.counts_content c.args.disk) _ _
    (above c.args.found c.requires.some) c.requires.found

pub returns-clause-syncs : goal.returns-clause-syncs
returns-clause-syncs g c =
    replay_syncs _ _ _ _ (sized g c.args.disk) (g.met.D.Disk.counts_content c.args.disk) _ _
    (above c.args.found c.requires.some) c.requires.found

pub returns-clause-some : goal.returns-clause-some
returns-clause-some g c =
    replay_some _ _ _ _ (sized g c.args.disk) (g.met.D.Disk.counts_content c.args.disk) _ _
    (above c.args.found c.requires.some) c.requires.found

pub returns-clause-format : goal.returns-clause-format
returns-clause-format g c =
    replay_format _ _ _ _ (sized g c.args.disk) (g.met.D.Disk.counts_content c.args.disk) _ _
    (above c.args.found c.requires.some) c.requires.found
