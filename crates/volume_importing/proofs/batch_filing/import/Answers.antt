use Rattle.std.proofs.Common.{Ok, [], ap, subst}
use Rattle.text_rnews.specs.Batch.{Unread, whole}
use Rattle.volume_importing.specs.Imported.{HasRead, none_counted}
use Rattle.volume_importing.proofs.Importing.{if_err, read_committed}
use Rattle.volume_store.proofs.GoingOn.{goes_then}
use Rattle.volume_importing.proofs.batch_filing.import.Goals as goal

pub returns-in_err-stop-clause-failed : goal.returns-in_err-stop-clause-failed
returns-in_err-stop-clause-failed g c =
    let all = c.file_all.ensures.read in
    let counts = c.file_all.new.batch.counts in
    if_err c.from_residual.result (
      all.0,
      counts,
      subst (λ (held : Unread). HasRead c.args.store.now.spool c.file_all.new.store.spool (g.I.Read.remaining c.args.input.now)
          (g.I.Read.remaining c.file_all.new.input) held all.0 none_counted counts)
          c.new.ensures.unread all.1,
    )

pub returns-in_err-commit-clause-failed : goal.returns-in_err-commit-clause-failed
returns-in_err-commit-clause-failed g c =
    let all = c.file_all.ensures.read in
    let counts = c.file_all.new.batch.counts in
    if_err c.from_residual-in_err-commit.result (
      all.0,
      counts,
      read_committed c.args.store.now.spool c.file_all.new.store.spool c.commit.new.self.spool
          (g.I.Read.remaining c.args.input.now) (g.I.Read.remaining c.file_all.new.input) (whole []) all.0 none_counted counts
          (subst (λ (held : Unread). HasRead c.args.store.now.spool c.file_all.new.store.spool
          (g.I.Read.remaining c.args.input.now) (g.I.Read.remaining c.file_all.new.input) held all.0 none_counted counts)
          c.new.ensures.unread all.1)
          c.commit.ensures.spool,
    )

pub returns-in_err-commit-clause-goes_on : goal.returns-in_err-commit-clause-goes_on
returns-in_err-commit-clause-goes_on g c =
    goes_then g.D.Disk.device c.args.store.now c.file_all.new.store c.commit.new.self c.file_all.ensures.goes_on c.commit.ensures.goes_on

pub returns-clause-imported : goal.returns-clause-imported
returns-clause-imported g c =
    let all = c.in_ok-stop.ensures.read in
    let counts = c.file_all.new.batch.counts in
    record {
      left = all.0;
      reads = read_committed c.args.store.now.spool c.file_all.new.store.spool c.commit.new.self.spool
          (g.I.Read.remaining c.args.input.now) (g.I.Read.remaining c.file_all.new.input) (whole []) all.0 none_counted counts
          (subst (λ (held : Unread). HasRead c.args.store.now.spool c.file_all.new.store.spool
          (g.I.Read.remaining c.args.input.now) (g.I.Read.remaining c.file_all.new.input) held all.0 none_counted counts)
          c.new.ensures.unread all.1)
          c.in_ok-commit.ensures.spool;
      ended = λ none. all.2 (ap Ok none);
    }

pub returns-clause-goes_on : goal.returns-clause-goes_on
returns-clause-goes_on g c =
    goes_then g.D.Disk.device c.args.store.now c.file_all.new.store c.commit.new.self c.file_all.ensures.goes_on c.commit.ensures.goes_on
