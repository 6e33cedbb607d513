use Rattle.std.proofs.Common.{refl, rules}
use Rattle.session_lookups.specs.Held.{article_of}
use Rattle.volume_store.specs.Filing.{IsOffered}
use Rattle.volume_store.proofs.Transfers.{is_here_by}
use Rattle.volume_store.proofs.transfer.file_article.Goals as goal

pub returns-in-Some-clause-ok : goal.returns-in-Some-clause-ok
returns-in-Some-clause-ok c =
    let S = c.args.spool.now.changes in
    let offered : IsOffered c.args.spool.now c.args.article.now = search rules in (
      offered,
      (
        article_of S c.in-Some.field-0,
        is_here_by S c.args.article.now c.id_of-id.result.now
            (article_of S c.in-Some.field-0) c.requires c.id_of-id.ensures c.in-Some.ensures.is,
      ),
      refl,
    )
