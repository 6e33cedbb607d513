use Rattle.std.proofs.Common.{◌≡◌, Some, inl, inr, true, false, refl, ◌∙◌, sym}
use Rattle.model.specs.Room.{is_full}
use Rattle.model.specs.declared.change.Change.{Change}
use Rattle.model.specs.declared.change.Change.TheVariants.{Article}
use Rattle.spool.specs.View.{Adds}
use Rattle.spool.proofs.Full.{last_serial}
use Rattle.spool.proofs.Large.{are_filed, article_refused}
use Rattle.spool.proofs.Spool.add_in.Goals as goal

pub is_full_for_article-requires : goal.is_full_for_article-requires
is_full_for_article-requires c =
    let s = c.args.self.now in
    are_filed s.host s.changes (record { text = c.args.article.now; envelope = c.args.envelope.now }) c.requires

pub returns-then-is_full_for_article : goal.returns-then-is_full_for_article
returns-then-is_full_for_article c =
    let s = c.args.self.now in
    let its : Change = Article (record { text = c.args.article.now; envelope = c.args.envelope.now }) in
    let full : is_full s.blocks s.inodes s.changes (Some its) ≡ true =
    sym (c.is_full_for_article.ensures c.args.article.now) ∙ c.if-is_full_for_article.true in
    (inr (article_refused s its true full), refl)

pub push-requires-clause-room : goal.push-requires-clause-room
push-requires-clause-room c =
    sym (c.is_full_for_article.ensures c.args.article.now) ∙ c.if-is_full_for_article.false

pub returns-in-Err : goal.returns-in-Err
returns-in-Err c =
    let s = c.args.self.now in
    let its : Change = Article (record { text = c.args.article.now; envelope = c.args.envelope.now }) in
    let room : is_full s.blocks s.inodes s.changes (Some its) ≡ false =
    sym (c.is_full_for_article.ensures c.args.article.now) ∙ c.if-is_full_for_article.false in
    (inl (refl, article_refused s its false room), c.in-Err.ensures.err)

pub returns-in-Ok : goal.returns-in-Ok
returns-in-Ok c =
    let s = c.args.self.now in
    let n = c.push.new.self in
    let its : Change = Article (record { text = c.args.article.now; envelope = c.args.envelope.now }) in
    let room : is_full s.blocks s.inodes s.changes (Some its) ≡ false =
    sym (c.is_full_for_article.ensures c.args.article.now) ∙ c.if-is_full_for_article.false in
    let adds : Adds s n its = c.in-Ok.ensures.ok in
    (article_refused s its false room, (last_serial s n its c.len.result adds c.len.ensures, adds))
