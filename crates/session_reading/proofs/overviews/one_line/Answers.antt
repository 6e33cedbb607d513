use Rattle.std.proofs.Common.{◌≡◌, ◌++◌, sym, ◌∙◌, ap, subst, arith}
use Rattle.std.specs.Prelude.{IfOk}
use Rattle.model.specs.Answer as answers
use Rattle.model.specs.Article.{overview_line}
use Rattle.model.specs.Replies.{overview_follows}
use Rattle.model.specs.Stream.{dot_line, line}
use Rattle.session_lookups.specs.Held.{text_of}
use Rattle.session_replies.specs.Answered.{answered}
use Rattle.session_reading.proofs.Replied.{overview_block}
use Rattle.session_reading.proofs.overviews.one_line.Goals as goal

pub returns : goal.returns
returns g c =
    let one = line (overview_line c.args.number (text_of (g.L.LookUps.changes c.args.spool.now) c.args.serial)) in
    let items = c.in_ok-push_end.ensures
    ∙ ap (λ os. os ++ dot_line) (c.in_ok-push_overview.ensures
    ∙ ap (λ os. os ++ one) (c.in_ok-push_heading.ensures ∙ ap (λ os. os ++ line overview_follows) c.new-reply.ensures.items)) in
    subst (λ os. IfOk c.says.result (λ r. r ≡ answered (answers.says c.args.session.now os) c.args.reads))
    (items ∙ sym (overview_block overview_follows c.args.number (text_of (g.L.LookUps.changes c.args.spool.now) c.args.serial)
    (omega (arith, c.ranges.number.fits))))
    c.says.ensures
