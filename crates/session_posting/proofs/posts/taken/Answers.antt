use Rattle.std.proofs.Common.{◌≡◌, List, ℕ, ◌+◌, length, sym, ◌∙◌, subst}
use Rattle.std.specs.Prelude.{IfOk, IsTrue, None, Some}
use Rattle.model.specs.Answer.{groups_here, same_id, spool_outcome}
use Rattle.model.specs.Article.{Posted, cause, groups_of, injected}
use Rattle.model.specs.Names.{is_host}
use Rattle.model.specs.Replies.{not_accepted, received}
use Rattle.model.specs.Spool.{filing_of}
use Rattle.model.specs.declared.change.Change.TheVariants.{Article}
use Rattle.session_replies.specs.Answered.{answered}
use Rattle.session_posting.specs.Outcomes.{Replied, closed_among, said, said_served, then_line}
use Rattle.session_posting.specs.declared.filed_groups.Closed.TheVariants as closed
use Rattle.session_posting.proofs.Telling.{accepted_said, refused_said}
use Rattle.session_posting.proofs.posts.taken.Goals as goal

pub returns-in-Refused : goal.returns-in-Refused
returns-in-Refused g c =
    let S = g.L.LookUps.changes c.args.spool.now in
    let text = c.args.article in
    let what = spool_outcome (same_id S text) (groups_here S text) (closed_among closed.Refuse S (groups_of text)) in
    let stored = injected (g.L.LookUps.host_of c.args.spool.now) (length S + 1) c.args.moment text in
    subst (λ (s : Replied). IfOk c.refuse.result (λ step. said step ≡ s))
    (refused_said S c.args.session.now received not_accepted stored c.args.moment c.in-Refused.why c.in-Refused.reads what
    (sym c.in-Refused.is ∙ c.in_ok-why.ensures))
    c.refuse.ensures

pub returns : goal.returns
returns g c =
    let S = g.L.LookUps.changes c.args.spool.now in
    let text = c.args.article in
    let x = c.args.session.now in
    let t = c.args.moment in
    let what = spool_outcome (same_id S text) (groups_here S text) (closed_among closed.Refuse S (groups_of text)) in
    let stored = injected (g.L.LookUps.host_of c.args.spool.now) (length S + 1) t text in
    let octets = c.in_ok-stored-in-Accepted.ensures ∙ (λ i. injected (c.host.ensures i) (c.requires.serial i) t text) in
    subst (λ (s : Replied). IfOk c.accept.result (λ step. said step ≡ s))
    ((λ i. said_served (answered (then_line x received (Some (Article (filing_of (octets i) c.in-Accepted.groups t))))
    (c.requires.serial i)))
    ∙ accepted_said S x received not_accepted stored t c.in-Accepted.groups what (sym c.in-Accepted.is ∙ c.in_ok-why.ensures))
    c.accept.ensures

pub injected-requires-clause-cause : goal.injected-requires-clause-cause
injected-requires-clause-cause g c =
    subst (λ (h : List ℕ). cause (Posted h c.args.serial) c.args.article ≡ None) (sym c.host.ensures) c.requires.cause

pub injected-requires-clause-host : goal.injected-requires-clause-host
injected-requires-clause-host g c =
    subst (λ (h : List ℕ). IsTrue (is_host h)) (sym c.host.ensures) (g.met.L.LookUps.good_host c.args.spool.now)
