use Rattle.std.proofs.Common.{◌≡◌, ◌+◌, sym, ◌∙◌, ap, subst, not}
use Rattle.std.specs.Prelude.{IfOk, Some}
use Rattle.model.specs.Answer.{transfer_outcome}
use Rattle.model.specs.Replies.{rejected, transferred}
use Rattle.model.specs.Spool.{filing_of}
use Rattle.model.specs.declared.change.Change.TheVariants.{Article}
use Rattle.session_replies.specs.Answered.{answered}
use Rattle.session_posting.specs.Outcomes.{Replied, said, said_served, then_line, told}
use Rattle.session_posting.specs.declared.refusals.Refusal.TheVariants.{OtherId}
use Rattle.session_posting.proofs.Telling.{accepted_said, refused_said, said_carried, transfer_filed, transfer_other}
use Rattle.session_posting.proofs.posts.given.Goals as goal

pub returns-then-not-has_id : goal.returns-then-not-has_id
returns-then-not-has_id g c =
    let S = g.L.LookUps.changes c.args.spool.now in
    let x = c.args.session.now in
    let t = c.args.moment in
    let text = c.args.article in
    let nothing = transfer_other S c.args.id.now text c.requires (c.has_id.ensures ∙ ap not c.if-not-has_id.true) in
    subst (λ (s : Replied). IfOk c.refuse.result (λ step. said step ≡ s))
    (refused_said S x transferred rejected text t OtherId 0 (transfer_outcome S c.args.id.now text) (ap (told S) (sym nothing))
    ∙ said_carried S x t c.args.id.now text c.requires)
    c.refuse.ensures

pub returns-in-Refused : goal.returns-in-Refused
returns-in-Refused g c =
    let S = g.L.LookUps.changes c.args.spool.now in
    let x = c.args.session.now in
    let t = c.args.moment in
    let text = c.args.article in
    let what = transfer_filed S c.args.id.now text c.requires (c.has_id.ensures ∙ ap not c.if-not-has_id.false) in
    subst (λ (s : Replied). IfOk c.refuse-in-Refused.result (λ step. said step ≡ s))
    (refused_said S x transferred rejected text t c.in-Refused.why c.in-Refused.reads (transfer_outcome S c.args.id.now text)
    (sym c.in-Refused.is ∙ c.in_ok-why.ensures ∙ ap (told S) (sym what)) ∙ said_carried S x t c.args.id.now text c.requires)
    c.refuse-in-Refused.ensures

pub returns : goal.returns
returns g c =
    let S = g.L.LookUps.changes c.args.spool.now in
    let x = c.args.session.now in
    let t = c.args.moment in
    let text = c.args.article in
    let what = transfer_filed S c.args.id.now text c.requires (c.has_id.ensures ∙ ap not c.if-not-has_id.false) in
    subst (λ (s : Replied). IfOk c.accept.result (λ step. said step ≡ s))
    (ap (λ n. said_served (answered (then_line x transferred (Some (Article (filing_of text c.in-Accepted.groups t)))) (n + 1)))
    c.len-serial.ensures
    ∙ accepted_said S x transferred rejected text t c.in-Accepted.groups (transfer_outcome S c.args.id.now text)
    (sym c.in-Accepted.is ∙ c.in_ok-why.ensures ∙ ap (told S) (sym what)) ∙ said_carried S x t c.args.id.now text c.requires)
    c.accept.ensures
