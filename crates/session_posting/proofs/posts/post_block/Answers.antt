use Rattle.std.proofs.Common.{◌≡◌, ◌+◌, List, ℕ, sym, ◌∙◌, ap, subst}
use Rattle.std.specs.Prelude.{IfOk, None}
use Rattle.model.specs.Article.{Posted, cause}
use Rattle.session_posting.specs.Outcomes.{Replied, posted_by, said}
use Rattle.session_posting.proofs.Saying.{said_ok, said_refused}
use Rattle.session_posting.proofs.posts.post_block.Goals as goal

pub returns-in-Ok : goal.returns-in-Ok
returns-in-Ok g c =
    let host = g.L.LookUps.host_of c.args.spool.now in
    let S = g.L.LookUps.changes c.args.spool.now in
    let x = c.args.session.now in
    let text = c.args.reading in
    let none = (λ i. cause (Posted (sym c.host-host.ensures i) (sym c.len-serial.ensures i + 1)) text) ∙ c.in-Ok.ensures.no_cause in
    let same = ap (posted_by host S x c.args.moment) c.in-Ok.ensures.ok ∙ sym (said_ok host S x c.args.moment text none) in
    subst (λ (s : Replied). IfOk c.taken.result (λ step. said step ≡ s)) same c.taken.ensures

pub returns-in_ok-refused-in-Err : goal.returns-in_ok-refused-in-Err
returns-in_ok-refused-in-Err g c =
    let host = g.L.LookUps.host_of c.args.spool.now in
    let S = g.L.LookUps.changes c.args.spool.now in
    let text = c.args.reading in
    let bad = (λ i. cause (Posted (sym c.host-host.ensures i) (sym c.len-serial.ensures i + 1)) text)
    ∙ c.in-Err.ensures.bad in
    (λ i. record {
      answered = (c.in_ok-refused-in-Err.ensures i).answered;
      mark = c.mark_of.ensures i;
      refusal = (c.in_ok-refused-in-Err.ensures i).refusal;
    })
    ∙ sym (said_refused host S c.args.session.now c.args.moment text c.in-Err.cause bad)

pub taken-requires-clause-cause : goal.taken-requires-clause-cause
taken-requires-clause-cause g c =
    subst (λ (p : List ℕ × List ℕ). cause (Posted p.0 (c.len-serial.result + 1)) p.1 ≡ None)
    (λ i. (c.host-host.ensures i, sym c.in-Ok.ensures.ok i)) c.in-Ok.ensures.no_cause
