-- What the code tells of an article is what comes of it.
use Rattle.std.proofs.Common.{◌≡◌, ℕ, List, [], ◌∷◌, refl, ap, sym, true, false}
use Rattle.std.specs.Prelude.{Option, Some, None, option_map}
use Rattle.model.specs.Stream.{Octets}
use Rattle.model.specs.Answer.{Outcome, accepted, article_answer, group_closed, groups_here, has_other_id, same_id, transfer_outcome}
use Rattle.model.specs.Answer.{id_here, no_group_here, not_an_article, spool_outcome}
use Rattle.model.specs.Article.{Carried, cause}
use Rattle.model.specs.Reads.{outcome_reads}
use Rattle.model.specs.Replies.{rejected, transferred}
use Rattle.model.specs.Spool.{Spool, NewsArticle, filing_of, last_naming}
use Rattle.model.specs.declared.cause.Cause.{Cause}
use Rattle.model.specs.declared.change.Change.TheVariants.{Article}
use Rattle.model.specs.declared.session.Session.{Session}
use Rattle.session_replies.specs.Answered.{answered}
use Rattle.session_posting.specs.Outcomes.{Replied, outcome_by, said_of, said_served, then_line, told, transfer_said}
use Rattle.session_posting.specs.Refusals.{refusal_by, refusal_of}
use Rattle.session_posting.specs.declared.refusals.Refusal.{Refusal}
use Rattle.session_posting.specs.declared.refusals.Refusal.TheVariants as refusal
use Rattle.session_posting.specs.declared.filed_groups.Outcome.TheVariants as outcome
use Rattle.model.specs.Answer as answers
use Rattle.model.specs.declared.session.Awaits.TheVariants as awaits

pub told_id : (S : Spool) (o : Option NewsArticle) (here : List Octets) (closed : Option Octets) (n : ℕ)
    → Some n ≡ option_map (λ a. a.serial) o → outcome.Refused refusal.Repeat n ≡ told S (spool_outcome o here closed)
told_id S None here closed n is = absurd (cc)
told_id S (Some a) here closed n is = let one : n ≡ a.serial = cc in ap (outcome.Refused refusal.Repeat) one

pub told_groups : (S : Spool) (here : List Octets) (closed : Option Octets)
    → outcome_by here (option_map (last_naming S) closed) ≡ told S (spool_outcome None here closed)
told_groups S [] closed = refl
told_groups S (g ∷ here) None = refl
told_groups S (g ∷ here) (Some name) = refl

-- ---- the answers

-- what is said of an article that came to this
abbrev pub outcome_said : Spool → Session → Octets → Octets → Octets → ℕ → Outcome → Replied
outcome_said S x welcome refuses stored t o = said_of (refusal_by o)
    (answered (article_answer (answers.awaiting x awaits.Line) welcome refuses stored t o) (outcome_reads S o))

pub refused_said : (S : Spool) (x : Session) (welcome refuses stored : Octets) (t : ℕ) (why : Refusal) (n : ℕ) (o : Outcome)
    → outcome.Refused why n ≡ told S o
    → said_of (Some why) (answered (then_line x refuses None) n) ≡ outcome_said S x welcome refuses stored t o
refused_said S x welcome refuses stored t why n not_an_article is =
    let as_why : why ≡ refusal.OtherId = cc in
    let as_n : n ≡ 0 = cc in
    λ i. said_of (Some (as_why i)) (answered (then_line x refuses None) (as_n i))
refused_said S x welcome refuses stored t why n (id_here a) is =
    let as_why : why ≡ refusal.Repeat = cc in
    let as_n : n ≡ a.serial = cc in
    λ i. said_of (Some (as_why i)) (answered (then_line x refuses None) (as_n i))
refused_said S x welcome refuses stored t why n no_group_here is =
    let as_why : why ≡ refusal.NoGroup = cc in
    let as_n : n ≡ 0 = cc in
    λ i. said_of (Some (as_why i)) (answered (then_line x refuses None) (as_n i))
refused_said S x welcome refuses stored t why n (group_closed g) is =
    let as_why : why ≡ refusal.Closed = cc in
    let as_n : n ≡ last_naming S g = cc in
    λ i. said_of (Some (as_why i)) (answered (then_line x refuses None) (as_n i))
refused_said S x welcome refuses stored t why n (accepted here) is = absurd (cc)

pub accepted_said : (S : Spool) (x : Session) (welcome refuses stored : Octets) (t : ℕ) (names : List Octets) (o : Outcome)
    → outcome.Accepted names ≡ told S o
    → said_served (answered (then_line x welcome (Some (Article (filing_of stored names t)))) (outcome_reads S (accepted names)))
    ≡ outcome_said S x welcome refuses stored t o
accepted_said S x welcome refuses stored t names not_an_article is = absurd (cc)
accepted_said S x welcome refuses stored t names (id_here a) is = absurd (cc)
accepted_said S x welcome refuses stored t names no_group_here is = absurd (cc)
accepted_said S x welcome refuses stored t names (group_closed g) is = absurd (cc)
accepted_said S x welcome refuses stored t names (accepted here) is =
    let one : names ≡ here = cc in
    ap (λ ns. said_served (answered (then_line x welcome (Some (Article (filing_of stored ns t)))) (outcome_reads S (accepted ns)))) one

-- ---- what comes of a carried text

pub transfer_bad : (S : Spool) (wanted text : Octets) (c : Cause) → cause Carried text ≡ Some c
    → transfer_outcome S wanted text ≡ not_an_article
unfolding transfer_outcome
transfer_bad S wanted text c is = rw is refl

pub transfer_other : (S : Spool) (wanted text : Octets) → cause Carried text ≡ None → has_other_id wanted text ≡ true
    → transfer_outcome S wanted text ≡ not_an_article
unfolding transfer_outcome
transfer_other S wanted text is other = rw (is, other) refl

pub transfer_filed : (S : Spool) (wanted text : Octets) → cause Carried text ≡ None → has_other_id wanted text ≡ false
    → transfer_outcome S wanted text ≡ spool_outcome (same_id S text) (groups_here S text) None
unfolding transfer_outcome
transfer_filed S wanted text is own = rw (is, own) refl

-- ---- what is said of a carried text

-- it is no article
pub said_bad : (S : Spool) (x : Session) (t : ℕ) (wanted text : Octets) (c : Cause) → cause Carried text ≡ Some c
    → said_of (Some (refusal.Text c)) (answered (then_line x rejected None) 0) ≡ transfer_said S x t wanted text
said_bad S x t wanted text c is =
    λ i. said_of (refusal_of (sym is i) (transfer_outcome S wanted text)) (outcome_said S x transferred rejected text t
    (sym (transfer_bad S wanted text c is) i)).answered

-- it is one
pub said_carried : (S : Spool) (x : Session) (t : ℕ) (wanted text : Octets) → cause Carried text ≡ None
    → outcome_said S x transferred rejected text t (transfer_outcome S wanted text) ≡ transfer_said S x t wanted text
said_carried S x t wanted text is =
    λ i. said_of (refusal_of (sym is i) (transfer_outcome S wanted text)) (outcome_said S x transferred rejected text t
    (transfer_outcome S wanted text)).answered
