-- The outcome of an article, as the code states it.
use Rattle.std.specs.Prelude.{ℕ, ◌+◌, [], ◌∷◌, List, find, length, if◌then◌else◌, Option, Some, None, option_map}
use Rattle.model.specs.Stream.{Octets}
use Rattle.model.specs.Answer as answers
use Rattle.model.specs.Reads.{outcome_reads}
use Rattle.model.specs.Replies.{not_accepted, received}
use Rattle.model.specs.Article.{groups_of, injected}
use Rattle.model.specs.Spool.{Spool, last_naming}
use Rattle.model.specs.declared.cause.Cause.{Cause}
use Rattle.model.specs.declared.cause.Cause.TheVariants.{Long}
use Rattle.model.specs.declared.change.Change.{Change}
use Rattle.model.specs.declared.message.Mark.{Mark}
use Rattle.model.specs.declared.message.Mark.TheVariants as mark
use Rattle.model.specs.declared.session.Answer.{Answer}
use Rattle.model.specs.declared.session.Awaits.TheVariants as awaits
use Rattle.model.specs.declared.session.Session.{Session}
use Rattle.session_replies.specs.Answered.{Answered, answered}
use Rattle.session_posting.specs.Accepted.{change_of}
use Rattle.session_posting.specs.declared.filed_groups.Closed.{Closed}
use Rattle.session_posting.specs.declared.filed_groups.Closed.TheVariants as closed
use Rattle.session_posting.specs.declared.posts.Step.{Step}
use Rattle.session_posting.specs.declared.filed_groups.Outcome.{Outcome}
use Rattle.session_posting.specs.declared.filed_groups.Outcome.TheVariants as outcome
use Rattle.session_posting.specs.declared.refusals.Refusal.{Refusal}
use Rattle.session_posting.specs.declared.refusals.Refusal.TheVariants as refusal
use Rattle.session_posting.specs.Refusals.{post_refusal, refusal_by, transfer_refusal}

-- a refusal states why, and what it reads
abbrev pub told : Spool → answers.Outcome → Outcome
told S answers.not_an_article = outcome.Refused refusal.OtherId 0
told S (answers.id_here a) = outcome.Refused refusal.Repeat a.serial
told S answers.no_group_here = outcome.Refused refusal.NoGroup 0
told S (answers.group_closed g) = outcome.Refused refusal.Closed (last_naming S g)
told S (answers.accepted here) = outcome.Accepted here

-- the first of these groups that prevents the filing
abbrev pub closed_among : Closed → Spool → List Octets → Option Octets
closed_among closed.Refuse S names = find (answers.is_closed S) names
closed_among closed.Take S names = None

-- an answer that awaits a line next
abbrev pub then_line : Session → Octets → Option Change → Answer
then_line x reply c = record { reply = reply; next = answers.awaiting x awaits.Line; change = c }

-- what a message is answered, with what the answer reads and the change that it makes; its mark; and why its article isn't filed
pub record Replied : Type 0 where
  pub answered : Answered
  pub mark : Mark
  pub refusal : Option Refusal

-- a step, with the change that files its article
abbrev pub said : Step → Replied
said s = record {
  answered = record {
    answer = record { reply = s.answered.answer.reply; next = s.answered.answer.next; change = option_map change_of s.accepted };
    reads = s.answered.reads;
    lines = s.answered.lines;
  };
  mark = s.mark;
  refusal = s.refusal;
}

-- an answer that is served to a message with an article, which for this reason isn't filed
abbrev pub said_of : Option Refusal → Answered → Replied
said_of why answered = record { answered = answered; mark = mark.Served; refusal = why }

-- one to a message without an article
abbrev pub said_served : Answered → Replied
said_served answered = said_of None answered

-- the answer to a posted article with what it reads, its mark, and why it isn't filed
abbrev pub post_said : Octets → Spool → Session → ℕ → Octets → Replied
post_said host S x t text =
    if answers.is_long_as_stored host S text
    then record { answered = answered (then_line x not_accepted None) 0; mark = mark.Long; refusal = post_refusal host S text }
    else said_of (post_refusal host S text)
    (answered (answers.post_answer host S x t text) (outcome_reads S (answers.post_outcome host S text)))

-- the answer to a carried article with what it reads, and why it isn't filed
abbrev pub transfer_said : Spool → Session → ℕ → Octets → Octets → Replied
transfer_said S x t id text = said_of (transfer_refusal S id text)
    (answered (answers.transfer_answer S x t id text) (outcome_reads S (answers.transfer_outcome S id text)))

-- the answer to a post that is an article
abbrev pub posted_by : Octets → Spool → Session → ℕ → Octets → Replied
posted_by host S x t text =
    let what = answers.spool_outcome (answers.same_id S text) (answers.groups_here S text)
    (closed_among closed.Refuse S (groups_of text)) in
    let stored = injected host (length S + 1) t text in
    said_of (refusal_by what) (answered
    (answers.article_answer (answers.awaiting x awaits.Line) received not_accepted stored t what) (outcome_reads S what))

-- the outcome of an article whose existing groups are these, and the last serial that names one that prevents the
-- filing
abbrev pub outcome_by : List Octets → Option ℕ → Outcome
outcome_by [] shut = outcome.Refused refusal.NoGroup 0
outcome_by (g ∷ here) (Some n) = outcome.Refused refusal.Closed n
outcome_by (g ∷ here) None = outcome.Accepted (g ∷ here)

-- the mark of a post that is refused for this cause
abbrev pub mark_by : Cause → Mark
mark_by Long = mark.Long
mark_by cause = mark.Served
