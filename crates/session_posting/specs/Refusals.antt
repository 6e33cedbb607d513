-- Why an article is not filed.
use Rattle.std.specs.Prelude.{ℕ, ◌+◌, length, Option, Some, None}
use Rattle.model.specs.Stream.{Octets}
use Rattle.model.specs.Answer as answers
use Rattle.model.specs.Answer.{Outcome, post_outcome, transfer_outcome}
use Rattle.model.specs.Article.{Carried, Posted, cause}
use Rattle.model.specs.Spool.{Spool}
use Rattle.model.specs.declared.cause.Cause.{Cause}
use Rattle.model.specs.declared.cause.Cause.TheVariants as causes
use Rattle.model.specs.declared.message.Message.{Message}
use Rattle.model.specs.declared.message.Message.TheVariants as message
use Rattle.model.specs.declared.session.Awaits.{Awaits}
use Rattle.model.specs.declared.session.Awaits.TheVariants as awaits
use Rattle.session_posting.specs.declared.refusals.Refusal.{Refusal}
use Rattle.session_posting.specs.declared.refusals.Refusal.TheVariants as refusal

-- of a text that is an article, by what comes of it: one that was offered under another message-id counts for none
abbrev pub refusal_by : Outcome → Option Refusal
refusal_by answers.not_an_article = Some refusal.OtherId
refusal_by (answers.id_here a) = Some refusal.Repeat
refusal_by answers.no_group_here = Some refusal.NoGroup
refusal_by (answers.group_closed g) = Some refusal.Closed
refusal_by (answers.accepted here) = None

-- of a text with this cause for refusal, if it has one
abbrev pub refusal_of : Option Cause → Outcome → Option Refusal
refusal_of (Some why) what = Some (refusal.Text why)
refusal_of None what = refusal_by what

-- of a posted text
abbrev pub post_refusal : Octets → Spool → Octets → Option Refusal
post_refusal host S text = refusal_of (cause (Posted host (length S + 1)) text) (post_outcome host S text)

-- of a text that was offered under this message-id
abbrev pub transfer_refusal : Spool → Octets → Octets → Option Refusal
transfer_refusal S id text = refusal_of (cause Carried text) (transfer_outcome S id text)

-- of a message, by what its session awaits: one that comes where no article is awaited, or is a line where one is, is none
abbrev pub awaited_refusal : Octets → Spool → Awaits → Message → Option Refusal
awaited_refusal host S awaits.Line m = None
awaited_refusal host S awaits.PostBlock (message.Block text) = post_refusal host S text
awaited_refusal host S awaits.PostBlock (message.Line text) = None
awaited_refusal host S awaits.PostBlock message.TooLong = Some (refusal.Text causes.Long)
awaited_refusal host S (awaits.IhaveBlock id) (message.Block text) = transfer_refusal S id text
awaited_refusal host S (awaits.IhaveBlock id) (message.Line text) = None
awaited_refusal host S (awaits.IhaveBlock id) message.TooLong = Some (refusal.Text causes.Long)
awaited_refusal host S awaits.Nothing m = None
