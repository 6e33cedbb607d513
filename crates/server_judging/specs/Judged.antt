-- Why a post or a transfer was refused, as the log names it, and the message-id of one that was taken.
use Rattle.std.specs.Prelude.{ℕ, unwrap_or}
use Rattle.model.specs.Article.{made_id, own_id}
use Rattle.model.specs.Stream.{Octets}
use Rattle.model.specs.declared.cause.Cause.{Cause}
use Rattle.model.specs.declared.cause.Cause.TheVariants as cause
use Rattle.session_posting.specs.declared.refusals.Refusal.{Refusal}
use Rattle.session_posting.specs.declared.refusals.Refusal.TheVariants as why
use Rattle.server_log_lines.specs.declared.posts.PostRefusal.{PostRefusal}
use Rattle.server_log_lines.specs.declared.posts.PostRefusal.TheVariants as refusal

-- the name of a cause for which a text is no article
abbrev pub of_cause : Cause → PostRefusal
of_cause cause.Octets = refusal.Octets
of_cause cause.NoEnd = refusal.NoEnd
of_cause cause.Field = refusal.Field
of_cause cause.Twice = refusal.Twice
of_cause cause.Missing = refusal.Missing
of_cause cause.Id = refusal.Id
of_cause cause.Groups = refusal.Groups
of_cause cause.Long = refusal.Long

-- the name of why an article wasn't filed
abbrev pub of_refusal : Refusal → PostRefusal
of_refusal (why.Text cause) = of_cause cause
of_refusal why.OtherId = refusal.OtherId
of_refusal why.Repeat = refusal.Repeat
of_refusal why.NoGroup = refusal.NoGroup
of_refusal why.Closed = refusal.Closed
of_refusal why.Full = refusal.Full
of_refusal why.Stopped = refusal.Stopped

-- the message-id of an article that was taken: its own, or the one that the host made for this serial
abbrev pub id_told : Octets → ℕ → Octets → Octets
id_told host serial text = unwrap_or (own_id text) (made_id host serial)
