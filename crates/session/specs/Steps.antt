-- The step that a message takes, by what the session awaits.
use Rattle.std.specs.Prelude.{◌≡◌, ℕ, IsSome, None, if◌then◌else◌}
use Rattle.model.specs.Stream.{Octets}
use Rattle.model.specs.Answer.{awaiting, is_long_by, says, served}
use Rattle.model.specs.Reads.{served_reads}
use Rattle.model.specs.Replies.{not_accepted}
use Rattle.model.specs.Spool.{Spool}
use Rattle.model.specs.declared.message.Mark.TheVariants as mark
use Rattle.model.specs.declared.message.Message.{Message}
use Rattle.model.specs.declared.session.Awaits.{Awaits}
use Rattle.model.specs.declared.session.Awaits.TheVariants as awaits
use Rattle.model.specs.declared.session.Session.{Session}
use Rattle.session_posting.specs.Outcomes.{Replied, said_of}
use Rattle.session_posting.specs.Refusals.{awaited_refusal}
use Rattle.kernel_outbox.specs.declared.made_lines.Lines.{Lines}
use Rattle.session_replies.specs.Answered.{Answers, answered}

-- an article that would be too long as it is stored is refused and marked `Long`; everything else is served
abbrev pub step_of : Octets → Spool → Session → ℕ → Awaits → Message → Replied
step_of host S x t what m =
    if is_long_by host S what m
    then record {
      answered = answered (says (awaiting x awaits.Line) not_accepted) 0;
      mark = mark.Long;
      refusal = awaited_refusal host S what m;
    }
    else said_of (awaited_refusal host S what m) (answered (served host S x t what m) (served_reads host S x t what m))

-- what is said is this step with its lines made, which the source has; a change comes with no lines
pub record IsStep (made : Lines → Octets) (keeps : Lines → Type 0) (said step : Replied) : Type 0 where
  pub answers : Answers made keeps said.answered step.answered.answer step.answered.reads
  pub mark : said.mark ≡ step.mark
  pub refusal : said.refusal ≡ step.refusal
  pub unlined : IsSome said.answered.answer.change → said.answered.lines ≡ None
