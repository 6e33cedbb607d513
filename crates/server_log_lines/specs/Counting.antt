-- What a session counts, and how far an opening is by the count of what it has read.
use Rattle.std.specs.Prelude.{ℕ, ◌+◌, ◌-◌, ◌/◌, ◌^◌, if◌then◌else◌, min, nat_le}
use Rattle.server_log_lines.specs.declared.log_events.SessionCounts.{SessionCounts}
use Rattle.server_log_lines.specs.declared.log_events.CountedMessage.{CountedMessage}
use Rattle.server_log_lines.specs.declared.log_events.CountedMessage.TheVariants as served
use Rattle.server_log_lines.specs.declared.log_events.OpeningStep.{OpeningStep}
use Rattle.server_log_lines.specs.declared.log_events.OpeningStep.TheVariants as step

abbrev pub no_counts : SessionCounts
no_counts = record { messages = 0; taken = 0; refused = 0; octets_in = 0; octets_out = 0 }

-- one more, up to 2^64 - 1
abbrev pub one_more : ℕ → ℕ
one_more n = min (n + 1) (2 ^ 64 - 1)

-- the counts after one more message was answered
abbrev pub counted : SessionCounts → CountedMessage → SessionCounts
counted counts served.Line = record counts { messages = one_more counts.messages }
counted counts served.Taken = record counts { messages = one_more counts.messages; taken = one_more counts.taken }
counted counts served.Refused = record counts { messages = one_more counts.messages; refused = one_more counts.refused }

-- an opening that has read so many octets of all that it reads, in MiB
abbrev pub step_after : ℕ → ℕ → OpeningStep
step_after read all = if nat_le all read then step.Checking else step.Reading (read / 2 ^ 20) (all / 2 ^ 20)
