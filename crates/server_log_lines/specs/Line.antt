-- The lines of the log, in the form that is called logfmt: fields `name=value` with a space between them.
use Rattle.std.specs.Prelude.{◌≡◌, ℕ, ◌≤◌, ◌&&◌, nat_le, if◌then◌else◌, [], ◌∷◌, ◌++◌, map, take, slice_range, drop, codes, decimal, All}
use Rattle.std.specs.Net.Text.{socket_text}
use Rattle.std.specs.String.{string_bytes}
use Rattle.disk_causes.specs.Causes.{name_of}
use Rattle.model.specs.Stream.{Octets}
use Rattle.model.specs.Calendar.{date_reply}
use Rattle.server_log_lines.specs.declared.log_events.SessionCounts.{SessionCounts}
use Rattle.server_log_lines.specs.declared.log_events.BegunSession.{BegunSession}
use Rattle.server_log_lines.specs.declared.log_events.EndedSession.{EndedSession}
use Rattle.server_log_lines.specs.declared.log_events.Ending.{Ending}
use Rattle.server_log_lines.specs.declared.log_events.Ending.TheVariants as ending
use Rattle.server_log_lines.specs.declared.log_events.LogEvent.{LogEvent}
use Rattle.server_log_lines.specs.declared.log_events.LogEvent.TheVariants as event
use Rattle.server_log_lines.specs.declared.log_events.OpeningStep.{OpeningStep}
use Rattle.server_log_lines.specs.declared.log_events.OpeningStep.TheVariants as step
use Rattle.server_log_lines.specs.declared.log_events.UsedPart.{UsedPart}
use Rattle.server_log_lines.specs.declared.log_events.RefusedCallers.{RefusedCallers}
use Rattle.server_log_lines.specs.declared.posts.PostRefusal.{PostRefusal}
use Rattle.server_log_lines.specs.declared.posts.PostRefusal.TheVariants as post_refusal
use Rattle.server_log_lines.specs.declared.posts.RefusedPost.{RefusedPost}
use Rattle.server_log_lines.specs.declared.posts.TakenPost.{TakenPost}
use Rattle.server_log_lines.specs.declared.log_events.SessionRefusal.{SessionRefusal}
use Rattle.server_log_lines.specs.declared.log_events.SessionRefusal.TheVariants as refusal

-- the fourteen digits yyyymmddhhmmss as yyyy-mm-ddThh:mm:ssZ (RFC 3339, section 5.6)
abbrev pub marked : Octets → Octets
marked digits =
    take 4 digits ++ codes "-" ++ slice_range digits 4 6 ++ codes "-" ++ slice_range digits 6 8 ++ codes "T"
    ++ slice_range digits 8 10 ++ codes ":" ++ slice_range digits 10 12 ++ codes ":" ++ drop 12 digits ++ codes "Z"

-- the time of a moment, in UTC: the digits of the answer to DATE, with marks
abbrev pub time_text : ℕ → Octets
time_text moment = marked (date_reply moment)

abbrev pub ending_text : Ending → Octets
ending_text ending.Quit = codes "quit"
ending_text ending.Closed = codes "closed"
ending_text ending.Silent = codes "silent"
ending_text ending.Stalled = codes "stalled"
ending_text ending.Slow = codes "slow"
ending_text ending.Failed = codes "failed"
ending_text ending.Http = codes "http"
ending_text ending.Memory = codes "memory"
ending_text ending.Dropped = codes "dropped"
ending_text ending.Stopped = codes "stopped"

abbrev pub refusal_text : SessionRefusal → Octets
refusal_text refusal.Access = codes "access"
refusal_text refusal.Sessions = codes "sessions"
refusal_text refusal.Address = codes "address"
refusal_text refusal.Descriptors = codes "descriptors"
refusal_text refusal.Memory = codes "memory"
refusal_text refusal.Failed = codes "failed"
refusal_text refusal.Proxy = codes "proxy"
refusal_text refusal.Halted = codes "halted"

abbrev pub counts_text : SessionCounts → Octets
counts_text counts =
    codes "messages=" ++ decimal counts.messages ++ codes " taken=" ++ decimal counts.taken ++ codes " refused="
    ++ decimal counts.refused ++ codes " in=" ++ decimal counts.octets_in ++ codes " out=" ++ decimal counts.octets_out

abbrev pub begun_text : BegunSession → Octets
begun_text begun = codes "peer=" ++ socket_text begun.peer ++ codes " session=" ++ decimal begun.session

abbrev pub ended_text : EndedSession → Octets
ended_text ended =
    codes "peer=" ++ socket_text ended.peer ++ codes " session=" ++ decimal ended.session ++ codes " "
    ++ counts_text ended.counts ++ codes " why=" ++ ending_text ended.why

abbrev pub refused_text : RefusedCallers → Octets
refused_text refused =
    codes "peer=" ++ socket_text refused.peer ++ codes " why=" ++ refusal_text refused.why ++ codes " times=" ++ decimal refused.times

abbrev pub post_refusal_text : PostRefusal → Octets
post_refusal_text post_refusal.Octets = codes "octets"
post_refusal_text post_refusal.NoEnd = codes "noend"
post_refusal_text post_refusal.Field = codes "field"
post_refusal_text post_refusal.Twice = codes "twice"
post_refusal_text post_refusal.Missing = codes "missing"
post_refusal_text post_refusal.Id = codes "id"
post_refusal_text post_refusal.Groups = codes "groups"
post_refusal_text post_refusal.Long = codes "long"
post_refusal_text post_refusal.Repeat = codes "repeat"
post_refusal_text post_refusal.NoGroup = codes "nogroup"
post_refusal_text post_refusal.Closed = codes "closed"
post_refusal_text post_refusal.OtherId = codes "otherid"
post_refusal_text post_refusal.Full = codes "full"
post_refusal_text post_refusal.Memory = codes "memory"
post_refusal_text post_refusal.Stopped = codes "stopped"

abbrev pub taken_text : TakenPost → Octets
taken_text taken =
    codes "session=" ++ decimal taken.session ++ codes " id=" ++ string_bytes taken.id ++ codes " serial=" ++ decimal taken.serial

abbrev pub refused_post_text : RefusedPost → Octets
refused_post_text refused = codes "session=" ++ decimal refused.session ++ codes " cause=" ++ post_refusal_text refused.cause

-- used/all
abbrev pub part_text : UsedPart → Octets
part_text part = decimal part.used ++ codes "/" ++ decimal part.all

abbrev pub step_text : OpeningStep → Octets
step_text (step.Reading read all) = codes "read=" ++ decimal read ++ codes " of=" ++ decimal all ++ codes " unit=MiB"
step_text step.Checking = codes "step=checking"

-- the event and its fields
abbrev pub event_text : LogEvent → Octets
event_text (event.Begin begun) = codes "event=begin " ++ begun_text begun
event_text (event.End ended) = codes "event=end " ++ ended_text ended
event_text (event.Post taken) = codes "event=post " ++ taken_text taken
event_text (event.NotPosted refused) = codes "event=refused " ++ refused_post_text refused
event_text (event.Refused refused) = codes "event=refused " ++ refused_text refused
event_text (event.Fault cause) = codes "event=fault error=" ++ name_of cause
event_text event.Halted = codes "event=halted"
event_text event.Clock = codes "event=clock"
event_text (event.Full blocks inodes) = codes "event=full blocks=" ++ part_text blocks ++ codes " inodes=" ++ part_text inodes
event_text (event.Lost lines) = codes "event=lost lines=" ++ decimal lines
event_text (event.Opening reached) = codes "event=opening " ++ step_text reached
event_text (event.Metrics cause) = codes "event=metrics error=" ++ name_of cause

-- the text of a line
abbrev pub text_of : ℕ → LogEvent → Octets
text_of moment event = codes "time=" ++ time_text moment ++ codes " " ++ event_text event

-- an octet from 32 to 126 as it is, any other as a question mark
abbrev pub shown : ℕ → ℕ
shown octet = if nat_le 32 octet && nat_le octet 126 then octet else 63

-- the line of an event, with its LF
abbrev pub line_of : ℕ → LogEvent → Octets
line_of moment event = map shown (text_of moment event) ++ 10 ∷ []

-- an octet that every terminal shows as it is
abbrev pub IsPlain : ℕ → Type 0
IsPlain octet = (32 ≤ octet) × (octet ≤ 126)

-- plain octets, and then one LF
abbrev pub IsPlainLine : Octets → Type 0
IsPlainLine octets = (text : Octets) × (octets ≡ text ++ 10 ∷ []) × All IsPlain text
