-- An answer with what it reads.
use Rattle.std.specs.Prelude.{◌≡◌, ℕ, ◌==◌, if◌then◌else◌, Option, Some, None}
use Rattle.model.specs.Stream.{Octets}
use Rattle.model.specs.declared.session.Answer.{Answer}
use Rattle.model.specs.declared.session.Session.{Session}
use Rattle.kernel_outbox.specs.Lines.{IsKept, Reply, whole}
use Rattle.kernel_outbox.specs.declared.made_lines.Lines.{Lines}

-- an answer, the greatest serial that it reads, and the lines that come after its reply, if there are some that are made
-- only as they are handed out
pub record Answered : Type 0 where
  pub answer : Answer
  pub reads : ℕ
  pub lines : Option Lines

-- an answer without such lines
abbrev pub answered : Answer → ℕ → Answered
answered answer reads = record { answer = answer; reads = reads; lines = None }

-- its reply on its way
abbrev pub reply_of : Answered → Reply
reply_of a = record { octets = a.answer.reply; lines = a.lines }

-- the answer with its lines made
abbrev pub made_answer : (Lines → Octets) → Answered → Answer
made_answer made a = record { reply = whole made (reply_of a); next = a.answer.next; change = a.answer.change }

-- with its lines made, which the source has, it is this answer, and reads so much
pub record Answers (made : Lines → Octets) (keeps : Lines → Type 0) (a : Answered) (answer : Answer) (reads : ℕ) : Type 0 where
  pub answer_is : made_answer made a ≡ answer
  pub reads_is : a.reads ≡ reads
  pub kept : IsKept keeps (reply_of a)

-- the reply, and the session afterwards
abbrev pub replied : Octets → Session → Answer
replied reply next = record { reply = reply; next = next; change = None }

-- the same with a reply that may not be made whole
abbrev pub replied_with : Reply → Session → ℕ → Answered
replied_with reply next reads = record { answer = replied reply.octets next; reads = reads; lines = reply.lines }

-- the group is selected, with its lowest number if it has an article
abbrev pub with_group : Session → Octets → ℕ → ℕ → Session
with_group x g low count = record x { group = Some g; current = if count == 0 then None else Some low }
