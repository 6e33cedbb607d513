-- What serving a message over the kernel's spool answers, and what it does to the spool.
use Rattle.std.specs.Prelude.{◌≡◌, ℕ, length, Option, Some}
use Rattle.model.specs.Answer.{answer}
use Rattle.model.specs.Room.{is_full}
use Rattle.model.specs.declared.change.Change.{Change}
use Rattle.model.specs.declared.message.Message.{Message}
use Rattle.model.specs.declared.message.Mark.{Mark}
use Rattle.model.specs.declared.session.Answer.{Answer}
use Rattle.model.specs.declared.session.Session.{Session}
use Rattle.session.specs.Served as served
use Rattle.spool.specs.View.{SpoolView, Adds}

-- the answer of a spool
abbrev pub answer_in : SpoolView → Session → Message → ℕ → Mark → Answer
answer_in s x m t mark = answer s.host s.changes x m t mark

-- the mark of a message that is served
abbrev pub mark_in : SpoolView → Session → Message → ℕ → Mark
mark_in s x m t = served.mark_in s.host s.changes (λ c. is_full s.blocks s.inodes s.changes (Some c)) x m t

-- the spool with the change of an answer, if the answer makes one
abbrev pub Grows : SpoolView → SpoolView → Option Change → Type 0
Grows old new change = served.Grows (Adds old new) (new ≡ old) change
