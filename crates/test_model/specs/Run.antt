-- Messages of several sessions and changes by the operator, one after another.
use Rattle.std.specs.Prelude.{ℕ, max, List, [], ◌∷◌, ◌++◌, get_or, set, map, codes, option_to_list, if◌then◌else◌, ◌==◌}
use Rattle.model.specs.Stream.{Octets, crlf, line}
use Rattle.model.specs.Spool.{Spool}
use Rattle.model.specs.Answer.{answer, new_session}
use Rattle.model.specs.Reads.{reads}
use Rattle.test_model.specs.Texts.{joined, moment, news_example}
use Rattle.model.specs.declared.change.Change.{Change}
use Rattle.model.specs.declared.message.Message.{Message}
use Rattle.model.specs.declared.message.Message.TheVariants as message
use Rattle.model.specs.declared.message.Mark.TheVariants as mark
use Rattle.model.specs.declared.session.Answer.{Answer}
use Rattle.model.specs.declared.session.Session.{Session}

-- a session with the greatest serial that it has read
pub record Seat : Type 0 where
  pub session : Session
  pub has_read : ℕ

abbrev pub new_seat : Seat
new_seat = record { session = new_session; has_read = 0 }

-- a session's message, by the session's place; or a change by the operator
pub data Event : Type 0 where
  message_of : ℕ → Message → Event
  made : Change → Event

abbrev pub says : ℕ → Octets → Event
says session text = message_of session (message.Line text)

abbrev pub sends : ℕ → Octets → Event
sends session text = message_of session (message.Block text)

-- a reply, and the greatest serial that its session has read by then
pub record Told : Type 0 where
  pub reply : Octets
  pub depends : ℕ

abbrev pub is_told : Octets → ℕ → Told
is_told text serial = record { reply = line text; depends = serial }

-- a multi-line reply: its first line and the others
abbrev pub is_told_lines : Octets → List Octets → ℕ → Told
is_told_lines status lines serial = record { reply = joined (status ∷ lines) ++ codes "." ++ crlf; depends = serial }

-- the replies to the messages
abbrev pub told : Spool → List Seat → List Event → List Told
told S seats [] = []
told S seats (made c ∷ events) = told (S ++ c ∷ []) seats events
told S seats (message_of i m ∷ events) =
    go (answer news_example S (seat i).session m moment mark.Served) (reads news_example S (seat i).session m moment mark.Served)
    (λ R after. told R after events) where
      seat : ℕ → Seat
      seat n = get_or seats n new_seat

      go : Answer → ℕ → (Spool → List Seat → List Told) → List Told
      go a n rest =
          record { reply = a.reply; depends = max (seat i).has_read n }
          ∷ rest (S ++ option_to_list a.change) (set seats i (record { session = a.next; has_read = max (seat i).has_read n }))

-- words separated by TAB, which `|` stands for
abbrev pub tabbed : Octets → Octets
tabbed text = map (λ c. if c == 124 then 9 else c) text
