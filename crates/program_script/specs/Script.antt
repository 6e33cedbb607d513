-- What each line of a script means (this project's rule).
use Rattle.std.specs.Prelude.{ℕ, ◌&&◌, nat_le, if◌then◌else◌, [], ◌∷◌, ◌++◌, length, Option, Some, None, option_map, option_and_then}
use Rattle.std.specs.Prelude.{bytes_eq, codes}
use Rattle.model.specs.Stream.{Octets}
use Rattle.model.specs.Names.{is_group_name}
use Rattle.model.specs.declared.change.NewGroup.{NewGroup}
use Rattle.model.specs.declared.values.Status.{Status}
use Rattle.text_names.specs.Descriptions.{is_description}
use Rattle.text_names.specs.Requests as requests
use Rattle.disk.specs.declared.DiskCall.{DiskCall}
use Rattle.disk.specs.declared.DiskCall.TheVariants.{Read, Write, Sync}
use Rattle.disk_memory.specs.declared.Pick.{Pick}
use Rattle.disk_memory.specs.declared.Pick.TheVariants.{Old, New, Fill}
use Rattle.program_script.specs.Words.{expiry_number_of, hex_octet, hex_octets, is_blank, moment_at, moment_of, number_of, split_word}
use Rattle.program_script.specs.Words.{status_of}
use Rattle.program_script.specs.declared.script_lines.Line.{Line}
use Rattle.program_script.specs.declared.script_lines.Line.TheVariants.{Group, Expire, Join, Leave, Arrive, Exec, Take, Dev, Told, Release}
use Rattle.program_script.specs.declared.script_lines.Line.TheVariants.{Commit, Settle}
use Rattle.program_script.specs.declared.script_lines.Line.TheVariants.{Drain, FailAt, FailKind, Crash, Renew, ReleaseOf, Spool, Stop}

-- what a line asks for, with its texts as lists: a group is made, articles are removed from one, octets arrive for a
-- session, anything else
pub data LineMeaning : Type 0 where
  Made : (group : NewGroup) → LineMeaning
  Expired : (name : Octets) (number : ℕ) → LineMeaning
  Came : (session : ℕ) (octets : Octets) → LineMeaning
  Asked : Line → LineMeaning

abbrev pub said : Line → LineMeaning
said (Group request) = Made (requests.group_of request)
said (Expire name number) = Expired name number
said (Arrive session octets) = Came session octets.items
said Join = Asked Join
said (Leave session) = Asked (Leave session)
said (Exec session moment) = Asked (Exec session moment)
said Take = Asked Take
said Dev = Asked Dev
said Told = Asked Told
said Release = Asked Release
said (ReleaseOf session room) = Asked (ReleaseOf session room)
said Stop = Asked Stop
said Commit = Asked Commit
said Settle = Asked Settle
said Drain = Asked Drain
said (FailAt call) = Asked (FailAt call)
said (FailKind kind call) = Asked (FailKind kind call)
said (Crash pick) = Asked (Crash pick)
said Renew = Asked Renew
said Spool = Asked Spool

infixl 10 ◌>>=◌
abbrev pub ◌>>=◌ : {A B : Type 0} → Option A → (A → Option B) → Option B
o >>= f = option_and_then f o

-- a line of one word
unfoldable pub alone_of : Octets → Option LineMeaning
alone_of word =
    if bytes_eq word (codes "join") then Some (Asked Join)
    else (if bytes_eq word (codes "take") then Some (Asked Take)
    else (if bytes_eq word (codes "dev") then Some (Asked Dev)
    else (if bytes_eq word (codes "told") then Some (Asked Told)
    else (if bytes_eq word (codes "release") then Some (Asked Release)
    else (if bytes_eq word (codes "stop") then Some (Asked Stop)
    else (if bytes_eq word (codes "commit") then Some (Asked Commit)
    else (if bytes_eq word (codes "settle") then Some (Asked Settle)
    else (if bytes_eq word (codes "drain") then Some (Asked Drain)
    else (if bytes_eq word (codes "renew") then Some (Asked Renew)
    else (if bytes_eq word (codes "spool") then Some (Asked Spool) else None))))))))))

-- what a crash makes of the touched octets
unfoldable pub pick_of : Octets → Option Pick
pick_of word =
    if bytes_eq word (codes "old") then Some Old else (if bytes_eq word (codes "new") then Some New else option_map Fill (hex_octet word))

-- which calls are to fail
unfoldable pub kind_of : Octets → Option DiskCall
kind_of word =
    if bytes_eq word (codes "read") then Some Read else
    (if bytes_eq word (codes "write") then Some Write else (if bytes_eq word (codes "sync") then Some Sync else None))

-- N, or a kind of calls and N
unfoldable pub fail_of : Octets → Option LineMeaning
fail_of words = by_words (split_word words)
  where
    by_words : Option (Octets × Octets) → Option LineMeaning
    by_words None = option_map (λ call. Asked (FailAt call)) (number_of words)
    by_words (Some parts) = do
      kind ← kind_of parts.0
      call ← number_of parts.1
      Some (Asked (FailKind kind call))

-- S, or S and the room in octets
unfoldable pub release_of : Octets → Option LineMeaning
release_of words = by_words (split_word words)
  where
    by_words : Option (Octets × Octets) → Option LineMeaning
    by_words None = option_map (λ session. Asked (ReleaseOf session 65536)) (number_of words)
    by_words (Some parts) = do
      session ← number_of parts.0
      room ← number_of parts.1
      Some (Asked (ReleaseOf session room))

-- a line whose words are numbers or name a pick
unfoldable pub numbered_of : Octets → Octets → Option LineMeaning
numbered_of keyword words =
    if bytes_eq keyword (codes "leave") then option_map (λ session. Asked (Leave session)) (number_of words)
    else (if bytes_eq keyword (codes "exec") then (do
      parts ← split_word words
      session ← number_of parts.0
      moment ← moment_of parts.1
      Some (Asked (Exec session moment)))
    else (if bytes_eq keyword (codes "release") then release_of words
    else (if bytes_eq keyword (codes "fail") then fail_of words
    else (if bytes_eq keyword (codes "crash") then option_map (λ pick. Asked (Crash pick)) (pick_of words) else None))))

abbrev pub new_group : Octets → Status → Octets → ℕ → NewGroup
new_group name status description moment = record { name = name; status = status; description = description; moment = moment }

-- the group that a name, a status, a moment, if there is one, and a description ask for
unfoldable pub new_group_of : Octets → Octets → Option ℕ → Octets → Option NewGroup
new_group_of name status moment description = do
  yes_or_no ← status_of status
  seconds ← moment
  if is_group_name name && is_description description then Some (new_group name yes_or_no description seconds) else None

-- the same of a group that is made for readers, whose description has to show something (RFC 3977, section 9.7,
-- newsgroup-description). A script may make others, as there are in volumes
unfoldable pub shown_group_of : Octets → Octets → Option ℕ → Octets → Option NewGroup
shown_group_of name status moment description =
    if is_blank description then None else new_group_of name status moment description

-- NAME STATUS MOMENT TEXT, of which MOMENT may be `now`
unfoldable pub group_of : Option ℕ → Octets → Option LineMeaning
group_of now words = do
  name ← split_word words
  status ← split_word name.1
  time ← split_word status.1
  group ← new_group_of name.0 status.0 (moment_at now time.0) time.1
  Some (Made group)

-- the expiry that a name and a number ask for
unfoldable pub expired_of : Octets → Octets → Option LineMeaning
expired_of name number = do
  up_to ← expiry_number_of number
  if is_group_name name then Some (Expired name up_to) else None

-- NAME N
unfoldable pub expiry_of : Octets → Option LineMeaning
expiry_of words = do
  parts ← split_word words
  expired_of parts.0 parts.1

-- S TEXT, or S alone: the text and CRLF
unfoldable pub arrival_of : Octets → Option LineMeaning
arrival_of words = came (split_word words)
  where
    came : Option (Octets × Octets) → Option LineMeaning
    came None = option_map (λ session. Came session (13 ∷ 10 ∷ [])) (number_of words)
    came (Some parts) = option_map (λ session. Came session (parts.1 ++ 13 ∷ 10 ∷ [])) (number_of parts.0)

-- S HEX
unfoldable pub hex_of : Octets → Option LineMeaning
hex_of words = do
  parts ← split_word words
  session ← number_of parts.0
  octets ← hex_octets parts.1
  if nat_le 1 (length parts.1) then Some (Came session octets) else None

-- what a line asks for, by its first word. Where there is no present moment, none asks for it
unfoldable pub meaning_at : Option ℕ → Octets → Option LineMeaning
meaning_at now line = by_words (split_word line)
  where
    by_words : Option (Octets × Octets) → Option LineMeaning
    by_words None = alone_of line
    by_words (Some parts) =
        if bytes_eq parts.0 (codes "group") then group_of now parts.1
        else (if bytes_eq parts.0 (codes "expire") then expiry_of parts.1
        else (if bytes_eq parts.0 (codes "line") then arrival_of parts.1
        else (if bytes_eq parts.0 (codes "hex") then hex_of parts.1 else numbered_of parts.0 parts.1)))

-- a script has no clock
abbrev pub meaning : Octets → Option LineMeaning
meaning line = meaning_at None line
