-- Lines that a source makes as they are handed out, and replies that end with such lines. Until lines are made it is
-- only known which they are; a source says what their octets are.
use Rattle.std.specs.Prelude.{ℕ, ◌+◌, Bool, List, [], ◌∷◌, ◌++◌, length, map, sum_by, All, Option, Some, None, IfSome}
use Rattle.kernel_outbox.specs.Queue.{HeldOutput}
use Rattle.kernel_outbox.specs.declared.made_lines.Lines.{Lines}

-- A reply on its way: octets, and the lines that come after them, if any.
pub record Reply : Type 0 where
  pub octets : List ℕ
  pub lines : Option Lines

-- a reply of octets alone
abbrev pub plain : List ℕ → Reply
plain octets = record { octets = octets; lines = None }

-- the octets of the lines, if there are some
abbrev pub octets_of_lines : (Lines → List ℕ) → Option Lines → List ℕ
octets_of_lines made None = []
octets_of_lines made (Some lines) = made lines

-- octets, and those of the lines after them
abbrev pub with_lines : (Lines → List ℕ) → List ℕ → Option Lines → List ℕ
with_lines made octets None = octets
with_lines made octets (Some lines) = octets ++ made lines

-- all octets of a reply, by what the source makes of lines
abbrev pub whole : (Lines → List ℕ) → Reply → List ℕ
whole made reply = with_lines made reply.octets reply.lines

-- how many octets the lines have, if there are some
abbrev pub size_of_lines : Option Lines → ℕ
size_of_lines None = 0
size_of_lines (Some lines) = lines.octets

-- how many octets a reply has, by what its lines say of themselves
abbrev pub size : Reply → ℕ
size reply = length reply.octets + size_of_lines reply.lines

-- the source has the lines of a reply, if there are some
abbrev pub IsKept : (Lines → Type 0) → Reply → Type 0
IsKept keeps reply = IfSome reply.lines keeps

-- ---- what a queue holds

-- An output that is not yet handed out whole: the reply, the number of changes that must be durable before any of its
-- octets may be handed out, and whether the session ends after them.
pub record HeldReply : Type 0 where
  pub reply : Reply
  pub dependency : ℕ
  pub ends : Bool

-- The dependency of the last output that was handed out whole, 0 at first; the outputs that are held, the next one
-- first; and how many more can be added after them without taking memory.
pub record QueueView : Type 0 where
  pub given : ℕ
  pub held : List HeldReply
  pub room : ℕ

-- the output with its lines made
abbrev pub output_of : (Lines → List ℕ) → HeldReply → HeldOutput
output_of made held = record { octets = whole made held.reply; dependency = held.dependency; ends = held.ends }

abbrev pub outputs_of : (Lines → List ℕ) → List HeldReply → List HeldOutput
outputs_of made held = map (output_of made) held

-- the source has the lines of all these outputs
abbrev pub AllAreKept : (Lines → Type 0) → List HeldReply → Type 0
AllAreKept keeps held = All (λ h. IsKept keeps h.reply) held

-- how many octets are held, made or not
abbrev pub octets_waiting : List HeldReply → ℕ
octets_waiting held = sum_by (λ (h : HeldReply). size h.reply) held

-- the dependency of the last output, held or given
abbrev pub last_depends : ℕ → List HeldReply → ℕ
last_depends given [] = given
last_depends given (held ∷ rest) = last_depends held.dependency rest
