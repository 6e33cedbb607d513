-- A service over many lives. A crash ends each of them, and the next begins with what the disk then stands for.
use Rattle.std.specs.Prelude.{◌≡◌, ℕ, ◌≤◌, List, [], ◌∷◌, length, take}
use Rattle.std.specs.List.{concat}
use mathlib.Core.List.{IsPrefix}
use Rattle.synchrony.specs.Service.{Service}
use Rattle.synchrony.specs.Server.{Entry, PlainServer, sync}
use Rattle.synchrony.specs.Dependency.{survivors}
use Rattle.synchrony.specs.Synchrony.{IsExternallySynchronous}

-- one life: the octets that arrived for each session, its trace, what was sent to each session, and how many changes the
-- crash at its end left
pub record Life (Change Mark : Type 0) : Type 0 where
  pub inputs : ℕ → List ℕ
  pub trace : List (Entry Change Mark)
  pub released : ℕ → List ℕ
  pub left : ℕ

-- the spool with which the next life begins
abbrev pub handed_on : {Message Session Change Mark : Type 0} → Service Message Session Change Mark → List Change → Life Change Mark
    → List Change
handed_on service spool life = take life.left (sync service spool life.inputs life.trace).spool

-- each life begins with what the one before it left, and its end is externally synchronous
abbrev pub AreLives : {Message Session Change Mark : Type 0} → Service Message Session Change Mark → List Change
    → List (Life Change Mark) → Type 0
AreLives service spool [] = Unit {0}
AreLives service spool (life ∷ lives) =
    (length spool ≤ life.left)
    × IsExternallySynchronous service spool life.inputs life.trace life.released life.left (handed_on service spool life)
    × AreLives service (handed_on service spool life) lives

-- the spool after these lives
abbrev pub spool_after : {Message Session Change Mark : Type 0} → Service Message Session Change Mark → List Change
    → List (Life Change Mark) → List Change
spool_after service spool [] = spool
spool_after service spool (life ∷ lives) = spool_after service (handed_on service spool life) lives

-- the plain server in a life. It gets only the commands that depend on what the crash left
abbrev pub server_in : {Message Session Change Mark : Type 0} → Service Message Session Change Mark → List Change → Life Change Mark
    → PlainServer Session Change
server_in service spool life = sync service spool life.inputs (survivors service spool life.inputs life.trace life.left)

-- the spool of one plain server that lives through all of them. After each crash it goes on with the spool that it has
abbrev pub one_server : {Message Session Change Mark : Type 0} → Service Message Session Change Mark → List Change
    → List (Life Change Mark) → List Change
one_server service spool [] = spool
one_server service spool (life ∷ lives) = one_server service (server_in service spool life).spool lives

-- in each life, what was sent to a session begins the replies of that one server
abbrev pub BeginsEach : {Message Session Change Mark : Type 0} → Service Message Session Change Mark → List Change
    → List (Life Change Mark) → Type 0
BeginsEach service spool [] = Unit {0}
BeginsEach service spool (life ∷ lives) =
    ((session : ℕ) → IsPrefix (life.released session) (concat ((server_in service spool life).connections session).replies))
    × BeginsEach service (server_in service spool life).spool lives

-- All lives are as if one server that commits before it replies had lived through them.
abbrev pub LivesAreOne : {Message Session Change Mark : Type 0} → Service Message Session Change Mark → Type 0
LivesAreOne {Message} {Session} {Change} {Mark} service =
    (spool : List Change) (lives : List (Life Change Mark)) → AreLives service spool lives
    → (one_server service spool lives ≡ spool_after service spool lives) × BeginsEach service spool lives

-- No later life undoes what an earlier one left.
abbrev pub NothingIsUndone : {Message Session Change Mark : Type 0} → Service Message Session Change Mark → Type 0
NothingIsUndone {Message} {Session} {Change} {Mark} service =
    (spool : List Change) (lives : List (Life Change Mark)) → AreLives service spool lives
    → IsPrefix spool (spool_after service spool lives)
