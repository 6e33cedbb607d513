-- What is checked of a change before it follows the others.
use Rattle.std.specs.Prelude.{◌≡◌, ℕ, true, None}
use Rattle.model.specs.Stream.{Octets}
use Rattle.model.specs.Names.{is_of_host}
use Rattle.model.specs.Article.{made_id}
use Rattle.model.specs.Spool.{Spool, by_id}

-- an article with this id may get this serial: no other has it, and one of the host's own is made from the serial
pub record MayHaveId (host : Octets) (S : Spool) (serial : ℕ) (id : Octets) : Type 0 where
  pub new : by_id S id ≡ None
  pub own : is_of_host host id ≡ true → id ≡ made_id host serial
