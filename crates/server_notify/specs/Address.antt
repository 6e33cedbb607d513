-- The address of a Unix socket, as sockaddr_un of unix(7) has it.
use Rattle.std.specs.Prelude.{ℕ, List, [], ◌∷◌, ◌==◌, if◌then◌else◌}

-- what stands for a name: an `@` at its beginning is written as a NUL, which begins a name of the abstract namespace
abbrev pub written : List ℕ → List ℕ
written [] = []
written (octet ∷ more) = (if octet == 64 then 0 else octet) ∷ more

-- the family AF_UNIX in two octets, and then the name
abbrev pub address_of : List ℕ → List ℕ
address_of name = 1 ∷ 0 ∷ written name
