-- The sessions that the operator ends.
use Rattle.std.specs.Prelude.{◌≡◌, ℕ, Some, None, IsUtf8}
use Rattle.std.specs.declared.net.ip_addr.IpAddr.{IpAddr}
use Rattle.std.specs.declared.net.socket_addr.SocketAddr.{SocketAddr}
use Rattle.std.specs.Net.Socket.{socket_ip}
use Rattle.model.specs.Names.{number_of}
use Rattle.model.specs.Stream.{Octets}
use Rattle.text_networks.specs.Networks.{Holds, parts_from, parts_of}
use Rattle.text_networks.specs.Texts.{IsNetworkText}
use Rattle.server_roster.specs.declared.chosen.Chosen.{Chosen}
use Rattle.server_roster.specs.declared.chosen.Chosen.TheVariants.{Session, From}

-- a word names these: by its digits a session, or the network that it writes
abbrev pub IsNamedBy : Octets → Chosen → Type 0
IsNamedBy word (Session number) = number_of word ≡ Some number
IsNamedBy word (From network) = (a : IpAddr) × (bits : ℕ) × IsNetworkText word a bits × (parts_of network ≡ parts_from a bits)

-- a word names none
abbrev pub NamesNone : Octets → Type 0
NamesNone word = (number_of word ≡ None) × (IsUtf8 word → (a : IpAddr) (bits : ℕ) → ¬ (IsNetworkText word a bits))

-- the session with this number and this caller is one of them
abbrev pub IsChosen : Chosen → ℕ → SocketAddr → Type 0
IsChosen (Session number) session peer = number ≡ session
IsChosen (From network) session peer = Holds network (socket_ip peer)
