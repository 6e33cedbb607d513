-- The texts of networks and endpoints.
use Rattle.std.specs.Prelude.{◌≡◌, ◌≢◌, ◌⊎◌, ◌≤◌, ℕ, List, ◌++◌, All, codes, decimal}
use Rattle.std.specs.declared.net.ip_addr.IpAddr.{IpAddr}
use Rattle.std.specs.declared.net.socket_addr.SocketAddr.{SocketAddr}
use Rattle.std.specs.Net.Grammar.{IsIpText, IsSocketText}
use Rattle.std.specs.Net.Socket.{socket_port}
use Rattle.text_networks.specs.Addresses.{width_of}

-- `ADDRESS`, which is all its bits, or `ADDRESS/LENGTH`, with a decimal number that has no sign and no leading zero
abbrev pub IsNetworkText : List ℕ → IpAddr → ℕ → Type 0
IsNetworkText text a bits = (IsIpText text a × (bits ≡ width_of a))
    ⊎ ((ip : List ℕ) × (text ≡ ip ++ codes "/" ++ decimal bits) × IsIpText ip a × (bits ≤ width_of a))

-- no `%`, with which a zone begins (RFC 4007, 11)
abbrev pub HasNoZone : List ℕ → Type 0
HasNoZone text = All (λ octet. octet ≢ 37) text

-- `ADDRESS:PORT` or `[IPV6]:PORT`, with a port from 1 on and no zone
abbrev pub IsEndpointText : List ℕ → SocketAddr → Type 0
IsEndpointText text e = IsSocketText text e × (socket_port e ≢ 0) × HasNoZone text
