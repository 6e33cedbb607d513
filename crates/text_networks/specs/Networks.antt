-- Networks, and the callers that they hold.
use Rattle.std.specs.Prelude.{◌≡◌, ℕ, ◌-◌, ◌&&◌, ◌⊎◌, true, nat_le, List, [], ◌∷◌, take, Any, if◌then◌else◌}
use Rattle.std.specs.declared.net.ip_addr.IpAddr.{IpAddr}
use Rattle.std.specs.declared.net.socket_addr.SocketAddr.{SocketAddr}
use Rattle.std.specs.Net.Socket.{socket_ip}
use Rattle.text_networks.specs.declared.callers.Admitted.{Admitted}
use Rattle.text_networks.specs.declared.prefixes.Network.{Network}
use Rattle.std.specs.Net.Addr.{is_ipv4, HasPrefix, IsV6And, IsLoopbackV6}
use Rattle.text_networks.specs.Addresses.{octets_of_ip, caller_octets, bits_of, is_ipv4_caller, is_mapped}

-- the octets and the number of bits of a network
abbrev pub parts_of : Network → List ℕ × ℕ
parts_of n = (octets_of_ip n.address, n.length)

-- The network of the first bits of an address. From 96 bits on, one of `::ffff:a.b.c.d` is one of `a.b.c.d`, without
-- these 96.
abbrev pub parts_from : IpAddr → ℕ → List ℕ × ℕ
parts_from a bits = if is_mapped a && nat_le 96 bits then (caller_octets a, bits - 96) else (octets_of_ip a, bits)

-- the address is of the network's family, and their first bits are the same
pub record Holds (n : Network) (a : IpAddr) : Type 0 where
  pub family : is_ipv4_caller a ≡ is_ipv4 n.address
  pub front : take (parts_of n).1 (bits_of (caller_octets a)) ≡ take (parts_of n).1 (bits_of (parts_of n).0)

-- 127.0.0.0/8, and ::1
abbrev pub IsLoopback : IpAddr → Type 0
IsLoopback a = ((is_ipv4_caller a ≡ true) × HasPrefix (caller_octets a) (127 ∷ [])) ⊎ IsV6And a IsLoopbackV6

-- one of the networks holds the address
abbrev pub AnyHolds : List Network → IpAddr → Type 0
AnyHolds networks a = Any (λ n. Holds n a) networks

-- a caller of this address is let in
abbrev pub MayCall : List Network → IpAddr → Type 0
MayCall networks a = IsLoopback a ⊎ AnyHolds networks a

-- this caller, who may call
pub record IsAdmitted (networks : List Network) (peer : SocketAddr) (caller : Admitted) : Type 0 where
  pub address : caller.peer ≡ peer
  pub may : MayCall networks (socket_ip peer)
