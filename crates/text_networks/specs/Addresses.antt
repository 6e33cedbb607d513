-- Addresses as octets and as bits.
use Rattle.std.specs.Prelude.{ℕ, ◌/◌, ◌%◌, Bool, true, false, List, [], ◌∷◌, take, flat_map, bytes_eq, if◌then◌else◌}
use Rattle.std.specs.declared.net.ip_addr.IpAddr.{IpAddr}
use Rattle.std.specs.declared.net.ip_addr.IpAddr.TheVariants.{V4, V6}
use Rattle.std.specs.Net.Addr.{ipv4_octets, ipv6_octets, ipv6_segments, low_octets}

-- the octets of an address: 4 of IPv4, 16 of IPv6
abbrev pub octets_of_ip : IpAddr → List ℕ
octets_of_ip (V4 a) = ipv4_octets a
octets_of_ip (V6 a) = ipv6_octets a

-- how many bits an address has
abbrev pub width_of : IpAddr → ℕ
width_of (V4 a) = 32
width_of (V6 a) = 128

-- the address is `::ffff:a.b.c.d` (RFC 4291, 2.5.5.2)
abbrev pub is_mapped : IpAddr → Bool
is_mapped (V4 a) = false
is_mapped (V6 a) = bytes_eq (take 6 (ipv6_segments a)) (0 ∷ 0 ∷ 0 ∷ 0 ∷ 0 ∷ 0xffff ∷ [])

-- the address counts as one of IPv4
abbrev pub is_ipv4_caller : IpAddr → Bool
is_ipv4_caller (V4 a) = true
is_ipv4_caller (V6 a) = is_mapped (V6 a)

-- the octets that count: of `::ffff:a.b.c.d` those of `a.b.c.d`
abbrev pub caller_octets : IpAddr → List ℕ
caller_octets (V4 a) = ipv4_octets a
caller_octets (V6 a) = if is_mapped (V6 a) then low_octets a else ipv6_octets a

-- the bits of an octet, the highest first
abbrev pub octet_bits : ℕ → List ℕ
octet_bits o = (o / 128) ∷ (o / 64 % 2) ∷ (o / 32 % 2) ∷ (o / 16 % 2) ∷ (o / 8 % 2) ∷ (o / 4 % 2) ∷ (o / 2 % 2) ∷ (o % 2) ∷ []

-- the bits of octets, in their order
abbrev pub bits_of : List ℕ → List ℕ
bits_of octets = flat_map octet_bits octets
