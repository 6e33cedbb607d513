-- Which callers have the seats of a server.
use Rattle.std.specs.Prelude.{ℕ, Bool, true, false, List, Option, None, Some, take, bytes_eq, count_by, nat_le}
use Rattle.std.specs.declared.net.ip_addr.IpAddr.{IpAddr}
use Rattle.text_networks.specs.Addresses.{caller_octets}
use Rattle.text_networks.specs.declared.guests.Guest.{Guest}
use Rattle.text_networks.specs.declared.guests.Guest.TheVariants.{At, Unnamed}

-- the octets by which a caller's address counts: the four of IPv4, the first eight of IPv6
abbrev pub home_of : IpAddr → List ℕ
home_of a = take 8 (caller_octets a)

-- two addresses count as one
abbrev pub same_home : IpAddr → IpAddr → Bool
same_home a b = bytes_eq (home_of a) (home_of b)

-- two callers count as one: those of one address, and those by a proxy that have said none yet
abbrev pub same_guest : Guest → Guest → Bool
same_guest (At a) (At b) = same_home a b
same_guest (At a) Unnamed = false
same_guest Unnamed (At b) = false
same_guest Unnamed Unnamed = true

-- a seat that nobody has
abbrev pub is_free : Option Guest → Bool
is_free None = true
is_free (Some g) = false

-- a seat of a caller that counts as one with this one
abbrev pub is_like : Guest → Option Guest → Bool
is_like g None = false
is_like g (Some h) = same_guest g h

-- An address has as many of the seats as it may have: the number that is given, or as many as are free. Those that have said no address
-- may have as many as are free.
abbrev pub has_most : List (Option Guest) → Option ℕ → Guest → Bool
has_most seats (Some most) (At a) = nat_le most (count_by (is_like (At a)) seats)
has_most seats None (At a) = nat_le (count_by is_free seats) (count_by (is_like (At a)) seats)
has_most seats most Unnamed = nat_le (count_by is_free seats) (count_by (is_like Unnamed) seats)
