-- The line by which a proxy says for whom it connects.
use Rattle.std.specs.Prelude.{◌≡◌, ℕ, ◌-◌, ◌≤◌, ◌==◌, nat_eq, List, [], ◌∷◌, length, take, codes, decimal, IsTrue}
use Rattle.std.specs.List.{slice_split, ends_with}
use Rattle.std.specs.declared.net.ip_addr.IpAddr.{IpAddr}
use Rattle.std.specs.declared.net.socket_addr.SocketAddr.{SocketAddr}
use Rattle.std.specs.declared.net.ip_addr.IpAddr.TheVariants.{V4, V6}
use Rattle.std.specs.Net.Grammar.{IsIpText}
use Rattle.std.specs.Net.Socket.{socket_ip, socket_port}
use Rattle.text_networks.specs.declared.proxies.Proxied.{Proxied}
use Rattle.text_networks.specs.declared.proxies.Proxied.TheVariants.{From, Unknown}

-- the words of a text, with one space between two of them
abbrev pub words_of : List ℕ → List (List ℕ)
words_of text = slice_split (λ octet. octet == 32) text

-- the word of the family of an address
abbrev pub family_word : IpAddr → List ℕ
family_word (V4 a) = codes "TCP4"
family_word (V6 a) = codes "TCP6"

-- two addresses and two ports, those of the caller first
pub record IsEnds (words : List (List ℕ)) (from to : IpAddr) (port : ℕ) : Type 0 where
  pub from_text : List ℕ
  pub to_text : List ℕ
  pub to_port : ℕ
  pub spelled : words ≡ from_text ∷ to_text ∷ decimal port ∷ decimal to_port ∷ []
  pub from_address : IsIpText from_text from
  pub to_address : IsIpText to_text to
  pub port_fits : port ≤ 65535
  pub to_port_fits : to_port ≤ 65535

-- a caller of this address and port: the family, which is that of both addresses, and the ends
pub record IsFrom (words : List (List ℕ)) (from : IpAddr) (port : ℕ) : Type 0 where
  pub to : IpAddr
  pub ends : List (List ℕ)
  pub spelled : words ≡ family_word from ∷ ends
  pub are_ends : IsEnds ends from to port
  pub one_family : family_word to ≡ family_word from

-- what stands behind the first word
abbrev pub IsSaid : List (List ℕ) → Proxied → Type 0
IsSaid words (From from port) = IsFrom words from port
IsSaid words Unknown = (rest : List (List ℕ)) × (words ≡ codes "UNKNOWN" ∷ rest)

-- the text of a line without its CRLF
pub record IsProxyText (text : List ℕ) (proxied : Proxied) : Type 0 where
  pub words : List (List ℕ)
  pub spelled : words_of text ≡ codes "PROXY" ∷ words
  pub says : IsSaid words proxied

-- a line of at most 107 octets with its CRLF
pub record IsProxyLine (line : List ℕ) (proxied : Proxied) : Type 0 where
  pub few : length line ≤ 107
  pub ends_line : IsTrue (ends_with nat_eq line (codes "\r\n"))
  pub text : IsProxyText (take (length line - 2) line) proxied

-- the caller for whom a proxy connects: the one that it names, or the proxy itself where it names none
abbrev pub IsOfProxy : SocketAddr → Proxied → SocketAddr → Type 0
IsOfProxy proxy (From address port) peer = (socket_ip peer ≡ address) × (socket_port peer ≡ port)
IsOfProxy proxy Unknown peer = peer ≡ proxy
