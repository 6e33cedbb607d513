-- The family and the octets that count of an address are those of its canonical address.
use Rattle.std.proofs.Common.{◌≡◌, ◌↔◌, true, [], ◌∷◌, take, get_or, refl, sym, ap, subst, ◌∙◌, inl, inr, ⊎_elim, arith}
use Rattle.std.proofs.lemmas.Bool.{false≢true, false_from_ne_true}
use Rattle.std.proofs.lemmas.Slice.Eq.{bytes_eq-Decides}
use Rattle.std.specs.declared.net.ip_addr.IpAddr.{IpAddr}
use Rattle.std.specs.declared.net.ip_addr.IpAddr.TheVariants.{V4, V6}
use Rattle.std.specs.Net.Addr.{ipv4_octets, ipv6_octets, ipv6_segments, is_ipv4, HasPrefix, MatchIp, IsCanonicalOf, IsLoopbackV4}
use Rattle.std.specs.Net.Addr.{IsLoopbackV6}
use Rattle.text_networks.specs.Addresses.{octets_of_ip, caller_octets, is_ipv4_caller}
use Rattle.text_networks.specs.Networks.{IsLoopback}

-- the clause of `to_canonical`
abbrev pub IsCanonical : IpAddr → IpAddr → Type 0
IsCanonical a c = MatchIp a (λ _. c ≡ a) (λ v. IsCanonicalOf v c)

pub canonical : (a c : IpAddr) → IsCanonical a c → (is_ipv4_caller a ≡ is_ipv4 c) × (caller_octets a ≡ octets_of_ip c)
canonical (V4 a) c h = subst (λ c. (true ≡ is_ipv4 c) × (ipv4_octets a ≡ octets_of_ip c)) (sym h) (refl, refl)
canonical (V6 v) (V4 i) h =
    let yes = (bytes_eq-Decides (take 6 (ipv6_segments v)) (0 ∷ 0 ∷ 0 ∷ 0 ∷ 0 ∷ 0xffff ∷ [])).1 h.0 in
    (yes, rw yes (sym h.1))
canonical (V6 v) (V6 i) h =
    let decides = bytes_eq-Decides (take 6 (ipv6_segments v)) (0 ∷ 0 ∷ 0 ∷ 0 ∷ 0 ∷ 0xffff ∷ []) in
    let no = false_from_ne_true _ (λ t. h.0 (decides.0 t)) in
    (no, rw no (ap ipv6_octets (sym h.1)))

pub loopback : (a c : IpAddr) → IsCanonical a c → MatchIp c IsLoopbackV4 IsLoopbackV6 ↔ IsLoopback a
loopback (V4 a) c h =
    subst (λ c. MatchIp c IsLoopbackV4 IsLoopbackV6 ↔ IsLoopback (V4 a)) (sym h) (λ x. inl (refl, x), ⊎_elim (λ y. y.1) (λ y. absurd y))
loopback (V6 v) (V4 i) h =
    let same = canonical (V6 v) (V4 i) h in (
      λ x. inl (same.0, subst (λ o. HasPrefix o (127 ∷ [])) (sym same.1) x),
      ⊎_elim (λ y. subst (λ o. HasPrefix o (127 ∷ [])) same.1 y.1)
          (λ y. let sixth : 0 ≡ 0xffff = ap (λ l. get_or l 5 0) (sym (ap (take 6) y) ∙ h.0) in absurd (omega (arith, sixth))),
    )
loopback (V6 v) (V6 i) h =
    let same = canonical (V6 v) (V6 i) h in
    (λ x. inr (subst IsLoopbackV6 h.1 x), ⊎_elim (λ y. absurd (false≢true (sym same.0 ∙ y.0))) (λ y. subst IsLoopbackV6 (sym h.1) y))
