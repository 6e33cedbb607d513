use Rattle.std.proofs.Common.{◌≡◌, ◌+◌, ◌-◌, ◌≤◌, length, take, drop, None, Some, sym, ap, subst, ◌∙◌, inr, lit<, arith}
use Rattle.std.proofs.NetLemmas.Theorems.{IsIpText_unique}
use Rattle.std.proofs.lemmas.List.{take_all, length-drop}
use Rattle.std.proofs.lemmas.Str.Pattern.{rfind_char}
use Rattle.std.specs.declared.net.ip_addr.IpAddr.{IpAddr}
use Rattle.std.specs.Net.Grammar.{IsIpText}
use Rattle.text_networks.specs.Addresses.{width_of}
use Rattle.text_networks.proofs.Slash.{none_without_slash, none_at_slash, joined_at_slash}
use Rattle.text_networks.proofs.prefixes.Network.read.Goals as goal

pub returns-in_default-rfind-clause-none : goal.returns-in_default-rfind-clause-none
returns-in_default-rfind-clause-none c =
    let text = c.args.text.now in
    let none = subst (λ t. (a : IpAddr) → ¬ (IsIpText t a)) c.as_bytes-octets.ensures.value c.in_default.ensures in
    none_without_slash text none (rfind_char 47 text None c.in_default-rfind.ensures.cases (lit< tt))

pub returns-in_default-parse_ascii-clause-none : goal.returns-in_default-parse_ascii-clause-none
returns-in_default-parse_ascii-clause-none c =
    let text = c.args.text.now in
    let k = c.in-Some.slash in
    let same = c.as_bytes-octets.ensures.value in
    let none = subst (λ t. (a : IpAddr) → ¬ (IsIpText t a)) same c.in_default.ensures in
    let front = subst (λ t. (a : IpAddr) → ¬ (IsIpText (take k t) a)) same c.in_default-parse_ascii.ensures in
    let at = rfind_char 47 text (Some k) c.in-Some.ensures.cases (lit< tt) in
    none_at_slash text k at.0 at.1 at.2 none (λ a n spelled fits e. front a spelled)

pub returns-in-None-clause-none : goal.returns-in-None-clause-none
returns-in-None-clause-none c =
    let text = c.args.text.now in
    let k = c.in-Some.slash in
    let own = c.in-Ok-parse_ascii.address in
    let same = c.as_bytes-octets.ensures.value in
    let none = subst (λ t. (a : IpAddr) → ¬ (IsIpText t a)) same c.in_default.ensures in
    let front = subst (λ t. IsIpText (take k t) own) same c.in-Ok-parse_ascii.ensures in
    let at = rfind_char 47 text (Some k) c.in-Some.ensures.cases (lit< tt) in
    let octets = c.as_bytes-octets.result.now in
    let rest = take_all (length octets - (k + 1)) (drop (k + 1) octets) (omega (arith, length-drop (k + 1) octets)) in
    none_at_slash text k at.0 at.1 at.2 none
    (λ a n spelled fits e.
    let one : own ≡ a = IsIpText_unique (take k text) own a front spelled in
    c.in-None.ensures.none n (subst (λ w. n ≤ w) (ap width_of (sym one) ∙ sym c.width-2.ensures) fits) (rest ∙ ap (drop (k + 1)) same ∙ e))

pub returns-in-Some-read_number-clause-found : goal.returns-in-Some-read_number-clause-found
returns-in-Some-read_number-clause-found c =
    let text = c.args.text.now in
    let k = c.in-Some.slash in
    let own = c.in-Ok-parse_ascii.address in
    let n = c.in-Some-read_number.length in
    let same = c.as_bytes-octets.ensures.value in
    let front = subst (λ t. IsIpText (take k t) own) same c.in-Ok-parse_ascii.ensures in
    let at = rfind_char 47 text (Some k) c.in-Some.ensures.cases (lit< tt) in
    let octets = c.as_bytes-octets.result.now in
    let rest = take_all (length octets - (k + 1)) (drop (k + 1) octets) (omega (arith, length-drop (k + 1) octets)) in
    let found = c.in-Some-read_number.ensures.found in (
      own,
      n,
      inr (
        take k text,
        joined_at_slash text k n at.0 at.1 (ap (drop (k + 1)) (sym same) ∙ sym rest ∙ found.0),
        front,
        subst (λ w. n ≤ w) c.width-2.ensures found.1,
      ),
      c.of-in-Some-read_number.ensures,
    )
