-- What no line of a proxy says.
use Rattle.std.specs.Prelude.{◌≡◌, ℕ, List, ◌∷◌, codes, Option, None, Some, IfNone}
use Rattle.std.proofs.Common.{◌∙◌, ap, sym, subst}
use Rattle.std.proofs.NetLemmas.Theorems.{IsIpText_unique}
use Rattle.std.specs.declared.net.ip_addr.IpAddr.{IpAddr}
use Rattle.std.specs.Net.Grammar.{IsIpText}
use Rattle.text_networks.specs.Proxies.{IsEnds, IsSaid, family_word}
use Rattle.text_networks.specs.declared.proxies.Proxied.{Proxied}
use Rattle.text_networks.specs.declared.proxies.Proxied.TheVariants.{From, Unknown}

pub none_map : {X P Q : Type 0} (r : Option X) → (P → Q) → IfNone r P → IfNone r Q
none_map None f h = f h
none_map (Some x) f h = tt

module _ (family : List ℕ) (words : List (List ℕ)) (known : family ≡ codes "UNKNOWN" → ⊥) where
  -- without ends it names no caller
  pub no_ends : ((from to : IpAddr) (port : ℕ) → ¬ (IsEnds words from to port)) → (p : Proxied) → ¬ (IsSaid (family ∷ words) p)
  no_ends none (From from port) h =
      let same : h.ends ≡ words = cc (h.spelled) in
      none from h.to port (subst (λ w. IsEnds w from h.to port) same h.are_ends)
  no_ends none Unknown h = known (cc (h.1))

  -- with ends of other families it names none either
  pub no_family : (own own_to : IpAddr) (own_port : ℕ) → IsEnds words own own_to own_port
      → (family ≡ family_word own → family ≡ family_word own_to → ⊥) → (p : Proxied) → ¬ (IsSaid (family ∷ words) p)
  no_family own own_to own_port are other (From from port) h =
      let same : h.ends ≡ words = cc (h.spelled) in
      let ends = subst (λ w. IsEnds w from h.to port) same h.are_ends in
      let first : ends.from_text ≡ are.from_text = cc (ends.spelled, are.spelled) in
      let second : ends.to_text ≡ are.to_text = cc (ends.spelled, are.spelled) in
      let one : from ≡ own =
      IsIpText_unique are.from_text from own (subst (λ t. IsIpText t from) first ends.from_address) are.from_address in
      let two : h.to ≡ own_to =
      IsIpText_unique are.to_text h.to own_to (subst (λ t. IsIpText t h.to) second ends.to_address) are.to_address in
      let word : family ≡ family_word from = cc (h.spelled) in
      other (word ∙ ap family_word one) (word ∙ sym h.one_family ∙ ap family_word two)
  no_family own own_to own_port are other Unknown h = known (cc (h.1))
