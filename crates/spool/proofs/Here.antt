-- Groups that are here.
use Rattle.std.proofs.Common.{◌≡◌, ℕ, Bool, true, false, length, refl, sym, ◌∙◌, ap}
use Rattle.std.specs.Prelude.{is_some, nat_le, ◌&&◌, Option, Some, None, option_map}
use Rattle.std.proofs.lemmas.Bool.{and_parts, leb-true}
use Rattle.std.proofs.lemmas.List.{length-map}
use Rattle.model.specs.Stream.{Octets}
use Rattle.model.specs.Indexed.{GroupIndex, group_index}
use Rattle.model.specs.Lawful.{MayExpire}
use Rattle.model.specs.Spool.{Spool, NewsArticle, NewsGroup, filed_in, group_named, high, is_here, low}
use Rattle.spool_index.proofs.LookUps.{group_is, not_here}
use Rattle.spool.specs.Refusals.{has_number}

-- ---- their numbers

pub number_here : (S : Spool) (name : Octets) (i : GroupIndex) (n : ℕ) → Some i ≡ option_map (group_index S) (group_named S name)
    → has_number S name n ≡ (nat_le i.low n && nat_le n (length i.filed))
number_here S name i n is =
    let its = group_is S name i is in
    let here : is_here S name ≡ true = named (group_named S name) is in
    let lows : i.low ≡ low S name = ap (λ (j : GroupIndex). j.low) its.its_index ∙ ap (low S) its.its_name in
    let highs : length i.filed ≡ high S name =
    ap (λ (j : GroupIndex). length j.filed) its.its_index ∙ length-map (filed_in S its.group.name) (λ (a : NewsArticle). a.serial)
    ∙ ap (high S) its.its_name in
    let lowers : low S name ≡ i.low = sym lows in
    let uppers : high S name ≡ length i.filed = sym highs in
    ap (λ (b : Bool). b && (nat_le (low S name) n && nat_le n (high S name))) here ∙ (λ k. nat_le (lowers k) n && nat_le n (uppers k))
  where
    named : (o : Option NewsGroup) → Some i ≡ option_map (group_index S) o → is_some o ≡ true
    named None same = absurd (cc)
    named (Some g) same = refl

pub number_nowhere : (S : Spool) (name : Octets) (n : ℕ) → None ≡ option_map (group_index S) (group_named S name)
    → has_number S name n ≡ false
number_nowhere S name n is = ap (λ (o : Option NewsGroup). is_some o && (nat_le (low S name) n && nat_le n (high S name)))
    (not_here S name is)

pub may_expire : (S : Spool) (name : Octets) (n : ℕ) → has_number S name n ≡ true → MayExpire S (record { group = name; number = n })
may_expire S name n has =
    let parts = and_parts (is_here S name) (nat_le (low S name) n && nat_le n (high S name)) has in
    let bounds = and_parts (nat_le (low S name) n) (nat_le n (high S name)) parts.1 in
    record { here = parts.0; from_low = leb-true (low S name) n bounds.0; to_high = leb-true n (high S name) bounds.1 }

pub number_reached : (S : Spool) (name : Octets) (i : GroupIndex) (n lowest highest : ℕ)
    → Some i ≡ option_map (group_index S) (group_named S name) → lowest ≡ i.low → highest ≡ length i.filed → nat_le lowest n ≡ true
    → nat_le n highest ≡ has_number S name n
number_reached S name i n lowest highest is lows highs from =
    ap (nat_le n) highs ∙ ap (λ (b : Bool). b && nat_le n (length i.filed)) (sym from ∙ ap (λ (m : ℕ). nat_le m n) lows)
    ∙ sym (number_here S name i n is)

pub number_missed : (S : Spool) (name : Octets) (i : GroupIndex) (n lowest : ℕ) → Some i ≡ option_map (group_index S) (group_named S name)
    → lowest ≡ i.low → nat_le lowest n ≡ false
    → nat_le lowest n ≡ has_number S name n
number_missed S name i n lowest is lows below =
    below ∙ ap (λ (b : Bool). b && nat_le n (length i.filed)) (sym below ∙ ap (λ (m : ℕ). nat_le m n) lows)
    ∙ sym (number_here S name i n is)
