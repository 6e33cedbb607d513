-- The tests of a change decide whether it may follow.
use Rattle.std.proofs.Common.{◌≡◌, ◌<◌, ◌≤◌, ◌↔◌, ℕ, ◌+◌, Bool, true, false, List, [], length, get_or, refl, sym, ◌∙◌, ap, arith}
use Rattle.std.proofs.Common.{Option, Some, None}
use Rattle.std.specs.Prelude.{bytes_eq, ◌&&◌, not, nat_le, filter, option_map, is_some, IsTrue}
use Rattle.std.specs.List.{list_all}
use Rattle.std.proofs.lemmas.Bool.{true≢false, and_parts, le-leb, leb-true, not-true, and_from}
use Rattle.std.proofs.lemmas.List.{get_or_read, length-map}
use Rattle.std.proofs.lemmas.Slice.Eq.{bytes_eq-Decides}
use Rattle.model.specs.Stream.{Octets}
use Rattle.model.specs.Names.{is_group_name}
use Rattle.model.specs.Article.{Carried, cause, groups_of, id, made_id}
use Rattle.model.specs.Calendar.{moment_limit}
use Rattle.model.specs.Indexed.{GroupIndex, group_index}
use Rattle.model.specs.Lawful.{MayExpire, MayFile, MayMake, is_description_octet}
use Rattle.model.specs.Spool.{IsEnvelope, Spool, NewsArticle, NewsGroup, filed_in, group_named, high, is_here, low}
use Rattle.model.specs.declared.change.Expiry.{Expiry}
use Rattle.model.specs.declared.change.Filing.{Filing}
use Rattle.model.specs.declared.change.NewGroup.{NewGroup}
use Rattle.text_names.specs.Descriptions.{is_description}
use Rattle.spool_index.proofs.LookUps.{group_is, not_here}
use Rattle.spool_admission.specs.Fields.{MayHaveId}

-- ---- groups

pub same_some : {X Y Z : Type 0} (f : X → Z) (h : Y → Z) (a : Option X) (b : Option Y) → option_map f a ≡ option_map h b
    → is_some a ≡ is_some b
same_some f h None None is = refl
same_some f h None (Some y) is = absurd (cc)
same_some f h (Some x) None is = absurd (cc)
same_some f h (Some x) (Some y) is = refl

fields_from : (S : Spool) (g : NewGroup) → MayMake S g → (is_group_name g.name && is_description g.description) ≡ true
fields_from S g may =
    and_from (is_group_name g.name) (is_description g.description) may.is_name
    (and_from (nat_le (length g.description) 200) (list_all is_description_octet g.description)
    (le-leb (length g.description) 200 may.short) may.printable)

may_from : (S : Spool) (g : NewGroup) → (is_group_name g.name && is_description g.description) ≡ true → is_here S g.name ≡ false
    → g.moment < moment_limit → MayMake S g
may_from S g are absent early =
    let one = and_parts (is_group_name g.name) (is_description g.description) are in
    let two = and_parts (nat_le (length g.description) 200) (list_all is_description_octet g.description) one.1 in
    record {
      is_name = one.0;
      new = by_group (group_named S g.name) refl;
      short = leb-true (length g.description) 200 two.0;
      printable = two.1;
      in_time = early;
    }
  where
    by_group : (o : Option NewsGroup) → group_named S g.name ≡ o → group_named S g.name ≡ None
    by_group None is = is
    by_group (Some h) is = absurd (true≢false (sym (ap (λ (o : Option NewsGroup). is_some o) is) ∙ absent))

-- the tests of the name and of the description, and whether the group is here
pub made_by_test : (S : Spool) (g : NewGroup) (named described here : Bool) → g.moment < moment_limit → named ≡ is_group_name g.name
    → described ≡ is_description g.description → here ≡ is_here S g.name → IsTrue ((named && described) && not here) ↔ MayMake S g
made_by_test S g named described here early named_is described_is here_is = (
  λ is. let parts = and_parts (named && described) (not here) is in
      may_from S g (sym fields_are ∙ parts.0) (sym here_is ∙ not-true here parts.1) early,
  λ may. and_from (named && described) (not here) (fields_are ∙ fields_from S g may)
      (ap not (here_is ∙ ap (λ (o : Option NewsGroup). is_some o) may.new)),
)
  where
    fields_are : (named && described) ≡ (is_group_name g.name && is_description g.description)
    fields_are = λ i. named_is i && described_is i

-- ---- expiries

pub expired_by_test : (S : Spool) (e : Expiry) (i : GroupIndex) → Some i ≡ option_map (group_index S) (group_named S e.group)
    → i.low ≤ e.number → e.number ≤ length i.filed → MayExpire S e
expired_by_test S e i is from to =
    let its = group_is S e.group i is in
    let here : is_some (Some i) ≡ is_some (group_named S e.group) = ap (λ (o : Option GroupIndex). is_some o) is
    ∙ mapped (group_named S e.group) in
    let lowest : i.low ≡ low S e.group = ap (λ (j : GroupIndex). j.low) its.its_index ∙ ap (low S) its.its_name in
    let highest : length i.filed ≡ high S e.group = ap (λ (j : GroupIndex). length j.filed) its.its_index
    ∙ length-map (filed_in S its.group.name) (λ (a : NewsArticle). a.serial) ∙ ap (high S) its.its_name in
    record {
      here = sym here;
      from_low = omega (arith, lowest);
      to_high = omega (arith, highest);
    }
  where
    mapped : (o : Option NewsGroup) → is_some (option_map (group_index S) o) ≡ is_some o
    mapped None = refl
    mapped (Some g) = refl

pub expiry_bounds : (S : Spool) (e : Expiry) (i : GroupIndex) → Some i ≡ option_map (group_index S) (group_named S e.group)
    → MayExpire S e → (i.low ≤ e.number) × (e.number ≤ length i.filed)
expiry_bounds S e i is may =
    let its = group_is S e.group i is in
    let lowest : i.low ≡ low S e.group = ap (λ (j : GroupIndex). j.low) its.its_index ∙ ap (low S) its.its_name in
    let highest : length i.filed ≡ high S e.group = ap (λ (j : GroupIndex). length j.filed) its.its_index
    ∙ length-map (filed_in S its.group.name) (λ (a : NewsArticle). a.serial) ∙ ap (high S) its.its_name in
    (omega (arith, lowest, may.from_low), omega (arith, highest, may.to_high))

pub no_expiry_elsewhere : (S : Spool) (e : Expiry) → None ≡ option_map (group_index S) (group_named S e.group) → MayExpire S e → ⊥
no_expiry_elsewhere S e is may = true≢false (sym may.here ∙ ap (λ (o : Option NewsGroup). is_some o) (not_here S e.group is))

-- ---- articles

pub some_by : (o : Option NewsArticle) (n : ℕ) → Some n ≡ option_map (λ (a : NewsArticle). a.serial) o → o ≡ None → ⊥
some_by None n is none = absurd (cc)
some_by (Some a) n is none = absurd (cc)

pub filed_by_test : (host : Octets) (S : Spool) (f : Filing) (here : List Octets) (serial : ℕ) → cause Carried f.text ≡ None
    → here ≡ filter (is_here S) (groups_of f.text) → serial ≡ length S + 1
    → here ≡ f.envelope.groups → 0 < length f.envelope.groups → IsEnvelope f.envelope → MayHaveId host S serial (id f.text)
    → MayFile host S f
filed_by_test host S f here serial carried here_are count same some early may = record {
  carried = carried;
  filed = sym same ∙ here_are;
  somewhere = some;
  new = may.new;
  own = λ own. may.own own ∙ ap (made_id host) count;
  fits = early;
}

pub id_of_filed : (host : Octets) (S : Spool) (f : Filing) (serial : ℕ) → serial ≡ length S + 1 → MayFile host S f
    → MayHaveId host S serial (id f.text)
id_of_filed host S f serial count may = record { new = may.new; own = λ own. may.own own ∙ ap (made_id host) (sym count) }

-- ---- names in the same order

-- the name at a place, in two lists
module _ (names others : List Octets) (i : ℕ) (x y : Octets) (same : Bool) (low : i < length names) (size : length names ≡ length others)
    (is : x ≡ get_or names i x) (other : y ≡ get_or others i y) (test : same ≡ bytes_eq x y) where
  pub other_names : same ≡ false → names ≡ others → ⊥
  other_names differ equal =
      let one : x ≡ y = get_or_read names i x low is y ∙ ap (λ (os : List Octets). get_or os i y) equal ∙ sym other in
      true≢false (sym ((bytes_eq-Decides x y).1 one) ∙ sym test ∙ differ)

  pub same_name : same ≡ true → get_or names i [] ≡ get_or others i []
  same_name equal =
      sym (get_or_read names i x low is []) ∙ (bytes_eq-Decides x y).0 (sym test ∙ equal)
      ∙ get_or_read others i y (omega (arith, size, low)) other []
