-- What a view of a group says of the group with its name.
use Rattle.std.proofs.Common.{◌≡◌, refl, sym, ◌∙◌, ap, true, false}
use Rattle.std.specs.Prelude.{Option, Some, None, is_some, option_map, unwrap_or}
use Rattle.model.specs.Stream.{Octets}
use Rattle.model.specs.Answer.{is_closed}
use Rattle.model.specs.Spool.{Spool, NewsGroup, contents, contents_if_here, forbids_posts, group_named, high, is_here, last_naming, low}
use Rattle.model.proofs.Growing.{group_has_name}
use Rattle.session_lookups.specs.declared.GroupView.{GroupView}
use Rattle.session_lookups.specs.Held.{Known, known, shown}

-- the view is of the group with this name
pub record IsOf (S : Spool) (name : Octets) (v : GroupView) : Type 0 where
  pub low : v.low ≡ low S name
  pub high : v.high ≡ high S name
  pub last : v.last ≡ last_naming S name
  pub here : is_here S name ≡ true
  pub closed : is_closed S name ≡ forbids_posts v.status
  pub has : contents_if_here S name ≡ Some (contents S name)

pub is_of : (S : Spool) (name : Octets) (v : GroupView) → Some (shown v) ≡ option_map (known S) (group_named S name) → IsOf S name v
unfolding contents_if_here
is_of S name v says = by_found (group_named S name) refl says where
  by_found : (o : Option NewsGroup) → group_named S name ≡ o → Some (shown v) ≡ option_map (known S) o → IsOf S name v
  by_found None is same = absurd (cc)
  by_found (Some g) is same =
      let one : shown v ≡ known S g = cc in
      let named : g.name ≡ name = group_has_name S name g is in
      record {
        low = ap (λ (k : Known). k.listed.low) one ∙ ap (low S) named;
        high = ap (λ (k : Known). k.listed.high) one ∙ ap (high S) named;
        last = ap (λ (k : Known). k.last) one ∙ ap (last_naming S) named;
        here = ap (λ (o : Option NewsGroup). is_some o) is;
        closed = ap (λ (o : Option NewsGroup). unwrap_or (option_map (λ (h : NewsGroup). forbids_posts h.status) o) false) is
            ∙ ap (λ (k : Known). forbids_posts k.listed.group.status) (sym one);
        has = ap (λ (o : Option NewsGroup). option_map (λ (h : NewsGroup). contents S name) o) is;
      }

pub none_of : (S : Spool) (name : Octets) → None ≡ option_map (known S) (group_named S name) → group_named S name ≡ None
none_of S name says = by_found (group_named S name) says where
  by_found : (o : Option NewsGroup) → None ≡ option_map (known S) o → o ≡ None
  by_found None same = refl
  by_found (Some g) same = absurd (cc)
