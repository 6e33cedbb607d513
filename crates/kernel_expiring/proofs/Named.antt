-- The groups of a lawful spool have the names of groups.
use Rattle.std.proofs.Common.{◌≡◌, ℕ, zero, suc, ◌⊎◌, inl, inr, ◌<◌, ◌≤◌, sym, ◌∙◌, ap, arith, true, false, true≢false, [], ◌∷◌, ◌++◌}
use Rattle.std.specs.Prelude.{Some, None, filter_map, get_or, length, slice_get}
use Rattle.std.proofs.lemmas.Option.{none-some, same_Some, slice_get_cases}
use Rattle.model.specs.Stream.{Octets}
use Rattle.model.specs.Names.{is_group_name}
use Rattle.model.specs.Lawful.{IsLawful, IsLawfulAfter}
use Rattle.model.specs.Spool.{NewsGroup, Spool, entries, entries_from, group_made, groups, news_group}
use Rattle.model.specs.declared.change.Change.TheVariants.{Group, Article, Expire}

named_after : (host : Octets) (before cs : Spool) (n place : ℕ) (g : NewsGroup) → IsLawfulAfter host before cs
    → slice_get (filter_map group_made (entries_from n cs)) place ≡ Some g → is_group_name g.name ≡ true
named_after host before [] n place g lawful at = absurd (none-some g at)
named_after host before (Article filing ∷ cs) n place g lawful at =
    named_after host (before ++ Article filing ∷ []) cs (suc n) place g lawful.1 at
named_after host before (Expire expiry ∷ cs) n place g lawful at =
    named_after host (before ++ Expire expiry ∷ []) cs (suc n) place g lawful.1 at
named_after host before (Group created ∷ cs) n zero g lawful at =
    ap (λ (group : NewsGroup). is_group_name group.name) (sym (same_Some (news_group n created) g at)) ∙ lawful.0.is_name
named_after host before (Group created ∷ cs) n (suc place) g lawful at =
    named_after host (before ++ Group created ∷ []) cs (suc n) place g lawful.1 at

-- the group at a place has the name of a group
pub named_at : (host : Octets) (S : Spool) (place : ℕ) (g : NewsGroup) → IsLawful host S → slice_get (groups S) place ≡ Some g
    → is_group_name g.name ≡ true
unfolding groups entries
named_at host S place g lawful at = named_after host [] S 1 place g lawful at

-- so a text that is the name of the group at a place is one
pub unnamed : (host : Octets) (S : Spool) (place : ℕ) (name : Octets) → IsLawful host S → place < length (groups S)
    → ((g : NewsGroup) → slice_get (groups S) place ≡ Some g → name ≡ g.name) → is_group_name name ≡ false → ⊥
unnamed host S place name lawful below is none = by_place (slice_get_cases (groups S) place).1 where
  by_place : ((x : NewsGroup) × (place < length (groups S)) × (slice_get (groups S) place ≡ Some x) × (get_or (groups S) place x ≡ x))
      ⊎ ((length (groups S) ≤ place) × (slice_get (groups S) place ≡ None)) → ⊥
  by_place (inl (x, within, at, same)) = true≢false (sym (named_at host S place x lawful at) ∙ ap is_group_name (sym (is x at)) ∙ none)
  by_place (inr past) = absurd (omega (arith, below, past.0))
