-- How many groups a spool has, and how many numbers a group.
use Rattle.std.proofs.Common.{◌≡◌, ◌≤◌, ℕ, suc, [], ◌∷◌, length, arith}
use Rattle.std.specs.Prelude.{filter_map}
use Rattle.std.proofs.lemmas.List.{length-map}
use Rattle.model.specs.Indexed.{group_index}
use Rattle.model.specs.Spool.{Spool, NewsArticle, NewsGroup, entries, entries_from, filed_in, group_made, groups, high}
use Rattle.model.specs.declared.change.Change.TheVariants.{Group, Article, Expire}

groups_from : (n : ℕ) (S : Spool) → length (filter_map group_made (entries_from n S)) ≤ length S
groups_from n [] = omega arith
groups_from n (Group created ∷ S) = omega (arith, groups_from (suc n) S)
groups_from n (Article filing ∷ S) = omega (arith, groups_from (suc n) S)
groups_from n (Expire expiry ∷ S) = omega (arith, groups_from (suc n) S)

pub groups_few : (S : Spool) → length (groups S) ≤ length S
unfolding groups entries
groups_few S = groups_from 1 S

pub high_is : (S : Spool) (g : NewsGroup) → length (group_index S g).filed ≡ high S g.name
high_is S g = length-map (filed_in S g.name) (λ (a : NewsArticle). a.serial)
