-- What the index keeps of groups is their state.
use Rattle.std.proofs.Common.{◌≡◌, ℕ, ◌+◌, ◌-◌, List, [], ◌∷◌, length, map, refl, arith}
use Rattle.std.proofs.lemmas.List.{length-map}
use Rattle.model.specs.Indexed.{group_index}
use Rattle.model.specs.Spool.{NewsArticle, NewsGroup, Spool, contents, count, filed_in, high, low}
use Rattle.model.specs.SpoolFiles.{overview_file}
use Rattle.spool_groups.specs.Filing.{end_of}
use Rattle.spool_index.proofs.Growing.{overview_size}
use Rattle.volume_states.specs.State.{group_status, of_index}

pub of_group : (S : Spool) (g : NewsGroup) → of_index (group_index S g) ≡ group_status S g
of_group S g =
    let filed : length (map (λ (a : NewsArticle). a.serial) (filed_in S g.name)) ≡ high S g.name =
    length-map (filed_in S g.name) (λ (a : NewsArticle). a.serial) in
    let here : length (map (λ (a : NewsArticle). a.serial) (filed_in S g.name)) - (low S g.name - 1) ≡ count (contents S g.name) =
    omega (arith, filed) in
    let size : end_of (group_index S g) ≡ length (overview_file S g.name) = overview_size S g in
    λ i. record { name = g.name; low = low S g.name; high = filed i; count = here i; status = g.status; overview = size i }

pub of_groups : (S : Spool) (gs : List NewsGroup) → map of_index (map (group_index S) gs) ≡ map (group_status S) gs
of_groups S [] = refl
of_groups S (g ∷ gs) = λ i. of_group S g i ∷ of_groups S gs i
