-- The dirty blocks, copied out of the cache.
use Rattle.std.proofs.Common.{◌≡◌, ◌≢◌, ◌<◌, ℕ, List, [], length, get_or, map, sym, ◌∙◌, ap, arith}
use Rattle.std.specs.List.{All, flat_map}
use Rattle.std.proofs.lemmas.List.{get_or-map, get_or_default, length-map}
use Rattle.model.specs.Volume.{blocks_from, laid_over}
use Rattle.journal_volume.specs.Volume.{AgreeOutside}
use Rattle.journal_volume.proofs.Laid.{laid_over_done, laid_over_agree}
use Rattle.fs_blocks.proofs.Octets.{blocks_from-flat_map}

-- laid over blocks that differ in no other place they give the cache
pub copied_laid : (cache : List (List ℕ)) (ns : List ℕ) → All (λ b. length b ≡ 4096) cache → All (λ n. n < length cache) ns
    → (blocks : List (List ℕ)) → AgreeOutside ns blocks cache
    → laid_over blocks ns (blocks_from 0 (length ns) (flat_map (λ n. get_or cache n []) ns)) ≡ cache
copied_laid cache ns whole below blocks agree =
    ap (λ (l : List (List ℕ)). laid_over blocks ns l) (blocks_from-flat_map (λ n. get_or cache n []) ns each).1
    ∙ laid_over_agree ns (map (λ n. get_or cache n []) ns) blocks cache (omega (arith, length-map ns (λ n. get_or cache n [])))
    agree.count outside
    ∙ laid_over_done cache ns (map (λ n. get_or cache n []) ns) done
  where
    each : All (λ n. length (get_or cache n []) ≡ 4096) ns
    each k d low = whole (get_or ns k d) [] (below k d low)

    outside : (k : ℕ) → ((i : ℕ) → i < length ns → k ≢ get_or ns i 0) → get_or blocks k [] ≡ get_or cache k []
    outside k other = agree.same k (λ c. other c.0 c.1 (sym (get_or_default ns c.0 0 k c.1 ∙ c.2)))

    done : (i : ℕ) → i < length ns → i < length (map (λ n. get_or cache n []) ns)
        → get_or cache (get_or ns i 0) [] ≡ get_or (map (λ n. get_or cache n []) ns) i []
    done i low l = sym (get_or-map (λ n. get_or cache n []) ns i 0 [] low)
