-- Blocks in octets, and images that are laid over blocks.
use Rattle.std.proofs.Common.{◌≡◌, ◌<◌, ℕ, List, [], ◌∷◌, length, get_or, set, refl, ◌∙◌, arith, length-set}
use Rattle.std.proofs.lemmas.List.FromFn.{get_or-map-range_with_len}
use Rattle.model.specs.Volume.{block, blocks_from, laid_over}

-- one of the first n blocks
pub get_or-blocks_from : (n k : ℕ) (octets : List ℕ) → k < n → get_or (blocks_from 0 n octets) k [] ≡ block k octets
get_or-blocks_from n k octets within = get_or-map-range_with_len (λ k. block k octets) 0 n k k [] within (omega arith)

-- images change no number of blocks
pub length-laid_over : (xs : List (List ℕ)) (ns : List ℕ) (images : List (List ℕ)) → length (laid_over xs ns images) ≡ length xs
length-laid_over xs [] images = refl
length-laid_over xs (n ∷ ns) [] = refl
length-laid_over xs (n ∷ ns) (image ∷ images) = length-laid_over (set xs n image) ns images ∙ length-set xs n image
