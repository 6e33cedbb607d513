-- The logical blocks are as many as the superblock says, and each has 4,096 octets.
use Rattle.std.proofs.Common.{◌≡◌, ◌<◌, ◌≤◌, ltb, if◌then◌else◌, ℕ, ◌+◌, ◌*◌, Bool, true, false, List, [], ◌∷◌, length, get_or, map, set}
use Rattle.std.proofs.Common.{sym, ◌∙◌, ap, subst, arith}
use Rattle.std.specs.List.{All}
use Rattle.std.proofs.lemmas.List.Elements.{All-from_get_or, All-set, All-head, All-tail}
use Rattle.disk.proofs.Images.{length-part}
use Rattle.model.specs.Volume.{Batch, IsSuperblock, StandsFor, all_laid_over, batch_in, block, blocks_from, descriptor_place, home}
use Rattle.model.specs.Volume.{home_place, home_size, image_place, insert, is_open, laid_over, number_at, open_segments, rising}
use Rattle.model.specs.Volume.{segment_count}
use Rattle.journal_laws.specs.Images.{open_batches}
use Rattle.journal_laws.proofs.Blocks.{get_or-blocks_from, length-blocks_from}
use Rattle.journal_laws.proofs.Laying.{length-all}
use Rattle.journal_laws.proofs.Places.{each_of}
use Rattle.journal_laws.proofs.Standing.{length-home, valid_open}

abbrev HasSize : List ℕ → Type 0
HasSize block = length block ≡ 4096

-- blocks of an image that has room for them
whole_from : (first n : ℕ) (x : List ℕ) → 4096 * (first + n) ≤ length x → All HasSize (blocks_from first n x)
whole_from first n x room = All-from_get_or HasSize (blocks_from first n x) [] each
  where
    each : (i : ℕ) → i < length (blocks_from first n x) → HasSize (get_or (blocks_from first n x) i [])
    each i within =
        let inside : i < n = omega (arith, within, length-blocks_from first n x) in
        ap length (get_or-blocks_from first n i x inside) ∙ length-part (4096 * (first + i)) 4096 x (omega (arith, inside, room))

-- images laid over
laid_sizes : (ns : List ℕ) (images xs : List (List ℕ)) → All HasSize xs → All HasSize images → All HasSize (laid_over xs ns images)
laid_sizes [] images xs all sizes = all
laid_sizes (n ∷ ns) [] xs all sizes = all
laid_sizes (n ∷ ns) (image ∷ images) xs all sizes =
    laid_sizes ns images (set xs n image) (All-set HasSize xs n image (All-head HasSize image images sizes) all)
    (All-tail HasSize image images sizes)

abbrev HaveSize : List Batch → Type 0
HaveSize [] = Unit {0}
HaveSize (b ∷ bs) = All HasSize b.images × HaveSize bs

all_sizes : (bs : List Batch) (xs : List (List ℕ)) → All HasSize xs → HaveSize bs → All HasSize (all_laid_over xs bs)
all_sizes [] xs all sizes = all
all_sizes (b ∷ bs) xs all sizes = all_sizes bs (laid_over xs b.numbers b.images) (laid_sizes b.numbers b.images xs all sizes.0) sizes.1

size_insert : (b : Batch) (bs : List Batch) → All HasSize b.images → HaveSize bs → HaveSize (insert b bs)
size_insert b [] one all = (one, tt)
size_insert b (c ∷ bs) one all = go (size_insert b bs one all.1) (ltb c.number b.number)
  where
    go : HaveSize (insert b bs) → (t : Bool) → HaveSize (if t then c ∷ insert b bs else b ∷ c ∷ bs)
    go rest true = (all.0, rest)
    go rest false = (one, all)

size_rising : (bs : List Batch) → HaveSize bs → HaveSize (rising bs)
size_rising [] all = tt
size_rising (b ∷ bs) all = size_insert b (rising bs) all.0 (size_rising bs all.1)

size_map : (x : List ℕ) (ss : List ℕ) → All (λ s. All HasSize (batch_in s x).images) ss → HaveSize (map (λ s. batch_in s x) ss)
size_map x [] all = tt
size_map x (s ∷ ss) all = (
  All-head (λ s. All HasSize (batch_in s x).images) s ss all,
  size_map x ss (All-tail (λ s. All HasSize (batch_in s x).images) s ss all),
)

pub home_whole : (x : List ℕ) → IsSuperblock (block 0 x) (length x) → All HasSize (home x)
home_whole x superblock = whole_from (home_place (segment_count x) 0) (home_size x) x (omega (arith, superblock.exactly))

pub stands_length : (x label : List ℕ) (blocks : List (List ℕ)) → StandsFor x label blocks → length blocks ≡ home_size x
stands_length x label blocks stands = ap length (sym stands.has_blocks) ∙ length-all (open_batches x) (home x) ∙ length-home x

pub stands_whole : (x label : List ℕ) (blocks : List (List ℕ)) → StandsFor x label blocks → All HasSize blocks
stands_whole x label blocks stands =
    subst (λ (bs : List (List ℕ)). All HasSize bs) stands.has_blocks
    (all_sizes (open_batches x) (home x) (home_whole x stands.has_superblock)
    (size_rising (map (λ s. batch_in s x) (open_segments x)) (size_map x (open_segments x) each)))
  where
    each : All (λ s. All HasSize (batch_in s x).images) (open_segments x)
    each = each_of (λ s. All HasSize (batch_in s x).images) (λ s. is_open s x) 0 (segment_count x) (λ s low high is.
        let within : s < segment_count x = omega (arith, high) in
        let few = (valid_open x label blocks stands s (within, is)).few in
        whole_from (image_place s 0) (number_at 16 4 (block (descriptor_place s) x)) x
        (omega (arith, within, few, stands.has_superblock.exactly)))
