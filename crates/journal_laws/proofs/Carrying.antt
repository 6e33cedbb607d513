-- What a home write leaves of the home, and how far home the batches are.
use Rattle.std.proofs.Common.{◌≡◌, inl, inr, ◌<◌, ◌≤◌, ℕ, zero, suc, ◌+◌, ◌*◌, List, [], ◌∷◌, ◌++◌, length, get_or, set, take, refl, sym}
use Rattle.std.proofs.Common.{◌∙◌, ap, arith, length-set}
use Rattle.std.proofs.lemmas.Bool.{cases_eq}
use Rattle.std.proofs.lemmas.List.{ext_get_or, get_or-set_same, get_or-set_other, map-append, take_all}
use Rattle.disk.specs.Image.{overwritten}
use Rattle.model.specs.Volume.{Batch, all_laid_over, block, home, home_place, home_size, laid_over, segment_count}
use Rattle.journal_laws.specs.Held.{HeldBatch, IsHomeOnTheWay, batches_of}
use Rattle.journal_laws.specs.Images.{SameBut}
use Rattle.journal_laws.proofs.Blocks.{block-overwritten, overwritten_same}
use Rattle.journal_laws.proofs.Laying.{all_append}
use Rattle.journal_laws.proofs.Standing.{count_same, get_or-home, home_size_same, length-home}

-- a home write changes the home in its block alone
pub home_written : (x : List ℕ) (n : ℕ) (image : List ℕ) → length image ≡ 4096 → n < home_size x
    → 4096 * home_place (segment_count x) (home_size x) ≤ length x
    → home (overwritten (4096 * home_place (segment_count x) n) image x) ≡ set (home x) n image
home_written x n image whole below room =
    ext_get_or [] (home y) (set (home x) n image) (length-home y ∙ home_size_same x y zeroth same.size ∙ sym (length-home x)
    ∙ sym (length-set (home x) n image)) each
  where
    y : List ℕ
    y = overwritten (4096 * home_place (segment_count x) n) image x

    fits : 4096 * home_place (segment_count x) n + length image ≤ length x
    fits = omega (arith, whole, below, room)

    same : SameBut (λ k. k ≡ home_place (segment_count x) n) x y
    same = overwritten_same (home_place (segment_count x) n) image x (omega (arith, whole)) fits

    zeroth : block 0 y ≡ block 0 x
    zeroth = same.same 0 (λ e. absurd (omega (arith, e)))

    at : (k : ℕ) → k < home_size x → get_or (home y) k [] ≡ block (home_place (segment_count x) k) y
    at k within = get_or-home y k (omega (arith, within, home_size_same x y zeroth same.size))
        ∙ ap (λ (s : ℕ). block (home_place s k) y) (count_same x y zeroth same.size)

    each : (k : ℕ) → k < length (home y) → get_or (home y) k [] ≡ get_or (set (home x) n image) k []
    each k within =
        let inside : k < home_size x = omega (arith, within, length-home y, home_size_same x y zeroth same.size) in
        at k inside
        ∙ elim (cases_eq k n) [
          | inl is ↦
              ap (λ (m : ℕ). block (home_place (segment_count x) m) y) is
              ∙ block-overwritten (home_place (segment_count x) n) image x whole fits
              ∙ sym (get_or-set_same (home x) n image [] (omega (arith, below, length-home x)))
              ∙ ap (λ (m : ℕ). get_or (set (home x) n image) m []) (sym is)
          | inr other ↦
              same.same (home_place (segment_count x) k) (λ e. other (omega (arith, e))) ∙ sym (get_or-home x k inside)
              ∙ sym (get_or-set_other (home x) n k image [] other)
        ]

-- one more image
pub laid_next : (ns : List ℕ) (images xs : List (List ℕ)) (i : ℕ) → i < length ns → i < length images
    → laid_over xs (take (suc i) ns) (take (suc i) images) ≡ set (laid_over xs (take i ns) (take i images)) (get_or ns i 0)
    (get_or images i [])
laid_next [] images xs i within also = absurd (omega (arith, within))
laid_next (n ∷ ns) [] xs i within also = absurd (omega (arith, also))
laid_next (n ∷ ns) (image ∷ images) xs zero within also = refl
laid_next (n ∷ ns) (image ∷ images) xs (suc i) within also =
    laid_next ns images (set xs n image) i (omega (arith, within)) (omega (arith, also))

-- after the write of the image that comes next
pub one_home : (first : List (List ℕ)) (done : List HeldBatch) (next : Batch) (i : ℕ) (x : List ℕ) → i < length next.numbers
    → i < length next.images → length (get_or next.images i []) ≡ 4096 → get_or next.numbers i 0 < home_size x
    → 4096 * home_place (segment_count x) (home_size x) ≤ length x
    → IsHomeOnTheWay first done next i x
    → IsHomeOnTheWay first done next (i + 1)
    (overwritten (4096 * home_place (segment_count x) (get_or next.numbers i 0)) (get_or next.images i []) x)
one_home first done next i x within also whole below room is =
    home_written x (get_or next.numbers i 0) (get_or next.images i []) whole below room
    ∙ ap (λ (h : List (List ℕ)). set h (get_or next.numbers i 0) (get_or next.images i [])) is
    ∙ sym (laid_next next.numbers next.images (all_laid_over first (batches_of done)) i within also)
    ∙ ap (λ (k : ℕ). laid_over (all_laid_over first (batches_of done)) (take k next.numbers) (take k next.images)) (let e : suc i ≡ i + 1 =
    omega arith in e)

-- before the first image of a batch, and after its last
pub none_home : (first : List (List ℕ)) (done : List HeldBatch) (next : Batch) (x : List ℕ) → home x ≡ all_laid_over first (batches_of done)
    → IsHomeOnTheWay first done next 0 x
none_home first done next x is = is

pub all_home : (first : List (List ℕ)) (done : List HeldBatch) (h : HeldBatch) (x : List ℕ) → length h.batch.images ≡ length h.batch.numbers
    → IsHomeOnTheWay first done h.batch (length h.batch.numbers) x → home x ≡ all_laid_over first (batches_of (done ++ h ∷ []))
all_home first done h x size is =
    is
    ∙ ap (λ (ns : List ℕ). laid_over (all_laid_over first (batches_of done)) ns (take (length h.batch.numbers) h.batch.images))
    (take_all (length h.batch.numbers) h.batch.numbers (omega arith))
    ∙ ap (λ (is : List (List ℕ)). laid_over (all_laid_over first (batches_of done)) h.batch.numbers is)
    (take_all (length h.batch.numbers) h.batch.images (omega (arith, size)))
    ∙ sym (all_append (batches_of done) (h.batch ∷ []) first)
    ∙ ap (all_laid_over first) (sym (map-append (λ h. h.batch) done (h ∷ [])))
