-- A logical block, image after image and batch after batch.
use Rattle.std.proofs.Common.{◌≡◌, ◌≢◌, ◌<◌, ℕ, suc, ◌+◌, List, [], ◌∷◌, length, get_or, map, set, take, sym, ◌∙◌, ap, arith}
use Rattle.std.proofs.lemmas.List.{get_or-set_other, get_or-set_same, map-append, map_more, take_all}
use Rattle.model.specs.Volume.{Batch, all_laid_over, laid_over}
use Rattle.journal_laws.specs.Held.{HeldBatch, batches_of}
use Rattle.journal_laws.proofs.Carrying.{laid_next}
use Rattle.journal_laws.proofs.Laying.{all_append, length-all}
use Rattle.journal_segments.specs.Staged.{Staged, held_as, none_staged, staged_at}

-- one more image, of this block or of another
module _ (numbers : List ℕ) (images blocks : List (List ℕ)) (i k : ℕ) (within : i < length numbers)
    (full : length images ≡ length numbers) where
  laid_here : get_or numbers i 0 ≡ k → k < length blocks
      → get_or (laid_over blocks (take (i + 1) numbers) (take (i + 1) images)) k [] ≡ get_or images i []
  laid_here is below =
      let before = laid_over blocks (take i numbers) (take i images) in
      let b : Batch = record { number = 0; last = 0; numbers = take i numbers; images = take i images } in
      let inside : get_or numbers i 0 < length (laid_over blocks (take i numbers) (take i images)) =
      omega (arith, is, below, length-all (b ∷ []) blocks) in
      ap (λ (m : ℕ). get_or (laid_over blocks (take m numbers) (take m images)) k []) (let e : i + 1 ≡ suc i = omega arith in e)
      ∙ ap (λ (l : List (List ℕ)). get_or l k []) (laid_next numbers images blocks i within (omega (arith, within, full)))
      ∙ ap (λ (m : ℕ). get_or (set before (get_or numbers i 0) (get_or images i [])) m []) (sym is)
      ∙ get_or-set_same before (get_or numbers i 0) (get_or images i []) [] inside

  laid_there : get_or numbers i 0 ≢ k
      → get_or (laid_over blocks (take (i + 1) numbers) (take (i + 1) images)) k []
      ≡ get_or (laid_over blocks (take i numbers) (take i images)) k []
  laid_there other =
      ap (λ (m : ℕ). get_or (laid_over blocks (take m numbers) (take m images)) k []) (let e : i + 1 ≡ suc i = omega arith in e)
      ∙ ap (λ (l : List (List ℕ)). get_or l k []) (laid_next numbers images blocks i within (omega (arith, within, full)))
      ∙ get_or-set_other (laid_over blocks (take i numbers) (take i images)) (get_or numbers i 0) k (get_or images i []) []
      (λ e. other (sym e))

  pub image_put : (before after : List ℕ) → k < length blocks → get_or (laid_over blocks (take i numbers) (take i images)) k [] ≡ before
      → get_or numbers i 0 ≡ k → after ≡ get_or images i []
      → get_or (laid_over blocks (take (i + 1) numbers) (take (i + 1) images)) k [] ≡ after
  image_put before after below so_far is put = laid_here is below ∙ sym put

  pub image_passed : (before : List ℕ) → get_or (laid_over blocks (take i numbers) (take i images)) k [] ≡ before → get_or numbers i 0 ≢ k
      → get_or (laid_over blocks (take (i + 1) numbers) (take (i + 1) images)) k [] ≡ before
  image_passed before so_far other = laid_there other ∙ so_far

-- all images
pub images_put : (numbers : List ℕ) (images blocks : List (List ℕ)) (i : ℕ) → length numbers ≡ i → length images ≡ length numbers
    → laid_over blocks (take i numbers) (take i images) ≡ laid_over blocks numbers images
images_put numbers images blocks i is full =
    ap (λ (l : List ℕ). laid_over blocks l (take i images)) (take_all i numbers (omega (arith, is)))
    ∙ ap (λ (l : List (List ℕ)). laid_over blocks numbers l) (take_all i images (omega (arith, is, full)))

-- one more batch
pub batch_put : (room : List Staged) (j : ℕ) → j < length room → (blocks : List (List ℕ))
    → all_laid_over blocks (batches_of (map held_as (take (j + 1) room)))
    ≡ laid_over (all_laid_over blocks (batches_of (map held_as (take j room)))) (staged_at room j).numbers (staged_at room j).images
batch_put room j there blocks =
    let front = map held_as (take j room) in
    let h = held_as (staged_at room j) in
    ap (λ (hs : List HeldBatch). all_laid_over blocks (batches_of hs)) (map_more held_as room j none_staged there)
    ∙ ap (all_laid_over blocks) (map-append (λ (h : HeldBatch). h.batch) front (h ∷ []))
    ∙ all_append (batches_of front) (h.batch ∷ []) blocks

pub block_put : (room : List Staged) (j k : ℕ) → j < length room → (blocks : List (List ℕ)) → k < length blocks → (before after : List ℕ)
    → ((bs : List (List ℕ)) → k < length bs → get_or bs k [] ≡ before
    → get_or (laid_over bs (staged_at room j).numbers (staged_at room j).images) k [] ≡ after)
    → get_or (all_laid_over blocks (batches_of (map held_as (take j room)))) k [] ≡ before
    → get_or (all_laid_over blocks (batches_of (map held_as (take (j + 1) room)))) k [] ≡ after
block_put room j k there blocks below before after put so_far =
    ap (λ (bs : List (List ℕ)). get_or bs k []) (batch_put room j there blocks)
    ∙ put (all_laid_over blocks (batches_of (map held_as (take j room))))
    (omega (arith, below, length-all (batches_of (map held_as (take j room))) blocks)) so_far
