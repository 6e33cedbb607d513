-- What is in memory stands in the segments.
use Rattle.std.proofs.Common.{◌≡◌, inl, inr, ◌<◌, ℕ, zero, suc, ◌+◌, List, [], ◌∷◌, length, get_or, refl, sym, ◌∙◌, ap, subst, arith}
use Rattle.std.proofs.lemmas.List.{ext_get_or}
use Rattle.model.specs.Volume.{Batch, StandsFor, batch_in, block, blocks_from, descriptor_place, home_place, image_place, listed, number_at}
use Rattle.model.specs.Volume.{segment_count}
use Rattle.journal_laws.specs.Held.{AreHeld, AreOpen, HeldBatch, IsHomeOfHeld, IsWrittenIn, batch_of}
use Rattle.journal_laws.specs.Images.{IsHomeOfOpen, SameBut}
use Rattle.journal_laws.proofs.Blocks.{get_or-blocks_from, length-blocks_from, same_but_more}
use Rattle.journal_laws.proofs.Standing.{torn, torn_open}

-- homes of the segments in memory are those of open ones
homes_of_open : (held : List HeldBatch) (x : List ℕ) → AreHeld held x → (k : ℕ) → IsHomeOfHeld (segment_count x) held k → IsHomeOfOpen x k
homes_of_open [] x each k here = absurd here
homes_of_open (h ∷ held) x each k (inl here) = (
  h.place,
  each.0.0,
  subst (λ (b : Batch). (i : ℕ) × (i < length b.numbers) × (k ≡ home_place (segment_count x) (get_or b.numbers i 0)))
      (sym each.0.1) here,
)
homes_of_open (h ∷ held) x each k (inr rest) = homes_of_open held x each.1 k rest

pub torn_held : (x c label : List ℕ) (blocks : List (List ℕ)) (held : List HeldBatch) → StandsFor x label blocks → AreOpen held x
    → SameBut (IsHomeOfHeld (segment_count x) held) x c → StandsFor c label blocks
torn_held x c label blocks held stands are same =
    torn x c label blocks stands (same_but_more (IsHomeOfHeld (segment_count x) held) (IsHomeOfOpen x) x c
    (homes_of_open held x are.each) same)

pub torn_held_open : (x c label : List ℕ) (blocks : List (List ℕ)) (held : List HeldBatch) → StandsFor x label blocks → AreOpen held x
    → SameBut (IsHomeOfHeld (segment_count x) held) x c → AreOpen held c
torn_held_open x c label blocks held stands are same =
    torn_open x c label blocks stands
    (same_but_more (IsHomeOfHeld (segment_count x) held) (IsHomeOfOpen x) x c (homes_of_open held x are.each) same) held are

-- the home of an image of one of them
pub home_of_held : (segments : ℕ) (held : List HeldBatch) (j i : ℕ) (d : HeldBatch) → j < length held
    → i < length (get_or held j d).batch.numbers
    → IsHomeOfHeld segments held (home_place segments (get_or (get_or held j d).batch.numbers i 0))
home_of_held segments [] j i d there within = absurd (omega (arith, there))
home_of_held segments (h ∷ held) zero i d there within = inl (i, within, refl)
home_of_held segments (h ∷ held) (suc j) i d there within = inr (home_of_held segments held j i d (omega (arith, there)) within)

-- the batch that was written
pub batch_written : (s : ℕ) (descriptor : List ℕ) (images : List (List ℕ)) (x : List ℕ) → IsWrittenIn s descriptor images x
    → number_at 16 4 descriptor ≡ length images → batch_in s x ≡ batch_of descriptor images
batch_written s descriptor images x written count =
    let d = written.descriptor_is in
    let place : (i : ℕ) → image_place s 0 + i ≡ image_place s i = λ i. omega arith in
    let read : blocks_from (image_place s 0) (length images) x ≡ images =
    ext_get_or [] (blocks_from (image_place s 0) (length images) x) images (length-blocks_from (image_place s 0) (length images) x)
    (λ i within.
    let inside : i < length images = omega (arith, within, length-blocks_from (image_place s 0) (length images) x) in
    get_or-blocks_from (image_place s 0) (length images) i x inside ∙ ap (λ (n : ℕ). block n x) (place i) ∙ written.images_are i inside) in
    let all : blocks_from (image_place s 0) (number_at 16 4 (block (descriptor_place s) x)) x ≡ images =
    ap (λ (n : ℕ). blocks_from (image_place s 0) n x) (ap (number_at 16 4) d ∙ count) ∙ read in
    λ j. record { number = number_at 0 8 (d j); last = number_at 8 8 (d j); numbers = listed (d j); images = all j }
