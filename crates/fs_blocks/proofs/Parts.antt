-- Parts of blocks that are written.
use Rattle.std.proofs.Common.{◌≡◌, inl, inr, ◌<◌, ◌≤◌, ℕ, ◌+◌, ◌-◌, ◌*◌, List, ◌++◌, length, get_or, take, drop, sym, ◌∙◌, ap, arith}
use Rattle.std.proofs.Common.{append_assoc}
use Rattle.std.proofs.Math.Seq.{drop-append-add, take-append-add}
use Rattle.std.proofs.lemmas.List.{ext_get_or}
use Rattle.std.proofs.lemmas.Bool.{cases_lt}
use Rattle.disk.specs.Image.{overwritten}
use Rattle.disk.proofs.Images.{get_or-part, length-overwritten, overwritten_above, overwritten_below, overwritten_inside}
use Rattle.model.specs.Volume.{block}
use Rattle.fs_blocks.proofs.Octets.{length-block}

-- a write past the front leaves the front
pub overwritten-append : (front back octets : List ℕ) (at : ℕ)
    → overwritten (length front + at) octets (front ++ back) ≡ front ++ overwritten at octets back
overwritten-append front back octets at =
    let place : length front + at + length octets ≡ length front + (at + length octets) = omega arith in
    ap (λ (l : List ℕ). l ++ (octets ++ drop (length front + at + length octets) (front ++ back))) (take-append-add front back at)
    ∙ ap (λ (n : ℕ). (front ++ take at back) ++ (octets ++ drop n (front ++ back))) place
    ∙ ap (λ (l : List ℕ). (front ++ take at back) ++ (octets ++ l)) (drop-append-add front back (at + length octets))
    ∙ append_assoc front (take at back) (octets ++ drop (at + length octets) back)

-- a write in a block is a write of the whole block
module _ (j at : ℕ) (octets image : List ℕ) (fits : 4096 * j + 4096 ≤ length image) (within : at + length octets ≤ 4096) where
  size : length (block j image) ≡ 4096
  size = length-block j image fits

  fits_block : at + length octets ≤ length (block j image)
  fits_block = omega (arith, size)

  pub length-written : length (overwritten at octets (block j image)) ≡ 4096
  length-written = length-overwritten at octets (block j image) fits_block ∙ size

  fits_image : 4096 * j + at + length octets ≤ length image
  fits_image = omega arith

  whole_fits : 4096 * j + length (overwritten at octets (block j image)) ≤ length image
  whole_fits = omega (arith, length-written)

  was : (k : ℕ) → 4096 * j ≤ k → k < 4096 * j + 4096 → get_or (block j image) (k - 4096 * j) 0 ≡ get_or image k 0
  was k from to =
      let place : 4096 * j + (k - 4096 * j) ≡ k = omega arith in
      get_or-part (4096 * j) 4096 image (k - 4096 * j) 0 (omega arith) ∙ ap (λ (n : ℕ). get_or image n 0) place

  in_block : (k : ℕ) → 4096 * j ≤ k → k < 4096 * j + 4096
      → get_or (overwritten (4096 * j + at) octets image) k 0 ≡ get_or (overwritten at octets (block j image)) (k - 4096 * j) 0
  in_block k from to = elim (cases_lt k (4096 * j + at)) [
    | inl before ↦
        overwritten_below (4096 * j + at) octets image fits_image k 0 before
        ∙ sym (overwritten_below at octets (block j image) fits_block (k - 4096 * j) 0 (omega arith) ∙ was k from to)
    | inr after ↦ elim (cases_lt k (4096 * j + at + length octets)) [
      | inl here ↦
          let place : k - (4096 * j + at) ≡ k - 4096 * j - at = omega arith in
          overwritten_inside (4096 * j + at) octets image fits_image k 0 after here
          ∙ ap (λ (n : ℕ). get_or octets n 0) place
          ∙ sym (overwritten_inside at octets (block j image) fits_block (k - 4096 * j) 0 (omega arith) (omega arith))
      | inr behind ↦
          overwritten_above (4096 * j + at) octets image fits_image k 0 behind
          ∙ sym (overwritten_above at octets (block j image) fits_block (k - 4096 * j) 0 (omega arith) ∙ was k from to)
    ]
  ]

  pub overwritten-in_block
      : overwritten (4096 * j + at) octets image ≡ overwritten (4096 * j) (overwritten at octets (block j image)) image
  overwritten-in_block =
      ext_get_or 0 (overwritten (4096 * j + at) octets image) (overwritten (4096 * j) (overwritten at octets (block j image)) image)
      (length-overwritten (4096 * j + at) octets image fits_image
      ∙ sym (length-overwritten (4096 * j) (overwritten at octets (block j image)) image whole_fits))
      (λ k low. elim (cases_lt k (4096 * j)) [
        | inl before ↦
            overwritten_below (4096 * j + at) octets image fits_image k 0 (omega arith)
            ∙ sym (overwritten_below (4096 * j) (overwritten at octets (block j image)) image whole_fits k 0 before)
        | inr from ↦ elim (cases_lt k (4096 * j + 4096)) [
          | inl to ↦
              in_block k from to
              ∙ sym (overwritten_inside (4096 * j) (overwritten at octets (block j image)) image whole_fits k 0 from
              (omega (arith, length-written)))
          | inr behind ↦
              overwritten_above (4096 * j + at) octets image fits_image k 0 (omega arith)
              ∙ sym (overwritten_above (4096 * j) (overwritten at octets (block j image)) image whole_fits k 0
              (omega (arith, length-written)))
        ]
      ])
