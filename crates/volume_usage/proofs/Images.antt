-- The images of a batch.
use Rattle.std.proofs.Common.{◌≡◌, ℕ, ◌+◌, ◌-◌, ◌*◌, List, Option, Some, ap, arith, drop, option_map, sym, take, ◌∙◌}
use Rattle.std.specs.Prelude.{◌==◌, position}
use Rattle.model.specs.Volume.{block}
use Rattle.journal_volume.specs.Volume.{BatchView}
use Rattle.volume_usage.specs.Marks.{image_of}

-- the image of the block whose number stands at this place
pub some_image : (batch : BatchView) (number at : ℕ) (place : Option ℕ) (images numbers : List ℕ)
    → images ≡ batch.images → numbers ≡ batch.numbers → place ≡ position (λ n. n == number) numbers → place ≡ Some at
    → Some (take (4096 * at + 4096 - 4096 * at) (drop (4096 * at) images)) ≡ image_of batch number
some_image batch number at place images numbers same_images same_numbers is some =
    let size : 4096 * at + 4096 - 4096 * at ≡ 4096 = omega arith in
    ap (λ (n : ℕ). Some (take n (drop (4096 * at) images))) size
    ∙ (ap (λ (octets : List ℕ). Some (block at octets)) same_images
    ∙ (ap (λ (p : Option ℕ). option_map (λ k. block k batch.images) p) (sym some ∙ is)
    ∙ ap (λ (ns : List ℕ). option_map (λ k. block k batch.images) (position (λ n. n == number) ns)) same_numbers))
