use Rattle.std.proofs.Common.{◌≡◌, ◌<◌, ℕ, ◌+◌, ◌*◌, List, [], ◌∷◌, ◌++◌, length, get_or, take, sym, ◌∙◌, ap, arith}
use Rattle.std.specs.List.{flat_map}
use Rattle.std.proofs.lemmas.List.{take_more, append-nil}
use Rattle.std.proofs.lemmas.Grind.{flat_map-append}
use Rattle.fs_blocks.proofs.Octets.{take-put}
use Rattle.journal_volume.proofs.batch_room.gather.Goals as goal

pub loop-place-preserved : goal.loop-place-preserved
loop-place-preserved c =
    let at = c.loop-place.place in
    let numbers = c.args.numbers.now in
    let cache = c.args.cache.now.blocks in
    let images = c.loop-place.images in
    let within : at < length numbers = omega arith in
    let more : flat_map (λ n. get_or cache n []) (take (at + 1) numbers) ≡ flat_map (λ n. get_or cache n []) (take at numbers)
    ++ get_or cache (get_or numbers at 0) [] =
    ap (λ (l : List ℕ). flat_map (λ n. get_or cache n []) l) (take_more numbers at 0 within)
    ∙ flat_map-append (λ n. get_or cache n []) (take at numbers) (get_or numbers at 0 ∷ [])
    ∙ ap (λ (l : List ℕ). flat_map (λ n. get_or cache n []) (take at numbers) ++ l)
    (append-nil (get_or cache (get_or numbers at 0) [])) in (
      omega arith,
      ap (λ (l : List ℕ). take (4096 * (at + 1)) l) c.put_block.ensures
          ∙ take-put at c.block.result.now images c.block.ensures.whole (omega (arith, c.requires.room))
          ∙ ap (λ (l : List ℕ). l ++ c.block.result.now) c.loop-place.invariant.1
          ∙ ap (λ (l : List ℕ). flat_map (λ n. get_or cache n []) (take at numbers) ++ l) c.block.ensures.octets
          ∙ sym more,
    )
