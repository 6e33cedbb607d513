use Rattle.std.proofs.Common.{◌+◌, ◌*◌, ℕ, List, ◌++◌, get_or, take, drop, ◌∙◌, ap, arith, length-append}
use Rattle.std.proofs.lemmas.List.{take_at}
use Rattle.disk_cache.proofs.Moving.{swapped_blocks}
use Rattle.disk_cache.proofs.collected.swap_blocks.Goals as goal

pub returns-clause-swapped : goal.returns-clause-swapped
returns-clause-swapped c s i low =
    let front = c.swap_front.new.octets in
    let back = c.swap_front.new.others in
    let n = length-append front back in
    swapped_blocks c.args.octets.now.items front back _ c.args.low c.args.high c.requires.order
    (take_at (front ++ back) _ _ (omega (
      arith,
      n,
      c.swap_front.ensures.size,
      c.swap_front.ensures.others_size,
      c.split_at_mut-front.ensures.front_len,
      c.split_at_mut-front.ensures.back_len,
      c.deref_mut.ensures.len,
    )))
    (c.swap_front.ensures.size ∙ c.split_at_mut-front.ensures.front_len)
    (λ j within. c.swap_front.ensures.block j within
    ∙ ap (λ (l : List ℕ). get_or l j 0) (c.split_at_mut-front.ensures.back
    ∙ ap (λ (l : List ℕ). drop (4096 * c.args.high) l) c.deref_mut.ensures.value))
    (λ p out. c.swap_front.ensures.beside p out
    ∙ ap (λ (l : List ℕ). get_or l p 0) (c.split_at_mut-front.ensures.front
    ∙ ap (λ (l : List ℕ). take (4096 * c.args.high) l) c.deref_mut.ensures.value))
    (λ j within. c.swap_front.ensures.first j within
    ∙ ap (λ (l : List ℕ). get_or l (4096 * c.args.low + j) 0) (c.split_at_mut-front.ensures.front
    ∙ ap (λ (l : List ℕ). take (4096 * c.args.high) l) c.deref_mut.ensures.value))
    (λ p behind. c.swap_front.ensures.behind p behind
    ∙ ap (λ (l : List ℕ). get_or l p 0) (c.split_at_mut-front.ensures.back
    ∙ ap (λ (l : List ℕ). drop (4096 * c.args.high) l) c.deref_mut.ensures.value))
    s i low
