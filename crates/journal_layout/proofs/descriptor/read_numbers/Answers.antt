use Rattle.std.proofs.Common.{◌≡◌, ℕ, ◌+◌, ◌*◌, length, take, map, sym, ◌∙◌, ap, arith, length-take}
use Rattle.std.specs.List.{range_with_len}
use Rattle.std.proofs.lemmas.List.{get_or-take}
use Rattle.std.proofs.lemmas.List.FromFn.{fill_by_all}
use Rattle.model.specs.Volume.{number_at}
use Rattle.journal_layout.proofs.descriptor.read_numbers.Goals as goal

pub returns-clause-numbers : goal.returns-clause-numbers
returns-clause-numbers c =
    let size : length (take c.args.count c.loop-i.numbers.items) ≡ c.args.count =
    omega (arith, length-take c.args.count c.loop-i.numbers.items, c.loop-i.invariant.size, c.requires.few) in
    fill_by_all (λ i. number_at (24 + 4 * i) 4 c.args.descriptor.now) (take c.args.count c.loop-i.numbers.items) c.args.count 0 size
    (λ k within. get_or-take c.args.count c.loop-i.numbers.items k 0 within
    ∙ c.loop-i.invariant.each k (omega (arith, c.loop-i-test.false)))
    ∙ ap (λ (n : ℕ). map (λ i. number_at (24 + 4 * i) 4 c.args.descriptor.now) (range_with_len 0 n)) (sym c.requires.count)
