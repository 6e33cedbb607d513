use Rattle.std.proofs.Common.{ℕ, List, sym, subst}
use Rattle.fs_inodes.specs.Growing.{TakesZeros}
use Rattle.fs_inodes.proofs.Taking.{takes_zeros}
use Rattle.fs_inodes.proofs.growing.take_zeros.Goals as goal

pub returns-clause-done : goal.returns-clause-done
returns-clause-done g c =
    let old = g.B.Blocks.blocks c.args.blocks.now in
    let number = c.in_ok-number.number in
    subst (λ (bs : List (List ℕ)). TakesZeros number old bs) (sym c.in_ok-put.ensures.put)
    (takes_zeros number old (g.B.Blocks.blocks c.take_block.new.blocks) c.requires.count_few c.in_ok-number.ensures.taken
    c.requires.reserved)
