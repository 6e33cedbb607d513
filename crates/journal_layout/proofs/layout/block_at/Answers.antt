use Rattle.std.proofs.Common.{◌≡◌, ◌+◌, ◌-◌, ◌*◌, ℕ, take, drop, ap, arith}
use Rattle.journal_layout.proofs.layout.block_at.Goals as goal

pub returns : goal.returns
returns c =
    let whole : 4096 * c.args.i + 4096 - 4096 * c.args.i ≡ 4096 = omega arith in
    ap (λ (n : ℕ). take n (drop (4096 * c.args.i) c.args.octets.now)) whole
