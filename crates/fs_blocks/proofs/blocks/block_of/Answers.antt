use Rattle.std.proofs.Common.{◌≡◌, ℕ, ◌+◌, ◌-◌, ◌*◌, take, drop, ◌∙◌, ap, arith}
use Rattle.fs_blocks.proofs.blocks.block_of.Goals as goal

pub returns-clause-octets : goal.returns-clause-octets
returns-clause-octets c =
    let octets = c.args.octets.now in
    let size : c.args.number * 4096 + 4096 - c.args.number * 4096 ≡ 4096 = omega arith in
    let start : c.args.number * 4096 ≡ 4096 * c.args.number = omega arith in
    ap (λ (n : ℕ). take n (drop (c.args.number * 4096) octets)) size ∙ ap (λ (n : ℕ). take 4096 (drop n octets)) start
