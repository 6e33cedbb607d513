use Rattle.std.proofs.Common.{◌≡◌, ◌⊎◌, ℕ, sym, subst, arith, rules}
use Rattle.model.specs.Volume.{number_at}
use Rattle.journal_layout.proofs.superblock.read_superblock.Goals as goal

pub returns-then-has_zeros-clause-some : goal.returns-then-has_zeros-clause-some
returns-then-has_zeros-clause-some c =
    let blocks : number_at 12 4 c.args.octets.now ≡ c.from-blocks.result = search rules in
    let segments : number_at 16 4 c.args.octets.now ≡ c.number32-segments.result = search rules in (
      record {
        begins = search rules;
        version_is = search rules;
        low = search rules;
        high = search rules;
        segments = subst (λ (n : ℕ). (n ≡ 1) ⊎ (n ≡ 8)) (sym segments) (c.may_be_many.ensures.count.0 c.if-may_be_many.true);
        zeros = c.has_zeros.ensures.0 c.if-has_zeros.true;
        exactly = omega (arith, blocks, segments, c.if-size-start_of.true, c.start_of.ensures, c.home_block.ensures);
      },
      blocks,
      segments,
    )

pub returns-else-has_magic-clause-none : goal.returns-else-has_magic-clause-none
returns-else-has_magic-clause-none c = search rules
