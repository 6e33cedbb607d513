use Rattle.std.proofs.Common.{◌≡◌, ℕ, ◌+◌, ◌*◌, ◌/◌, get_or, sym, ◌∙◌, ap, arith}
use Rattle.disk_cache.specs.Slots.{other_of}
use Rattle.disk_cache.specs.declared.collected.Fill.TheVariants.{Nothing}
use Rattle.disk_cache.proofs.Moving.{swapped_items}
use Rattle.disk_cache.proofs.Slots.{collected_same}
use Rattle.disk_cache.proofs.collected.swap_flags.Goals as goal

pub returns-in_default-clause-swapped : goal.returns-in_default-clause-swapped
returns-in_default-clause-swapped c s i low =
    let to : (4096 * other_of c.args.low c.args.high s + i) / 4096 ≡ other_of c.args.low c.args.high s = omega (arith, low) in
    let from : (4096 * s + i) / 4096 ≡ s = omega (arith, low) in
    collected_same c.args.fills.now.items c.args.flags.now.items c.swap.new.self.items c.swap_blocks.new.octets.items
    (4096 * other_of c.args.low c.args.high s + i) (4096 * s + i)
    (ap (λ (t : ℕ). get_or c.swap.new.self.items t Nothing) to
    ∙ swapped_items c.args.low c.args.high c.args.fills.now.items c.swap.new.self.items c.swap.ensures.by_index s Nothing
    ∙ sym (ap (λ (t : ℕ). get_or c.args.fills.now.items t Nothing) from))
    (c.swap_blocks.ensures.swapped s i low)
