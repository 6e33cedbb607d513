use Rattle.std.proofs.Common.{◌≡◌, ℕ, List, length, ◌∙◌, ap, arith}
use Rattle.std.proofs.lemmas.List.{with_items_is}
use Rattle.journal_volume.specs.Volume.{before}
use Rattle.journal_volume.proofs.Written.{exchanged_is}
use Rattle.journal_volume.proofs.volume.Volume.exchange.Goals as goal

pub invariant_of-self : goal.invariant_of-self
invariant_of-self c =
    let inside = c.self.inside in
    let size : length c.exchange_parts.new.octets ≡ inside.octets.len =
    omega (arith, c.exchange_parts.auto.octets, c.deref_mut.ensures.len) in
    let is : c.exchange_parts.new.blocks
    ≡ record { blocks = before inside.blocks.blocks inside.kept.members inside.octets.items; made = inside.blocks.made } =
    c.exchange_parts.ensures.blocks
    ∙ ap (λ (l : List ℕ). record { blocks = before inside.blocks.blocks l c.deref_mut.result.now; made = inside.blocks.made })
    c.as_slice.ensures.members
    ∙ ap (λ (l : List ℕ). record { blocks = before inside.blocks.blocks inside.kept.members l; made = inside.blocks.made })
    c.deref_mut.ensures.value in
    exchanged_is inside.blocks inside.octets.items inside.kept inside.dirty c.self.invariant c.exchange_parts.new.blocks
    _ is (ap length (with_items_is inside.octets c.exchange_parts.new.octets size)
    ∙ omega (arith, c.exchange_parts.auto.octets, ap length c.deref_mut.ensures.value))
