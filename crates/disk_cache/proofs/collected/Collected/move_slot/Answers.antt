use Rattle.std.proofs.Common.{◌≡◌, inl, inr, ℕ, Option, Some, refl, sym, ◌∙◌, ap, subst, arith}
use Rattle.std.specs.BTreeMap.{get}
use Rattle.std.specs.Option.{IsSome}
use Rattle.std.specs.Ordering.{nat_cmp}
use Rattle.std.proofs.lemmas.Bool.{cases_eq}
use Rattle.disk_cache.proofs.Moving.{moved_same, moved_sound, replaced, swapped_items}
use Rattle.disk_cache.proofs.collected.Collected.move_slot.Goals as goal

is_some : (o : Option ℕ) (s : ℕ) → o ≡ Some s → IsSome o
is_some o s is = subst (λ (p : Option ℕ). IsSome p) (sym is) refl

pub owner-other-requires : goal.owner-other-requires
owner-other-requires c =
    let within = c.args.self.now.sound.within c.args.block c.args.from c.requires.there in
    omega (arith, c.requires.order, within)

pub replace-requires : goal.replace-requires
replace-requires c =
    let within = c.args.self.now.sound.within c.args.block c.args.from c.requires.there in
    is_some (get nat_cmp c.args.self.now.slots c.owner-other.result) c.args.to
    (ap (λ (b : ℕ). get nat_cmp c.args.self.now.slots b) c.owner-other.ensures
    ∙ c.args.self.now.sound.owned c.args.to (omega (arith, c.requires.order, within)))

pub replace-requires-2 : goal.replace-requires-2
replace-requires-2 c = elim (cases_eq c.args.block c.owner-other.result) [
  | inl same ↦ is_some (get nat_cmp c.replace.new.slots c.args.block) c.args.from
      (ap (λ (b : ℕ). get nat_cmp c.replace.new.slots b) same ∙ c.replace.ensures.there)
  | inr away ↦ is_some (get nat_cmp c.replace.new.slots c.args.block) c.args.from
      (c.replace.ensures.others c.args.block away ∙ c.requires.there)
]

pub invariant_of-self : goal.invariant_of-self
invariant_of-self c =
    let within = c.args.self.now.sound.within c.args.block c.args.from c.requires.there in
    record {
      sound = moved_sound c.args.to c.args.from (get nat_cmp c.args.self.now.slots) c.args.self.now.owners.items
          c.args.self.now.fills.items c.args.self.now.flags.items c.args.self.now.octets.items (get nat_cmp c.replace-2.new.slots)
          c.swap.new.self.items c.swap_flags.new.fills.items c.swap_flags.new.flags.items c.swap_blocks.new.octets.items
          c.args.self.now.sound
          (record {
            low_there = omega (arith, c.requires.order, within);
            high_there = within;
            moved = replaced c.args.to c.args.from (get nat_cmp c.args.self.now.slots) (get nat_cmp c.replace.new.slots)
                (get nat_cmp c.replace-2.new.slots) c.args.self.now.owners.items c.args.self.now.fills.items c.args.self.now.flags.items
                c.args.self.now.octets.items c.args.block c.args.self.now.sound c.requires.there (omega (arith, c.requires.order, within))
                (ap (λ (b : ℕ). get nat_cmp c.replace.new.slots b) (sym c.owner-other.ensures) ∙ c.replace.ensures.there)
                (λ b away. c.replace.ensures.others b (λ is. away (is ∙ c.owner-other.ensures)))
                c.replace-2.ensures.there c.replace-2.ensures.others;
            blocks_is = λ s.
                swapped_items c.args.to c.args.from c.args.self.now.owners.items c.swap.new.self.items c.swap.ensures.by_index s 0;
            blocks_size = omega (arith, c.swap.ensures.len, c.swap.new.self.ok.0, c.args.self.now.owners.ok.0);
            collected = c.swap_flags.ensures.swapped;
            fills_size = c.swap_flags.ensures.fills;
            flags_size = c.swap_flags.ensures.flags;
            octets_are = c.swap_blocks.ensures.swapped;
            octets_size = c.swap_blocks.ensures.size;
          });
    }

pub returns-clause-moved : goal.returns-clause-moved
returns-clause-moved c b =
    let within = c.args.self.now.sound.within c.args.block c.args.from c.requires.there in
    replaced c.args.to c.args.from (get nat_cmp c.args.self.now.slots) (get nat_cmp c.replace.new.slots)
    (get nat_cmp c.replace-2.new.slots) c.args.self.now.owners.items c.args.self.now.fills.items c.args.self.now.flags.items
    c.args.self.now.octets.items c.args.block c.args.self.now.sound c.requires.there (omega (arith, c.requires.order, within))
    (ap (λ (d : ℕ). get nat_cmp c.replace.new.slots d) (sym c.owner-other.ensures) ∙ c.replace.ensures.there)
    (λ d away. c.replace.ensures.others d (λ is. away (is ∙ c.owner-other.ensures)))
    c.replace-2.ensures.there c.replace-2.ensures.others b

pub returns-clause-same : goal.returns-clause-same
returns-clause-same c k =
    let within = c.args.self.now.sound.within c.args.block c.args.from c.requires.there in
    moved_same c.args.to c.args.from (get nat_cmp c.args.self.now.slots) c.args.self.now.owners.items
    c.args.self.now.fills.items c.args.self.now.flags.items c.args.self.now.octets.items (get nat_cmp c.replace-2.new.slots)
    c.swap.new.self.items c.swap_flags.new.fills.items c.swap_flags.new.flags.items c.swap_blocks.new.octets.items
    c.args.self.now.sound
    (record {
      low_there = omega (arith, c.requires.order, within);
      high_there = within;
      moved = replaced c.args.to c.args.from (get nat_cmp c.args.self.now.slots) (get nat_cmp c.replace.new.slots)
          (get nat_cmp c.replace-2.new.slots) c.args.self.now.owners.items c.args.self.now.fills.items c.args.self.now.flags.items
          c.args.self.now.octets.items c.args.block c.args.self.now.sound c.requires.there (omega (arith, c.requires.order, within))
          (ap (λ (b : ℕ). get nat_cmp c.replace.new.slots b) (sym c.owner-other.ensures) ∙ c.replace.ensures.there)
          (λ b away. c.replace.ensures.others b (λ is. away (is ∙ c.owner-other.ensures)))
          c.replace-2.ensures.there c.replace-2.ensures.others;
      blocks_is = λ s. swapped_items c.args.to c.args.from c.args.self.now.owners.items c.swap.new.self.items c.swap.ensures.by_index s 0;
      blocks_size = omega (arith, c.swap.ensures.len, c.swap.new.self.ok.0, c.args.self.now.owners.ok.0);
      collected = c.swap_flags.ensures.swapped;
      fills_size = c.swap_flags.ensures.fills;
      flags_size = c.swap_flags.ensures.flags;
      octets_are = c.swap_blocks.ensures.swapped;
      octets_size = c.swap_blocks.ensures.size;
    }) k
