use Rattle.std.proofs.Common.{ℕ, ◌*◌, List, length, take, ◌∙◌, ap, arith}
use Rattle.std.specs.Vec.{with_items}
use Rattle.std.proofs.lemmas.List.{with_items_is}
use Rattle.journal_volume.proofs.batch_room.BatchBuf.fill.Goals as goal

pub returns : goal.returns
returns c =
    let count = length c.args.numbers.now in
    let numbers = ap (λ (l : List ℕ). take count l)
    (with_items_is c.self.inside.numbers c.copy_front.new.into (omega (arith, c.copy_front.auto.into, c.deref_mut.ensures.len)))
    ∙ c.copy_front.ensures in
    let images = ap (λ (l : List ℕ). take (4096 * count) l)
    (with_items_is c.self.inside.images c.gather.new.images (omega (arith, c.gather.auto.images, c.deref_mut-2.ensures.len)))
    ∙ c.gather.ensures in
    ap (λ (l : List ℕ). record { numbers = l; images = take (4096 * count) (with_items c.self.inside.images c.gather.new.images).items })
    numbers
    ∙ ap (λ (l : List ℕ). record { numbers = c.args.numbers.now; images = l }) images
