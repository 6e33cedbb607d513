use Rattle.std.proofs.Common.{◌≡◌, ℕ, List, [], get_or, set, sym, ◌∙◌, ap}
use Rattle.std.proofs.lemmas.List.{set-get_or}
use Rattle.journal_volume.proofs.Told.{told_equal}
use Rattle.journal_volume.proofs.chunks.Chunks.replace.Goals as goal

pub returns-then-eq : goal.returns-then-eq
returns-then-eq c =
    let old = c.args.self.now.blocks in
    let number = c.args.number in
    let same : get_or old number [] ≡ c.args.from.now =
    sym c.block.ensures.octets ∙ told_equal c.block.result.now c.args.from.now c.if-eq.ensures in
    sym (ap (λ (b : List ℕ). set old number b) (sym same) ∙ set-get_or old number [])
