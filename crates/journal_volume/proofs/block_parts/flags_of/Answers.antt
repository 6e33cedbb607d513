use Rattle.std.proofs.Common.{◌≡◌, Bool, false, List, ◌++◌, replicate, sym, subst}
use Rattle.journal_volume.specs.Parts.{IsPartSet}
use Rattle.journal_volume.proofs.PartIndex.{block_more}
use Rattle.journal_volume.proofs.block_parts.flags_of.Goals as goal

pub returns-clause-kept : goal.returns-clause-kept
returns-clause-kept c members v =
    let flags : c.extend_from_slice.new.self.items ≡ c.args.flags.now.items ++ replicate 16 false =
    c.in_ok-extend_from_slice.ensures.items in
    subst (λ (l : List Bool). IsPartSet c.insert.new.self l members) (sym flags)
    (block_more c.args.blocks.now c.args.flags.now.items members v c.args.block c.insert.new.self c.in_default.ensures
    c.insert.ensures.added c.insert.ensures.valid)
