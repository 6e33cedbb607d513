use Rattle.journal_volume.proofs.InChunks.{none_are}
use Rattle.journal_volume.proofs.chunks.Chunks.new.Goals as goal

pub invariant_of-result : goal.invariant_of-result
invariant_of-result c =
    none_are c.in_ok-made.made c.in_ok-slots.slots c.args.count c.in_ok-made.ensures.valid c.in_ok-made.ensures.bound
    c.in_ok-made.ensures.empty c.in_ok-slots.ensures
