use Rattle.journal_segments.proofs.Batches.{read_from}
use Rattle.journal_segments.proofs.segment.Segment.read.Goals as goal

pub returns-clause-read : goal.returns-clause-read
returns-clause-read g c =
    read_from _ c.args.blocks c.args.place c.in_ok-count.count c.load_batch.new.descriptor.items c.load_batch.new.numbers.items
    c.load_batch.new.images.items c.load_batch.ensures.room c.in_ok-count.ensures.valid c.in_ok-count.ensures.value
    c.in_ok-count.ensures.images
