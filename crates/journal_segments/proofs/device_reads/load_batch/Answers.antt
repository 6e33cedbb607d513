use Rattle.std.proofs.Common.{ℕ, List, sym, ◌∙◌, ap, subst, rules}
use Rattle.model.specs.Volume.{block, IsDescriptor}
use Rattle.journal_segments.proofs.device_reads.load_batch.Goals as goal

pub returns-in_ok-load_images-in-Some-clause-value : goal.returns-in_ok-load_images-in-Some-clause-value
returns-in_ok-load_images-in-Some-clause-value g c t = c.in_ok-read_block.ensures.value t
    ∙ ap (λ (k : ℕ). block k (g.D.Disk.device c.args.disk.now).content) c.descriptor_block.ensures

pub returns-in-None-clause-no_volume : goal.returns-in-None-clause-no_volume
returns-in-None-clause-no_volume g c is t valid =
    let same = c.as_slice.ensures.value ∙ c.in_ok-read_block.ensures.value t
    ∙ ap (λ (k : ℕ). block k (g.D.Disk.device c.args.disk.now).content) c.descriptor_block.ensures in
    c.read_descriptor.ensures.none (search rules) (subst (λ (d : List ℕ). IsDescriptor c.args.blocks d) (sym same) valid)
