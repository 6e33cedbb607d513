use Rattle.std.proofs.Common.{◌≡◌, inl, ℕ, List, [], ◌∷◌, ◌∙◌, ap, arith}
use Rattle.disk.specs.Image.{part}
use Rattle.disk.proofs.Images.{length-overwritten, part-overwritten_apart}
use Rattle.model.specs.Volume.{epoch_in, format_in}
use Rattle.journal.proofs.Upgrades.{opened_epoch_in}
use Rattle.journal_laws.proofs.Formats.{gate_opens_in}
use Rattle.journal.proofs.upgrading.set_gate.Goals as goal

pub returns-clause-size : goal.returns-clause-size
returns-clause-size c = ap (λ (l : List ℕ). Rattle.std.proofs.Common.length l) c.put_octets.ensures
    ∙ length-overwritten 149 (3 ∷ []) c.args.superblock.now (omega (arith, c.requires)) ∙ c.requires

pub returns-clause-label : goal.returns-clause-label
returns-clause-label c = ap (part 20 128) c.put_octets.ensures
    ∙ part-overwritten_apart 149 (3 ∷ []) c.args.superblock.now (omega (arith, c.requires)) 20 128 (inl (omega arith))

pub returns-clause-format : goal.returns-clause-format
returns-clause-format c = ap format_in c.put_octets.ensures ∙ gate_opens_in c.args.superblock.now (omega (arith, c.requires))

pub returns-clause-epoch : goal.returns-clause-epoch
returns-clause-epoch c = ap epoch_in c.put_octets.ensures ∙ opened_epoch_in c.args.superblock.now (omega (arith, c.requires))
