use Rattle.std.proofs.Common.{◌≡◌, ℕ, ◌+◌, ◌*◌, ◌∙◌, ap, arith}
use Rattle.disk.specs.Image.{overwritten}
use Rattle.fs_blocks.proofs.Parts.{overwritten-in_block}
use Rattle.fs_blocks.proofs.blocks.put_in_block.Goals as goal

pub returns : goal.returns
returns c =
    let place : c.args.number * 4096 + c.args.at ≡ 4096 * c.args.number + c.args.at = omega arith in
    c.put_part.ensures
    ∙ ap (λ (n : ℕ). overwritten n c.args.part.now c.args.octets.now) place
    ∙ overwritten-in_block c.args.number c.args.at c.args.part.now c.args.octets.now c.requires.there c.requires.fits
