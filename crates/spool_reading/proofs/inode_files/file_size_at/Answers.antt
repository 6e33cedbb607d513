use Rattle.std.proofs.Common.{List, ℕ, ap, length, sym, ◌∙◌}
use Rattle.model.specs.Files.{entry}
use Rattle.model.proofs.Owning.{content_size}
use Rattle.spool_reading.proofs.Contents.{named_file}
use Rattle.spool_reading.proofs.inode_files.file_size_at.Goals as goal

pub returns : goal.returns
returns g c = λ f there.
    let blocks = g.B.Blocks.blocks c.args.blocks.now in
    let its = named_file c.args.inodes blocks c.args.at f c.requires.rule there in
    c.size_of.ensures ∙ sym (content_size blocks (entry c.args.inodes blocks c.args.at) c.requires.room.blocks_whole
    (λ b owns. (c.requires.rule.within c.args.at b its.below owns).1)) ∙ ap (λ (o : List ℕ). length o) (sym its.content_is)
