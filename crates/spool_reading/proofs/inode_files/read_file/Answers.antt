use Rattle.std.proofs.Common.{List, ℕ, ap, drop, sym, take, ◌∙◌}
use Rattle.spool_reading.proofs.Contents.{content_fits, named_file}
use Rattle.spool_reading.proofs.inode_files.read_file.Goals as goal

pub read_entry-requires : goal.read_entry-requires
read_entry-requires g c =
    let its = named_file c.args.inodes (g.B.Blocks.blocks c.args.blocks.now) c.args.at c.requires.there.0 c.requires.rule c.requires.there.1
    in
    record { room = c.requires.room; rule = c.requires.rule; below = its.below; file = its.file }

pub returns : goal.returns
returns g c = λ f there.
    let its = named_file c.args.inodes (g.B.Blocks.blocks c.args.blocks.now) c.args.at f c.requires.rule there in (
      c.in_ok-octets.ensures ∙ ap (λ (o : List ℕ). take c.args.count (drop c.args.place o)) (sym its.content_is),
      content_fits c.args.inodes (g.B.Blocks.blocks c.args.blocks.now) c.args.at f c.requires.room c.requires.rule there,
    )
