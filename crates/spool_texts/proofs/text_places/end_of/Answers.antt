use Rattle.std.proofs.Common.{◌+◌, refl, arith}
use Rattle.spool_texts.proofs.Standing.{ends_alone, ends_packed}
use Rattle.spool_texts.proofs.text_places.end_of.Goals as goal

pub size_of-requires-clause-below : goal.size_of-requires-clause-below
size_of-requires-clause-below g c =
    let file = c.requires.there in
    (ends_alone c.args.inodes (g.B.Blocks.blocks c.args.blocks.now) c.requires.room c.requires.rule c.in-Alone.inode _ file.0
    (rw c.in-Alone.is at file.1) refl).below

pub returns-in-Alone : goal.returns-in-Alone
returns-in-Alone g c = λ f there.
    ends_alone c.args.inodes (g.B.Blocks.blocks c.args.blocks.now) c.requires.room c.requires.rule c.in-Alone.inode c.size_of.result f
    (rw c.in-Alone.is at there) c.size_of.ensures

pub returns-in-Packed : goal.returns-in-Packed
returns-in-Packed g c = λ f there.
    ends_packed c.args.inodes (g.B.Blocks.blocks c.args.blocks.now) c.requires.rule c.in-Packed.inode c.in-Packed.from c.in-Packed.size
    (c.from.result + c.from-in-Packed.result) f (rw c.in-Packed.is at there)
    (omega (arith, c.from.ensures, c.from-in-Packed.ensures))
