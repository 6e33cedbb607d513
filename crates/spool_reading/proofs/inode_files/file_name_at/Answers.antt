use Rattle.std.proofs.Common.{List, ℕ, Some, ap, sym, ◌∙◌, arith}
use Rattle.std.specs.Prelude.{option_map}
use Rattle.model.specs.Files.{File}
use Rattle.fs_layout.proofs.Entries.{small_name}
use Rattle.spool_reading.proofs.Contents.{name_there, nothing_there}
use Rattle.spool_reading.proofs.inode_files.file_name_at.Goals as goal

pub returns-then-slot-eq0 : goal.returns-then-slot-eq0
returns-then-slot-eq0 g c =
    sym (ap (option_map (λ (f : File). f.name))
    (nothing_there c.args.inodes (g.B.Blocks.blocks c.args.blocks.now) c.requires.rule c.args.at c.requires.below c.get_slot.new.into
    c.get_slot.ensures c.if-slot-eq0.true))

pub name_of-requires-clause-few : goal.name_of-requires-clause-few
name_of-requires-clause-few g c =
    small_name c.args.inodes (g.B.Blocks.blocks c.args.blocks.now) c.requires.rule c.args.at c.requires.below c.get_slot.new.into
    c.get_slot.ensures

pub returns : goal.returns
returns g c =
    ap (λ (o : List ℕ). Some o) c.in_ok-name.ensures
    ∙ sym (ap (option_map (λ (f : File). f.name))
    (name_there c.args.inodes (g.B.Blocks.blocks c.args.blocks.now) c.requires.rule c.args.at c.requires.below c.get_slot.new.into
    c.get_slot.ensures (omega (arith, c.if-slot-eq0.false))))
