use Rattle.std.proofs.Common.{arith, sym, ◌∙◌, ap}
use Rattle.std.proofs.lemmas.List.Elements.{All-contains_itself}
use Rattle.model.specs.Files.{content_of, entry, files_in, slot_octets, table}
use Rattle.model.specs.Packs.{pack_name}
use Rattle.model.proofs.Inodes.{where_is}
use Rattle.spool_reading.proofs.Contents.{name_there, named_file}
use Rattle.spool_reading.proofs.packs.find_pack.Goals as goal

pub returns-in_default : goal.returns-in_default
returns-in_default g c = λ k d low is.
    let blocks = g.B.Blocks.blocks c.args.blocks.now in
    let files = files_in (table c.args.inodes blocks) in
    let at = where_is (table c.args.inodes blocks) _ (All-contains_itself files k d low) in
    let named = named_file c.args.inodes blocks at.0 _ c.requires.rule at.1 in
    c.in_default.ensures at.0 named.below (named.slot ∙ ap slot_octets is ∙ sym c.slot_for.ensures)

pub returns : goal.returns
returns g c =
    let blocks = g.B.Blocks.blocks c.args.blocks.now in
    let found = c.in-Some.ensures in
    let there = name_there c.args.inodes blocks c.requires.rule c.in-Some.inode found.below (slot_octets pack_name)
    (sym (found.is ∙ c.slot_for.ensures)) (omega arith) in
    (content_of blocks (entry c.args.inodes blocks c.in-Some.inode), there, c.file_size_at-size.ensures _ there)
