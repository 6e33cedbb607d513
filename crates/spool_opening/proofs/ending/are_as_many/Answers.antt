use Rattle.std.proofs.Common.{◌≡◌, List, ap, length, sym, ◌+◌, ◌∙◌}
use Rattle.std.proofs.lemmas.List.{length-map}
use Rattle.model.specs.Files.{files_in, table}
use Rattle.model.specs.Indexed.{GroupIndex, group_index}
use Rattle.model.specs.Spool.{groups}
use Rattle.spool_groups.specs.Shown.{shown}
use Rattle.model.proofs.Counting.{used_and_free}
use Rattle.spool_opening.proofs.Whole.{count_used}
use Rattle.spool_opening.proofs.ending.are_as_many.Goals as goal

pub returns : goal.returns
returns g c = λ S is.
    let blocks = g.B.Blocks.blocks c.args.blocks.now in
    let used = used_and_free c.args.inodes blocks c.requires.room c.requires.rule in
    let made : length c.groups.result.now ≡ length (groups S) = sym (length-map c.groups.result.now shown)
    ∙ ap (λ (l : List GroupIndex). length l) (c.groups.ensures.spool S is) ∙ length-map (groups S) (group_index S) in
    count_used c.free_inode_count-free.result c.from-pack_inodes.result c.len.result (length c.groups.result.now) c.args.inodes
    c.args.packed (length (files_in (table c.args.inodes blocks))) (length S) (length (groups S))
    (ap (λ n. n + length (files_in (table c.args.inodes blocks))) c.free_inode_count-free.ensures ∙ used)
    (c.from-pack_inodes.ensures ∙ c.min.ensures) (c.len.ensures S is) made
