use Rattle.std.proofs.Common.{arith, ap, ◌∙◌, ℕ, List, drop, length}
use Rattle.std.proofs.lemmas.List.{length-drop}
use Rattle.model.specs.Files.{table}
use Rattle.model.specs.Packs.{pack_name}
use Rattle.spool_reading.proofs.Contents.{content_fits}
use Rattle.spool_reading.proofs.Members.{one_content}
use Rattle.spool_reading.proofs.packs.member_at.Goals as goal

pub member_of-requires : goal.member_of-requires
member_of-requires g c =
    let its = c.requires.there in
    omega (
      arith,
      its.2,
      content_fits c.args.inodes (g.B.Blocks.blocks c.args.blocks.now) c.args.pack.now.inode
          (record { name = pack_name; content = its.0 }) c.requires.room c.requires.rule its.1,
    )

pub returns : goal.returns
returns g c = λ content there.
    let blocks = g.B.Blocks.blocks c.args.blocks.now in
    let its = c.requires.there in
    let same = one_content (table c.args.inodes blocks) c.args.pack.now.inode pack_name content its.0 there its.1 in
    c.member_of.ensures (drop c.args.from content)
    (c.deref.ensures.value ∙ (c.in_ok-front.ensures (record { name = pack_name; content = content }) there).0)
    (omega (arith, its.2, ap (λ (o : List ℕ). length o) same, length-drop c.args.from content))
