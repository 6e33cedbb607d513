use Rattle.std.proofs.Common.{List, [], length, sym, ◌∙◌, ap, arith}
use Rattle.std.specs.Prelude.{Option, option_map, unwrap_or}
use Rattle.std.proofs.lemmas.List.{length-map}
use Rattle.model.specs.Article.{header}
use Rattle.model.specs.Indexed as indexed
use Rattle.model.specs.Spool.{NewsArticle}
use Rattle.spool_index.specs.declared.note.Lengths.{Lengths}
use Rattle.spool_index.specs.Viewed.{place_of}
use Rattle.spool_index.specs.declared.places.ChangePlace.TheVariants.{Alone}
use Rattle.spool_texts.proofs.Standing.{article_stands, sized, text_ends}
use Rattle.spool_texts.proofs.text_places.place_of.Goals as goal

pub offset_bounds-changes-serial : goal.offset_bounds-changes-serial
offset_bounds-changes-serial g c =
    let there = c.requires.there in
    let its = sized there.changes c.args.serial c.in-Some.lengths (c.in-Some.ensures there.changes there.indexed) in
    let stands = article_stands c.args.inodes (g.B.Blocks.blocks c.args.blocks.now) there.changes c.args.places.now c.args.serial
    its.article there.placed its.its_own in
    omega (
      arith,
      stands.low,
      length-map c.changes.result.now place_of,
      ap (λ (l : List indexed.ChangePlace). length l) c.changes.ensures,
      c.changes.type_inv.1,
    )

pub bounds-changes-serial : goal.bounds-changes-serial
bounds-changes-serial g c =
    let blocks = g.B.Blocks.blocks c.args.blocks.now in
    let there = c.requires.there in
    let its = sized there.changes c.args.serial c.in-Some.lengths (c.in-Some.ensures there.changes there.indexed) in
    let stands = article_stands c.args.inodes blocks there.changes c.args.places.now c.args.serial its.article there.placed its.its_own in
    omega (
      arith,
      stands.low,
      length-map c.changes.result.now place_of,
      ap (λ (l : List indexed.ChangePlace). length l) c.changes.ensures,
    )

pub end_of-inode-requires-clause-there : goal.end_of-inode-requires-clause-there
end_of-inode-requires-clause-there g c =
    let blocks = g.B.Blocks.blocks c.args.blocks.now in
    let there = c.requires.there in
    let its = sized there.changes c.args.serial c.in-Some.lengths (c.in-Some.ensures there.changes there.indexed) in
    let stands = article_stands c.args.inodes blocks there.changes c.args.places.now c.args.serial its.article there.placed its.its_own in
    (_, stands.at c.changes.result.now (Alone 0) c.changes.ensures)

pub overflow_sub-result : goal.overflow_sub-result
overflow_sub-result g c =
    let blocks = g.B.Blocks.blocks c.args.blocks.now in
    let there = c.requires.there in
    let its = sized there.changes c.args.serial c.in-Some.lengths (c.in-Some.ensures there.changes there.indexed) in
    let stands = article_stands c.args.inodes blocks there.changes c.args.places.now c.args.serial its.article there.placed its.its_own in
    let ends = c.end_of-inode.ensures _ (stands.at c.changes.result.now (Alone 0) c.changes.ensures) in
    (text_ends c.args.inodes blocks c.requires.room c.requires.rule there.changes c.args.serial c.end_of-inode.result.0
    c.end_of-inode.result.1 c.in-Some.lengths.text its.article its.its_own (ap (λ (l : Lengths). l.text) its.lengths_are) ends).fits

pub returns : goal.returns
returns g c =
    let blocks = g.B.Blocks.blocks c.args.blocks.now in
    let there = c.requires.there in
    let its = sized there.changes c.args.serial c.in-Some.lengths (c.in-Some.ensures there.changes there.indexed) in
    let stands = article_stands c.args.inodes blocks there.changes c.args.places.now c.args.serial its.article there.placed its.its_own in
    let ends = c.end_of-inode.ensures _ (stands.at c.changes.result.now (Alone 0) c.changes.ensures) in
    let text = text_ends c.args.inodes blocks c.requires.room c.requires.rule there.changes c.args.serial c.end_of-inode.result.0
    c.end_of-inode.result.1 c.in-Some.lengths.text its.article its.its_own (ap (λ (l : Lengths). l.text) its.lengths_are) ends in
    record {
      below = ends.below;
      file = ends.file;
      small = omega (arith, text.fits, text.within, ends.file.small);
      size = text.long;
      text = λ S indexed placed.
          let one = sized S c.args.serial c.in-Some.lengths (c.in-Some.ensures S indexed) in
          let here = article_stands c.args.inodes blocks S c.args.places.now c.args.serial one.article placed one.its_own in
          (text_ends c.args.inodes blocks c.requires.room c.requires.rule S c.args.serial c.end_of-inode.result.0 c.end_of-inode.result.1
          c.in-Some.lengths.text one.article one.its_own (ap (λ (l : Lengths). l.text) one.lengths_are)
          (c.end_of-inode.ensures _ (here.at c.changes.result.now (Alone 0) c.changes.ensures))).text_is;
      header = λ S indexed.
          let one = sized S c.args.serial c.in-Some.lengths (c.in-Some.ensures S indexed) in
          ap (λ (l : Lengths). l.header) one.lengths_are
          ∙ ap (λ (o : Option NewsArticle). length (header (unwrap_or (option_map (λ (a : NewsArticle). a.text) o) []))) (sym one.its_own);
    }
