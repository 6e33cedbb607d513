use Rattle.std.proofs.Common.{◌≡◌, ℕ, ◌+◌, ◌/◌, cond, eqb, List, [], ◌∷◌, length, refl, ◌∙◌, ap, subst, arith}
use Rattle.std.proofs.lemmas.Bool.{OnFalse_at, OnFalse_from, OnTrue_at, OnTrue_from}
use Rattle.model.specs.Volume.{number_at}
use Rattle.model.specs.Files.{entry, first_data, owned}
use Rattle.fs_check.specs.Checking.{CanMark, Marks}
use Rattle.fs_check.proofs.Owning.{entry_small}
use Rattle.fs_check.proofs.Wholes.{cannot_double, cannot_pointers, cannot_tables, count_few, double_there, marks_whole, table_there}
use Rattle.fs_check.proofs.Wholes.{tables_few}
use Rattle.fs_check.proofs.used_blocks.mark_owned.Given.{Over}
use Rattle.fs_check.proofs.used_blocks.mark_owned.Goals as goal
use Rattle.fs_check.proofs.used_blocks.mark_owned.Goals.{After-content_blocks-count, After-mark_tables}

-- as many blocks as the size in the inode takes
many : (g : Over) (c : After-content_blocks-count g) → c.content_blocks-count.result ≡ (number_at 4 8 c.get_inode.new.into + 4095) / 4096
many g c = c.content_blocks-count.ensures ∙ ap (λ (n : ℕ). (n + 4095) / 4096) c.number64.ensures

-- the double-indirect block is marked
first : (g : Over) (c : After-mark_tables g) → Marks (length (g.B.Blocks.blocks c.args.blocks.now))
    (cond (eqb c.number32.result 0) [] (c.number32.result ∷ [])) c.args.marks.now c.mark_double.new.marks
first g c =
    subst (λ (n : ℕ). Marks n (cond (eqb c.number32.result 0) [] (c.number32.result ∷ [])) c.args.marks.now c.mark_double.new.marks)
    c.len.ensures.count (OnTrue_at c.if-not-mark_double.false c.mark_double.ensures.marked)

pub content_blocks-count-requires : goal.content_blocks-count-requires
content_blocks-count-requires g c =
    let blocks = g.B.Blocks.blocks c.args.blocks.now in
    omega (
      arith,
      c.number64.ensures ∙ ap (λ (o : List ℕ). number_at 4 8 o) c.get_inode.ensures,
      entry_small (first_data (length (g.B.Blocks.blocks c.args.blocks.now)) c.args.inodes) (length blocks)
          (entry c.args.inodes blocks c.args.at) c.requires.entry,
    )

pub returns-then-not-mark_double-clause-refused : goal.returns-then-not-mark_double-clause-refused
returns-then-not-mark_double-clause-refused g c =
    let blocks = g.B.Blocks.blocks c.args.blocks.now in
    let is = many g (goal.at.returns-then-not-mark_double-clause-refused g c).After-content_blocks-count in
    cannot_double c.args.inodes c.args.at blocks _ c.get_inode.ensures c.requires.entry _ _ _ is refl c.number32.ensures c.args.marks.now
    (subst (λ (n : ℕ). ¬ (CanMark n (cond (eqb c.number32.result 0) [] (c.number32.result ∷ [])) c.args.marks.now)) c.len.ensures.count
    (OnFalse_at c.if-not-mark_double.true c.mark_double.ensures.refused))

pub tables_for-requires : goal.tables_for-requires
tables_for-requires g c =
    let blocks = g.B.Blocks.blocks c.args.blocks.now in
    let is = many g (goal.at.tables_for-requires g c).After-content_blocks-count in
    count_few c.args.inodes c.args.at blocks _ c.get_inode.ensures c.requires.entry _ _ _ is refl refl

pub mark_tables-requires-clause-few : goal.mark_tables-requires-clause-few
mark_tables-requires-clause-few g c =
    let blocks = g.B.Blocks.blocks c.args.blocks.now in
    let is = many g (goal.at.mark_tables-requires-clause-few g c).After-content_blocks-count in
    let few = tables_few c.args.inodes c.args.at blocks _ c.get_inode.ensures c.requires.entry _ _ _ is c.tables_for.ensures
    c.number32.ensures in
    omega (arith, few)

pub mark_tables-requires-clause-double : goal.mark_tables-requires-clause-double
mark_tables-requires-clause-double g c =
    let blocks = g.B.Blocks.blocks c.args.blocks.now in
    let is = many g (goal.at.mark_tables-requires-clause-double g c).After-content_blocks-count in
    double_there c.args.inodes c.args.at blocks _ c.get_inode.ensures c.requires.entry _ _ _ is c.tables_for.ensures c.number32.ensures

pub returns-then-not-mark_tables-clause-refused : goal.returns-then-not-mark_tables-clause-refused
returns-then-not-mark_tables-clause-refused g c =
    let blocks = g.B.Blocks.blocks c.args.blocks.now in
    let is = many g (goal.at.returns-then-not-mark_tables-clause-refused g c).After-content_blocks-count in
    cannot_tables c.args.inodes c.args.at blocks _ c.get_inode.ensures c.requires.entry _ _ _ is c.tables_for.ensures c.number32.ensures
    c.args.marks.now c.mark_double.new.marks (first g (goal.at.returns-then-not-mark_tables-clause-refused g c).After-mark_tables)
    (OnFalse_at c.if-not-mark_tables.true c.mark_tables.ensures.refused)

pub mark_pointers-requires-clause-few : goal.mark_pointers-requires-clause-few
mark_pointers-requires-clause-few g c =
    let blocks = g.B.Blocks.blocks c.args.blocks.now in
    let is = many g (goal.at.mark_pointers-requires-clause-few g c).After-content_blocks-count in
    count_few c.args.inodes c.args.at blocks _ c.get_inode.ensures c.requires.entry _ _ _ is refl refl

pub mark_pointers-requires-clause-double : goal.mark_pointers-requires-clause-double
mark_pointers-requires-clause-double g c =
    let blocks = g.B.Blocks.blocks c.args.blocks.now in
    let is = many g (goal.at.mark_pointers-requires-clause-double g c).After-content_blocks-count in
    double_there c.args.inodes c.args.at blocks _ c.get_inode.ensures c.requires.entry _ _ _ is refl refl

pub mark_pointers-requires-clause-tables : goal.mark_pointers-requires-clause-tables
mark_pointers-requires-clause-tables g c =
    let blocks = g.B.Blocks.blocks c.args.blocks.now in
    let is = many g (goal.at.mark_pointers-requires-clause-tables g c).After-content_blocks-count in
    table_there c.args.inodes c.args.at blocks _ c.get_inode.ensures c.requires.entry _ _ _ is refl refl

pub returns-clause-marked : goal.returns-clause-marked
returns-clause-marked g c =
    let blocks = g.B.Blocks.blocks c.args.blocks.now in
    let is = many g (goal.at.returns-clause-marked g c).After-content_blocks-count in
    let second = OnTrue_at c.if-not-mark_tables.false c.mark_tables.ensures.marked in
    OnTrue_from c.mark_pointers.result
    (Marks (length blocks) (owned (entry c.args.inodes blocks c.args.at)) c.args.marks.now c.mark_pointers.new.marks) (λ all.
    marks_whole c.args.inodes c.args.at blocks _ c.get_inode.ensures c.requires.entry _ _ _ is c.tables_for.ensures c.number32.ensures
    c.args.marks.now c.mark_double.new.marks c.mark_tables.new.marks
    c.mark_pointers.new.marks (first g (goal.at.returns-clause-marked g c).After-mark_tables) second (OnTrue_at all
    c.mark_pointers.ensures.marked))

pub returns-clause-refused : goal.returns-clause-refused
returns-clause-refused g c =
    let blocks = g.B.Blocks.blocks c.args.blocks.now in
    let is = many g (goal.at.returns-clause-refused g c).After-content_blocks-count in
    let second = OnTrue_at c.if-not-mark_tables.false c.mark_tables.ensures.marked in
    OnFalse_from c.mark_pointers.result (¬ (CanMark (length blocks) (owned (entry c.args.inodes blocks c.args.at)) c.args.marks.now))
    (λ some.
    cannot_pointers c.args.inodes c.args.at blocks _ c.get_inode.ensures c.requires.entry _ _ _ is c.tables_for.ensures c.number32.ensures
    c.args.marks.now c.mark_double.new.marks
    c.mark_tables.new.marks (first g (goal.at.returns-clause-refused g c).After-mark_tables) second (OnFalse_at some
    c.mark_pointers.ensures.refused))
