use Rattle.std.proofs.Common.{◌++◌, ◌∷◌, [], sym, ◌∙◌, ap}
use Rattle.model.specs.declared.change.Change.{Change}
use Rattle.spool_opening.proofs.Fronts.{its_content, its_file, piece_stands}
use Rattle.spool_opening.proofs.laws.numbers_and_overviews_are_the_spools.Goals as goal

pub returns : goal.returns
returns c = record {
  content = its_content;
  there = its_file;
  pieces = λ host inodes blocks R S w f g held next is filed here.
      piece_stands host inodes blocks R S w f g held (ap (λ (d : Change). R ++ d ∷ []) (sym is) ∙ next.front) filed here;
}
