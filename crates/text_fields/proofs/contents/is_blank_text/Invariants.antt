use Rattle.std.proofs.Common.{◌≡◌, length}
use Rattle.std.specs.List.{list_all}
use Rattle.model.specs.Names.{is_blank}
use Rattle.model.specs.Article.{unfolded}
use Rattle.text_fields.proofs.contents.is_blank_text.Given as goal

-- the lines so far are blank
abbrev pub invariant-loop-rest : goal.invariant-loop-rest
invariant-loop-rest l = list_all is_blank (unfolded l.rest) ≡ list_all is_blank (unfolded l.text)

abbrev pub decreases-loop-rest : goal.decreases-loop-rest
decreases-loop-rest l = length l.rest
