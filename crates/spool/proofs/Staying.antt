-- Lines of a spool stay what they are while changes come.
use Rattle.std.proofs.Common.{◌≡◌, ◌++◌, subst, sym}
use Rattle.model.specs.Spool.{Spool}
use Rattle.kernel_outbox.specs.declared.made_lines.Lines.{Lines}
use Rattle.spool_texts.specs.Parts.{HasLines}
pub use Rattle.spool_texts.proofs.Staying.{Stay}
use Rattle.spool_texts.proofs.Staying.{lines_stay as lines_stay_so}

pub lines_stay : (S R more : Spool) (lines : Lines) → R ≡ S ++ more → HasLines S lines → Stay S R lines
lines_stay S R more lines is has = subst (λ (T : Spool). Stay S T lines) (sym is) (lines_stay_so S more lines has)
