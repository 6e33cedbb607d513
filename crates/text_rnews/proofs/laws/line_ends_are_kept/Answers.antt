use Rattle.text_rnews.proofs.Lines.{lines_get_lf, lines_get_crlf, crlf_stays}
use Rattle.text_rnews.proofs.laws.line_ends_are_kept.Goals as goal

pub returns-clause-lf : goal.returns-clause-lf
returns-clause-lf c = lines_get_lf

pub returns-clause-crlf : goal.returns-clause-crlf
returns-clause-crlf c = lines_get_crlf

pub returns-clause-stays : goal.returns-clause-stays
returns-clause-stays c = crlf_stays
