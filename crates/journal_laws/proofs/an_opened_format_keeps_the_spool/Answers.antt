use Rattle.journal_laws.proofs.Formats.{opened_stands, torn_rises, torn_stands}
use Rattle.journal_laws.proofs.an_opened_format_keeps_the_spool.Goals as goal

pub returns-clause-opened : goal.returns-clause-opened
returns-clause-opened c host image S stands = opened_stands host image S stands

pub returns-clause-torn : goal.returns-clause-torn
returns-clause-torn c host old new S stands low tears = (torn_stands host old new S stands low tears, torn_rises old new tears low)
