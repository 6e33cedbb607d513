-- How the lines of an exported text end.
use Rattle.model.specs.Stream.{Octets}
use Rattle.text_rnews.specs.LineEnds.{with_lf}
use Rattle.volume_exporting.specs.declared.exported_batches.LineEnds.{LineEnds}
use Rattle.volume_exporting.specs.declared.exported_batches.LineEnds.TheVariants.{Lf, Crlf}

-- a stored text as it is exported
abbrev pub in_lines : LineEnds → Octets → Octets
in_lines Lf text = with_lf text
in_lines Crlf text = text
