use Rattle.std.proofs.Common.{rules}
use Rattle.program_script.proofs.script_lines.hex_octet.Goals as goal

pub returns-in-Ok : goal.returns-in-Ok
returns-in-Ok c = search rules
