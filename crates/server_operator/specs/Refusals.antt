-- How a line is refused that asks for nothing, or for which there is no memory.
use Rattle.program_script.specs.declared.script_lines.ParseError.{ParseError}
use Rattle.program_script.specs.declared.script_lines.ParseError.TheVariants as parse
use Rattle.server_operator.specs.declared.line_answer.Refused.{Refused}
use Rattle.server_operator.specs.declared.line_answer.Refused.TheVariants.{Bad, Memory}

abbrev pub refusal_of : ParseError → Refused
refusal_of parse.Bad = Bad
refusal_of parse.Memory = Memory
