use Rattle.std.proofs.Common.{◌≤◌, length}
use Rattle.server_logging.proofs.output.Output.rest_of.Given as goal

abbrev pub invariant-loop : goal.invariant-loop
invariant-loop g l = length l.rest ≤ length l.octets
