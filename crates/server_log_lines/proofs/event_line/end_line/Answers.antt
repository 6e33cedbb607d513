use Rattle.std.proofs.Common.{◌≡◌, ◌++◌, ◌∷◌, [], map}
use Rattle.server_log_lines.specs.Line.{shown}
use Rattle.server_log_lines.proofs.Plain.{all_are_plain}
use Rattle.server_log_lines.proofs.event_line.end_line.Goals as goal

pub returns-clause-plain : goal.returns-clause-plain
returns-clause-plain c = (map shown c.args.text.now, cc (c.in_ok-push.ensures.items, c.in_ok-line.ensures), all_are_plain c.args.text.now)
