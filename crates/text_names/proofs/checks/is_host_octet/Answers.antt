use Rattle.std.proofs.Common.{rules}
use Rattle.text_names.proofs.checks.is_host_octet.Goals as goal

pub returns-else-is_ascii_alphanumeric : goal.returns-else-is_ascii_alphanumeric
returns-else-is_ascii_alphanumeric c = search rules
