use Rattle.std.proofs.Common.{rules}
use Rattle.kernel_locked.proofs.locked.fits.Goals as goal

pub returns-in-Some-Line-Line : goal.returns-in-Some-Line-Line
returns-in-Some-Line-Line c = search rules
