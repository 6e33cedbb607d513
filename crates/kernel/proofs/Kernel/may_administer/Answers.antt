use Rattle.std.proofs.Common.{rules}
use Rattle.kernel.proofs.Kernel.may_administer.Goals as goal
