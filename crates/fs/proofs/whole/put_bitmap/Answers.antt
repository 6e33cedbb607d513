use Rattle.std.proofs.Common.{arith}
use Rattle.fs.proofs.whole.put_bitmap.Goals as goal
