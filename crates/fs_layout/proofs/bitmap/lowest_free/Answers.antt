use Rattle.std.proofs.Common.{arith}
use Rattle.fs_layout.proofs.bitmap.lowest_free.Goals as goal
