use Rattle.std.proofs.Common.{arith}
use Rattle.volume_store.proofs.Numbers.{number_fits}
use Rattle.volume_store.proofs.adding.add_expiry.Goals as goal

pub overflow_cast-expiry : goal.overflow_cast-expiry
overflow_cast-expiry c = omega (arith, number_fits c.args.spool.now c.kept.ensures c.args.expiry.now c.requires)
