use Rattle.volume_renewing.proofs.Ways.{HasCopied}
use Rattle.volume_renewing.proofs.change_copying.copy_all.Given as goal

abbrev pub invariant-loop-done : goal.invariant-loop-done
invariant-loop-done g l = HasCopied g.D.Disk.device l.old l.fn.new l.new l.done
