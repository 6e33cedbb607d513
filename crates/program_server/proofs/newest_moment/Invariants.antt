use Rattle.program_server.proofs.newest_moment.Given as goal

abbrev pub decreases-loop-serial : goal.decreases-loop-serial
decreases-loop-serial g l = l.serial
