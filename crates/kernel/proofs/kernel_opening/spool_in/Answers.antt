use Rattle.kernel.proofs.kernel_opening.spool_in.Goals as goal

pub returns-in-Err-Damaged-clause-damaged : goal.returns-in-Err-Damaged-clause-damaged
returns-in-Err-Damaged-clause-damaged c = λ _. c.in-Err-Damaged.ensures.damaged c.in-Err-Damaged.field-0-is
