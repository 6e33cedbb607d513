use Rattle.volume_states.proofs.device_state.state_over.Goals as goal

pub returns-in-Err-Damaged-clause-damaged : goal.returns-in-Err-Damaged-clause-damaged
returns-in-Err-Damaged-clause-damaged g c = λ _. c.in-Err-Damaged.ensures.damaged c.in-Err-Damaged.field-0-is
