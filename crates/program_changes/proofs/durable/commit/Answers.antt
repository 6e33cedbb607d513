use Rattle.program_changes.proofs.durable.commit.Goals as goal

pub returns-in-Ok-clause-commits : goal.returns-in-Ok-clause-commits
returns-in-Ok-clause-commits g c = record {
  saved = c.in-Ok.ensures.ok;
  spool = c.commit.ensures.spool;
  prefix = c.commit.ensures.prefix;
  goes_on = c.commit.ensures.goes_on;
  refused = tt;
}

pub returns-in-Err-clause-commits : goal.returns-in-Err-clause-commits
returns-in-Err-clause-commits g c = record {
  saved = tt;
  spool = c.commit.ensures.spool;
  prefix = c.commit.ensures.prefix;
  goes_on = c.commit.ensures.goes_on;
  refused = record {
    fault = c.in-Err.ensures.fault;
    memory = c.in-Err.ensures.memory;
    halted = λ is ready. (c.in-Err.ensures.halted is).0 ready;
  };
}
