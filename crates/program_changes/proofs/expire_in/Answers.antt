use Rattle.program_changes.proofs.expire_in.Goals as goal

pub returns-in-Ok : goal.returns-in-Ok
returns-in-Ok g c = record {
  old = c.in_ok-store.store;
  new = c.expire.new.store;
  saved = c.in_ok-store.ensures;
  made = c.in-Ok.ensures.changes.made.1;
  last = c.in-Ok.ensures.serial;
}
