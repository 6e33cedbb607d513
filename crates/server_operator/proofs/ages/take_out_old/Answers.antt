use Rattle.std.specs.Prelude.{Ok, Err}
use Rattle.server_operator.proofs.Marks.{gone, marks}
use Rattle.server_operator.proofs.ages.take_out_old.Goals as goal

pub returns-in-Ok-clause-mark : goal.returns-in-Ok-clause-mark
returns-in-Ok-clause-mark g c =
    marks _ c.args.seat.now c.treat_old.new.volume (Ok c.in-Ok.articles) c.in-Ok.ensures.treats

pub returns-in-Err-clause-mark : goal.returns-in-Err-clause-mark
returns-in-Err-clause-mark g c =
    marks _ c.args.seat.now c.treat_old.new.volume (Err c.in-Err.refused) c.in-Err.ensures.treats

pub returns-in-Err-clause-gone : goal.returns-in-Err-clause-gone
returns-in-Err-clause-gone g c = gone _ c.args.seat.now c.treat_old.new.volume c.in-Err.refused c.in-Err.ensures.treats

pub returns-in-Ok-clause-over : goal.returns-in-Ok-clause-over
returns-in-Ok-clause-over g c = record {
  now = c.seconds.result;
  articles = c.in-Ok.articles;
  treats = rw c.since-since.ensures at c.in-Ok.ensures.treats;
  says = cc;
}
