use Rattle.session_posting.specs.Accepted.{change_of}
use Rattle.session.proofs.Stepping.{makes_one, step_answer, step_mark, step_reads, step_refusal}
use Rattle.session.proofs.steps.step.Goals as goal

pub returns : goal.returns
returns g c = record {
  answer = step_answer _ _ _ _ _ _ _ _ c.in_ok-by_kind.ensures;
  kept = c.in_ok-by_kind.ensures.answers.kept;
  unlined = λ some. c.in_ok-by_kind.ensures.unlined (makes_one change_of c.in_ok-by_kind.field-0.accepted some);
  reads = step_reads _ _ _ _ _ _ _ _ c.in_ok-by_kind.ensures;
  refusal = step_refusal _ _ _ _ _ _ _ _ c.in_ok-by_kind.ensures;
  mark = step_mark _ _ _ _ _ _ _ _ c.in_ok-by_kind.ensures;
}
