use Rattle.std.proofs.Common.{◌∙◌, ℕ, List, ap, cond}
use Rattle.std.specs.Prelude.{Some}
use Rattle.spool_index.specs.Ids.{is_same, serial_under}
use Rattle.spool_index.proofs.prints.Prints.insert.Goals as goal

pub returns-clause-ok : goal.returns-clause-ok
returns-clause-ok c = λ q. c.in-Ok.ensures.updates.0 q
    ∙ ap (λ (es : List (ℕ × ℕ)). cond (is_same c.args.print q) (Some c.args.serial) (serial_under es q)) c.self.view_is
