use Rattle.std.proofs.lemmas.Grind.{common_steps}
use Rattle.std.proofs.Common.{◌≡◌, ◌-◌, ◌<◌, length, ◌∙◌, ap, refl, arith}
use Rattle.kernel_outbox.specs.Lines.{QueueView, last_depends}
use Rattle.kernel_outbox.proofs.LinesLaws.{last_depends-back}
use Rattle.kernel_outbox.proofs.queue.Queue.last_dependency.Goals as goal

pub returns-in-Some : goal.returns-in-Some
returns-in-Some c =
    let q = c.self.inside in
    let some : 0 < q.outputs.len = c.in-Some.ensures.variant.0 refl in
    let size : q.outputs.len ≡ length q.outputs.items = q.outputs.ok.0 in
    c.dependency.ensures
    ∙ last_depends-back q.given q.outputs.items (q.outputs.len - 1) c.in-Some.last.now (omega arith) c.in-Some.ensures.lookup
    ∙ ap (λ (view : QueueView). last_depends view.given view.held) c.self.view_is

pub returns-in-None : goal.returns-in-None
returns-in-None c = grind (arith, common_steps)
