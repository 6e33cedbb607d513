use Rattle.kernel_trace.proofs.Inputs.{Waits-fed, on_ok_both}
use Rattle.kernel_trace.proofs.input.Input.feed.Goals as goal

pub returns-clause-ok : goal.returns-clause-ok
returns-clause-ok c =
    on_ok_both c.feed.result c.feed.ensures.rest c.feed.ensures.awaits
    (λ rest awaits m stream h. Waits-fed c.args.self.now.reader c.feed.new.self c.args.self.now.message c.args.piece.now rest awaits m
    stream h)
