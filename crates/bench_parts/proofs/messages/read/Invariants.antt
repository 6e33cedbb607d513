use Rattle.std.proofs.Common.{◌≡◌, IfSome}
use Rattle.model.specs.declared.message.Mode.TheVariants as mode
use Rattle.bench_parts.proofs.messages.read.Given as goal

-- the reader awaits no message, or a block
abbrev pub invariant-loop-piece : goal.invariant-loop-piece
invariant-loop-piece l =
    (goal.iterator-loop-piece).can_next l.piece-iterator × (goal.iterator-loop-piece).is_finite l.piece-iterator
    × IfSome l.reader.awaits (λ awaited. awaited ≡ mode.Block)
