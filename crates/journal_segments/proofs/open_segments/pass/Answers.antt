use Rattle.std.proofs.Common.{◌<◌, length, ◌∙◌, ap, arith}
use Rattle.std.proofs.lemmas.List.Edits.{length-swap}
use Rattle.journal_segments.specs.Staged.{number_of, staged_at}
use Rattle.journal_segments.proofs.Gates.{swapped}
use Rattle.journal_segments.proofs.open_segments.pass.Goals as goal

pub returns-then-is_less-clause-put : goal.returns-then-is_less-clause-put
returns-then-is_less-clause-put c =
    let less : number_of (staged_at c.args.room.now.items c.args.n) < number_of (staged_at c.args.room.now.items c.args.i) =
    omega (arith, c.if-is_less.true, c.number_at.ensures, c.number_at-2.ensures) in
    swapped c.args.room.now.items c.args.n c.args.i c.requires.there c.requires.low c.swap.new.self.items c.swap.ensures.items
    (ap length c.swap.ensures.items ∙ length-swap c.args.room.now.items c.args.i c.args.n) less
