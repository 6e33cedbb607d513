use Rattle.std.proofs.Common.{ℕ, ◌+◌, get_or, sym, ◌∙◌, ap}
use Rattle.std.specs.Prelude.{◌*◌, ◌%◌, ◌^◌}
use Rattle.std.proofs.lemmas.List.{take_all}
use Rattle.spool_index.specs.Ids.{fingerprint}
use Rattle.spool_index.proofs.NewIds.{print_more, print_none}
use Rattle.spool_index.proofs.ids.fingerprint.Goals as goal

pub loop-octet-init : goal.loop-octet-init
loop-octet-init c = sym print_none

pub loop-octet-preserved : goal.loop-octet-preserved
loop-octet-preserved c =
    ap (λ (print : ℕ). (print * 11400714819323198485 % 2 ^ 64 + get_or c.args.id.now c.loop-octet.octet-index 0) % 2 ^ 64)
    c.loop-octet.invariant
    ∙ sym (print_more c.args.id.now c.loop-octet.octet-index c.loop-octet-test.true)

pub returns : goal.returns
returns c = c.loop-octet.invariant ∙ ap fingerprint (take_all c.loop-octet.octet-index c.args.id.now c.loop-octet-test.false)
