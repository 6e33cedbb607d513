use Rattle.std.proofs.lemmas.Grind.{common_steps}
use Rattle.std.proofs.Common.{arith, [], ◌∷◌, length, sym, ◌∙◌}
use Rattle.std.proofs.lemmas.List.{append-nil}
use Rattle.spool_records.proofs.Cuts.{expiry_behind}
use Rattle.spool_records.proofs.expiries.read_expiry.Goals as goal

pub returns-in_default : goal.returns-in_default
returns-in_default c = λ e is.
    c.in_default.ensures e.group []
    (expiry_behind c.args.octets.now c.in_ok-serial.rest.now c.in_ok-number.rest.now c.in_ok-serial.serial c.in_ok-number.number e
    c.in_ok-serial.ensures c.in_ok-number.ensures.1 is
    ∙ sym (append-nil (length e.group ∷ e.group)))

pub returns : goal.returns
returns c = grind (arith, common_steps)
