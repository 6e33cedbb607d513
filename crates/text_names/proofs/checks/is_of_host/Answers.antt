use Rattle.std.proofs.Common.{◌∙◌, ap, sym, ◌+◌, ◌-◌, length, take, arith}
use Rattle.std.specs.Prelude.{bytes_eq}
use Rattle.std.proofs.lemmas.List.{take_rest}
use Rattle.text_names.proofs.Hosts.{no_side, side_behind}
use Rattle.text_names.proofs.checks.is_of_host.Goals as goal

pub returns-in-Some : goal.returns-in-Some
returns-in-Some c =
    let id = c.args.id.now in
    let found = c.in-Some.ensures in
    c.eq.ensures
    ∙ ap (λ xs. bytes_eq xs c.args.host.now) (take_rest (take (length id - 1) id) (c.in-Some.at + 1))
    ∙ sym (side_behind c.args.host.now id c.in-Some.at found.0.high found.1 (λ k low high. found.0.after k (omega arith) high))

pub returns-in-None : goal.returns-in-None
returns-in-None c = sym (no_side c.args.host.now c.args.id.now c.in-None.ensures)
