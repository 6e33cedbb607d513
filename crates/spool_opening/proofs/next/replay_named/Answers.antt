use Rattle.std.proofs.Common.{ap, sym, ◌∙◌}
use Rattle.spool_groups.proofs.Steps.{ok_map}
use Rattle.spool_opening.specs.Stored.{Numbers, Overview, name_for}
use Rattle.spool_opening.proofs.Nexts.{group_named_there, named_at}
use Rattle.spool_opening.proofs.next.replay_named.Goals as goal

pub returns-in_default-clause-damaged : goal.returns-in_default-clause-damaged
returns-in_default-clause-damaged c = λ e host inodes blocks R S sorted replayed held next.
    group_named_there host inodes blocks R S c.args.files.now.slots.items c.args.files.now.named c.args.files.now.packed Numbers
    c.args.group c.deref.result.now sorted held next
    (c.deref.ensures.value ∙ c.in_ok-numbers.ensures ∙ ap (name_for Numbers) c.as_slice-name.ensures) c.in_default.ensures

pub returns-in_default-get-clause-damaged : goal.returns-in_default-get-clause-damaged
returns-in_default-get-clause-damaged c = λ e host inodes blocks R S sorted replayed held next.
    group_named_there host inodes blocks R S c.args.files.now.slots.items c.args.files.now.named c.args.files.now.packed Overview
    c.args.group c.deref-2.result.now sorted held next
    (c.deref-2.ensures.value ∙ c.in_ok-overview.ensures ∙ ap (name_for Overview) c.as_slice-name.ensures) c.in_default-get.ensures

pub returns-clause-ok : goal.returns-clause-ok
returns-clause-ok c =
    ok_map c.replay_group.result
    (λ goes host inodes blocks R sorted replayed its.
    goes host inodes blocks R replayed its
    (named_at inodes blocks Numbers c.args.group.name c.deref.result.now c.in-Some.first
    (c.deref.ensures.value ∙ c.in_ok-numbers.ensures ∙ ap (name_for Numbers) c.as_slice-name.ensures)
    (sorted.from c.deref.result.now c.in-Some.first (sym c.in-Some.ensures)))
    (named_at inodes blocks Overview c.args.group.name c.deref-2.result.now c.in-Some-get.second
    (c.deref-2.ensures.value ∙ c.in_ok-overview.ensures ∙ ap (name_for Overview) c.as_slice-name.ensures)
    (sorted.from c.deref-2.result.now c.in-Some-get.second (sym c.in-Some-get.ensures))))
    c.replay_group.ensures.ok
