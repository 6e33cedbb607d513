use Rattle.std.proofs.Common.{◌≡◌, ◌+◌, ℕ, None, Some, ap, arith, get_or, length, refl, sym, ◌∙◌}
use Rattle.std.proofs.lemmas.List.{get_or_read}
use Rattle.std.proofs.lemmas.Result.{IfErr-weaker}
use Rattle.model.specs.Files.{table}
use Rattle.spool_groups.proofs.Steps.{ok_map}
use Rattle.spool_reading.specs.StoredChanges.{change_of}
use Rattle.spool_opening.proofs.Nexts.{its_file_at, may_stand, next_file, one_replayed, said_next, same_file, slots_few, taken_there}
use Rattle.spool_opening.proofs.next.replay_next.Goals as goal

pub file_in-requires-clause-there : goal.file_in-requires-clause-there
file_in-requires-clause-there g c =
    let slots = c.args.files.now.slots.items in
    let taken : get_or slots c.args.done None ≡ Some c.in-Some.place =
    sym (get_or_read slots c.args.done c.index-slot.result.now c.requires.below c.index-slot.ensures None) ∙ c.in-Some.is in
    taken_there (table c.args.inodes (g.B.Blocks.blocks c.args.blocks.now)) slots c.args.files.now.named c.args.files.now.packed c.args.done
    c.in-Some.place c.requires.sorted taken

pub replay_said-requires-clause-replayed : goal.replay_said-requires-clause-replayed
replay_said-requires-clause-replayed g c =
    let its = c.requires.replayed in
    record {
      changes = its.changes;
      replayed = its.replayed;
      few = slots_few (table c.args.inodes (g.B.Blocks.blocks c.args.blocks.now)) c.args.files.now.slots.items c.args.files.now.named
          c.args.files.now.packed c.args.done (length its.changes) c.requires.sorted its.count_is c.requires.below;
    }

pub replay_said-requires-clause-may : goal.replay_said-requires-clause-may
replay_said-requires-clause-may g c =
    let slots = c.args.files.now.slots.items in
    let taken : get_or slots c.args.done None ≡ Some c.in-Some.place =
    sym (get_or_read slots c.args.done c.index-slot.result.now c.requires.below c.index-slot.ensures None) ∙ c.in-Some.is in
    let said = rw c.in-Some-2.is at c.in_ok-said.ensures in
    may_stand (table c.args.inodes (g.B.Blocks.blocks c.args.blocks.now)) slots c.args.files.now.named c.args.files.now.packed c.args.done
    (c.args.done + 1) c.in-Some.place (change_of c.in-Some-2.said) c.in_ok-file.file.name.items c.in_ok-file.file.content.items
    c.requires.sorted taken c.in_ok-file.ensures.is
    (same_file (c.args.done + 1) (c.args.done + 1) (change_of c.in-Some-2.said) c.deref.result.now _ c.deref-2.result.now _ refl
    c.deref.ensures.value c.deref-2.ensures.value said)

pub returns-in_default-2-clause-damaged : goal.returns-in_default-2-clause-damaged
returns-in_default-2-clause-damaged g c = λ e S held low.
    let its = c.requires.replayed in
    let slots = c.args.files.now.slots.items in
    let taken : get_or slots c.args.done None ≡ Some c.in-Some.place =
    sym (get_or_read slots c.args.done c.index-slot.result.now c.requires.below c.index-slot.ensures None) ∙ c.in-Some.is in
    let next = next_file c.args.host.now c.args.inodes (g.B.Blocks.blocks c.args.blocks.now) its.changes S slots c.args.files.now.named
    c.args.files.now.packed c.in-Some.place c.in_ok-file.file.name.items c.in_ok-file.file.content.items c.requires.room.few held
    its.replayed.read c.requires.sorted (omega (arith, its.count_is, low)) (ap (λ (n : ℕ). get_or slots n None) its.count_is ∙ taken)
    c.in_ok-file.ensures.is in
    let none = rw c.in_default-2.is at c.in_ok-said.ensures in
    none next.change (same_file (length its.changes + 1) (c.args.done + 1) next.change _ c.deref.result.now _ c.deref-2.result.now
    (ap (λ (n : ℕ). n + 1) its.count_is) (sym c.deref.ensures.value) (sym c.deref-2.ensures.value) next.is)

pub returns-clause-ok : goal.returns-clause-ok
returns-clause-ok g c =
    let its = c.requires.replayed in
    let slots = c.args.files.now.slots.items in
    let taken : get_or slots c.args.done None ≡ Some c.in-Some.place =
    sym (get_or_read slots c.args.done c.index-slot.result.now c.requires.below c.index-slot.ensures None) ∙ c.in-Some.is in
    let said = rw c.in-Some-2.is at c.in_ok-said.ensures in
    ok_map c.replay_said.result
    (λ goes.
    one_replayed c.args.host.now c.args.inodes (g.B.Blocks.blocks c.args.blocks.now) c.replay_said.new.replay.index
    c.replay_said.new.replay.places its.changes (change_of c.in-Some-2.said) c.args.done its.count_is
    (goes its.changes its.replayed
    (its_file_at c.args.inodes (g.B.Blocks.blocks c.args.blocks.now) slots c.args.files.now.named c.args.files.now.packed c.args.done
    (length its.changes + 1) c.in-Some.place (change_of c.in-Some-2.said) c.in_ok-file.file.name.items c.in_ok-file.file.content.items
    c.requires.sorted taken c.in_ok-file.ensures.is
    (same_file (c.args.done + 1) (length its.changes + 1) (change_of c.in-Some-2.said) c.deref.result.now _ c.deref-2.result.now _
    (ap (λ (n : ℕ). n + 1) (sym its.count_is)) c.deref.ensures.value c.deref-2.ensures.value said))))
    c.replay_said.ensures.ok

pub returns-clause-damaged : goal.returns-clause-damaged
returns-clause-damaged g c =
    let its = c.requires.replayed in
    let slots = c.args.files.now.slots.items in
    let taken : get_or slots c.args.done None ≡ Some c.in-Some.place =
    sym (get_or_read slots c.args.done c.index-slot.result.now c.requires.below c.index-slot.ensures None) ∙ c.in-Some.is in
    let said = rw c.in-Some-2.is at c.in_ok-said.ensures in
    IfErr-weaker c.replay_said.result _ _
    (λ e none is S held low.
    let next = next_file c.args.host.now c.args.inodes (g.B.Blocks.blocks c.args.blocks.now) its.changes S slots c.args.files.now.named
    c.args.files.now.packed c.in-Some.place c.in_ok-file.file.name.items c.in_ok-file.file.content.items c.requires.room.few held
    its.replayed.read c.requires.sorted (omega (arith, its.count_is, low)) (ap (λ (n : ℕ). get_or slots n None) its.count_is ∙ taken)
    c.in_ok-file.ensures.is in
    none is its.changes S its.replayed held
    (said_next c.args.host.now its.changes S c.in_ok-file.file.name.items c.in_ok-file.file.content.items (change_of c.in-Some-2.said) next
    (same_file (c.args.done + 1) (length its.changes + 1) (change_of c.in-Some-2.said) c.deref.result.now _ c.deref-2.result.now _
    (ap (λ (n : ℕ). n + 1) (sym its.count_is)) c.deref.ensures.value c.deref-2.ensures.value said)))
    c.replay_said.ensures.damaged
