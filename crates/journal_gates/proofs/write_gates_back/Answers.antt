use Rattle.std.proofs.Common.{ℕ, Bool, IsTrue, [], ◌∷◌, sym, subst}
use Rattle.std.proofs.lemmas.List.{length-take-le}
use Rattle.journal_gates.specs.Gates.{IsCount}
use Rattle.journal_gates.proofs.Leaving.{leaves_then}
use Rattle.journal_gates.proofs.Looking.{back_then, count_on}
use Rattle.journal_gates.proofs.write_gates_back.Goals as goal

pub write_back-requires-clause-count : goal.write_back-requires-clause-count
write_back-requires-clause-count g c t =
    let first = g.D.Disk.device c.args.disk.now in
    let now = g.D.Disk.device c.count_gates.new.disk in
    let look = c.count_gates.ensures.look in
    let told : IsTrue first.tells = subst (λ (b : Bool). IsTrue b) look.time.tells t in
    subst (λ (n : ℕ). IsCount n now)
    (sym (length-take-le c.in_ok-count-in-Ok.count (0 ∷ 0 ∷ 0 ∷ 0 ∷ 0 ∷ 0 ∷ 0 ∷ 0 ∷ 0 ∷ 0 ∷ 0 ∷ []) c.in_ok-count-in-Ok.ensures.few))
    (count_on first now look c.in_ok-count-in-Ok.ensures.seen told c.in_ok-count-in-Ok.count (c.in_ok-count-in-Ok.ensures.count told))

pub returns-in_ok-count-in-Ok-clause-calls : goal.returns-in_ok-count-in-Ok-clause-calls
returns-in_ok-count-in-Ok-clause-calls g c =
    back_then _ g.D.Disk.device g.D.Disk.write_grows g.D.Disk.sync_grows c.write_back.result c.args.disk.now c.count_gates.new.disk
    c.write_back.new.disk c.count_gates.ensures.look
    c.in_ok-count-in-Ok.ensures.seen c.write_back.ensures.calls

pub returns-in_ok-count-in-Ok-clause-leaves : goal.returns-in_ok-count-in-Ok-clause-leaves
returns-in_ok-count-in-Ok-clause-leaves g c =
    leaves_then (g.D.Disk.device c.args.disk.now) (g.D.Disk.device c.count_gates.new.disk) (g.D.Disk.device c.write_back.new.disk)
    c.count_gates.ensures.look c.in_ok-count-in-Ok.ensures.seen c.write_back.result c.write_back.ensures.leaves
