use Rattle.std.proofs.Common.{ℕ, ◌∙◌, List, sym, subst}
use Rattle.std.proofs.lemmas.Result.{IfErr-weaker, IfOk-weaker}
use Rattle.kernel.proofs.DeviceLaws.{damaged_so}
use Rattle.model.specs.Files.{HasRoom}
use Rattle.model.specs.Layout.{HoldsIn}
use Rattle.model.specs.Spool.{Spool}
use Rattle.volume_states.specs.State.{IsStatusOf}
use Rattle.volume_states.proofs.device_state.state_in.Goals as goal

pub state_over-requires : goal.state_over-requires
state_over-requires g c =
    let has = c.in_ok-host.ensures.ok in
    subst (λ (blocks : List (List ℕ)). HasRoom c.in_ok-host.field-0.inodes blocks) (sym has.seen) has.room

pub returns-clause-told : goal.returns-clause-told
returns-clause-told g c = λ tells.
    let b = c.in_ok-host.field-0 in
    let has = c.in_ok-host.ensures.ok in
    IfOk-weaker c.state_over.result _ _
    (λ s is. record {
      inodes = b.inodes;
      host = b.host.items;
      labelled = has.labelled;
      state = subst (λ (t : ℕ × (List ℕ × List (List ℕ))). IsStatusOf t.0 t.1.0 b.inodes t.1.1 s)
          (λ i. (has.format i, (c.deref.ensures.value i, (has.seen ∙ has.blocks tells) i))) is;
    })
    c.state_over.ensures.ok

pub returns-clause-damaged : goal.returns-clause-damaged
returns-clause-damaged g c =
    let b = c.in_ok-host.field-0 in
    let has = c.in_ok-host.ensures.ok in
    IfErr-weaker c.state_over.result _ _
    (λ error none is. damaged_so g.D.Disk.device c.args.journal.now b has c.deref.result.now c.deref.ensures.value
    (λ (S : Spool) holds. none is S (subst (λ (blocks : List (List ℕ)). HoldsIn b.format c.deref.result.now b.inodes blocks S)
    (sym has.seen) holds)))
    c.state_over.ensures.damaged
