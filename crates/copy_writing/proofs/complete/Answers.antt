use Rattle.std.proofs.Common.{◌≡◌, Bool, IsTrue, sym, ◌∙◌, ap, subst}
use Rattle.std.proofs.lemmas.Result.{on_ok_weaker}
use Rattle.disk.specs.Image.{overwritten}
use Rattle.model.specs.Stream.{Octets}
use Rattle.copy_writing.specs.Writing.{IsCopyOf}
use Rattle.copy_writing.proofs.Laid.{is_copy}
use Rattle.copy_writing.proofs.complete.Goals as goal

pub returns-clause-copied : goal.returns-clause-copied
returns-clause-copied g c t =
    let plan = c.args.plan.now in
    let device = g.D.Disk.device in
    let old = device c.args.disk.now in
    let synced = subst (λ (b : Bool). IsTrue b) (sym c.sync.ensures.tells) t in
    let written = subst (λ (b : Bool). IsTrue b) (sym c.write.ensures.tells) synced in
    on_ok_weaker c.sync-2.result
    (λ (same : (device c.sync-2.new.disk).content ≡ (device c.write.new.disk).content) homes laid.
    subst (λ (o : Octets). IsCopyOf plan.label.now plan.format homes o)
    (sym (same ∙ c.in_ok-write.ensures.content synced
    ∙ ap (λ (o : Octets). overwritten 0 o (device c.sync.new.disk).content) c.deref.ensures.value
    ∙ ap (λ (o : Octets). overwritten 0 c.in-Ok.octets.items o) (c.in_ok-sync.ensures.content t)))
    (is_copy plan.label.now c.in-Ok.octets.items old.content homes plan.blocks plan.format c.in-Ok.ensures laid))
    (c.sync-2.ensures.content written)
