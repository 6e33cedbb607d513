use Rattle.std.proofs.Common.{◌≡◌, ◌⊎◌, inl, inr, Bool, IsTrue, sym, ◌∙◌, subst}
use Rattle.disk.proofs.Devices.{elapses_then}
use Rattle.journal_segments.specs.Found.{IsNoVolume}
use Rattle.model.specs.Stream.{Octets}
use Rattle.volume_new.specs.Formatting.{IsLaidOut, IsNewVolume, LacksMagic, completed}
use Rattle.volume_new.proofs.Ends.{left_out, left_then, left_weaker, no_volume}
use Rattle.volume_new.proofs.Laid.{new_made, new_volume}
use Rattle.volume_new.proofs.formatting.write_volume.Goals as goal

pub returns-in_err-remove-clause-during : goal.returns-in_err-remove-clause-during
returns-in_err-remove-clause-during g c =
    let plan = c.args.plan.now in
    left_weaker LacksMagic (λ (o : Octets). IsNoVolume o ⊎ IsNewVolume plan.host.now plan.blocks plan.inodes plan.format o)
    (g.D.Disk.device c.args.disk.now) (g.D.Disk.device c.remove.new.disk)
    (λ t image lacks. inl (no_volume image lacks)) c.remove.ensures.during

pub returns-in_err-lay_out-clause-during : goal.returns-in_err-lay_out-clause-during
returns-in_err-lay_out-clause-during g c =
    let plan = c.args.plan.now in
    left_weaker LacksMagic (λ (o : Octets). IsNoVolume o ⊎ IsNewVolume plan.host.now plan.blocks plan.inodes plan.format o)
    (g.D.Disk.device c.args.disk.now) (g.D.Disk.device c.lay_out.new.disk)
    (λ t image lacks. inl (no_volume image lacks))
    (left_out (g.D.Disk.device c.args.disk.now) (g.D.Disk.device c.remove.new.disk) (g.D.Disk.device c.lay_out.new.disk)
    c.remove.ensures.time c.in_ok-remove.ensures.gone c.lay_out.ensures.leaves c.remove.ensures.during)

pub returns-clause-made : goal.returns-clause-made
returns-clause-made g c t =
    let plan = c.args.plan.now in
    let mid = g.D.Disk.device c.lay_out.new.disk in
    let t1 = subst (λ (b : Bool). IsTrue b) (sym c.remove.ensures.time.tells) t in
    let t2 = subst (λ (b : Bool). IsTrue b) (sym c.lay_out.ensures.leaves.time.tells) t1 in
    new_made c.write_last.result plan.host.now plan.blocks plan.inodes plan.format mid.content (g.D.Disk.device c.write_last.new.disk)
    (new_volume plan.host.now c.deref.result.now c.in-Ok-superblock.superblock.items mid.content plan.blocks plan.inodes plan.format
    plan.named plan.sized c.in-Ok-superblock.ensures (c.deref.ensures.value ∙ c.in-Ok.ensures.octets)
    (subst (λ (o : Octets). IsLaidOut plan.blocks plan.inodes o mid.content) c.deref-2.ensures.value (c.in_ok-lay_out.ensures.laid t1)))
    (c.write_last.ensures.content t2) (c.write_last.ensures.synced t2)

pub returns-clause-during : goal.returns-clause-during
returns-clause-during g c =
    let plan = c.args.plan.now in
    let first = g.D.Disk.device c.args.disk.now in
    let one = g.D.Disk.device c.remove.new.disk in
    let mid = g.D.Disk.device c.lay_out.new.disk in
    let last = g.D.Disk.device c.write_last.new.disk in
    let time = elapses_then first one mid c.remove.ensures.time c.lay_out.ensures.leaves.time in
    left_then (λ (o : Octets). IsNoVolume o ⊎ IsNewVolume plan.host.now plan.blocks plan.inodes plan.format o) first mid last time
    (left_weaker LacksMagic (λ (o : Octets). IsNoVolume o ⊎ IsNewVolume plan.host.now plan.blocks plan.inodes plan.format o) first mid
    (λ t image lacks. inl (no_volume image lacks))
    (left_out first one mid c.remove.ensures.time c.in_ok-remove.ensures.gone c.lay_out.ensures.leaves c.remove.ensures.during))
    (left_weaker (λ (o : Octets). LacksMagic o ⊎ (o ≡ completed mid.content))
    (λ (o : Octets). IsNoVolume o ⊎ IsNewVolume plan.host.now plan.blocks plan.inodes plan.format o) mid last
    (λ t image is. elim is [
      | inl lacks ↦ inl (no_volume image lacks)
      | inr whole ↦
          let t1 = subst (λ (b : Bool). IsTrue b) c.lay_out.ensures.leaves.time.tells t in
          inr (subst (λ (o : Octets). IsNewVolume plan.host.now plan.blocks plan.inodes plan.format o) (sym whole)
          (new_volume plan.host.now c.deref.result.now c.in-Ok-superblock.superblock.items mid.content plan.blocks plan.inodes plan.format
          plan.named plan.sized c.in-Ok-superblock.ensures (c.deref.ensures.value ∙ c.in-Ok.ensures.octets)
          (subst (λ (o : Octets). IsLaidOut plan.blocks plan.inodes o mid.content) c.deref-2.ensures.value
          (c.in_ok-lay_out.ensures.laid t1))))
    ])
    c.write_last.ensures.during)
