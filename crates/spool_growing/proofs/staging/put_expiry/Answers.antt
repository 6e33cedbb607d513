use Rattle.std.proofs.Common.{◌≡◌, ◌≤◌, ◌∷◌, List, ℕ, length, ◌∙◌, ap, arith, subst}
use Rattle.std.proofs.lemmas.Result.{IfOk-weaker, on_ok_weaker}
use Rattle.model.specs.SpoolFiles.{expiry_name}
use Rattle.fs.specs.Touches.{Touches}
use Rattle.fs_layout.proofs.Touching.{touches_more}
use Rattle.spool_index.specs.Viewed.{place_of}
use Rattle.spool_growing.specs.Putting.{PutsAt, touched_by_put}
use Rattle.spool_growing.proofs.staging.put_expiry.Goals as goal

pub returns-clause-puts : goal.returns-clause-puts
returns-clause-puts g c =
    let old = g.B.Blocks.blocks c.args.blocks.now in
    let new = g.B.Blocks.blocks c.put_file.new.blocks in
    let name : c.deref.result.now ≡ expiry_name c.args.serial = c.deref.ensures.value ∙ c.in_ok-name.ensures
    ∙ ap (λ (d : List ℕ). 120 ∷ 46 ∷ d) c.serial_digits.ensures in
    IfOk-weaker c.put_file.result _ _
    (λ at puts. subst (λ (q : List ℕ). PutsAt c.args.inodes (place_of at) (record { name = q; content = c.args.record.now }) old new)
    name puts)
    c.put_file.ensures.puts

pub returns-clause-touches : goal.returns-clause-touches
returns-clause-touches g c =
    let old = g.B.Blocks.blocks c.args.blocks.now in
    let new = g.B.Blocks.blocks c.put_file.new.blocks in
    let reached = touched_by_put (length c.args.record.now) in
    let few : reached ≤ 254 = omega (arith, c.requires.short) in
    on_ok_weaker {P = Touches reached old new} {Q = Touches 254 old new} c.put_file.result (touches_more reached 254 old new few)
    c.put_file.ensures.touches
