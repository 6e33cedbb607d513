use Rattle.std.proofs.Common.{◌≡◌, ◌+◌, ◌<◌, ◌^◌, ap, sym, ◌∙◌, subst, arith, length}
use Rattle.std.specs.Prelude.{Some, true, option_map}
use Rattle.model.specs.Answer.{answer}
use Rattle.model.specs.declared.session.Answer.{Answer}
use Rattle.session_posting.specs.Accepted.{change_of}
use Rattle.session.specs.Served.{IsServed}
use Rattle.session.specs.declared.Served.{Served}
use Rattle.session.proofs.Serving.{full_served, is_full_served, not_long}
use Rattle.session.proofs.serve.Goals as goal

pub file-requires : goal.file-requires
file-requires g c =
    let s = c.args.spool.now in
    let host = g.S.LookUps.host_of s in
    let S = g.S.LookUps.changes s in
    let x = c.args.session.now in
    let m = c.args.received in
    let t = c.args.moment in
    let k = c.in_ok-answered.field-0.mark in
    let its = change_of c.in-Some.accepted in
    let makes : (answer host S x m t k).change ≡ Some its = ap (λ (a : Answer). a.change) (sym c.in_ok-answered.ensures.answer)
    ∙ ap (option_map change_of) c.in-Some.is in
    let few : length S + 1 < 2 ^ 64 = omega (arith, g.met.S.LookUps.few s) in
    c.lawful_stays.ensures.spool host S x m t k its (g.met.S.LookUps.good_host s)
    (g.met.S.LookUps.lawful s) c.requires c.seconds-seconds.ensures.limit few
    (not_long host S x m t k its c.in_ok-answered.ensures.mark makes) makes

pub returns-in-Err-Full-clause-ok : goal.returns-in-Err-Full-clause-ok
returns-in-Err-Full-clause-ok g c =
    let s = c.args.spool.now in
    let host = g.S.LookUps.host_of s in
    let S = g.S.LookUps.changes s in
    let x = c.args.session.now in
    let m = c.args.received in
    let t = c.args.moment in
    let k = c.in_ok-answered.field-0.mark in
    let its = change_of c.in-Some.accepted in
    let lacks = g.S.ChangeSpool.lacks_room s in
    let adds = g.S.ChangeSpool.adds s c.file.new.spool in
    let made = g.S.Source.octets_of c.file.new.spool in
    let keeps = g.S.Source.keeps c.file.new.spool in
    let makes : (answer host S x m t k).change ≡ Some its = ap (λ (a : Answer). a.change) (sym c.in_ok-answered.ensures.answer)
    ∙ ap (option_map change_of) c.in-Some.is in
    let room : lacks its ≡ true = c.in-Err-Full.ensures.0 c.in-Err-Full.field-0-is in
    let said = ap full_served c.in_ok-full-in-Err-Full.ensures in
    subst (λ (v : Served). IsServed host S made keeps lacks adds (c.file.new.spool ≡ s) x m t v) (sym said)
    (is_full_served host S made keeps lacks adds (c.file.new.spool ≡ s) x m t k its c.in_ok-answered.ensures.mark makes room
    c.in-Err-Full.ensures.1)
