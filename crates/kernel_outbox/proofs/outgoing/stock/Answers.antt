use Rattle.std.proofs.Common.{◌≤◌, ◌++◌, List, ℕ, ap, arith, subst, sym, vec_capacity, ◌∙◌}
use Rattle.kernel_outbox.specs.Lines.{IsKept}
use Rattle.kernel_outbox.specs.Outgoing.{IsSound, outgoing}
use Rattle.kernel_outbox.specs.declared.outgoing.Rest.TheVariants as rest
use Rattle.kernel_outbox.proofs.Handing.{lined_sound}
use Rattle.kernel_outbox.proofs.outgoing.stock.Goals as goal

pub returns-in-Some-make_some-clause-sound : goal.returns-in-Some-make_some-clause-sound
returns-in-Some-make_some-clause-sound g c =
    let made = g.S.Source.octets_of c.args.source.now in
    let keeps = g.S.Source.keeps c.args.source.now in
    let octets = c.args.octets.now in
    let left = c.in-Some-make_some.lines in
    let more : vec_capacity octets ≤ vec_capacity c.make_some.new.octets =
    omega (arith, c.to_front-in-Lines.ensures.capacity, c.make_some.ensures.capacity) in
    let front = c.to_front-in-Lines.ensures.items in
    subst (λ start. IsSound (vec_capacity c.make_some.new.octets) c.make_some.new.octets.items start (rest.Lines left))
    (sym c.to_front-in-Lines.ensures.start)
    (lined_sound made keeps (g.met.S.Source.counted c.args.source.now) (vec_capacity octets) (vec_capacity c.make_some.new.octets)
    c.args.start.now octets.items c.make_some.new.octets.items c.in-Lines.lines left
    (subst (IsSound (vec_capacity octets) octets.items c.args.start.now) c.in-Lines.is c.requires.sound)
    (subst (λ left. IsKept keeps (outgoing octets.items c.args.start.now left)) c.in-Lines.is c.requires.kept)
    c.in-Some-make_some.ensures.kept
    (c.in-Some-make_some.ensures.made ∙ ap (λ (os : List ℕ). os ++ made c.in-Lines.lines) front)
    more)
