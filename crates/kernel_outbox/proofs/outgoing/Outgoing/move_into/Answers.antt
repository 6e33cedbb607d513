use Rattle.std.proofs.Common.{◌≡◌, ◌-◌, ◌<◌, ◌≤◌, ◌++◌, List, ℕ, ◌∙◌, ap, arith, drop, length, take, length-drop, subst}
use Rattle.std.proofs.lemmas.List.{length-take, take_all}
use Rattle.kernel_outbox.specs.Lines.{Reply, whole}
use Rattle.kernel_outbox.proofs.Handing.{all_out, handed_out, none_left}
use Rattle.kernel_outbox.proofs.outgoing.Outgoing.move_into.Goals as goal

pub returns-then-made-room-clause-left : goal.returns-then-made-room-clause-left
returns-then-made-room-clause-left g c =
    let made = g.S.Source.octets_of c.args.source.now in
    let octets = c.stock.new.octets.items in
    let start = c.stock.new.start in
    let room = 65_536 - c.len-room.result in
    let before = c.args.into.now.items in
    let room_is : room ≡ 65_536 - length before = omega (arith, c.len-room.ensures, c.args.into.now.ok.0) in
    let more : room < length (take (length octets - start) (drop start octets)) =
    subst (λ (os : List ℕ). room < length (take (length os - start) (drop start os))) c.deref.ensures.value c.if-made-room.true in
    let within : room ≤ length (drop start octets) = omega (arith, more, length-take (length octets - start) (drop start octets)) in
    handed_out made octets start room c.stock.new.rest within
    ∙ ap (drop room) (c.stock.ensures.same ∙ ap (λ (r : Reply). whole made r) c.self.view_is)
    ∙ ap (λ (n : ℕ). drop n (whole made c.args.self.now)) room_is

pub returns-clause-moved : goal.returns-clause-moved
returns-clause-moved g c =
    let made = g.S.Source.octets_of c.args.source.now in
    let octets = c.stock.new.octets.items in
    let start = c.stock.new.start in
    let room = 65_536 - c.len-room.result in
    let before = c.args.into.now.items in
    let room_is : room ≡ 65_536 - length before = omega (arith, c.len-room.ensures, c.args.into.now.ok.0) in
    let all : take (length octets - start) (drop start octets) ≡ drop start octets =
    take_all (length octets - start) (drop start octets) (omega (arith, length-drop start octets)) in
    let few : length (take (length octets - start) (drop start octets)) ≤ room =
    subst (λ (os : List ℕ). length (take (length os - start) (drop start os)) ≤ room) c.deref.ensures.value c.if-made-room.false in
    c.append-2.ensures.items
    ∙ ap (λ (os : List ℕ). before ++ os)
    (ap (λ (os : List ℕ). take (length os - start) (drop start os)) c.deref.ensures.value
    ∙ all
    ∙ all_out made octets start room c.stock.new.rest c.stock.ensures.stocked
    (omega (arith, few, ap (λ (os : List ℕ). length os) all)) (omega arith)
    ∙ ap (take room) (c.stock.ensures.same ∙ ap (λ (r : Reply). whole made r) c.self.view_is)
    ∙ ap (λ (n : ℕ). take n (whole made c.args.self.now)) room_is)

pub returns-clause-left : goal.returns-clause-left
returns-clause-left g c =
    let made = g.S.Source.octets_of c.args.source.now in
    let octets = c.stock.new.octets.items in
    let start = c.stock.new.start in
    let room = 65_536 - c.len-room.result in
    let before = c.args.into.now.items in
    let room_is : room ≡ 65_536 - length before = omega (arith, c.len-room.ensures, c.args.into.now.ok.0) in
    let all : take (length octets - start) (drop start octets) ≡ drop start octets =
    take_all (length octets - start) (drop start octets) (omega (arith, length-drop start octets)) in
    let few : length (take (length octets - start) (drop start octets)) ≤ room =
    subst (λ (os : List ℕ). length (take (length os - start) (drop start os)) ≤ room) c.deref.ensures.value c.if-made-room.false in
    none_left made octets start c.len-self-inside.result room c.stock.new.rest c.stock.ensures.stocked
    (omega (arith, few, ap (λ (os : List ℕ). length os) all)) (omega arith)
    (omega (arith, c.len-self-inside.ensures, c.stock.new.octets.ok.0))
    ∙ ap (drop room) (c.stock.ensures.same ∙ ap (λ (r : Reply). whole made r) c.self.view_is)
    ∙ ap (λ (n : ℕ). drop n (whole made c.args.self.now)) room_is
