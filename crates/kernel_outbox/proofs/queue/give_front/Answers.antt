use Rattle.std.proofs.Common.{
  ◌≡◌,
  ◌-◌,
  ◌<◌,
  ◌≤◌,
  ◌∷◌,
  ◌++◌,
  ◌||◌,
  [],
  Bool,
  List,
  length,
  get_or,
  set,
  take,
  drop,
  refl,
  sym,
  ◌∙◌,
  ap,
  subst,
  arith,
}
use Rattle.std.proofs.Common.{true, false}
use Rattle.std.proofs.Math.Path.{transport}
use Rattle.std.proofs.lemmas.Bool.{leb-true}
use Rattle.std.proofs.lemmas.List.Elements.{All-tail}
use Rattle.kernel_outbox.specs.Lines.{AllAreKept, HeldReply, IsKept, outputs_of, whole}
use Rattle.kernel_outbox.specs.Queue.{give}
use Rattle.kernel_outbox.proofs.LoopLaws.{GoesOn, goes_past}
use Rattle.kernel_outbox.proofs.queue.give_front.Goals as goal
use Rattle.kernel_outbox.proofs.queue.give_front.Goals.{then-ended, else-ended}

-- the first element, and those behind it
first_of : (held : List HeldReply) (front : HeldReply) → 0 < length held → front ≡ get_or held 0 front → held ≡ front ∷ drop 1 held
first_of [] front some is = absurd (omega arith)
first_of (h ∷ hs) front some is = ap (λ (x : HeldReply). x ∷ hs) (sym is)

same_first : (held : List HeldReply) (a b : HeldReply) → 0 < length held → a ≡ get_or held 0 a → b ≡ get_or held 0 b → a ≡ b
same_first [] a b some is also = absurd (omega arith)
same_first (h ∷ hs) a b some is also = is ∙ sym also

behind_first : (held : List HeldReply) (front : HeldReply) → drop 1 (set held 0 front) ≡ drop 1 held
behind_first [] front = refl
behind_first (h ∷ hs) front = refl

-- a session ends with this output, or it ended before
ended_before : (before ends now : Bool) → before ≡ true → now ≡ before → now ≡ (before || ends)
ended_before before ends now is same = same ∙ is ∙ ap (λ (b : Bool). b || ends) (sym is)

ended_here : (before ends now end : Bool) → before ≡ false → now ≡ end → end ≡ ends → now ≡ (before || ends)
ended_here before ends now end is same also = same ∙ also ∙ ap (λ (b : Bool). b || ends) (sym is)

pub loop-front-preserved-after-ended : goal.loop-front-preserved-after-ended
loop-front-preserved-after-ended g c =
    let made = g.S.Source.octets_of c.args.source.now in
    let keeps = g.S.Source.keeps c.args.source.now in
    let l = c.loop-front in
    let held = l.outputs.items in
    let front = c.in-Some.front.now in
    let some : 0 < length held = omega (arith, c.in-Some.ensures.variant.0 refl, l.outputs.ok.0) in
    let held_is : held ≡ front ∷ drop 1 held = first_of held front some c.in-Some.ensures.lookup in
    let same : c.index_mut.result.now ≡ front =
    same_first held c.index_mut.result.now front some c.index_mut.ensures.value c.in-Some.ensures.lookup in
    let left : c.pop_front.new.self.items ≡ drop 1 held = c.pop_front.ensures.rest ∙ behind_first held c.move_into.new.self in
    let near : front.dependency ≤ c.args.durable = omega (arith, c.dependency-dependency.ensures, c.if-dependency-durable.false) in
    let room : length l.octets.items < 65_536 =
    omega (arith, c.if-len-eq-RELEASE_OCTETS.false, c.len.ensures, l.invariant.bound, l.octets.ok.0) in
    let all : length (whole made c.index_mut.result.now.reply) ≤ 65_536 - length l.octets.items =
    leb-true _ _ (sym c.move_into.ensures.whole ∙ c.if-not-move_into.false) in
    let short = subst (λ (h : HeldReply). length (whole made h.reply) ≤ 65_536 - length l.octets.items) same all in
    let moved = c.move_into.ensures.moved
    ∙ ap (λ (h : HeldReply). l.octets.items ++ take (65_536 - length l.octets.items) (whole made h.reply)) same in
    let ended : c.if-ended.ended ≡ (l.ended || front.ends) = elim c.if-ended.branch [
      | then-ended w ↦ ended_before l.ended front.ends c.if-ended.ended w.if-ended.true w.ended-is
      | else-ended w ↦ ended_here l.ended front.ends c.if-ended.ended c.ends-ends.result w.if-ended.false w.ended-is c.ends-ends.ensures
    ] in
    let all_given = give c.args.durable (65_536 - length c.args.octets.now.items) c.args.given.now
    (outputs_of made c.args.outputs.now.items) in
    let goes = goes_past made all_given
    c.args.durable l.given front (drop 1 held) held c.args.octets.now.items l.octets.items c.move_into.new.into.items l.ended held_is near
    room short moved l.invariant.goes_on in
    record {
      goes_on = transport (λ i. GoesOn all_given
          (give c.args.durable (65_536 - length c.move_into.new.into.items) (sym c.dependency-dependency.ensures i)
          (outputs_of made (sym left i))) c.args.octets.now.items c.move_into.new.into.items (sym ended i)) goes;
      kept = subst (AllAreKept keeps) (sym left)
          (All-tail (λ (h : HeldReply). IsKept keeps h.reply) front (drop 1 held) (subst (AllAreKept keeps) held_is l.invariant.kept));
      bound = c.move_into.ensures.bound;
      room = c.move_into.ensures.capacity;
      capacity = c.pop_front.ensures.capacity ∙ l.invariant.capacity;
    }
