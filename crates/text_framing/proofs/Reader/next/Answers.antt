use Rattle.std.proofs.Common.{rules, sym, ◌∙◌, ap, subst, arith, ◌≡◌, ◌++◌, ◌+◌, ◌≤◌, length, take, drop, replicate, Some, length-drop}
use Rattle.std.proofs.Common.{cond, ◌==◌}
use Rattle.std.proofs.lemmas.List.{drop-drop}
use Rattle.model.specs.Stream.{next, message_of}
use Rattle.model.specs.declared.message.Message.TheVariants.{TooLong}
use Rattle.model.proofs.StreamLaws.{next-never}
use Rattle.text_framing.specs.Held.{NoneEnds, EndsFirst, Sheds}
use Rattle.text_framing.proofs.ReaderLaws.{IsDropped, NeverEnds-found, next-found, Sheds-reads_alike, Sheds-none_ends, Sheds-dropped}
use Rattle.text_framing.proofs.Inside.{IsSearched-mode, unread-slice, awaits_of-view}
use Rattle.text_framing.proofs.Reader.next.Goals as goal

pub invariant_of-self-in-None : goal.invariant_of-self-in-None
invariant_of-self-in-None c =
    let r = c.self.inside in
    let u = drop r.start r.octets.items in
    let before = IsSearched-mode r.awaits r c.args.mode c.self.invariant.searched
    (awaits_of-view r c.args.self.now c.args.mode c.self.view_is c.requires) in
    let none : NoneEnds c.args.mode u r.searched (length u) =
    subst (λ s. NoneEnds c.args.mode s r.searched (length s)) (unread-slice r.octets.items _ r.start c.deref.ensures.value)
    c.in-None.ensures in
    let kept = c.shed-self-inside.new.octets.items in
    let sheds : Sheds r.dropped u c.shed-self-inside.result kept =
    subst (λ s. Sheds r.dropped s c.shed-self-inside.result kept) c.forget_front.ensures c.shed-self-inside.ensures in
    let within : r.searched ≤ length u = omega (arith, c.self.invariant.start, length-drop r.start r.octets.items) in
    let size : length kept ≡ c.len-self-inside.result = omega (arith, c.len-self-inside.ensures, c.shed-self-inside.new.octets.ok.0) in
    record {
      start = omega (arith, c.len-self-inside.ensures);
      half = omega arith;
      dropped = subst (IsDropped c.shed-self-inside.result) size
          (Sheds-dropped c.args.mode u r.dropped r.searched c.self.invariant.dropped before c.shed-self-inside.result kept sheds within);
      searched = subst (λ n. NoneEnds c.args.mode (replicate c.shed-self-inside.result 0 ++ kept) 0 (c.shed-self-inside.result + n)) size
          (Sheds-none_ends c.args.mode u r.dropped r.searched c.self.invariant.dropped before c.shed-self-inside.result kept sheds none);
    }

pub returns-in_ok-message-in-Some-clause-message : goal.returns-in_ok-message-in-Some-clause-message
returns-in_ok-message-in-Some-clause-message c =
    let r = c.self.inside in
    let u = drop r.start r.octets.items in
    let before = IsSearched-mode r.awaits r c.args.mode c.self.invariant.searched
    (awaits_of-view r c.args.self.now c.args.mode c.self.view_is c.requires) in
    let same = unread-slice r.octets.items _ r.start c.deref.ensures.value in
    let found : EndsFirst c.args.mode u r.searched c.in-Some.end =
    subst (λ s. EndsFirst c.args.mode s r.searched c.in-Some.end) same c.in-Some.ensures in
    ap (λ h. next c.args.mode h.rest) (sym c.self.view_is)
    ∙ next-found c.args.mode u r.dropped r.searched c.self.invariant.dropped before c.in-Some.end found
    ∙ ap (λ text. Some (text, drop c.in-Some.end u))
    (ap (λ s. cond (r.dropped == 0) (message_of c.args.mode (take c.in-Some.end s)) TooLong) (sym same)
    ∙ sym c.in_ok-message-in-Some.ensures)
    ∙ ap (λ rest. Some (c.in_ok-message-in-Some.message, rest)) (drop-drop c.in-Some.end r.start r.octets.items
    ∙ sym c.forget_read-self-inside.ensures.rest)

pub returns-in-None-clause-none : goal.returns-in-None-clause-none
returns-in-None-clause-none c =
    let r = c.self.inside in
    let u = drop r.start r.octets.items in
    let before = IsSearched-mode r.awaits r c.args.mode c.self.invariant.searched
    (awaits_of-view r c.args.self.now c.args.mode c.self.view_is c.requires) in
    let none : NoneEnds c.args.mode u r.searched (length u) =
    subst (λ s. NoneEnds c.args.mode s r.searched (length s)) (unread-slice r.octets.items _ r.start c.deref.ensures.value)
    c.in-None.ensures in
    ap (λ h. next c.args.mode h.rest) (sym c.self.view_is)
    ∙ next-never c.args.mode (replicate r.dropped 0 ++ u)
    (NeverEnds-found c.args.mode u r.dropped r.searched c.self.invariant.dropped before none)

pub returns-in-None-clause-alike : goal.returns-in-None-clause-alike
returns-in-None-clause-alike c more =
    let r = c.self.inside in
    let u = drop r.start r.octets.items in
    let before = IsSearched-mode r.awaits r c.args.mode c.self.invariant.searched
    (awaits_of-view r c.args.self.now c.args.mode c.self.view_is c.requires) in
    let none : NoneEnds c.args.mode u r.searched (length u) =
    subst (λ s. NoneEnds c.args.mode s r.searched (length s)) (unread-slice r.octets.items _ r.start c.deref.ensures.value)
    c.in-None.ensures in
    let kept = c.shed-self-inside.new.octets.items in
    let sheds : Sheds r.dropped u c.shed-self-inside.result kept =
    subst (λ s. Sheds r.dropped s c.shed-self-inside.result kept) c.forget_front.ensures c.shed-self-inside.ensures in
    ap (λ h. next c.args.mode (h.rest ++ more)) (sym c.self.view_is)
    ∙ Sheds-reads_alike c.args.mode u r.dropped r.searched c.self.invariant.dropped before c.shed-self-inside.result kept sheds none more

pub invariant_of-self : goal.invariant_of-self
invariant_of-self c = search rules
