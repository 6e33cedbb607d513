-- The mark of a step, and of what is filed.
use Rattle.std.proofs.Common.{◌≡◌, ℕ, Bool, true, false, refl, ap, sym, ◌∙◌, subst}
use Rattle.std.specs.Prelude.{Option, Some, None, if◌then◌else◌, is_some}
use Rattle.model.specs.Stream.{Octets}
use Rattle.model.specs.Answer.{answer, full_answer, is_long}
use Rattle.model.specs.Reads.{reads}
use Rattle.model.specs.Spool.{Spool}
use Rattle.model.specs.declared.change.Change.{Change}
use Rattle.model.specs.declared.message.Message.{Message}
use Rattle.model.specs.declared.message.Mark.{Mark}
use Rattle.model.specs.declared.message.Mark.TheVariants as mark
use Rattle.model.specs.declared.session.Answer.{Answer}
use Rattle.model.specs.declared.session.Awaits.{Awaits}
use Rattle.model.specs.declared.session.Awaits.TheVariants as awaits
use Rattle.model.specs.declared.session.Session.{Session}
use Rattle.session_replies.specs.Answered.{Answered, answered}
use Rattle.session_posting.specs.declared.refusals.Refusal.TheVariants.{Full}
use Rattle.session.specs.Served.{Grows, IsServed, lacks_room_for, mark_in}
use Rattle.session.specs.declared.Served.{Served}
use Rattle.kernel_outbox.specs.declared.made_lines.Lines.{Lines}

module _ (host : Octets) (S : Spool) (x : Session) (m : Message) (t : ℕ) where
  abbrev step_mark : Bool → Mark
  step_mark b = if b then mark.Long else mark.Served

  -- an answer that makes a change is served, and not too long
  served_by : (b : Bool) (c : Change) → (answer host S x m t (step_mark b)).change ≡ Some c → b ≡ false
  unfolding answer
  served_by true c makes = absurd (cc)
  served_by false c makes = refl

  pub not_long : (k : Mark) (c : Change) → k ≡ step_mark (is_long host S x m) → (answer host S x m t k).change ≡ Some c
      → is_long host S x m ≡ false
  not_long k c is makes = served_by (is_long host S x m) c (ap (λ (k : Mark). (answer host S x m t k).change) (sym is) ∙ makes)

  pub is_served : (k : Mark) (c : Change) → k ≡ step_mark (is_long host S x m) → (answer host S x m t k).change ≡ Some c → k ≡ mark.Served
  is_served k c is makes = is ∙ ap step_mark (not_long k c is makes)

  module _ (lacks : Change → Bool) where
    abbrev mark_by : Bool → Option Change → Mark
    mark_by b change = if b then mark.Long else if lacks_room_for lacks change then mark.Full else mark.Served

    still_by : (b : Bool) → (answer host S x m t (step_mark b)).change ≡ None
        → step_mark b ≡ mark_by b (answer host S x m t mark.Served).change
    still_by true none = refl
    still_by false none = sym (ap (mark_by false) none)

    -- without a change the mark is the step's
    pub mark_still : (k : Mark) → k ≡ step_mark (is_long host S x m) → (answer host S x m t k).change ≡ None
        → k ≡ mark_in host S lacks x m t
    mark_still k is none = is ∙ still_by (is_long host S x m) (ap (λ (k : Mark). (answer host S x m t k).change) (sym is) ∙ none)

    -- with one it is served, or there is no room
    pub mark_filed : (k : Mark) (c : Change) (full : Bool) → k ≡ step_mark (is_long host S x m) → (answer host S x m t k).change ≡ Some c
        → lacks c ≡ full → mark_in host S lacks x m t ≡ (if full then mark.Full else mark.Served)
    mark_filed k c full is makes room =
        let change = ap (λ (k : Mark). (answer host S x m t k).change) (sym (is_served k c is makes)) ∙ makes in
        (λ i. mark_by (not_long k c is makes i) (change i)) ∙ ap (λ (b : Bool). if b then mark.Full else mark.Served) room

  -- where there is no room
  pub full_is : answer host S x m t mark.Full ≡ full_answer x x.awaits
  unfolding answer
  full_is = refl

  pub full_reads : reads host S x m t mark.Full ≡ 0
  unfolding reads
  full_reads = refl

  pub full_none : (full_answer x x.awaits).change ≡ None
  full_none = by_awaits x.awaits where
    by_awaits : (what : Awaits) → (full_answer x what).change ≡ None
    by_awaits awaits.Line = refl
    by_awaits awaits.PostBlock = refl
    by_awaits (awaits.IhaveBlock id) = refl
    by_awaits awaits.Nothing = refl

-- ---- an answer that there is no room

-- the answer where there is no room
abbrev pub full_served : Answered → Served
full_served answered = record { answered = answered; mark = mark.Full; refusal = Some Full; has_accepted = false }

pub is_full_served : (host : Octets) (S : Spool) (made : Lines → Octets) (keeps : Lines → Type 0) (lacks : Change → Bool)
    (adds : Change → Type 0) (stays : Type 0) (x : Session) (m : Message) (t : ℕ) (k : Mark) (c : Change)
    → k ≡ step_mark host S x m t (is_long host S x m) → (answer host S x m t k).change ≡ Some c → lacks c ≡ true → stays
    → IsServed host S made keeps lacks adds stays x m t (full_served (answered (full_answer x x.awaits) 0))
is_full_served host S made keeps lacks adds stays x m t k c is makes room same = record {
  mark = sym (mark_filed host S x m t lacks k c true is makes room);
  reply = ap (λ (a : Answer). a.reply) (sym (full_is host S x m t));
  kept = tt;
  next = ap (λ (a : Answer). a.next) (sym (full_is host S x m t));
  reads = sym (full_reads host S x m t);
  refusal = refl;
  accepted = ap is_some (sym (ap (λ (a : Answer). a.change) (full_is host S x m t) ∙ full_none host S x m t));
  spool = subst (Grows adds stays) (sym (ap (λ (a : Answer). a.change) (full_is host S x m t) ∙ full_none host S x m t)) same;
}
