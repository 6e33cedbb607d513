-- A step by what the session awaits is the step of the session.
use Rattle.std.proofs.Common.{◌≡◌, ℕ, Bool, true, false, refl, sym, subst, ap, ◌∙◌}
use Rattle.std.specs.Prelude.{Option, Some, None, Result, Ok, Err, IfOk, IfSome, IsSome, option_map, if◌then◌else◌}
use Rattle.std.proofs.lemmas.Bool.{false≢true}
use Rattle.model.specs.Stream.{Octets}
use Rattle.model.specs.Answer.{answer, awaiting, is_long, is_long_as_stored, is_long_by, post_answer, post_outcome, says, served}
use Rattle.model.specs.Reads.{outcome_reads, reads, served_reads}
use Rattle.model.specs.Replies.{not_accepted}
use Rattle.model.specs.Spool.{Spool}
use Rattle.model.specs.declared.message.Mark.TheVariants as mark
use Rattle.model.specs.declared.message.Message.{Message}
use Rattle.model.specs.declared.message.Message.TheVariants as message
use Rattle.model.specs.declared.change.Change.{Change}
use Rattle.model.specs.declared.session.Answer.{Answer}
use Rattle.model.specs.declared.session.Awaits.{Awaits}
use Rattle.model.specs.declared.session.Awaits.TheVariants as awaits
use Rattle.kernel_outbox.specs.Lines.{with_lines}
use Rattle.kernel_outbox.specs.declared.made_lines.Lines.{Lines}
use Rattle.model.specs.declared.session.Session.{Session}
use Rattle.session_posting.specs.Outcomes.{Replied, post_said, said_of, said_served, then_line, transfer_said}
use Rattle.session_posting.specs.Refusals.{awaited_refusal, post_refusal}
use Rattle.session_replies.specs.Answered.{Answered, Answers, answered, made_answer}
use Rattle.session.specs.Served.{refusal_in}
use Rattle.session.specs.Steps.{IsStep, step_of}

module _ (host : Octets) (S : Spool) (x : Session) (t : ℕ) (m : Message) where
  -- by whether it is an article that is too long
  abbrev by_length : Bool → Replied
  by_length b = if b
      then record {
        answered = answered (says (awaiting x awaits.Line) not_accepted) 0;
        mark = mark.Long;
        refusal = awaited_refusal host S x.awaits m;
      }
      else said_of (awaited_refusal host S x.awaits m) (answered (served host S x t x.awaits m) (served_reads host S x t x.awaits m))

  answer_by : (b : Bool) → (by_length b).answered.answer ≡ answer host S x m t (by_length b).mark
  unfolding answer
  answer_by true = refl
  answer_by false = refl

  reads_by : (b : Bool) → (by_length b).answered.reads ≡ reads host S x m t (by_length b).mark
  unfolding reads
  reads_by true = refl
  reads_by false = refl

  mark_by : (b : Bool) → (by_length b).mark ≡ (if b then mark.Long else mark.Served)
  mark_by true = refl
  mark_by false = refl

  refusal_by : (b : Bool) → (by_length b).refusal ≡ refusal_in host S x m (by_length b).mark
  refusal_by true = refl
  refusal_by false = refl

  -- a step has no lines
  lines_by : (b : Bool) → (by_length b).answered.lines ≡ None
  lines_by true = refl
  lines_by false = refl

  module _ (made : Lines → Octets) (keeps : Lines → Type 0) (s : Replied) (is : IsStep made keeps s (step_of host S x t x.awaits m)) where
    pub step_answer : made_answer made s.answered ≡ answer host S x m t s.mark
    step_answer = is.answers.answer_is ∙ answer_by (is_long_by host S x.awaits m) ∙ ap (answer host S x m t) (sym is.mark)

    pub step_reads : s.answered.reads ≡ reads host S x m t s.mark
    step_reads = is.answers.reads_is ∙ reads_by (is_long_by host S x.awaits m) ∙ ap (reads host S x m t) (sym is.mark)

    pub step_mark : s.mark ≡ (if is_long host S x m then mark.Long else mark.Served)
    unfolding is_long
    step_mark = is.mark ∙ mark_by (is_long_by host S x.awaits m)

    pub step_refusal : s.refusal ≡ refusal_in host S x m s.mark
    step_refusal = is.refusal ∙ refusal_by (is_long_by host S x.awaits m) ∙ ap (refusal_in host S x m) (sym is.mark)

-- ---- steps without lines, and with them

bare : (made : Lines → Octets) (a : Answered) → a.lines ≡ None → made_answer made a ≡ a.answer
bare made a none =
    ap (λ (lines : Option Lines). record {
      reply = with_lines made a.answer.reply lines;
      next = a.answer.next;
      change = a.answer.change;
    }) none

pub plain_step : (made : Lines → Octets) (keeps : Lines → Type 0) (s step : Replied) → s ≡ step → step.answered.lines ≡ None
    → IsStep made keeps s step
plain_step made keeps s step is none =
    let lines : s.answered.lines ≡ None = ap (λ (r : Replied). r.answered.lines) is ∙ none in
    record {
      answers = record {
        answer_is = ap (λ (r : Replied). made_answer made r.answered) is ∙ bare made step.answered none;
        reads_is = ap (λ (r : Replied). r.answered.reads) is;
        kept = subst (λ (ls : Option Lines). IfSome ls keeps) (sym lines) tt;
      };
      mark = ap (λ (r : Replied). r.mark) is;
      refusal = ap (λ (r : Replied). r.refusal) is;
      unlined = λ some. lines;
    }

pub ok_step : {E : Type 0} {X : Type 0} (made : Lines → Octets) (keeps : Lines → Type 0) (of : X → Replied) (r : Result X E)
    (step : Replied) → step.answered.lines ≡ None → IfOk r (λ s. of s ≡ step) → IfOk r (λ s. IsStep made keeps (of s) step)
ok_step made keeps of (Ok s) step none is = plain_step made keeps (of s) step is none
ok_step made keeps of (Err e) step none is = tt

pub no_lines : (host : Octets) (S : Spool) (x : Session) (t : ℕ) (what : Awaits) (m : Message)
    → (step_of host S x t what m).answered.lines ≡ None
no_lines host S x t what m = go (is_long_by host S what m)
  where
    go : (b : Bool) → (let r : Replied =
        if b
        then record {
          answered = answered (says (awaiting x awaits.Line) not_accepted) 0;
          mark = mark.Long;
          refusal = awaited_refusal host S what m;
        }
        else said_of (awaited_refusal host S what m) (answered (served host S x t what m) (served_reads host S x t what m)) in
        r.answered.lines ≡ None)
    go true = refl
    go false = refl

-- an answer to a line, which makes no change
pub line_step : (made : Lines → Octets) (keeps : Lines → Type 0) (s : Replied) (a : Answered) (its : Answer) (n : ℕ)
    → Answers made keeps a its n → its.change ≡ None → s ≡ said_served a
    → IsStep made keeps s (said_served (answered its n))
line_step made keeps s a its n is none same = record {
  answers = subst (λ (r : Replied). Answers made keeps r.answered its n) (sym same) is;
  mark = ap (λ (r : Replied). r.mark) same;
  refusal = ap (λ (r : Replied). r.refusal) same;
  unlined = λ some.
      let nothing : s.answered.answer.change ≡ None = ap (λ (r : Replied). r.answered.answer.change) same
      ∙ ap (λ (b : Answer). b.change) is.answer_is ∙ none in
      absurd (false≢true (subst (λ (c : Option Change). IsSome c) nothing some));
}

-- an article that is accepted makes a change
pub makes_one : {X Y : Type 0} (f : X → Y) (o : Option X) → IsSome o → IsSome (option_map f o)
makes_one f None some = some
makes_one f (Some x) some = refl

-- What is said of a posted article is its step.
module _ (host : Octets) (S : Spool) (x : Session) (t : ℕ) (text : Octets) where
  abbrev said_by : Bool → Replied
  said_by b = if b
      then record { answered = answered (then_line x not_accepted None) 0; mark = mark.Long; refusal = post_refusal host S text }
      else said_of (post_refusal host S text) (answered (post_answer host S x t text) (outcome_reads S (post_outcome host S text)))

  abbrev step_by : Bool → Replied
  step_by b = if b
      then record {
        answered = answered (says (awaiting x awaits.Line) not_accepted) 0;
        mark = mark.Long;
        refusal = awaited_refusal host S awaits.PostBlock (message.Block text);
      }
      else said_of (awaited_refusal host S awaits.PostBlock (message.Block text))
      (answered (served host S x t awaits.PostBlock (message.Block text)) (served_reads host S x t awaits.PostBlock (message.Block text)))

  posted_by : (b : Bool) → said_by b ≡ step_by b
  unfolding served served_reads
  posted_by true = refl
  posted_by false = refl

  pub post_step : post_said host S x t text ≡ step_of host S x t awaits.PostBlock (message.Block text)
  post_step = posted_by (is_long_as_stored host S text)

-- What is said of a carried article is its step.
pub transfer_step : (host : Octets) (S : Spool) (x : Session) (t : ℕ) (id text : Octets)
    → transfer_said S x t id text ≡ step_of host S x t (awaits.IhaveBlock id) (message.Block text)
unfolding served served_reads
transfer_step host S x t id text = refl
