-- An answer without lines is the same with its lines made.
use Rattle.std.proofs.Common.{◌≡◌, ℕ, ◌++◌, ◌∙◌, ap, subst, sym}
use Rattle.std.specs.Prelude.{Result, Ok, Err, IfOk, Some}
use Rattle.model.specs.Stream.{Octets}
use Rattle.model.specs.Answer.{says}
use Rattle.model.specs.declared.session.Answer.{Answer}
use Rattle.model.specs.declared.session.Session.{Session}
use Rattle.kernel_outbox.specs.Lines.{IsKept, Reply}
use Rattle.kernel_outbox.specs.declared.made_lines.Lines.{Lines}
use Rattle.session_replies.specs.Answered.{Answered, Answers, answered, made_answer, replied_with, reply_of}

pub plain_answers : (made : Lines → Octets) (keeps : Lines → Type 0) (a : Answered) (answer : Answer) (reads : ℕ)
    → a ≡ answered answer reads → Answers made keeps a answer reads
plain_answers made keeps a answer reads is = record {
  answer_is = ap (λ (b : Answered). made_answer made b) is;
  reads_is = ap (λ (b : Answered). b.reads) is;
  kept = subst (λ (b : Answered). IsKept keeps (reply_of b)) (sym is) tt;
}

pub ok_answers : {E : Type 0} (made : Lines → Octets) (keeps : Lines → Type 0) (r : Result Answered E) (answer : Answer) (reads : ℕ)
    → IfOk r (λ a. a ≡ answered answer reads) → IfOk r (λ a. Answers made keeps a answer reads)
ok_answers made keeps (Ok a) answer reads is = plain_answers made keeps a answer reads is
ok_answers made keeps (Err e) answer reads is = tt

-- a reply of octets and lines, that leaves the session as it is
pub lined_answers : (made : Lines → Octets) (keeps : Lines → Type 0) (a : Answered) (x next : Session) (head : Octets) (lines : Lines)
    (reply : Reply) (answer : Answer) (reads last : ℕ)
    → a ≡ replied_with reply next reads → reply ≡ record { octets = head; lines = Some lines } → next ≡ x → keeps lines
    → says x (head ++ made lines) ≡ answer → reads ≡ last → Answers made keeps a answer last
lined_answers made keeps a x next head lines reply answer reads last a_is reply_is next_is kept answer_is last_is =
    let is : a ≡ replied_with (record { octets = head; lines = Some lines }) x reads =
    a_is ∙ (λ i. replied_with (reply_is i) (next_is i) reads) in
    record {
      answer_is = ap (λ (b : Answered). made_answer made b) is ∙ answer_is;
      reads_is = ap (λ (b : Answered). b.reads) is ∙ last_is;
      kept = subst (λ (b : Answered). IsKept keeps (reply_of b)) (sym is) kept;
    }
