-- What is said of a posted text, by the cause that it is refused for.
use Rattle.std.proofs.Common.{◌≡◌, ℕ, ◌+◌, refl, Bool, true, false, cond, length}
use Rattle.std.specs.Prelude.{is_some, Option, Some, None, [], ◌∷◌}
use Rattle.std.specs.Option.{option_or}
use Rattle.model.specs.Stream.{Octets}
use Rattle.model.specs.Answer.{post_outcome}
use Rattle.model.specs.Article.{Origin, Posted, as_stored, cause, cause_but_long, first_cause, is_short}
use Rattle.model.specs.Replies.{not_accepted}
use Rattle.model.specs.Spool.{Spool}
use Rattle.model.specs.declared.cause.Cause.{Cause}
use Rattle.model.specs.declared.cause.Cause.TheVariants as causes
use Rattle.model.specs.declared.message.Mark.{Mark}
use Rattle.model.specs.declared.message.Mark.TheVariants as mark
use Rattle.model.specs.declared.session.Session.{Session}
use Rattle.model.proofs.Fronts.{first_none}
use Rattle.session_replies.specs.Answered.{answered}
use Rattle.session_posting.specs.Outcomes.{Replied, mark_by, post_said, posted_by, then_line}
use Rattle.session_posting.specs.declared.refusals.Refusal.TheVariants as refusal

-- ---- causes

either : (a : Option Cause) (short : Bool) (c : Option Cause) → option_or a (cond short None (Some causes.Long)) ≡ c
    → (a ≡ None → cond short None (Some causes.Long) ≡ c)
either None short c is none = is
either (Some d) short c is none = absurd (cc)

but_none : (o : Origin) (text : Octets) → cause o text ≡ None → cause_but_long o text ≡ None
unfolding cause
but_none o text is = first_none (cause_but_long o text) _ is

is_short_so : (short : Bool) → cond short None (Some causes.Long) ≡ None → short ≡ true
is_short_so true is = refl
is_short_so false is = absurd (cc)

stored_short : (o : Origin) (text : Octets) → cause o text ≡ None → is_short (as_stored o text) ≡ true
unfolding cause
stored_short o text is = is_short_so (is_short (as_stored o text))
    (either (cause_but_long o text) (is_short (as_stored o text)) None is (but_none o text is))

first_is_long : (a b c d e f g : Bool)
    → first_cause ((a, causes.Octets) ∷ (b, causes.NoEnd) ∷ (c, causes.Field) ∷ (d, causes.Twice) ∷ (e, causes.Missing)
    ∷ (f, causes.Id) ∷ (g, causes.Groups) ∷ []) ≡ Some causes.Long → ⊥
first_is_long true b c d e f g is = absurd (cc)
first_is_long false true c d e f g is = absurd (cc)
first_is_long false false true d e f g is = absurd (cc)
first_is_long false false false true e f g is = absurd (cc)
first_is_long false false false false true f g is = absurd (cc)
first_is_long false false false false false true g is = absurd (cc)
first_is_long false false false false false false true is = absurd (cc)
first_is_long false false false false false false false is = absurd (cc)

but_never_long : (o : Origin) (text : Octets) → cause_but_long o text ≡ Some causes.Long → ⊥
unfolding cause_but_long
but_never_long o text is = first_is_long _ _ _ _ _ _ _ is

long_parts : (a : Option Cause) (short : Bool) → (a ≡ Some causes.Long → ⊥)
    → option_or a (cond short None (Some causes.Long)) ≡ Some causes.Long
    → (a ≡ None) × (short ≡ false)
long_parts None true never is = absurd (cc)
long_parts None false never is = (refl, refl)
long_parts (Some c) short never is = absurd (never is)

other_parts : (a : Option Cause) (short : Bool) (c : Cause) → (c ≡ causes.Long → ⊥)
    → option_or a (cond short None (Some causes.Long)) ≡ Some c
    → is_some a ≡ true
other_parts (Some d) short c other is = refl
other_parts None true c other is = absurd (cc)
other_parts None false c other is = let one : c ≡ causes.Long = cc in absurd (other one)

-- ---- what is said

module _ (host : Octets) (S : Spool) (x : Session) (t : ℕ) (text : Octets) where
  abbrev origin : Origin
  origin = Posted host (length S + 1)

  pub said_ok : cause origin text ≡ None → post_said host S x t text ≡ posted_by host S x t text
  unfolding post_outcome
  said_ok is =
      let none = but_none origin text is in
      let short = stored_short origin text is in
      rw (is, none, short) refl

  -- an answer that refuses a text for this cause, with this mark
  abbrev said_with : Cause → Mark → Replied
  said_with c mark = record { answered = answered (then_line x not_accepted None) 0; mark = mark; refusal = Some (refusal.Text c) }

  in_parts : (c : Cause) → cause origin text ≡ Some c
      → option_or (cause_but_long origin text) (cond (is_short (as_stored origin text)) None (Some causes.Long)) ≡ Some c
  unfolding cause
  in_parts c is = is

  said_long : cause origin text ≡ Some causes.Long → post_said host S x t text ≡ said_with causes.Long mark.Long
  said_long is =
      let parts = long_parts (cause_but_long origin text) (is_short (as_stored origin text)) (but_never_long origin text)
      (in_parts causes.Long is) in
      rw (parts.0, parts.1, is) refl

  said_other : (c : Cause) → cause origin text ≡ Some c → (c ≡ causes.Long → ⊥) → post_said host S x t text ≡ said_with c mark.Served
  unfolding post_outcome
  said_other c is other =
      let some = other_parts (cause_but_long origin text) (is_short (as_stored origin text)) c other (in_parts c is) in
      rw (some, is) refl

  pub said_refused : (c : Cause) → cause origin text ≡ Some c → post_said host S x t text ≡ said_with c (mark_by c)
  said_refused causes.Octets is = said_other causes.Octets is (λ same. absurd (cc))
  said_refused causes.NoEnd is = said_other causes.NoEnd is (λ same. absurd (cc))
  said_refused causes.Field is = said_other causes.Field is (λ same. absurd (cc))
  said_refused causes.Twice is = said_other causes.Twice is (λ same. absurd (cc))
  said_refused causes.Missing is = said_other causes.Missing is (λ same. absurd (cc))
  said_refused causes.Id is = said_other causes.Id is (λ same. absurd (cc))
  said_refused causes.Groups is = said_other causes.Groups is (λ same. absurd (cc))
  said_refused causes.Long is = said_long is
