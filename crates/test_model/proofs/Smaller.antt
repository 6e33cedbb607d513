-- Where a front lacks the change, the reply begins otherwise.
use Rattle.std.proofs.Common.{◌≡◌, ℕ, ◌+◌, ◌≤◌, refl, ap, lit≤, arith, Bool, true, false}
use Rattle.std.specs.Prelude.{get_or, length, codes, nat_le}
use Rattle.std.proofs.lemmas.Bool.{leb-true, leb-false}
use Rattle.model.specs.Stream.{Octets}
use Rattle.model.specs.Spool.{Spool}
use Rattle.model.specs.Answer.{new_session}
use Rattle.test_model.proofs.Everything.{everything}
use Rattle.test_model.specs.Expiry.{expired}
use Rattle.test_model.specs.Least.{ComesFrom, MustRead, selected, GoneById, BelowByNumber, BelowCurrent, FoundByNumber}
use Rattle.test_model.specs.Texts.{two}
use Rattle.model.specs.declared.session.Answer.{Answer}
use Rattle.model.specs.declared.session.Session.{Session}

-- the front that lacks one more change answers otherwise
must_read : (S : Spool) (x : Session) (text : Octets) (k : ℕ) → k ≤ length S → (ComesFrom S x text k → ⊥) → MustRead S x text (k + 1)
must_read S x text k within other r comes = by_more (nat_le (k + 1) r) refl where
  by_more : (b : Bool) → nat_le (k + 1) r ≡ b → k + 1 ≤ r
  by_more true is = leb-true (k + 1) r is
  by_more false is = absurd (other (comes k (omega (arith, leb-false (k + 1) r is)) within))

-- the first octet of a reply
abbrev first_octet : Answer → ℕ
first_octet a = get_or a.reply 0 0

pub gone_by_id : GoneById
unfolding everything
gone_by_id = must_read expired new_session (codes "STAT <1@a.example>") 4 (lit≤ tt) (λ same. let octets : 50 ≡ 52 = ap first_octet same in
    absurd (omega arith))

pub below_by_number : BelowByNumber
unfolding everything
below_by_number = must_read expired selected (codes "STAT 1") 4 (lit≤ tt) (λ same. let octets : 50 ≡ 52 = ap first_octet same in
    absurd (omega arith))

pub below_current : BelowCurrent
unfolding everything
below_current = must_read expired selected (codes "STAT") 4 (lit≤ tt) (λ same. let octets : 50 ≡ 52 = ap first_octet same in
    absurd (omega arith))

pub found_by_number : FoundByNumber
unfolding everything
found_by_number = must_read two selected (codes "STAT 2") 2 (lit≤ tt) (λ same. let octets : 52 ≡ 50 = ap first_octet same in
    absurd (omega arith))
