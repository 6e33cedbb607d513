use Rattle.std.proofs.Common.{◌+◌, inl, inr, ℕ, arith, eqb, subst, sym, ◌∙◌}
use Rattle.std.specs.Prelude.{◌||◌, IsTrue}
use Rattle.spool_reading.specs.Sorting.{IsMemberOf}
use Rattle.spool_reading.proofs.Members.{front_long, front_octet, front_rest, is_member_of, may_count}
use Rattle.spool_reading.proofs.packs.member_of.Goals as goal

pub returns-then-size : goal.returns-then-size
returns-then-size c = λ octets is left may.
    let said = sym (front_rest octets c.args.front.now 13 4 is (omega arith)) ∙ c.content_size_in.ensures in
    let its = may_count octets c.content_size_in.result may said (omega (arith, c.content_size_in.type_inv)) in
    elim c.then-size.either [
      | inl less ↦ omega (arith, less, its.0, c.from-2.ensures)
      | inr past ↦ omega (arith, past.1, its.1, c.from-2.ensures, left)
    ]

pub returns : goal.returns
returns c = λ octets is left.
    let front = c.args.front.now in
    let kind = sym c.is_packed_kind.ensures ∙ c.if-not-is_packed_kind.false in
    subst (λ (n : ℕ). IsMemberOf octets (17 + n) c.in_ok-serial.serial) (sym c.from-2.ensures)
    (is_member_of octets c.content_size_in.result c.in_ok-serial.serial
    (front_long octets front is (omega (arith, c.if-front-lt-FRONT_SIZE.false)))
    (omega (arith, front_octet octets front 0 is (omega arith), c.from.ensures, c.if-from-ne-NAME_SIZE.false))
    (subst (λ (n : ℕ). IsTrue (eqb n 97 || eqb n 120)) (front_octet octets front 1 is (omega arith)) kind)
    (sym (front_rest octets front 13 4 is (omega arith)) ∙ c.content_size_in.ensures) (omega (arith, c.content_size_in.type_inv))
    (omega (arith, c.if-size.false, c.from-2.ensures)) (omega (arith, c.if-size-left.false, c.from-2.ensures, left))
    (sym (front_rest octets front 17 8 is (omega arith)) ∙ c.in_ok-serial.ensures))
