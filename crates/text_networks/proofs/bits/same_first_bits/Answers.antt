use Rattle.std.proofs.Common.{◌≡◌, ◌+◌, ◌*◌, ◌/◌, ◌%◌, sym, ◌∙◌, subst, refl, take, get_or, arith}
use Rattle.std.proofs.lemmas.Bool.{false≢true, eq-eqb, eqb-true}
use Rattle.std.proofs.lemmas.Slice.Eq.{bytes_eq-Decides}
use Rattle.text_networks.specs.Addresses.{bits_of, octet_bits}
use Rattle.text_networks.proofs.FirstBits.{octets_from_bits, bits_from_octets, bits_from_quotient}
use Rattle.text_networks.proofs.bits.same_first_bits.Goals as goal

pub returns-then-left-eq0 : goal.returns-then-left-eq0
returns-then-left-eq0 c =
    let n = c.args.count in
    let a = c.args.a.now in
    let b = c.args.b.now in
    let parts : n / 8 * 8 + n % 8 ≡ n = omega arith in
    let front = (bytes_eq-Decides (take (n / 8) a) (take (n / 8) b)).0 (sym c.eq.ensures ∙ c.if-eq.true) in
    let none : take (n % 8) (octet_bits (get_or a (n / 8) 0)) ≡ take (n % 8) (octet_bits (get_or b (n / 8) 0)) =
    rw c.if-left-eq0.true refl in (
      λ _. subst (λ m. take m (bits_of a) ≡ take m (bits_of b)) parts
          (bits_from_octets (n / 8) (n % 8) a b (omega arith) c.requires.same_family (omega arith) front none),
      λ _. eq-eqb _ _ c.if-left-eq0.true,
    )

pub returns-else-left-eq0 : goal.returns-else-left-eq0
returns-else-left-eq0 c =
    let n = c.args.count in
    let a = c.args.a.now in
    let b = c.args.b.now in
    let parts : n / 8 * 8 + n % 8 ≡ n = omega arith in
    let front = (bytes_eq-Decides (take (n / 8) a) (take (n / 8) b)).0 (sym c.eq.ensures ∙ c.if-eq.true) in (
      λ t. subst (λ m. take m (bits_of a) ≡ take m (bits_of b)) parts
          (bits_from_octets (n / 8) (n % 8) a b (omega arith) c.requires.same_family (omega arith) front
          (bits_from_quotient (n % 8) _ _ (omega arith) (eqb-true _ _ t))),
      λ e. eq-eqb _ _
          (octets_from_bits (n / 8) (n % 8) a b (omega arith) (λ k. omega (arith, c.type_inv.a k))
          (λ k. omega (arith, c.type_inv.b k)) c.requires.same_family (omega arith)
          (subst (λ m. take m (bits_of a) ≡ take m (bits_of b)) (sym parts) e)).1,
    )

pub returns-else-eq : goal.returns-else-eq
returns-else-eq c =
    let n = c.args.count in
    let a = c.args.a.now in
    let b = c.args.b.now in
    let parts : n / 8 * 8 + n % 8 ≡ n = omega arith in (
      λ t. absurd (false≢true (sym c.if-eq.false ∙ t)),
      λ e. c.eq.ensures
          ∙ (bytes_eq-Decides (take (n / 8) a) (take (n / 8) b)).1
          (octets_from_bits (n / 8) (n % 8) a b (omega arith) (λ k. omega (arith, c.type_inv.a k))
          (λ k. omega (arith, c.type_inv.b k)) c.requires.same_family (omega arith)
          (subst (λ m. take m (bits_of a) ≡ take m (bits_of b)) (sym parts) e)).0,
    )
