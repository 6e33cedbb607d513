use Rattle.std.proofs.Common.{◌≡◌, ◌<◌, ◌∙◌, sym, ap, subst, List, ℕ, length, map, get_or, arith, true, false}
use Rattle.std.specs.Prelude.{nat_lt}
use Rattle.std.proofs.lemmas.List.{length-map, get_or-map}
use Rattle.model.specs.Spool.{NewsExpiry, serial_of}
use Rattle.model.proofs.Joined.{map_twice}
use Rattle.spool_groups.specs.Finding.{Rise}
use Rattle.spool_groups.specs.declared.group.Expired.{Expired}
use Rattle.spool_groups.proofs.Searching.{below_parts, first_reaching, none_reaching, mapped_get}
use Rattle.spool_groups.proofs.group.Group.expired_at.Goals as goal

pub returns-then-place-len : goal.returns-then-place-len
returns-then-place-len c = λ rise.
    let xs : List Expired = c.deref.result.now in
    let same : xs ≡ c.args.self.now.expired.items = c.deref.ensures.value in
    let named : Expired → NewsExpiry = λ e. record { serial = e.serial; group = c.args.self.now.name; number = e.number } in
    let rises : Rise (map (λ (e : Expired). e.number) xs) =
    subst (λ (es : List Expired). Rise (map (λ (e : Expired). e.number) es)) (sym same)
    (subst Rise (map_twice (λ (e : NewsExpiry). e.number) named c.args.self.now.expired.items) rise) in
    let at = c.expiries_below-place.ensures.partitioned
    (λ i j d order low passed. below_parts (λ (e : Expired). e.number) c.args.number xs rises i j d order low passed) in
    let size : length xs ≡ length c.args.self.now.expired.items = ap (λ (es : List Expired). length es) same in
    sym (ap serial_of (none_reaching (map named c.args.self.now.expired.items) c.args.number
    (λ j d low. mapped_get named (λ e. nat_lt e.number c.args.number ≡ true) c.args.self.now.expired.items j d low
    (λ small e. subst (λ (es : List Expired). nat_lt (get_or es j e).number c.args.number ≡ true) same
    (at.0 j e (omega arith) (omega (arith, c.if-place-len.true, c.len.ensures, size, c.args.self.now.expired.ok)))))))

pub returns : goal.returns
returns c = λ rise.
    let xs : List Expired = c.deref.result.now in
    let items : List Expired = c.args.self.now.expired.items in
    let same : xs ≡ items = c.deref.ensures.value in
    let named : Expired → NewsExpiry = λ e. record { serial = e.serial; group = c.args.self.now.name; number = e.number } in
    let rises : Rise (map (λ (e : Expired). e.number) xs) =
    subst (λ (es : List Expired). Rise (map (λ (e : Expired). e.number) es)) (sym same)
    (subst Rise (map_twice (λ (e : NewsExpiry). e.number) named items) rise) in
    let at = c.expiries_below-place.ensures.partitioned
    (λ i j d order low passed. below_parts (λ (e : Expired). e.number) c.args.number xs rises i j d order low passed) in
    let size : length xs ≡ length items = ap (λ (es : List Expired). length es) same in
    let place : ℕ = c.expiries_below-place.result in
    let within : place < length items =
    omega (arith, c.if-place-len.false, c.len.ensures, size, c.args.self.now.expired.ok, c.expiries_below-place.ensures.bound) in
    let count : length (map named items) ≡ length items = length-map items named in
    let within_named : place < length (map named items) = omega arith in
    let r : Expired = c.index.result.now in
    let reaches : nat_lt (get_or (map named items) place (named r)).number c.args.number ≡ false =
    mapped_get named (λ e. nat_lt e.number c.args.number ≡ false) items place (named r) within_named
    (λ small e. subst (λ (es : List Expired). nat_lt (get_or es place e).number c.args.number ≡ false) same
    (at.1 place e (omega arith) (omega arith))) in
    let first = first_reaching (map named items) c.args.number place (named r) within_named reaches
    (λ j before. mapped_get named (λ e. nat_lt e.number c.args.number ≡ true) items j (named r) (omega arith)
    (λ small e. subst (λ (es : List Expired). nat_lt (get_or es j e).number c.args.number ≡ true) same (at.0 j e (omega arith) before))) in
    ap (λ (e : Expired). e.serial) c.index.ensures
    ∙ ap (λ (e : NewsExpiry). e.serial) (sym (get_or-map named items place r (named r) within))
    ∙ sym (ap serial_of first)
