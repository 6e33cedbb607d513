use Rattle.std.proofs.Common.{sym, arith}
use Rattle.std.proofs.lemmas.Bool.{true≢false, le-leb, leb-true}
use Rattle.spool_groups.specs.Shown.{shown}
use Rattle.spool_admission.proofs.Testing.{expired_by_test, expiry_bounds, no_expiry_elsewhere}
use Rattle.spool_admission.proofs.group_admission.may_expire.Goals as goal

pub returns-in_default : goal.returns-in_default
returns-in_default c = λ S is. (
  λ yes. absurd (true≢false (sym yes)),
  λ may. absurd (no_expiry_elsewhere S (record { group = c.args.group.now; number = c.args.number }) (c.in_default.ensures S is) may),
)

pub returns-then-number-low : goal.returns-then-number-low
returns-then-number-low c = λ S is. (
  λ yes. absurd (true≢false (sym yes)),
  λ may. absurd (omega (
    arith,
    (expiry_bounds S (record { group = c.args.group.now; number = c.args.number }) (shown c.in-Some.found.now)
        (c.in-Some.ensures S is) may).0,
  )),
)

pub returns : goal.returns
returns c = λ S is. (
  λ yes. expired_by_test S (record { group = c.args.group.now; number = c.args.number }) (shown c.in-Some.found.now)
      (c.in-Some.ensures S is) (omega arith)
      (omega (arith, c.high.ensures, leb-true c.args.number c.high.result yes)),
  λ may. le-leb c.args.number c.high.result
      (omega (
        arith,
        (expiry_bounds S (record { group = c.args.group.now; number = c.args.number }) (shown c.in-Some.found.now)
            (c.in-Some.ensures S is) may).1,
        c.high.ensures,
      )),
)
