use Rattle.std.proofs.Common.{◌≡◌, ◌≢◌, ◌<◌, [], ◌∷◌, ◌++◌, All, Some, IfSome, IfNone, length, sym, ap, subst, ◌∙◌, rules}
use Rattle.std.proofs.Common.{arith}
use Rattle.std.proofs.lemmas.Bool.{eqb-false}
use Rattle.std.proofs.KnownBytes.{Consumes-trans}
use Rattle.std.specs.Io.KnownBytes.{Consumes, IsAtEnd}
use Rattle.server_operator_lines.proofs.Ended.{Held, held_alone, held_bound, held_dropped, held_kept, ends_with_all, ends_with_lf}
use Rattle.server_operator_lines.proofs.line_reader.next_line.Goals as goal

pub returns-in_err-octet-clause-bound : goal.returns-in_err-octet-clause-bound
returns-in_err-octet-clause-bound g c = held_bound _ _ _ c.octets.invariant.2

pub returns-in_err-octet-clause-alone : goal.returns-in_err-octet-clause-alone
returns-in_err-octet-clause-alone g c = held_alone _ _ _ c.octets.invariant.2

pub returns-then-octet-eq10-clause-bound : goal.returns-then-octet-eq10-clause-bound
returns-then-octet-eq10-clause-bound g c = held_bound _ _ _ c.octets.invariant.2

pub returns-then-octet-eq10-clause-alone : goal.returns-then-octet-eq10-clause-alone
returns-then-octet-eq10-clause-alone g c = held_alone _ _ _ c.octets.invariant.2

pub returns-in-None-2-2-clause-bound : goal.returns-in-None-2-2-clause-bound
returns-in-None-2-2-clause-bound g c = held_bound _ _ _ c.octets.invariant.2

pub returns-in-None-2-2-clause-alone : goal.returns-in-None-2-2-clause-alone
returns-in-None-2-2-clause-alone g c = held_alone _ _ _ c.octets.invariant.2

pub octets-preserved : goal.octets-preserved
octets-preserved g c =
    let held = c.octets.invariant.2 in (
      c.octets.invariant.0 ++ c.in-Some-2.octet ∷ [],
      Consumes-trans _ _ _ _ _ c.octets.invariant.1
          (subst (λ next. IfSome next
          (λ octet. Consumes (g.L.Read.remaining c.octets.lines) (g.L.Read.remaining c.next_octet.new.lines) (octet ∷ [])))
          c.in-Some-2.is c.in_ok-octet.ensures.some),
      held_dropped _ _ _ _ held c.if-octet-eq10.false (omega (arith, c.octets.line.ok.0, c.len.ensures, c.if-len-lt-LINE_OCTETS.false)),
    )

pub octets-preserved-in-Continue-branch-3 : goal.octets-preserved-in-Continue-branch-3
octets-preserved-in-Continue-branch-3 g c =
    let held = c.octets.invariant.2 in
    let room : length c.octets.line.items < 1024 = omega (arith, c.octets.line.ok.0, c.len.ensures, c.if-len-lt-LINE_OCTETS.true) in
    let pushed : c.push.new.self.items ≡ c.octets.line.items ++ c.in-Some-2.octet ∷ [] = search rules in (
      c.octets.invariant.0 ++ c.in-Some-2.octet ∷ [],
      Consumes-trans _ _ _ _ _ c.octets.invariant.1
          (subst (λ next. IfSome next
          (λ octet. Consumes (g.L.Read.remaining c.octets.lines) (g.L.Read.remaining c.next_octet.new.lines) (octet ∷ [])))
          c.in-Some-2.is c.in_ok-octet.ensures.some),
      subst (λ kept. Held (c.octets.invariant.0 ++ c.in-Some-2.octet ∷ []) kept c.octets.is_long) (sym pushed)
          (held_kept _ _ _ _ held c.if-octet-eq10.false room),
    )

pub returns-in_err-push-clause-alone : goal.returns-in_err-push-clause-alone
returns-in_err-push-clause-alone g c = subst (All (λ x. x ≢ 10)) (sym c.in_err-push.ensures.items) (held_alone _ _ _ c.octets.invariant.2)

pub returns-in-None-2-2-clause-known : goal.returns-in-None-2-2-clause-known
returns-in-None-2-2-clause-known g c =
    let was = g.L.Read.remaining c.octets.lines in
    let left = g.L.Read.remaining c.next_octet.new.lines in
    let end = subst (λ next. IfNone next (Consumes was left [] × IsAtEnd left)) c.in-None-2-2.is c.in_ok-octet.ensures.end in
    ends_with_all (g.L.Read.remaining c.args.lines.now) was left c.octets.invariant.0 c.octets.line.items c.octets.is_long
    c.ended.result c.octets.invariant.2
    (λ none. eqb-false _ _ (sym c.if-is_empty.ensures) (c.octets.line.ok.0 ∙ none)) c.octets.invariant.1 end.0 end.1 c.ended.ensures

pub returns-then-octet-eq10-clause-known : goal.returns-then-octet-eq10-clause-known
returns-then-octet-eq10-clause-known g c =
    let was = g.L.Read.remaining c.octets.lines in
    let left = g.L.Read.remaining c.next_octet.new.lines in
    let lf =
    subst (λ next. IfSome next (λ octet. Consumes was left (octet ∷ [])))
    (c.in-Some-2.is ∙ ap Some c.if-octet-eq10.true) c.in_ok-octet.ensures.some in
    ends_with_lf (g.L.Read.remaining c.args.lines.now) was left c.octets.invariant.0 c.octets.line.items c.octets.is_long
    c.ended-then-octet-eq10.result
    c.octets.invariant.2 c.octets.invariant.1 lf c.ended-then-octet-eq10.ensures
