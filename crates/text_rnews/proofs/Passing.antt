-- What is unread when more octets come.
use Rattle.std.proofs.Common.{◌≡◌, ℕ, ◌+◌, ◌-◌, ◌≤◌, ◌<◌, [], ◌++◌, refl, sym, ◌∙◌, ap, arith, inl, inr}
use Rattle.std.proofs.Common.{length-append, append-nil, append_assoc}
use Rattle.std.specs.Prelude.{length, drop}
use Rattle.std.proofs.lemmas.Bool.{cases_lt}
use Rattle.std.proofs.lemmas.List.{drop-append-le, drop_all}
use Rattle.std.proofs.Math.Seq.{drop-append-add}
use Rattle.model.specs.Stream.{Octets}
use Rattle.text_rnews.specs.Batch.{Unread, fed, whole}

drop-append : (n : ℕ) (front back : Octets) → drop n (front ++ back) ≡ drop n front ++ drop (n - length front) back
drop-append n front back =
    elim (cases_lt (length front) n) [
      | inr within ↦
          let none : n - length front ≡ 0 = omega (arith, within) in
          drop-append-le n front back within ∙ ap (λ m. drop n front ++ drop m back) (sym none)
      | inl past ↦
          let sum : n ≡ length front + (n - length front) = omega (arith, past) in
          ap (λ m. drop m (front ++ back)) sum
          ∙ drop-append-add front back (n - length front)
          ∙ ap (λ d. d ++ drop (n - length front) back) (sym (drop_all n front (omega (arith, past))))
    ]

pub fed_nothing : (unread : Unread) → fed unread [] ≡ unread
fed_nothing unread =
    let same : unread.over - length {A = ℕ} [] ≡ unread.over = omega arith in
    ap (λ n. record { over = n; rest = unread.rest ++ drop unread.over [] }) same
    ∙ ap (λ d. record { over = unread.over; rest = unread.rest ++ d }) (drop_all unread.over [] (omega arith))
    ∙ ap (λ r. record { over = unread.over; rest = r }) (append-nil unread.rest)

pub fed_twice : (unread : Unread) (more most : Octets) → fed (fed unread more) most ≡ fed unread (more ++ most)
fed_twice unread more most =
    let left : unread.over - length more - length most ≡ unread.over - length (more ++ most) = omega (arith, length-append more most) in
    ap (λ n. record { over = n; rest = (unread.rest ++ drop unread.over more) ++ drop (unread.over - length more) most }) left
    ∙ ap (λ r. record { over = unread.over - length (more ++ most); rest = r })
    (append_assoc unread.rest (drop unread.over more) (drop (unread.over - length more) most)
    ∙ ap (λ d. unread.rest ++ d) (sym (drop-append unread.over more most)))

pub fed_whole : (octets more : Octets) → fed (whole octets) more ≡ whole (octets ++ more)
fed_whole octets more =
    let none : 0 - length more ≡ 0 = omega arith in
    ap (λ n. record { over = n; rest = octets ++ more }) none
