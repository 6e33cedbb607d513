-- Many lives, one after another.
use Rattle.std.proofs.Common.{◌≡◌, ℕ, ◌≤◌, List, [], ◌∷◌, length, take, zero, suc, Option, Some, None, refl, ap, sym, ◌∙◌, subst, arith}
use Rattle.std.specs.Option.{option_to_list}
use mathlib.Core.List.{IsPrefix}
use Rattle.synchrony.specs.Service.{Service}
use Rattle.synchrony.specs.Server.{Entry, Command, Admin, PlainServer, opened, taken, served, step, run, sync}
use Rattle.model_lives.specs.Lives.{Life, handed_on, spool_after, one_server, BeginsEach, LivesAreOne, NothingIsUndone}
use Rattle.synchrony.proofs.Fronts.{prefix_self, prefix_front, prefix_trans}

-- a prefix that is not longer than what is taken stays one
prefix_take : {A : Type 0} (xs ys : List A) (n : ℕ) → IsPrefix xs ys → length xs ≤ n → IsPrefix xs (take n ys)
prefix_take [] ys n p le = (take n ys, refl)
prefix_take (x ∷ xs) [] n p le = absurd (cc (p.1))
prefix_take (x ∷ xs) (y ∷ ys) zero p le = absurd (omega arith)
prefix_take (x ∷ xs) (y ∷ ys) (suc n) p le =
    let same : x ≡ y = cc (p.1) in
    let rest = prefix_take xs ys n (p.0, cc (p.1)) (omega arith) in
    (rest.0, ap (λ w. x ∷ w) rest.1 ∙ ap (λ z. z ∷ take n ys) same)

module _ {Message Session Change Mark : Type 0} (service : Service Message Session Change Mark) where
  -- the plain server's spool only grows
  served_grows : (server : PlainServer Session Change) (number moment : ℕ) (mark : Mark) (next : Option (Message × List ℕ))
      → IsPrefix server.spool (served service server number moment mark next).spool
  served_grows server number moment mark None = prefix_self server.spool
  served_grows server number moment mark (Some next) = prefix_front server.spool (option_to_list
      (service.answer server.spool (server.connections number).session next.0 moment mark).change)

  run_grows : (trace : List (Entry Change Mark)) (server : PlainServer Session Change)
      → IsPrefix server.spool (run service server trace).spool
  run_grows [] server = prefix_self server.spool
  run_grows (Command number moment mark ∷ trace) server =
      let after : PlainServer Session Change = step service server (Command number moment mark) in
      prefix_trans server.spool after.spool (run service after trace).spool
      (served_grows server number moment mark (taken service server number)) (run_grows trace after)
  run_grows (Admin change ∷ trace) server =
      let after : PlainServer Session Change = step service server (Admin change) in
      prefix_trans server.spool after.spool (run service after trace).spool
      (prefix_front server.spool (change ∷ [])) (run_grows trace after)

  handed_on_grows : (spool : List Change) (life : Life Change Mark) → length spool ≤ life.left
      → IsPrefix spool (handed_on service spool life)
  handed_on_grows spool life le =
      prefix_take spool (sync service spool life.inputs life.trace).spool life.left
      (run_grows life.trace (opened service spool life.inputs)) le

  pub nothing_is_undone : NothingIsUndone service
  nothing_is_undone spool [] are = prefix_self spool
  nothing_is_undone spool (life ∷ lives) are =
      prefix_trans spool (handed_on service spool life) (spool_after service (handed_on service spool life) lives)
      (handed_on_grows spool life are.0) (nothing_is_undone (handed_on service spool life) lives are.2)

  pub lives_are_one : LivesAreOne service
  lives_are_one spool [] are = (refl, tt)
  lives_are_one spool (life ∷ lives) are =
      let later = lives_are_one (handed_on service spool life) lives are.2 in
      let same = sym are.1.same_spool in (
        subst (λ s. one_server service s lives ≡ spool_after service (handed_on service spool life) lives) same later.0,
        (
          are.1.begins,
          subst (λ s. BeginsEach service s lives) same later.1,
        ),
      )
