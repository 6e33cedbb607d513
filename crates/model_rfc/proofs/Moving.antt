-- Where GROUP, NEXT and LAST lead.
use Rattle.std.proofs.Common.{◌≡◌, ◌⊎◌, ℕ, ◌+◌, ◌-◌, ◌<◌, ◌≤◌, refl, sym, ◌∙◌, ap, subst, arith, inl, inr, Bool, true, false, cond}
use Rattle.std.specs.Prelude.{codes, decimal, ◌==◌, Option, Some, None, is_some, option_map}
use Rattle.std.proofs.Common.{append-nil, [], ◌∷◌, ◌++◌}
use Rattle.std.specs.List.{join_with_byte}
use Rattle.std.proofs.lemmas.Bool.{cases_lt, true≢false, false≢true, eqb-true, eqb-false, le-ltb}
use Rattle.model.specs.Stream.{Octets, line}
use Rattle.model.specs.Spool.{Spool, NewsArticle, NewsGroup, article_at, by_number, contents, contents_if_here, count, group_named, high}
use Rattle.model.specs.Spool.{low}
use Rattle.model.specs.Answer.{at_current, command_answer, group_answer, id_of, if_found, if_here, in_selected, last_answer, moved_answer}
use Rattle.model.specs.Answer.{next_answer, says}
use Rattle.model.specs.Replies.{no_current_article, no_next_article, no_previous_article, no_such_group}
use Rattle.model.specs.declared.session.Answer.{Answer}
use Rattle.model_rfc.specs.Laws.{GroupRefuses, GroupSelects, LastMoves, NextMoves}
use Rattle.model_rfc.specs.States.{IsFirst, IsNearest, IsSelected, IsSpool, MovesTo, Refuses}
use Rattle.model_rfc.proofs.Groups.{at_above, at_below, at_there, at_within, none_up}

abbrev Above : ℕ → ℕ → Type 0
Above n m = n < m

abbrev Below : ℕ → ℕ → Type 0
Below n m = m < n

pub first_of_group : (host : Octets) (S : Spool) (g : Octets) → IsSpool host S
    → IsFirst S g (cond (count (contents S g) == 0) None (Some (low S g)))
first_of_group host S g is = by_count (count (contents S g) == 0) refl where
  by_count : (b : Bool) → (count (contents S g) == 0) ≡ b → IsFirst S g (cond b None (Some (low S g)))
  by_count true none =
      let empty : count (contents S g) ≡ 0 = eqb-true (count (contents S g)) 0 none in
      λ m. elim (cases_lt m (low S g)) [
        | inl below ↦ at_below (contents S g) m below
        | inr from ↦ at_above (contents S g) m (omega arith)
      ]
  by_count false some =
      let filled = eqb-false (count (contents S g)) 0 some in
      record {
        beyond = omega arith;
        there = at_there (contents S g) (low S g) (omega arith) (omega arith) (omega arith);
        between = λ k above below. at_below (contents S g) k below;
      }

-- GROUP's line
abbrev pub shown_line : Spool → Octets → Octets
shown_line S g = join_with_byte 32 (codes "211" ∷ decimal (count (contents S g)) ∷ decimal (low S g) ∷ decimal (high S g) ∷ g ∷ [])

pub group_selects : GroupSelects
unfolding command_answer contents_if_here
group_selects host S x t g is there = by_group (group_named S g) there where
  by_group : (o : Option NewsGroup) → is_some o ≡ true → IsSelected S g [] []
      (if_here x (option_map (λ group. contents S g) o) (group_answer x g))
  by_group None some = absurd (false≢true some)
  by_group (Some group) some = record {
    reply_is = sym (append-nil (line (shown_line S g ++ [])) ∙ ap line (append-nil (shown_line S g)));
    selected = refl;
    current = first_of_group host S g is;
  }

pub group_refuses : GroupRefuses
unfolding command_answer contents_if_here no_such_group
group_refuses host S x t g missing = by_group (group_named S g) missing where
  by_group : (o : Option NewsGroup) → is_some o ≡ false → Refuses x (codes "411 No such group")
      (if_here x (option_map (λ group. contents S g) o) (group_answer x g))
  by_group None none = record { stays = record { next_is = refl; change = refl }; reply_is = refl }
  by_group (Some group) none = absurd (true≢false none)

pub next_moves : NextMoves
unfolding command_answer no_next_article
next_moves host S x t g n is reader group now from = subst P (sym whole) (by_article (article_at (contents S g) (n + 1)) refl) where
  P : Answer → Type 0
  P a = ((m : ℕ) × IsNearest S g Above n m × MovesTo x m a) ⊎ (((m : ℕ) → n < m → by_number S g m ≡ None)
      × Refuses x (codes "421 No next article") a)

  step : ℕ → Answer
  step k = if_found x no_next_article (article_at (contents S g) (k + 1)) (moved_answer x (k + 1))

  whole : in_selected S x x.group (λ k. next_answer x) ≡ step n
  whole = ap (λ (o : Option Octets). in_selected S x o (λ k. next_answer x)) group
      ∙ ap (λ (o : Option ℕ). at_current x (contents S g) o step) now
      ∙ ap (λ b. cond b (says x no_current_article) (step n)) (le-ltb n (low S g) from)

  by_article : (o : Option NewsArticle) → article_at (contents S g) (n + 1) ≡ o → P (if_found x no_next_article o (moved_answer x (n + 1)))
  by_article (Some a) at = inl (
    n + 1,
    record { beyond = omega arith; there = (a, at); between = λ k low high. absurd (omega arith) },
    record { stays = record { next_is = refl; change = refl }; id = id_of a; reply_is = refl },
  )
  by_article None none = inr (
    (λ m above. at_above (contents S g) m (omega (arith, none_up (contents S g) (n + 1) (omega arith) (omega arith) none))),
    record { stays = record { next_is = refl; change = refl }; reply_is = refl },
  )

pub last_moves : LastMoves
unfolding command_answer no_previous_article
last_moves host S x t g n is reader group now from = subst P (sym whole) (by_article (article_at (contents S g) (n - 1)) refl) where
  P : Answer → Type 0
  P a = ((m : ℕ) × IsNearest S g Below n m × MovesTo x m a) ⊎ (((m : ℕ) → m < n → by_number S g m ≡ None)
      × Refuses x (codes "422 No previous article") a)

  step : ℕ → Answer
  step k = if_found x no_previous_article (article_at (contents S g) (k - 1)) (moved_answer x (k - 1))

  whole : in_selected S x x.group (λ k. last_answer x) ≡ step n
  whole = ap (λ (o : Option Octets). in_selected S x o (λ k. last_answer x)) group
      ∙ ap (λ (o : Option ℕ). at_current x (contents S g) o step) now
      ∙ ap (λ b. cond b (says x no_current_article) (step n)) (le-ltb n (low S g) from)

  had : (1 ≤ n) × (n ≤ high S g)
  had = reader.number_had g n group now

  by_article : (o : Option NewsArticle) → article_at (contents S g) (n - 1) ≡ o
      → P (if_found x no_previous_article o (moved_answer x (n - 1)))
  by_article (Some a) at =
      let within = at_within (contents S g) (n - 1) a at in
      inl (
        n - 1,
        record { beyond = omega (arith, within.0); there = (a, at); between = λ k low high. absurd (omega arith) },
        record { stays = record { next_is = refl; change = refl }; id = id_of a; reply_is = refl },
      )
  by_article None none = inr (
    (λ m below. elim (cases_lt m (low S g)) [
      | inl under ↦ at_below (contents S g) m under
      | inr up ↦ absurd (omega (arith, had.0, had.1, none_up (contents S g) (n - 1) (omega arith) (omega arith) none))
    ]),
    record { stays = record { next_is = refl; change = refl }; reply_is = refl },
  )
