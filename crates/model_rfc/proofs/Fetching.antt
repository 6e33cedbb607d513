-- What LISTGROUP lists, and what a command on an article leaves.
use Rattle.std.proofs.Common.{◌≡◌, ◌⊎◌, ℕ, ◌+◌, ◌≤◌, List, [], ◌∷◌, ◌++◌, map, refl, sym, ◌∙◌, ap, subst, arith, inl, inr}
use Rattle.std.proofs.Common.{Bool, true, false}
use Rattle.std.proofs.Common.{cond, ◌&&◌}
use Rattle.std.specs.Prelude.{length, filter, codes, decimal, nat_le, Option, Some, None, is_some, option_map}
use Rattle.std.specs.List.{enumerate_from, range_with_len}
use Rattle.std.proofs.lemmas.Bool.{cases_lt, false≢true, true≢false, le-leb, lt-leb}
use Rattle.model.specs.Stream.{Octets, line}
use Rattle.model.specs.Names.{is_in_range}
use Rattle.model.specs.Spool.{Spool, NewsArticle, NewsGroup, Contents, article_at, by_number, contents, contents_if_here}
use Rattle.model.specs.Spool.{group_named}
use Rattle.model.specs.Spool.{here_by_id, is_here}
use Rattle.model.specs.Answer.{at_number, command_answer, fetch_id, fetch_number, if_found, if_here, in_selected, listgroup_answer}
use Rattle.model.specs.Answer.{numbers_answer}
use Rattle.model.specs.Answer.{numbers_in, part_reply, says}
use Rattle.model.specs.Replies.{no_such_number}
use Rattle.model.specs.declared.command.Range.{Range}
use Rattle.model.specs.declared.session.Answer.{Answer}
use Rattle.model.specs.declared.session.Session.{Session}
use Rattle.model_rfc.specs.Laws.{ByIdStays, ByNumberSelects, ListGroupLists}
use Rattle.model_rfc.specs.Responses.{sent}
use Rattle.model_rfc.specs.States.{IsSelected, IsSpool, Refuses, Stays, numbers_listed}
use Rattle.model_rfc.proofs.Blocks.{block_is}
use Rattle.model_rfc.proofs.Groups.{at_below, at_there}
use Rattle.model_rfc.proofs.Moving.{first_of_group, shown_line}

-- a number from 1 to the high has an article just where it isn't below the low
pub has_article : (c : Contents) (n : ℕ) → 1 ≤ n → n ≤ length c.filed → is_some (article_at c n) ≡ nat_le c.low n
has_article c n some to = elim (cases_lt n c.low) [
  | inl below ↦ ap (λ (o : Option NewsArticle). is_some o) (at_below c n below) ∙ sym (lt-leb c.low n below)
  | inr from ↦ ap (λ (o : Option NewsArticle). is_some o) (at_there c n some from to).1 ∙ sym (le-leb c.low n from)
]

module _ (c : Contents) (r : Range) where
  abbrev in_range : ℕ → Bool
  in_range n = is_in_range r n

  abbrev here : ℕ → Bool
  here n = is_in_range r n && is_some (article_at c n)

  -- from the k-th number on
  numbers_from : (k : ℕ) (xs : List NewsArticle) → 1 ≤ k → k + length xs ≡ 1 + length c.filed
      → map (λ p. decimal p.0) (filter (λ p. in_range p.0) (filter (λ p. nat_le c.low p.0) (enumerate_from k xs)))
      ≡ map decimal (filter here (range_with_len k (length xs)))
  numbers_from k [] some to = refl
  numbers_from k (a ∷ xs) some to =
      by_low (nat_le c.low k) (in_range k) (is_some (article_at c k)) (has_article c k some (omega arith)) refl
      (numbers_from (k + 1) xs (omega arith) (omega arith))
    where
      later : List (ℕ × NewsArticle)
      later = filter (λ p. nat_le c.low p.0) (enumerate_from (k + 1) xs)

      others : List ℕ
      others = filter here (range_with_len (k + 1) (length xs))

      ranged : List (ℕ × NewsArticle)
      ranged = filter (λ p. in_range p.0) later

      by_low : (b d e : Bool) → e ≡ b → in_range k ≡ d → map (λ p. decimal p.0) (filter (λ p. in_range p.0) later) ≡ map decimal others
          → map (λ p. decimal p.0) (filter (λ p. in_range p.0) (cond b ((k, a) ∷ later) later))
          ≡ map decimal (cond (d && e) (k ∷ others) others)
      by_low true true true same range rest =
          ap (λ q. map (λ p. decimal p.0) (cond q ((k, a) ∷ filter (λ p. in_range p.0) later) (filter (λ p. in_range p.0) later))) range
          ∙ ap (λ ds. decimal k ∷ ds) rest
      by_low true false true same range rest =
          ap (λ q. map (λ p. decimal p.0) (cond q ((k, a) ∷ filter (λ p. in_range p.0) later) (filter (λ p. in_range p.0) later))) range
          ∙ rest
      by_low false true false same range rest = rest
      by_low false false false same range rest = rest
      by_low true d false same range rest = absurd (false≢true same)
      by_low false d true same range rest = absurd (true≢false same)

-- ---- LISTGROUP

abbrev follows : Octets
follows = codes " list follows"

module _ (host : Octets) (S : Spool) (x : Session) (g : Octets) (r : Range) (is : IsSpool host S) where
  abbrev Lists : Answer → Type 0
  Lists a = IsSelected S g follows (sent (map decimal (numbers_listed S g r))) a

  lists : Lists (listgroup_answer x r g (contents S g))
  lists = record {
    reply_is = block_is (shown_line S g ++ follows) (numbers_in r (contents S g))
        ∙ ap (λ (ls : List Octets). line (shown_line S g ++ follows) ++ sent ls)
        (numbers_from (contents S g) r 1 (contents S g).filed (omega arith) (omega arith));
    selected = refl;
    current = first_of_group host S g is;
  }

  if_named : is_here S g ≡ true → Lists (if_here x (contents_if_here S g) (listgroup_answer x r g))
  unfolding contents_if_here
  if_named there = by_group (group_named S g) there where
    by_group : (o : Option NewsGroup) → is_some o ≡ true → Lists (if_here x (option_map (λ group. contents S g) o) (listgroup_answer x r g))
    by_group None some = absurd (false≢true some)
    by_group (Some group) some = lists

pub list_groups : ListGroupLists
unfolding command_answer
list_groups host S x t g r asked is there which = elim which [
  | inl named ↦ subst (λ (o : Option Octets). Lists host S x g r is (numbers_answer S x r o)) (sym named) (if_named host S x g r is there)
  | inr selected ↦
      subst (λ (o : Option Octets). Lists host S x g r is (numbers_answer S x r o)) (sym selected.0)
      (subst (λ (o : Option Octets). Lists host S x g r is (in_selected S x o (listgroup_answer x r))) (sym selected.1)
      (lists host S x g r is))
]

-- ---- articles

pub by_id_stays : ByIdStays
unfolding command_answer
by_id_stays host S x t p id = by_found (here_by_id S id) where
  by_found : (o : Option NewsArticle) → Stays x (fetch_id x p o)
  by_found None = record { next_is = refl; change = refl }
  by_found (Some a) = record { next_is = refl; change = refl }

pub by_number_selects : ByNumberSelects
unfolding command_answer no_such_number
by_number_selects host S x t p g n group =
    subst (λ (o : Option Octets). Selects (in_selected S x o (λ k. fetch_number x p n))) (sym group)
    (by_found (article_at (contents S g) n) refl)
  where
    Selects : Answer → Type 0
    Selects a = ((is_some (by_number S g n) ≡ true) × Stays (record x { current = Some n }) a)
        ⊎ ((by_number S g n ≡ None) × Refuses x (codes "423 No such article number") a)

    by_found : (o : Option NewsArticle) → by_number S g n ≡ o
        → Selects (if_found x no_such_number o (λ a. says (at_number x n) (part_reply p n a)))
    by_found None none = inr (none, record { stays = record { next_is = refl; change = refl }; reply_is = refl })
    by_found (Some a) some = inl (ap (λ (o : Option NewsArticle). is_some o) some, record { next_is = refl; change = refl })
