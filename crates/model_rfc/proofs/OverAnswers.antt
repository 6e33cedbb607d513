-- What OVER answers, beside what ARTICLE answers.
use Rattle.std.proofs.Common.{◌≡◌, ◌⊎◌, ℕ, zero, suc, ◌+◌, ◌-◌, ◌≤◌, List, [], ◌∷◌, ◌++◌, map, refl, sym, ◌∙◌, ap, subst, arith, inl, inr}
use Rattle.std.proofs.Common.{Bool, true, false, cond, ◌&&◌}
use Rattle.std.specs.Prelude.{None, Some, Option, length, bytes_eq, codes, decimal, filter, is_some, nat_le, nat_lt, slice_get, ◌==◌}
use Rattle.std.specs.List.{enumerate_from, list_any, range_with_len}
use Rattle.std.proofs.lemmas.Bool.{false≢true, true≢false, leb-true, le-ltb, ne_eqb}
use Rattle.model.specs.Stream.{Octets, line}
use Rattle.model.specs.Names.{is_in_range}
use Rattle.model.specs.Article.{Carried, cause, overview_line}
use Rattle.model.specs.Spool.{Spool, NewsArticle, Contents, article_at, by_number, contents, here_by_id, numbered, numbered_articles}
use Rattle.model.specs.Answer.{at_current, at_number, command_answer, fetch_current, fetch_id, fetch_number, id_of, if_found, in_selected}
use Rattle.model.specs.Answer.{over_current, over_id, over_range, overview_or_none, part_reply, says, spaced}
use Rattle.model.specs.Replies.{block, no_current_article, no_group_selected, no_such_article, no_such_number, overview_follows}
use Rattle.model.specs.declared.command.Command.TheVariants as command
use Rattle.model.specs.declared.command.Part.TheVariants as part
use Rattle.model.specs.declared.command.Range.{Range}
use Rattle.model.specs.declared.command.Selector.TheVariants as selector
use Rattle.model.specs.declared.session.Answer.{Answer}
use Rattle.model.specs.declared.session.Session.{Session}
use Rattle.model_rfc.specs.Laws.{CurrentIsShown, IdsAreShown, RangesAreShown}
use Rattle.model_rfc.specs.Overviews.{AreShownOf, IsOverview, IsShownOf, Overviews}
use Rattle.model_rfc.specs.States.{IsSpool, Refuses, numbers_listed}
use Rattle.model_rfc.proofs.Articles.{IsCarried, at_carried, filed_carried, here_carried}
use Rattle.model_rfc.proofs.Blocks.{block_is}
use Rattle.model_rfc.proofs.Fetching.{has_article}
use Rattle.model_rfc.proofs.Lists.{Every}
use Rattle.model_rfc.proofs.Showing.{overview_is_shown}
use Rattle.model_rfc.proofs.Texts.{text_is}

-- what ARTICLE answers of an article, whatever it leaves of the session
shown_of : (n : ℕ) (a : NewsArticle) (x : Session) → IsCarried a
    → IsShownOf n (says x (part_reply part.Whole n a)) (overview_line n a.text)
shown_of n a x carried = record {
  id = id_of a;
  lines = (text_is a.text carried).texts;
  clean = (text_is a.text carried).clean;
  article_is = ap (λ s. line (spaced (codes "220" ∷ decimal n ∷ id_of a ∷ [])) ++ s) (text_is a.text carried).whole;
  shown_is = overview_is_shown n a.text carried;
}

overview_of_one : (n : ℕ) (a : NewsArticle) (x y : Session) → IsCarried a
    → IsOverview x (λ m. says y (part_reply part.Whole n a)) (n ∷ []) (says x (block overview_follows (overview_line n a.text ∷ [])))
overview_of_one n a x y carried = record {
  stays = record { next_is = refl; change = refl };
  shown = overview_line n a.text ∷ [];
  each = (shown_of n a y carried, tt);
  reply_is = block_is overview_follows (overview_line n a.text ∷ []);
}

abbrev EitherWay : Session → List Octets → Answer → Answer → Type 0
EitherWay x refusals article over = ((n : ℕ) × IsOverview x (λ m. article) (n ∷ []) over)
    ⊎ ((refusal : Octets) × (list_any (bytes_eq refusal) refusals ≡ true) × Refuses x refusal article × Refuses x refusal over)

-- both are refused
alike : (x : Session) (refusals : List Octets) (refusal : Octets) → list_any (bytes_eq refusal) refusals ≡ true
    → EitherWay x refusals (says x (line refusal)) (says x (line refusal))
alike x refusals refusal one = inr (
  refusal,
  one,
  record { stays = record { next_is = refl; change = refl }; reply_is = refl },
  record { stays = record { next_is = refl; change = refl }; reply_is = refl },
)

-- ---- by an id

pub ids_are_shown : IdsAreShown
unfolding command_answer no_such_article
ids_are_shown id host S x t is = by_found (here_by_id S id) refl where
  by_found : (o : Option NewsArticle) → here_by_id S id ≡ o
      → EitherWay x (codes "430 No such article" ∷ []) (fetch_id x part.Whole o) (over_id x o)
  by_found None found = alike x (codes "430 No such article" ∷ []) (codes "430 No such article") refl
  by_found (Some a) found = inl (0, overview_of_one 0 a x x (here_carried host S id a is.lawful found))

-- ---- the current article

pub current_is_shown : CurrentIsShown
unfolding command_answer no_group_selected no_current_article
current_is_shown host S x t is = by_group x.group x.current where
  refusals : List Octets
  refusals = codes "412 No group selected" ∷ codes "420 No current article" ∷ []

  none : EitherWay x refusals (says x no_current_article) (says x no_current_article)
  none = alike x refusals (codes "420 No current article") refl

  by_found : (g : Octets) (n : ℕ) (o : Option NewsArticle) → article_at (contents S g) n ≡ o
      → EitherWay x refusals (if_found x no_current_article o (λ a. says x (part_reply part.Whole n a)))
      (if_found x no_current_article o (λ a. says x (block overview_follows (overview_line n a.text ∷ []))))
  by_found g n None found = none
  by_found g n (Some a) found = inl (n, overview_of_one n a x x (at_carried host S g n a is.lawful found))

  by_low : (g : Octets) (n : ℕ) (b : Bool)
      → EitherWay x refusals
      (cond b (says x no_current_article)
      (if_found x no_current_article (article_at (contents S g) n) (λ a. says x (part_reply part.Whole n a))))
      (cond b (says x no_current_article)
      (if_found x no_current_article (article_at (contents S g) n) (λ a. says x (block overview_follows (overview_line n a.text ∷ [])))))
  by_low g n true = none
  by_low g n false = by_found g n (article_at (contents S g) n) refl

  by_number_of : (g : Octets) (o : Option ℕ) → EitherWay x refusals
      (at_current x (contents S g) o
      (λ n. if_found x no_current_article (article_at (contents S g) n) (λ a. says x (part_reply part.Whole n a))))
      (at_current x (contents S g) o
      (λ n. if_found x no_current_article (article_at (contents S g) n)
      (λ a. says x (block overview_follows (overview_line n a.text ∷ [])))))
  by_number_of g None = none
  by_number_of g (Some n) = by_low g n (nat_lt n (contents S g).low)

  by_group : (o : Option Octets) (p : Option ℕ) → EitherWay x refusals
      (in_selected S x o (λ g c. at_current x c p
      (λ n. if_found x no_current_article (article_at c n) (λ a. says x (part_reply part.Whole n a)))))
      (in_selected S x o (λ g c. at_current x c p
      (λ n. if_found x no_current_article (article_at c n) (λ a. says x (block overview_follows (overview_line n a.text ∷ []))))))
  by_group None p = alike x refusals (codes "412 No group selected") refl
  by_group (Some g) p = by_number_of g p

-- ---- by a range

-- an article that stands there from the low on has that number
pub stands : (c : Contents) (k : ℕ) (a : NewsArticle) → 1 ≤ k → c.low ≤ k → slice_get c.filed (k - 1) ≡ Some a → article_at c k ≡ Some a
stands c k a some from at =
    ap (λ b. cond b None (numbered c.filed k)) (le-ltb k c.low from)
    ∙ ap (λ b. cond b None (slice_get c.filed (k - 1))) (ne_eqb k 0 (λ e. omega arith)) ∙ at

module _ (x : Session) (c : Contents) (r : Range) where
  abbrev in_range : ℕ → Bool
  in_range n = is_in_range r n

  abbrev here : ℕ → Bool
  here n = is_in_range r n && is_some (article_at c n)

  -- what ARTICLE answers by a number
  abbrev article : ℕ → Answer
  article n = fetch_number x part.Whole n c

  abbrev shown_lines : List (ℕ × NewsArticle) → List Octets
  shown_lines ps = map (λ p. overview_line p.0 p.1.text) ps

  -- the articles of a list stand in the group from this number on
  abbrev StandFrom : ℕ → List NewsArticle → Type 0
  StandFrom k xs = (i : ℕ) (a : NewsArticle) → slice_get xs i ≡ Some a → slice_get c.filed (k + i - 1) ≡ Some a

  one_shown : (k : ℕ) (a : NewsArticle) → article_at c k ≡ Some a → IsCarried a → IsShownOf k (article k) (overview_line k a.text)
  one_shown k a at carried =
      subst (λ (o : Option NewsArticle). IsShownOf k (if_found x no_such_number o (λ a. says (at_number x k) (part_reply part.Whole k a)))
      (overview_line k a.text)) (sym at) (shown_of k a (at_number x k) carried)

  all_shown : (k : ℕ) (xs : List NewsArticle) → 1 ≤ k → k + length xs ≡ 1 + length c.filed → StandFrom k xs → Every IsCarried xs
      → AreShownOf article (filter here (range_with_len k (length xs)))
      (shown_lines (filter (λ p. in_range p.0) (filter (λ p. nat_le c.low p.0) (enumerate_from k xs))))
  all_shown k [] some to stand carried = tt
  all_shown k (a ∷ xs) some to stand carried =
      by_low (nat_le c.low k) (in_range k) (is_some (article_at c k)) refl (has_article c k some (omega arith)) refl
      (all_shown (k + 1) xs (omega arith) (omega arith) further carried.1)
    where
      further : StandFrom (k + 1) xs
      further i b is = let same : k + suc i - 1 ≡ k + 1 + i - 1 = omega arith in
          ap (slice_get c.filed) (sym same) ∙ stand (suc i) b is

      first : slice_get c.filed (k - 1) ≡ Some a
      first = let same : k + 0 - 1 ≡ k - 1 = omega arith in ap (slice_get c.filed) (sym same) ∙ stand 0 a refl

      later : List (ℕ × NewsArticle)
      later = filter (λ p. nat_le c.low p.0) (enumerate_from (k + 1) xs)

      others : List ℕ
      others = filter here (range_with_len (k + 1) (length xs))

      ranged : List (ℕ × NewsArticle)
      ranged = filter (λ p. in_range p.0) later

      by_low : (b d e : Bool) → nat_le c.low k ≡ b → e ≡ b → in_range k ≡ d → AreShownOf article others (shown_lines ranged)
          → AreShownOf article (cond (d && e) (k ∷ others) others)
          (shown_lines (filter (λ p. in_range p.0) (cond b ((k, a) ∷ later) later)))
      by_low true true true low same range rest =
          subst (λ q. AreShownOf article (k ∷ others) (shown_lines (cond q ((k, a) ∷ ranged) ranged))) (sym range)
          (one_shown k a (stands c k a some (leb-true c.low k low) first) carried.0, rest)
      by_low true false true low same range rest =
          subst (λ q. AreShownOf article others (shown_lines (cond q ((k, a) ∷ ranged) ranged))) (sym range) rest
      by_low false true false low same range rest = rest
      by_low false false false low same range rest = rest
      by_low true d false low same range rest = absurd (false≢true same)
      by_low false d true low same range rest = absurd (true≢false same)

  -- the answer that is made of lines
  overviews : (numbers : List ℕ) (shown : List Octets) → AreShownOf article numbers shown
      → Overviews x article numbers (overview_or_none x shown)
  unfolding no_such_number
  overviews [] [] each = record { stays = record { next_is = refl; change = refl }; reply_is = refl }
  overviews [] (l ∷ ls) each = absurd each
  overviews (n ∷ ns) [] each = absurd each
  overviews (n ∷ ns) (l ∷ ls) each = record {
    stays = record { next_is = refl; change = refl };
    shown = l ∷ ls;
    each = each;
    reply_is = block_is overview_follows (l ∷ ls);
  }

pub ranges_are_shown : RangesAreShown
unfolding command_answer
ranges_are_shown host S x t g r is group =
    subst (λ (o : Option Octets). Overviews x (λ n. in_selected S x o (λ h. fetch_number x part.Whole n)) (numbers_listed S g r)
    (in_selected S x o (λ h. over_range x r))) (sym group)
    (overviews x (contents S g) r (numbers_listed S g r)
    (map (λ p. overview_line p.0 p.1.text) (filter (λ p. is_in_range r p.0) (numbered_articles (contents S g))))
    (all_shown x (contents S g) r 1 (contents S g).filed (omega arith) (omega arith)
    (λ i a at. let same : 1 + i - 1 ≡ i = omega arith in ap (slice_get (contents S g).filed) same ∙ at)
    (filed_carried host S g is.lawful)))
