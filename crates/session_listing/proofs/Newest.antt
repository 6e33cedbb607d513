-- The lines of the articles that are new.
use Rattle.std.proofs.Common.{◌≡◌, ℕ, suc, List, [], ◌∷◌, ◌++◌, map, refl, sym, ◌∙◌, ap, append_assoc}
use Rattle.std.proofs.Common.{inl, inr, Bool, true, false, cond, length}
use Rattle.std.specs.Prelude.{◌==◌, ◌&&◌, All, codes, filter, filter_map, flat_map, nat_le, Option, None, ℤ}
use Rattle.std.specs.Prelude.{option_map, unwrap_or}
use Rattle.std.specs.List.{list_all, list_any}
use Rattle.std.proofs.lemmas.Bool.{and_parts, eqb-true, or_cases}
use Rattle.std.proofs.lemmas.List.Elements.{All-cons, All-head, All-nil, All-tail}
use Rattle.model.specs.Answer.{id_of, is_since}
use Rattle.model.specs.Article.{Carried, allows_id, cause, field_count, id, id_in_field}
use Rattle.model.specs.Lawful.{IsLawful, IsLawfulAfter}
use Rattle.model.specs.Names.{is_message_id, is_visible, wildmat_matches}
use Rattle.model.specs.Replies.{block}
use Rattle.model.specs.Spool.{Spool, NewsArticle, article_filed, articles, articles_now, as_it_is, entries, entries_from}
use Rattle.model.specs.Spool.{news_article}
use Rattle.model.specs.Stream.{Octets, dot_line, line, stuffed_line}
use Rattle.model.specs.declared.change.Change.TheVariants.{Group, Article, Expire}
use Rattle.model.proofs.HoldsOne.{carried_cause}
use Rattle.model.proofs.Ids.{no_cause, not_found}
use Rattle.session_lookups.specs.News.{is_new, new_lines}

-- ---- a message-id does not begin with a dot

abbrev is_plain : NewsArticle → Type 0
is_plain a = stuffed_line (line (id a.text)) ≡ line (id a.text)

id_plain : (i : Octets) → is_message_id i ≡ true → stuffed_line (line i) ≡ line i
id_plain [] is = refl
id_plain (x ∷ rest) is =
    let inside = (and_parts (nat_le 3 (length (x ∷ rest)) && nat_le (length (x ∷ rest)) 250) _ is).1 in
    let ends = (and_parts (list_all is_visible (x ∷ rest)) _ inside).1 in
    let first : x ≡ 60 = eqb-true x 60 (and_parts (x == 60) _ (and_parts (x == 60 && _) _ ends).0).0 in
    ap (λ y. stuffed_line (line (y ∷ rest))) first ∙ ap (λ y. line (y ∷ rest)) (sym first)

carried_plain : (text : Octets) → cause Carried text ≡ None → stuffed_line (line (id text)) ≡ line (id text)
carried_plain text carried = elim
    (or_cases (field_count (codes "Message-ID") text == 0) (allows_id Carried (id text))
    (no_cause Carried text (carried_cause text carried)).good_id) [
      | inl absent ↦ ap (λ (o : Option Octets). stuffed_line (line (unwrap_or (option_map id_in_field o) [])))
          (not_found (codes "Message-ID") text absent)
          ∙ ap (λ (o : Option Octets). line (unwrap_or (option_map id_in_field o) [])) (sym (not_found (codes "Message-ID") text absent))
      | inr allowed ↦ id_plain (id text) allowed
    ]

plain_from : (host : Octets) (n : ℕ) (before cs : Spool) → IsLawfulAfter host before cs
    → All is_plain (filter_map article_filed (entries_from n cs))
plain_from host n before [] lawful = All-nil is_plain
plain_from host n before (Group g ∷ cs) lawful = plain_from host (suc n) (before ++ Group g ∷ []) cs lawful.1
plain_from host n before (Expire e ∷ cs) lawful = plain_from host (suc n) (before ++ Expire e ∷ []) cs lawful.1
plain_from host n before (Article f ∷ cs) lawful =
    All-cons is_plain (news_article n f) (filter_map article_filed (entries_from (suc n) cs)) (carried_plain f.text lawful.0.carried)
    (plain_from host (suc n) (before ++ Article f ∷ []) cs lawful.1)

-- ---- the block that has these lines

sent : (S : Spool) (w : Octets) (from : ℤ) (filed : List NewsArticle) → All is_plain filed
    → flat_map stuffed_line (map line
    (map id_of (filter (λ (a : NewsArticle). list_any (wildmat_matches w) a.groups && is_since from a.moment)
    (map (as_it_is S) filed)))) ≡ new_lines S w from filed
sent S w from [] plain = refl
sent S w from (a ∷ filed) plain =
    by_new (is_new S w from a) (All-head is_plain a filed plain) (sent S w from filed (All-tail is_plain a filed plain)) where
      now : List NewsArticle
      now = filter (λ (a : NewsArticle). list_any (wildmat_matches w) a.groups && is_since from a.moment) (map (as_it_is S) filed)

      later : List NewsArticle
      later = filter (is_new S w from) filed

      by_new : (b : Bool) → is_plain a
          → flat_map stuffed_line (map line (map id_of now)) ≡ flat_map (λ (a : NewsArticle). line (id a.text)) later
          → flat_map stuffed_line (map line (map id_of (cond b (as_it_is S a ∷ now) now)))
          ≡ flat_map (λ (a : NewsArticle). line (id a.text)) (cond b (a ∷ later) later)
      by_new true one rest = λ i. one i ++ rest i
      by_new false one rest = rest

pub block_new : (host : Octets) (S : Spool) (w : Octets) (from : ℤ) (status : Octets) → IsLawful host S
    → line status ++ new_lines S w from (articles S) ++ dot_line
    ≡ block status (map id_of (filter (λ (a : NewsArticle). list_any (wildmat_matches w) a.groups && is_since from a.moment)
    (articles_now S)))
unfolding articles_now articles entries
block_new host S w from status lawful =
    append_assoc (line status) (new_lines S w from (articles S)) dot_line
    ∙ ap (λ os. line status ++ (os ++ dot_line)) (sym (sent S w from (articles S) (plain_from host 1 [] S lawful)))
