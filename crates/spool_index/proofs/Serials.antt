-- What the index says of an article by its serial is what the changes say.
use Rattle.std.proofs.Common.{◌≡◌, ℕ, zero, suc, ◌+◌, List, [], ◌∷◌, length, map, refl, sym, ◌∙◌, ap, subst, arith, Bool, true, false, cond}
use Rattle.std.specs.Prelude.{Option, Some, None, filter, nat_le, not, option_map, slice_get, unwrap_or, ◌&&◌}
use Rattle.std.specs.List.{list_any}
use Rattle.std.specs.Option.{option_and_then}
use Rattle.std.proofs.lemmas.Bool.{lt-leb}
use Rattle.std.proofs.lemmas.List.{length-map}
use Rattle.std.proofs.lemmas.Option.{same_Some, slice_get-map}
use Rattle.model.specs.Stream.{Octets}
use Rattle.model.specs.Article.{id}
use Rattle.model.specs.Indexed.{GroupIndex, group_index}
use Rattle.model.specs.Lawful.{IsLawful}
use Rattle.model.specs.Spool.{Spool, SpoolEntry, NewsArticle, article_filed, as_it_is, entries, entries_from, expired_at, filed_in, gone_at}
use Rattle.model.specs.Spool.{greatest, group_named, is_gone, is_in, low, news_article}
use Rattle.model.specs.declared.change.Change.{Change}
use Rattle.model.specs.declared.change.Change.TheVariants.{Group, Article, Expire}
use Rattle.model.proofs.Growing.{new_has_nothing}
use Rattle.model.proofs.Rising.{filed_rise}
use Rattle.session_lookups.specs.Held.{article_with, gone_with, groups_now}
use Rattle.spool_groups.specs.Finding.{Rise}
use Rattle.spool_groups.proofs.Searching.{filter_mapped}
use Rattle.spool_index.specs.Finding.{entry_with, is_still_in, note_at, number_upto}
use Rattle.spool_index.specs.Notes.{groups_in, id_in, lengths_in, moment_in}
use Rattle.spool_index.specs.Kept.{kept, lengths_of}
use Rattle.spool_index.specs.View.{IndexView, Indexes}
use Rattle.spool_index.specs.declared.note.Note.{Note}
use Rattle.spool_index.proofs.Lists.{any_filtered}
use Rattle.spool_index.proofs.LookUps.{group_is, not_here}

-- ---- notes

pub noted : (S : Spool) (x : IndexView) (n : ℕ) → Indexes S x
    → note_at x.notes n ≡ option_map kept (entry_with S n)
noted S x zero is = refl
noted S x (suc k) is =
    ap (λ (ns : List Note). slice_get ns k) is.notes_are ∙ slice_get-map kept (entries S) k

with_entry : (S : Spool) (n : ℕ) → article_with S n ≡ option_and_then article_filed (entry_with S n)
with_entry S zero = refl
with_entry S (suc k) = refl

pub said : {X : Type 0} (says : Note → Option X) (of : NewsArticle → X)
    → ((e : SpoolEntry) → says (kept e) ≡ option_map of (article_filed e)) → (S : Spool) (n : ℕ) (note : Note)
    → Some note ≡ option_map kept (entry_with S n) → says note ≡ option_map of (article_with S n)
said says of each S n note is = by_entry (entry_with S n) is ∙ ap (option_map of) (sym (with_entry S n)) where
  by_entry : (o : Option SpoolEntry) → Some note ≡ option_map kept o
      → says note ≡ option_map of (option_and_then article_filed o)
  by_entry None same = absurd (cc)
  by_entry (Some e) same = ap says (same_Some note (kept e) same) ∙ each e

pub unsaid : {X : Type 0} (of : NewsArticle → X) (S : Spool) (n : ℕ) → None ≡ option_map kept (entry_with S n)
    → None ≡ option_map of (article_with S n)
unsaid of S n is = by_entry (entry_with S n) is ∙ ap (option_map of) (sym (with_entry S n)) where
  by_entry : (o : Option SpoolEntry) → None ≡ option_map kept o
      → None ≡ option_map of (option_and_then article_filed o)
  by_entry None same = refl
  by_entry (Some e) same = absurd (cc)

pub each_id : (e : SpoolEntry) → id_in (kept e) ≡ option_map (λ (a : NewsArticle). id a.text) (article_filed e)
each_id e = by_change e.serial e.change where
  by_change : (n : ℕ) (c : Change)
      → id_in (kept (record { serial = n; change = c })) ≡ option_map (λ (a : NewsArticle). id a.text)
      (article_filed (record { serial = n; change = c }))
  by_change n (Group created) = refl
  by_change n (Article filing) = refl
  by_change n (Expire expiry) = refl

pub each_lengths : (e : SpoolEntry) → lengths_in (kept e) ≡ option_map (λ (a : NewsArticle). lengths_of a.text) (article_filed e)
each_lengths e = by_change e.serial e.change where
  by_change : (n : ℕ) (c : Change)
      → lengths_in (kept (record { serial = n; change = c })) ≡ option_map (λ (a : NewsArticle). lengths_of a.text)
      (article_filed (record { serial = n; change = c }))
  by_change n (Group created) = refl
  by_change n (Article filing) = refl
  by_change n (Expire expiry) = refl

pub each_moment : (e : SpoolEntry) → moment_in (kept e) ≡ option_map (λ (a : NewsArticle). a.moment) (article_filed e)
each_moment e = by_change e.serial e.change where
  by_change : (n : ℕ) (c : Change)
      → moment_in (kept (record { serial = n; change = c })) ≡ option_map (λ (a : NewsArticle). a.moment)
      (article_filed (record { serial = n; change = c }))
  by_change n (Group created) = refl
  by_change n (Article filing) = refl
  by_change n (Expire expiry) = refl

pub each_groups : (e : SpoolEntry) → groups_in (kept e) ≡ option_map (λ (a : NewsArticle). a.groups) (article_filed e)
each_groups e = by_change e.serial e.change where
  by_change : (n : ℕ) (c : Change)
      → groups_in (kept (record { serial = n; change = c })) ≡ option_map (λ (a : NewsArticle). a.groups)
      (article_filed (record { serial = n; change = c }))
  by_change n (Group created) = refl
  by_change n (Article filing) = refl
  by_change n (Expire expiry) = refl

-- ---- numbers

pub number_upto_found : (S : Spool) (name : Octets) (i : GroupIndex) (serial number : ℕ)
    → Some i ≡ option_map (group_index S) (group_named S name)
    → (Rise i.filed → number ≡ length (filter (λ n. nat_le n serial) i.filed)) → number ≡ number_upto S name serial
number_upto_found S name i serial number is at =
    let its = group_is S name i is in
    let all : i.filed ≡ map (λ (a : NewsArticle). a.serial) (filed_in S name) =
    ap (λ (j : GroupIndex). j.filed) its.its_index ∙ ap (λ (g : Octets). map (λ (a : NewsArticle). a.serial) (filed_in S g)) its.its_name in
    let rise : Rise i.filed = subst Rise (sym all)
    (λ j k less small. filed_rise S name j k less (omega (arith, length-map (filed_in S name) (λ (a : NewsArticle). a.serial)))) in
    at rise ∙ ap (λ (ns : List ℕ). length (filter (λ n. nat_le n serial) ns)) all
    ∙ filter_mapped (λ (a : NewsArticle). a.serial) (λ n. nat_le n serial) (filed_in S name)

pub number_upto_none : (host : Octets) (S : Spool) (name : Octets) (serial : ℕ) → IsLawful host S
    → None ≡ option_map (group_index S) (group_named S name) → 0 ≡ number_upto S name serial
number_upto_none host S name serial lawful is =
    ap (λ (as' : List NewsArticle). length (filter (λ (b : NewsArticle). nat_le b.serial serial) as'))
    (sym (new_has_nothing host S name lawful (not_here S name is)))

pub still_found : (S : Spool) (name : Octets) (i : GroupIndex) (serial least number : ℕ)
    → Some i ≡ option_map (group_index S) (group_named S name) → least ≡ i.low
    → (Rise i.filed → number ≡ length (filter (λ n. nat_le n serial) i.filed)) → nat_le least number ≡ is_still_in S serial name
still_found S name i serial least number is low_is at =
    let its = group_is S name i is in
    let lowest : least ≡ low S name = low_is ∙ ap (λ (j : GroupIndex). j.low) its.its_index ∙ ap (low S) its.its_name in
    let counted = number_upto_found S name i serial number is at in
    λ j. nat_le (lowest j) (counted j)

pub still_nowhere : (host : Octets) (S : Spool) (name : Octets) (serial : ℕ) → IsLawful host S
    → None ≡ option_map (group_index S) (group_named S name) → false ≡ is_still_in S serial name
still_nowhere host S name serial lawful is =
    let none = number_upto_none host S name serial lawful is in
    sym (lt-leb (low S name) (number_upto S name serial) (omega (arith, none)))

-- ---- articles

entry_serial : (n : ℕ) (S : Spool) (k : ℕ) (e : SpoolEntry) → slice_get (entries_from n S) k ≡ Some e → e.serial ≡ n + k
entry_serial n [] k e is = absurd (cc)
entry_serial n (c ∷ S) zero e is =
    let one : record { serial = n; change = c } ≡ e = same_Some (record { serial = n; change = c }) e is in
    let serial : n ≡ e.serial = ap (λ (f : SpoolEntry). f.serial) one in
    omega arith
entry_serial n (c ∷ S) (suc k) e is = let rest = entry_serial (suc n) S k e is in omega (arith, rest)

filed_serial : (e : SpoolEntry) (a : NewsArticle) → article_filed e ≡ Some a → a.serial ≡ e.serial
filed_serial e a is = by_change e.serial e.change is where
  by_change : (n : ℕ) (c : Change) → article_filed (record { serial = n; change = c }) ≡ Some a → a.serial ≡ n
  by_change n (Group created) same = absurd (cc)
  by_change n (Article filing) same = let one : news_article n filing ≡ a = cc in
      ap (λ (b : NewsArticle). b.serial) (sym one)
  by_change n (Expire expiry) same = absurd (cc)

with_serial : (S : Spool) (n : ℕ) (a : NewsArticle) → article_with S n ≡ Some a → a.serial ≡ n
unfolding entries
with_serial S zero a is = absurd (cc)
with_serial S (suc k) a is = by_entry (slice_get (entries_from 1 S) k) refl is where
  by_entry : (o : Option SpoolEntry) → slice_get (entries_from 1 S) k ≡ o → option_and_then article_filed o ≡ Some a → a.serial ≡ suc k
  by_entry None at same = absurd (cc)
  by_entry (Some e) at same = let one = entry_serial 1 S k e at in let two = filed_serial e a same in omega (arith, one, two)

-- the article with this serial, and the groups that it was filed in
record IsFiled (S : Spool) (n : ℕ) (names : List Octets) : Type 0 where
  pub article : NewsArticle
  pub there : article_with S n ≡ Some article
  pub serial_is : article.serial ≡ n
  pub groups_are : names ≡ article.groups

is_filed : (S : Spool) (n : ℕ) (names : List Octets) → Some names ≡ option_map (λ (a : NewsArticle). a.groups) (article_with S n)
    → IsFiled S n names
is_filed S n names is = by_article (article_with S n) refl is where
  by_article : (o : Option NewsArticle) → article_with S n ≡ o → Some names ≡ option_map (λ (a : NewsArticle). a.groups) o
      → IsFiled S n names
  by_article None at same = absurd (cc)
  by_article (Some a) at same = record {
    article = a;
    there = at;
    serial_is = with_serial S n a at;
    groups_are = same_Some names a.groups same;
  }

none_filed : (S : Spool) (n : ℕ) → None ≡ option_map (λ (a : NewsArticle). a.groups) (article_with S n) → article_with S n ≡ None
none_filed S n is = by_article (article_with S n) is where
  by_article : (o : Option NewsArticle) → None ≡ option_map (λ (a : NewsArticle). a.groups) o → o ≡ None
  by_article None same = refl
  by_article (Some a) same = absurd (cc)

module _ (S : Spool) (n : ℕ) (names : List Octets) (its : IsFiled S n names) where
  still : list_any (is_still_in S n) names ≡ list_any (is_in S its.article) its.article.groups
  still = ap (λ (m : ℕ). list_any (is_still_in S m) names) (sym its.serial_is) ∙ ap (list_any (is_in S its.article)) its.groups_are

  gone : gone_with S n ≡ cond (is_gone S its.article) (Some (gone_at S its.article)) None
  gone = ap (option_and_then (λ (b : NewsArticle). cond (is_gone S b) (Some (gone_at S b)) None)) its.there

  here_still : list_any (is_still_in S n) names ≡ true → None ≡ gone_with S n
  unfolding is_gone
  here_still any = sym (gone ∙ ap (λ (b : Bool). cond (not b) (Some (gone_at S its.article)) None) (sym still ∙ any))

  out_since : (last : ℕ) → list_any (is_still_in S n) names ≡ false → last ≡ greatest (map (λ g. expired_at S g (number_upto S g n)) names)
      → Some last ≡ gone_with S n
  unfolding is_gone gone_at
  out_since last none last_is =
      let at : last ≡ gone_at S its.article =
      last_is ∙ ap (λ (m : ℕ). greatest (map (λ g. expired_at S g (number_upto S g m)) names)) (sym its.serial_is)
      ∙ ap (λ (gs : List Octets). greatest (map (λ g. expired_at S g (number_upto S g its.article.serial)) gs)) its.groups_are in
      ap Some at ∙ sym (gone ∙ ap (λ (b : Bool). cond (not b) (Some (gone_at S its.article)) None) (sym still ∙ none))

  one_of : (test : Octets → Bool) → list_any (λ g. test g && is_still_in S n g) names ≡ list_any test (groups_now S n)
  one_of test =
      any_filtered test (is_still_in S n) names
      ∙ ap (λ (m : ℕ). list_any test (filter (is_still_in S m) names)) (sym its.serial_is)
      ∙ ap (λ (gs : List Octets). list_any test (filter (is_in S its.article) gs)) its.groups_are
      ∙ ap (λ (o : Option NewsArticle). list_any test (unwrap_or (option_map (λ (b : NewsArticle). (as_it_is S b).groups) o) []))
      (sym its.there)

pub still_there : (S : Spool) (n : ℕ) (names : List Octets) → Some names ≡ option_map (λ (a : NewsArticle). a.groups) (article_with S n)
    → list_any (is_still_in S n) names ≡ true → None ≡ gone_with S n
still_there S n names is any = here_still S n names (is_filed S n names is) any

pub taken_out : (S : Spool) (n : ℕ) (names : List Octets) (last : ℕ)
    → Some names ≡ option_map (λ (a : NewsArticle). a.groups) (article_with S n) → list_any (is_still_in S n) names ≡ false
    → last ≡ greatest (map (λ g. expired_at S g (number_upto S g n)) names) → Some last ≡ gone_with S n
taken_out S n names last is none last_is = out_since S n names (is_filed S n names is) last none last_is

pub in_one : (S : Spool) (n : ℕ) (names : List Octets) (test : Octets → Bool)
    → Some names ≡ option_map (λ (a : NewsArticle). a.groups) (article_with S n)
    → list_any (λ g. test g && is_still_in S n g) names ≡ list_any test (groups_now S n)
in_one S n names test is = one_of S n names (is_filed S n names is) test

pub none_there : (S : Spool) (n : ℕ) → None ≡ option_map (λ (a : NewsArticle). a.groups) (article_with S n) → None ≡ gone_with S n
none_there S n is = ap (option_and_then (λ (b : NewsArticle). cond (is_gone S b) (Some (gone_at S b)) None)) (sym (none_filed S n is))

pub in_none : (S : Spool) (n : ℕ) (test : Octets → Bool) → None ≡ option_map (λ (a : NewsArticle). a.groups) (article_with S n)
    → false ≡ list_any test (groups_now S n)
in_none S n test is = ap (λ (o : Option NewsArticle). list_any test
    (unwrap_or (option_map (λ (b : NewsArticle). (as_it_is S b).groups) o) [])) (sym (none_filed S n is))
