-- An article has a number in each group that it was filed in.
use Rattle.std.proofs.Common.{◌≡◌, ◌<◌, ◌≤◌, ℕ, zero, suc, ◌+◌, ◌-◌, List, [], ◌∷◌, ◌++◌, length, get_or, map, refl, sym, ◌∙◌}
use Rattle.std.proofs.Common.{ap, arith, subst, Bool, true, false, cond}
use Rattle.std.specs.Prelude.{Option, Some, None, filter, nat_le, option_map, slice_get}
use Rattle.std.specs.List.{list_any}
use Rattle.std.specs.Option.{option_and_then}
use Rattle.std.proofs.lemmas.Bool.{ne_eqb, or_left}
use Rattle.std.proofs.lemmas.Option.{same_Some, slice_get_read, slice_get_within}
use Rattle.std.proofs.lemmas.Slice.Eq.{bytes_eq-Decides}
use Rattle.model.specs.Indexed.{GroupIndex, group_index}
use Rattle.model.specs.Lawful.{IsLawful, IsLawfulAfter}
use Rattle.model.specs.Spool.{Spool, NewsArticle, article_filed, articles, entries, entries_from, filed_in, group_named, groups}
use Rattle.model.specs.Spool.{is_name, news_article, numbered}
use Rattle.model.specs.Stream.{Octets}
use Rattle.model.specs.declared.change.Change.TheVariants as change
use Rattle.model.proofs.Growing.{new_has_nothing}
use Rattle.model.proofs.Joined.{both_at}
use Rattle.model.proofs.Numbers.{is_filed_in, later_articles, number_is_rank}
use Rattle.session_lookups.specs.Held.{article_with}
use Rattle.spool_groups.specs.Finding.{Rise}
use Rattle.spool_groups.specs.Shown.{shown}
use Rattle.spool_groups.specs.declared.group.Group.{Group}
use Rattle.spool_index.specs.Finding.{number_upto}
use Rattle.spool_index.proofs.Serials.{number_upto_found}
use Rattle.spool_texts.specs.Overviews.{IsFiledAs}
use Rattle.spool_texts.proofs.Groups.{IsAt}

-- ---- the number of an article

-- an article among changes that begin with serial n, and its place among those of a group
record Found (g : Octets) (n : ℕ) (S : Spool) (k : ℕ) (a : NewsArticle) : Type 0 where
  place : ℕ
  is : slice_get (later_articles n g S) place ≡ Some a
  serial : a.serial ≡ n + k

found : (g : Octets) (n : ℕ) (S : Spool) (k : ℕ) (a : NewsArticle) → option_and_then article_filed (slice_get (entries_from n S) k) ≡ Some a
    → is_filed_in g a ≡ true → Found g n S k a
found g n [] k a is files = absurd (cc)
found g n (change.Group created ∷ S) zero a is files = absurd (cc)
found g n (change.Expire expiry ∷ S) zero a is files = absurd (cc)
found g n (change.Article filing ∷ S) zero a is files = record {
  place = 0;
  is = ap (λ (b : Bool). slice_get (cond b (its ∷ rest) rest) 0) here ∙ ap Some one;
  serial = let serials : n ≡ a.serial = ap (λ (b : NewsArticle). b.serial) one in omega arith;
} where
  its : NewsArticle
  its = news_article n filing

  rest : List NewsArticle
  rest = later_articles (suc n) g S

  one : its ≡ a
  one = same_Some its a is

  here : is_filed_in g its ≡ true
  here = ap (is_filed_in g) one ∙ files
found g n (change.Group created ∷ S) (suc k) a is files =
    let later = found g (suc n) S k a is files in record { place = later.place; is = later.is; serial = omega (arith, later.serial) }
found g n (change.Expire expiry ∷ S) (suc k) a is files =
    let later = found g (suc n) S k a is files in record { place = later.place; is = later.is; serial = omega (arith, later.serial) }
found g n (change.Article filing ∷ S) (suc k) a is files = by_group (is_filed_in g its) refl (found g (suc n) S k a is files) where
  its : NewsArticle
  its = news_article n filing

  rest : List NewsArticle
  rest = later_articles (suc n) g S

  by_group : (b : Bool) → is_filed_in g its ≡ b → Found g (suc n) S k a → Found g n (change.Article filing ∷ S) (suc k) a
  by_group true also later = record {
    place = suc later.place;
    is = ap (λ (b : Bool). slice_get (cond b (its ∷ rest) rest) (suc later.place)) also ∙ later.is;
    serial = omega (arith, later.serial);
  }
  by_group false also later = record {
    place = later.place;
    is = ap (λ (b : Bool). slice_get (cond b (its ∷ rest) rest) later.place) also ∙ later.is;
    serial = omega (arith, later.serial);
  }

numbered_so : (filed : List NewsArticle) (i : ℕ) (a : NewsArticle) → slice_get filed (i + 1 - 1) ≡ Some a → numbered filed (i + 1) ≡ Some a
numbered_so filed i a is = ap (λ (b : Bool). cond b None (slice_get filed (i + 1 - 1))) (ne_eqb (i + 1) 0 (λ e. omega arith)) ∙ is

-- the article stands in the group under the number of articles up to it
pub record HasNumber (S : Spool) (g : Octets) (number : ℕ) (a : NewsArticle) : Type 0 where
  pub first : 1 ≤ number
  pub there : slice_get (filed_in S g) (number - 1) ≡ Some a

pub has_number : (S : Spool) (g : Octets) (serial : ℕ) (a : NewsArticle) → article_with S serial ≡ Some a → is_filed_in g a ≡ true
    → HasNumber S g (number_upto S g serial) a
unfolding filed_in articles entries
has_number S g zero a is files = absurd (cc)
has_number S g (suc k) a is files =
    let its = found g 1 S k a is files in
    let same : its.place + 1 - 1 ≡ its.place = omega arith in
    let there : slice_get (filed_in S g) (its.place + 1 - 1) ≡ Some a = ap (slice_get (filed_in S g)) same ∙ its.is in
    let serial : suc k ≡ a.serial = omega (arith, its.serial) in
    let rank : number_upto S g (suc k) ≡ its.place + 1 = ap (number_upto S g) serial
    ∙ number_is_rank S g (its.place + 1) a (numbered_so (filed_in S g) its.place a there) in
    subst (λ (n : ℕ). HasNumber S g n a) (sym rank) (record { first = omega arith; there = there })

-- ---- its groups

-- it was filed in one, at least
some_groups : (host : Octets) (before S : Spool) (n k : ℕ) (a : NewsArticle) → IsLawfulAfter host before S
    → option_and_then article_filed (slice_get (entries_from n S) k) ≡ Some a → 0 < length a.groups
some_groups host before [] n k a lawful is = absurd (cc)
some_groups host before (change.Group created ∷ S) n zero a lawful is = absurd (cc)
some_groups host before (change.Expire expiry ∷ S) n zero a lawful is = absurd (cc)
some_groups host before (change.Article filing ∷ S) n zero a lawful is =
    let one : news_article n filing ≡ a = same_Some (news_article n filing) a is in
    subst (λ (b : NewsArticle). 0 < length b.groups) one lawful.0.somewhere
some_groups host before (c ∷ S) n (suc k) a lawful is = some_groups host (before ++ c ∷ []) S (suc n) k a lawful.1 is

pub has_groups : (host : Octets) (S : Spool) (serial : ℕ) (a : NewsArticle) → IsLawful host S → article_with S serial ≡ Some a
    → 0 < length a.groups
unfolding entries
has_groups host S zero a lawful is = absurd (cc)
has_groups host S (suc k) a lawful is = some_groups host [] S 1 k a lawful is

-- a list of names has its first one
first_of : (names : List Octets) (name : Octets) → slice_get names 0 ≡ Some name → list_any (is_name name) names ≡ true
first_of [] name is = absurd (cc)
first_of (g ∷ names) name is =
    or_left (is_name name g) (list_any (is_name name) names) ((bytes_eq-Decides g name).1 (same_Some g name is))

-- the first of them
pub record InFirst (S : Spool) (serial : ℕ) (name : Octets) : Type 0 where
  pub article : NewsArticle
  pub its_serial : article_with S serial ≡ Some article
  pub files : is_filed_in name article ≡ true

pub in_first : (S : Spool) (serial : ℕ) (names : List Octets) (name : Octets)
    → Some names ≡ option_map (λ (a : NewsArticle). a.groups) (article_with S serial) → slice_get names 0 ≡ Some name
    → InFirst S serial name
in_first S serial names name is first = by_article (article_with S serial) refl is where
  by_article : (o : Option NewsArticle) → article_with S serial ≡ o → Some names ≡ option_map (λ (a : NewsArticle). a.groups) o
      → InFirst S serial name
  by_article None at same = absurd (cc)
  by_article (Some a) at same = record {
    article = a;
    its_serial = at;
    files = first_of a.groups name (ap (λ (l : List Octets). slice_get l 0) (sym (same_Some names a.groups same)) ∙ first);
  }

-- which exists
pub first_here : (host : Octets) (S : Spool) (serial : ℕ) (name : Octets) → IsLawful host S → InFirst S serial name
    → group_named S name ≡ None → ⊥
first_here host S serial name lawful its none =
    let has = has_number S name serial its.article its.its_serial its.files in
    let nothing : filed_in S name ≡ [] = new_has_nothing host S name lawful none in
    let past = slice_get_within (filed_in S name) (number_upto S name serial - 1) its.article has.there in
    omega (arith, past, ap (λ (l : List NewsArticle). length l) nothing)

-- how many names there are, at least
pub some_names : (host : Octets) (S : Spool) (serial : ℕ) (names : List Octets) → IsLawful host S
    → Some names ≡ option_map (λ (a : NewsArticle). a.groups) (article_with S serial) → 0 < length names
some_names host S serial names lawful is = by_article (article_with S serial) refl is where
  by_article : (o : Option NewsArticle) → article_with S serial ≡ o → Some names ≡ option_map (λ (a : NewsArticle). a.groups) o
      → 0 < length names
  by_article None at same = absurd (cc)
  by_article (Some a) at same = omega (
    arith,
    has_groups host S serial a lawful at,
    ap (λ (l : List Octets). length l) (same_Some names a.groups same),
  )

-- ---- how it was filed

-- what the index keeps of a group that is there
pub kept_whole : (S : Spool) (gs : List Group) (name : Octets) (k : ℕ) (g : Group) → (its : IsAt S name k)
    → map shown gs ≡ map (group_index S) (groups S) → k < length gs → g ≡ get_or gs k g → shown g ≡ group_index S its.group
kept_whole S gs name k g its same low is =
    both_at shown (group_index S) gs (groups S) k g its.group same (slice_get_read gs (length gs) k g refl low is) its.at

pub filed_as : (S : Spool) (i : GroupIndex) (name : Octets) (place serial number : ℕ) → (its : IsAt S name place)
    → slice_get (groups S) place ≡ group_named S name → i ≡ group_index S its.group
    → (Rise i.filed → number ≡ length (filter (λ n. nat_le n serial) i.filed)) → InFirst S serial name
    → IsFiledAs S serial (record { group = place; number = number })
filed_as S i name place serial number its named is at first =
    let found : Some i ≡ option_map (group_index S) (group_named S name) =
    ap Some is ∙ sym (ap (option_map (group_index S)) (sym named ∙ its.at)) in
    let upto = number_upto_found S name i serial number found at in
    let has = has_number S name serial first.article first.its_serial first.files in
    let same : HasNumber S its.group.name number first.article =
    subst (λ (g : Octets). HasNumber S g number first.article) (sym its.its_name)
    (subst (λ (n : ℕ). HasNumber S name n first.article) (sym upto) has) in
    record {
      group = its.group;
      here = its.at;
      article = first.article;
      its_serial = first.its_serial;
      first = same.first;
      its_number = same.there;
    }
