-- The lines of an overview.
use Rattle.std.proofs.Common.{◌≡◌, ◌≤◌, inl, inr, ℕ, zero, suc, ◌+◌, ◌-◌, List, [], ◌∷◌, ◌++◌, length, get_or, take, drop, refl, sym, ◌∙◌}
use Rattle.std.proofs.Common.{ap, arith, append_assoc, append-nil, drop-cons}
use Rattle.std.specs.Prelude.{Some, flat_map, option_map, slice_get}
use Rattle.std.specs.List.{enumerate_from}
use Rattle.std.proofs.lemmas.Option.{same_Some, slice_get-map, slice_get_cases}
use Rattle.model.specs.Stream.{Octets, crlf, line}
use Rattle.model.specs.Article.{overview_line}
use Rattle.model.specs.Indexed.{ends_from, line_start}
use Rattle.model.specs.Spool.{Spool, NewsArticle, filed_in}
use Rattle.model.specs.SpoolFiles.{overview_file, overview_lines}
use Rattle.session_lookups.specs.Held.{overviews_between}
use Rattle.model.proofs.Indexing.{lines_stand}
use Rattle.spool_texts.specs.Texts.{LinesRise, line_at, lines_from}

-- one line more
pub lines_more : (content : Octets) (ends : List ℕ) (k n : ℕ)
    → lines_from content ends k (suc n) ≡ lines_from content ends k n ++ line (line_at content ends (k + n))
lines_more content ends k zero =
    let here : k ≡ k + 0 = omega arith in
    append-nil (line (line_at content ends k)) ∙ ap (λ (j : ℕ). line (line_at content ends j)) here
lines_more content ends k (suc n) =
    let next : suc k + n ≡ k + suc n = omega arith in
    ap (λ (l : Octets). line (line_at content ends k) ++ l) (lines_more content ends (suc k) n
    ∙ ap (λ (j : ℕ). lines_from content ends (suc k) n ++ line (line_at content ends j)) next)
    ∙ sym (append_assoc (line (line_at content ends k)) (lines_from content ends (suc k) n) (line (line_at content ends (k + suc n))))

numbered_at : {X : Type 0} (n : ℕ) (xs : List X) (k : ℕ) (x : X) → slice_get xs k ≡ Some x
    → slice_get (enumerate_from n xs) k ≡ Some (n + k, x)
numbered_at n [] k x is = absurd (cc)
numbered_at {X} n (y ∷ xs) zero x is =
    let here : n ≡ n + 0 = omega arith in
    ap (λ (m : ℕ). Some (m, y)) here ∙ ap (λ (z : X). Some (n + 0, z)) (same_Some y x is)
numbered_at n (y ∷ xs) (suc k) x is =
    let next : n + 1 + k ≡ n + suc k = omega arith in
    numbered_at (n + 1) xs k x is ∙ ap (λ (m : ℕ). Some (m, x)) next

-- where the lines of a group end
abbrev pub group_ends : Spool → Octets → List ℕ
group_ends S g = ends_from 0 (overview_lines (filed_in S g))

pub record Stands (S : Spool) (g : Octets) (k : ℕ) (a : NewsArticle) : Type 0 where
  pub rises : line_start (group_ends S g) k ≤ get_or (group_ends S g) k 0
  pub is : line_at (overview_file S g) (group_ends S g) k ≡ overview_line (k + 1) a.text
  pub size : get_or (group_ends S g) k 0 ≡ line_start (group_ends S g) k + length (overview_line (k + 1) a.text)

pub stands : (S : Spool) (g : Octets) (k : ℕ) (a : NewsArticle) → slice_get (filed_in S g) k ≡ Some a → Stands S g k a
stands S g k a at =
    let number : 1 + k ≡ k + 1 = omega arith in
    let there : slice_get (overview_lines (filed_in S g)) k ≡ Some (overview_line (k + 1) a.text) =
    slice_get-map (λ (p : ℕ × NewsArticle). overview_line p.0 p.1.text) (enumerate_from 1 (filed_in S g)) k
    ∙ ap (option_map (λ (p : ℕ × NewsArticle). overview_line p.0 p.1.text)) (numbered_at 1 (filed_in S g) k a at)
    ∙ ap (λ (m : ℕ). Some (overview_line m a.text)) number in
    let its = lines_stand S g k (overview_line (k + 1) a.text) there in
    let size : get_or (group_ends S g) k 0 - line_start (group_ends S g) k ≡ length (overview_line (k + 1) a.text) = omega (arith, its.1) in
    record {
      rises = omega (arith, its.1);
      is = ap (λ (m : ℕ). take m (drop (line_start (group_ends S g) k) (overview_file S g))) size ∙ its.0;
      size = its.1;
    }

pub rising : (S : Spool) (g : Octets) → LinesRise (group_ends S g) (length (filed_in S g))
rising S g k low = elim (slice_get_cases (filed_in S g) k).1 [
  | inl found ↦ (stands S g k found.0 found.2).rises
  | inr past ↦ absurd (omega (arith, low, past.0))
]

-- the lines of the articles from one number on
pub all_lines : (S : Spool) (g : Octets) (k n : ℕ) → k + n ≤ length (filed_in S g)
    → lines_from (overview_file S g) (group_ends S g) k n ≡ flat_map (λ (p : ℕ × NewsArticle). line (overview_line p.0 p.1.text))
    (enumerate_from (k + 1) (take n (drop k (filed_in S g))))
all_lines S g k zero fits = refl
all_lines S g k (suc n) fits = elim (slice_get_cases (filed_in S g) k).1 [
  | inl found ↦
      let split : drop k (filed_in S g) ≡ found.0 ∷ drop (suc k) (filed_in S g) = drop-cons (filed_in S g) k found.0 found.1
      ∙ ap (λ (b : NewsArticle). b ∷ drop (suc k) (filed_in S g)) found.3 in
      let next : suc k + 1 ≡ k + 1 + 1 = omega arith in
      ap (λ (l : Octets). line l ++ lines_from (overview_file S g) (group_ends S g) (suc k) n) (stands S g k found.0 found.2).is
      ∙ ap (λ (l : Octets). line (overview_line (k + 1) found.0.text) ++ l) (all_lines S g (suc k) n (omega (arith, fits))
      ∙ ap (λ (m : ℕ). flat_map (λ (p : ℕ × NewsArticle). line (overview_line p.0 p.1.text))
      (enumerate_from m (take n (drop (suc k) (filed_in S g))))) next)
      ∙ sym (ap (λ (l : List NewsArticle). flat_map (λ (p : ℕ × NewsArticle). line (overview_line p.0 p.1.text))
      (enumerate_from (k + 1) (take (suc n) l))) split)
  | inr past ↦ absurd (omega (arith, fits, past.0))
]

-- the lines of the articles from one number to another
pub between : (S : Spool) (g : Octets) (content : Octets) (ends : List ℕ) (from to : ℕ) → 1 ≤ from → from ≤ to + 1
    → to ≤ length (filed_in S g)
    → content ≡ overview_file S g → ends ≡ group_ends S g
    → lines_from content ends (from - 1) (to - (from - 1)) ≡ overviews_between S g from to
between S g content ends from to some order high same also =
    let first : from - 1 + 1 ≡ from = omega arith in
    let count : to - (from - 1) ≡ to + 1 - from = omega arith in
    ap (λ (o : Octets). lines_from o ends (from - 1) (to - (from - 1))) same
    ∙ ap (λ (ns : List ℕ). lines_from (overview_file S g) ns (from - 1) (to - (from - 1))) also
    ∙ all_lines S g (from - 1) (to - (from - 1)) (omega arith)
    ∙ ap (λ (m : ℕ). flat_map (λ (p : ℕ × NewsArticle). line (overview_line p.0 p.1.text))
    (enumerate_from m (take (to - (from - 1)) (drop (from - 1) (filed_in S g))))) first
    ∙ ap (λ (m : ℕ). flat_map (λ (p : ℕ × NewsArticle). line (overview_line p.0 p.1.text))
    (enumerate_from from (take m (drop (from - 1) (filed_in S g))))) count

-- where the line at a place begins
pub here : (ends : List ℕ) (place : ℕ) → line_start ends (place + 1 - 1) ≡ line_start ends place
here ends place = let same : place + 1 - 1 ≡ place = omega arith in ap (line_start ends) same

-- where the line after it begins
pub next_start : (ends : List ℕ) (place : ℕ) → line_start ends (place + 1) ≡ get_or ends (place + 1 - 1) 0
next_start ends place =
    let next : place + 1 ≡ suc place = omega arith in
    let same : place ≡ place + 1 - 1 = omega arith in
    ap (line_start ends) next ∙ ap (λ (k : ℕ). get_or ends k 0) same

-- one line more is appended
pub one_appended : (content : Octets) (ends : List ℕ) (first place start stop : ℕ) (old before read after : Octets) → first ≤ place
    → start ≡ line_start ends (place + 1 - 1) → stop ≡ get_or ends (place + 1 - 1) 0
    → before ≡ old ++ lines_from content ends first (place - first) → read ≡ before ++ take (stop - start) (drop start content)
    → after ≡ read ++ crlf → after ≡ old ++ lines_from content ends first (place + 1 - first)
one_appended content ends first place start stop old before read after low from to is next ended =
    let here : place + 1 - 1 ≡ first + (place - first) = omega arith in
    let more : suc (place - first) ≡ place + 1 - first = omega arith in
    let its : take (stop - start) (drop start content) ≡ line_at content ends (first + (place - first)) =
    ap (λ (s : ℕ). take (stop - s) (drop s content)) from
    ∙ ap (λ (e : ℕ). take (e - line_start ends (place + 1 - 1)) (drop (line_start ends (place + 1 - 1)) content)) to
    ∙ ap (λ (k : ℕ). line_at content ends k) here in
    ended
    ∙ ap (λ (l : Octets). l ++ crlf) (next ∙ ap (λ (b : Octets). b ++ take (stop - start) (drop start content)) is
    ∙ ap (λ (l : Octets). (old ++ lines_from content ends first (place - first)) ++ l) its)
    ∙ append_assoc (old ++ lines_from content ends first (place - first)) (line_at content ends (first + (place - first))) crlf
    ∙ append_assoc old (lines_from content ends first (place - first)) (line (line_at content ends (first + (place - first))))
    ∙ ap (λ (l : Octets). old ++ l) (sym (lines_more content ends first (place - first))
    ∙ ap (λ (n : ℕ). lines_from content ends first n) more)
