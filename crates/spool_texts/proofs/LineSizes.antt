-- How long the lines of an overview are, one by one and together.
use Rattle.std.proofs.Common.{◌≡◌, ◌<◌, ◌≤◌, inl, inr, ℕ, zero, suc, ◌+◌, ◌-◌, ◌*◌, List, [], ◌∷◌, ◌++◌, length, get_or, sym, ◌∙◌}
use Rattle.std.proofs.Common.{ap, subst, arith, append_assoc, drop}
use Rattle.std.specs.Prelude.{filter_map, flat_map, min, None}
use Rattle.std.specs.List.{All, enumerate_from, list_any}
use Rattle.std.proofs.lemmas.List.{length-append, length-drop, length-map, length-take}
use Rattle.std.proofs.lemmas.List.Elements.{All-cons, All-filter, All-nil}
use Rattle.std.proofs.lemmas.List.FromFn.{length-enumerate_from}
use Rattle.std.proofs.lemmas.Option.{slice_get_cases}
use Rattle.model.specs.Article.{Carried, cause, overview_line}
use Rattle.model.specs.Indexed.{ends_from, line_start}
use Rattle.model.specs.Lawful.{IsLawfulAfter}
use Rattle.model.specs.Spool.{Spool, NewsArticle, article_filed, articles, entries, entries_from, filed_in, is_name, news_article}
use Rattle.model.specs.SpoolFiles.{overview_file, overview_lines, overview_of}
use Rattle.model.specs.Stream.{Octets, crlf, line}
use Rattle.model.specs.declared.change.Change.TheVariants.{Group, Article, Expire}
use Rattle.model.proofs.HoldsOne.{high_few}
use Rattle.model.proofs.LineSizes.{line_short}
use Rattle.spool_texts.specs.Parts.{IsStored, LinesFit}
use Rattle.spool_texts.specs.Texts.{LinesRise, line_at, lines_from}
use Rattle.spool_texts.proofs.Lines.{group_ends, stands}

-- ---- how long lines are

-- each article of lawful changes may be carried
abbrev pub IsCarried : NewsArticle → Type 0
IsCarried a = cause Carried a.text ≡ None

carried_from : (host : Octets) (before cs : Spool) (n : ℕ) → IsLawfulAfter host before cs
    → All IsCarried (filter_map article_filed (entries_from n cs))
carried_from host before [] n lawful = All-nil IsCarried
carried_from host before (Group g ∷ cs) n lawful = carried_from host (before ++ Group g ∷ []) cs (suc n) lawful.1
carried_from host before (Article f ∷ cs) n lawful =
    All-cons IsCarried (news_article n f) (filter_map article_filed (entries_from (suc n) cs)) lawful.0.carried
    (carried_from host (before ++ Article f ∷ []) cs (suc n) lawful.1)
carried_from host before (Expire e ∷ cs) n lawful = carried_from host (before ++ Expire e ∷ []) cs (suc n) lawful.1

filed_carried : (S : Spool) (g : Octets) → IsStored S → All IsCarried (filed_in S g)
unfolding filed_in articles entries
filed_carried S g stored =
    All-filter (λ (a : NewsArticle). list_any (is_name g) a.groups) IsCarried (articles S) (carried_from stored.host [] S 1 stored.lawful)

-- lines end in the octets of all of them
end_within : (start : ℕ) (ls : List Octets) (k : ℕ) → k < length ls
    → get_or (ends_from start ls) k 0 ≤ start + length (flat_map (λ (l : Octets). l) ls)
end_within start [] k low = absurd (omega arith)
end_within start (l ∷ ls) zero low = omega (arith, length-append l (flat_map (λ (x : Octets). x) ls))
end_within start (l ∷ ls) (suc k) low =
    omega (arith, end_within (start + length l) ls k (omega (arith, low)), length-append l (flat_map (λ (x : Octets). x) ls))

pub ends_within : (S : Spool) (g : Octets) (k : ℕ) → k < length (filed_in S g) → get_or (group_ends S g) k 0 ≤ length (overview_file S g)
unfolding overview_of
ends_within S g k low =
    let filed = filed_in S g in
    let count : length (overview_lines filed) ≡ length filed =
    length-map (enumerate_from 1 filed) (λ (p : ℕ × NewsArticle). overview_line p.0 p.1.text) ∙ length-enumerate_from 1 filed in
    omega (arith, end_within 0 (overview_lines filed) k (omega (arith, low, count)))

-- the lines of a group end within its overview, and are short
pub lines_fit : (S : Spool) (g : Octets) → IsStored S → LinesFit (overview_file S g) (group_ends S g) (length (filed_in S g))
lines_fit S g stored k low = (
  ends_within S g k low,
  elim (slice_get_cases (filed_in S g) k).1 [
    | inl found ↦
        let carried : IsCarried found.0 = subst IsCarried found.3 (filed_carried S g stored k found.0 low) in
        let short : length (overview_line (k + 1) found.0.text) ≤ 8191 =
        line_short (k + 1) found.0.text (omega (arith, low, high_few S g, stored.few)) carried in
        omega (arith, (stands S g k found.0 found.2).size, short)
    | inr past ↦ absurd (omega (arith, low, past.0))
  ],
)

-- ---- how long lines are together

-- the first lines, and those after them
pub lines_split : (content : Octets) (ends : List ℕ) (k m n : ℕ)
    → lines_from content ends k (m + n) ≡ lines_from content ends k m ++ lines_from content ends (k + m) n
lines_split content ends k zero n =
    let here : k ≡ k + 0 = omega arith in
    let none : zero + n ≡ n = omega arith in
    ap (λ (i : ℕ). lines_from content ends k i) none ∙ ap (λ (j : ℕ). lines_from content ends j n) here
lines_split content ends k (suc m) n =
    let next : suc k + m ≡ k + suc m = omega arith in
    let more : suc m + n ≡ suc (m + n) = omega arith in
    ap (λ (i : ℕ). lines_from content ends k i) more
    ∙ ap (λ (l : Octets). line (line_at content ends k) ++ l) (lines_split content ends (suc k) m n
    ∙ ap (λ (j : ℕ). lines_from content ends (suc k) m ++ lines_from content ends j n) next)
    ∙ sym (append_assoc (line (line_at content ends k)) (lines_from content ends (suc k) m) (lines_from content ends (k + suc m) n))

-- each line ends within the content
abbrev pub EndsWithin : Octets → List ℕ → ℕ → Type 0
EndsWithin content ends count = (k : ℕ) → k < count → get_or ends k 0 ≤ length content

module _ (content : Octets) (ends : List ℕ) (count : ℕ) (rise : LinesRise ends count) (within : EndsWithin content ends count) where
  -- a line, and what ends it
  line_length : (k : ℕ) → k < count → length (line (line_at content ends k)) + line_start ends k ≡ get_or ends k 0 + 2
  line_length k low =
      omega (
        arith,
        length-append (line_at content ends k) crlf,
        length-take (get_or ends k 0 - line_start ends k) (drop (line_start ends k) content),
        length-drop (line_start ends k) content,
        rise k low,
        within k low,
      )

  pub lines_length : (k n : ℕ) → k + n ≤ count
      → length (lines_from content ends k n) + line_start ends k ≡ line_start ends (k + n) + 2 * n
  lines_length k zero below =
      let here : k ≡ k + 0 = omega arith in
      omega (arith, ap (line_start ends) here)
  lines_length k (suc n) below =
      let next : suc k + n ≡ k + suc n = omega arith in
      omega (
        arith,
        length-append (line (line_at content ends k)) (lines_from content ends (suc k) n),
        line_length k (omega (arith, below)),
        lines_length (suc k) n (omega (arith, below)),
        ap (line_start ends) next,
      )

  pub starts_rise : (k n : ℕ) → k + n ≤ count → line_start ends k ≤ line_start ends (k + n)
  starts_rise k zero below =
      let here : k ≡ k + 0 = omega arith in
      omega (arith, ap (line_start ends) here)
  starts_rise k (suc n) below =
      let next : suc k + n ≡ k + suc n = omega arith in
      omega (arith, rise k (omega (arith, below)), starts_rise (suc k) n (omega (arith, below)), ap (line_start ends) next)

  pub lines_small : LinesFit content ends count → (k n : ℕ) → k + n ≤ count → length (lines_from content ends k n) ≤ 8193 * n
  lines_small fit k zero below = omega arith
  lines_small fit k (suc n) below =
      omega (
        arith,
        length-append (line (line_at content ends k)) (lines_from content ends (suc k) n),
        line_length k (omega (arith, below)),
        (fit k (omega (arith, below))).1,
        lines_small fit (suc k) n (omega (arith, below)),
      )

  -- lines that have room together leave room for the next one
  pub room_left : LinesFit content ends count → (first next end : ℕ) (old octets : Octets) → 1 ≤ first → first ≤ next → next < end
      → end ≤ count + 1 → octets ≡ old ++ lines_from content ends (first - 1) (next - first) → length octets ≤ 65_536
      → length octets + (get_or ends (next - 1) 0 - line_start ends (next - 1)) + 2
      ≤ min (length old + length (lines_from content ends (first - 1) (end - first))) 73_729
  room_left fit first next end old octets some low below high is short =
      let here : first - 1 + (next - first) ≡ next - 1 = omega arith in
      let count_is : end - first ≡ (next - first) + suc (end - next - 1) = omega arith in
      let all = ap (λ (n : ℕ). lines_from content ends (first - 1) n) count_is
      ∙ lines_split content ends (first - 1) (next - first) (suc (end - next - 1))
      ∙ ap (λ (j : ℕ). lines_from content ends (first - 1) (next - first) ++ lines_from content ends j (suc (end - next - 1))) here in
      let one = line (line_at content ends (next - 1)) in
      let later = lines_from content ends (suc (next - 1)) (end - next - 1) in
      omega (
        arith,
        short,
        ap (λ (l : Octets). length l) is,
        length-append old (lines_from content ends (first - 1) (next - first)),
        ap (λ (l : Octets). length l) all,
        length-append (lines_from content ends (first - 1) (next - first)) (one ++ later),
        length-append one later,
        line_length (next - 1) (omega arith),
        rise (next - 1) (omega arith),
        (fit (next - 1) (omega arith)).1,
      )
