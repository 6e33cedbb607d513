-- Lines stay what they are, whatever changes come after them.
use Rattle.std.proofs.Common.{◌≡◌, ◌≤◌, ℕ, ◌+◌, ◌-◌, Bool, List, ◌++◌, length, take, drop, sym, ◌∙◌, ap, arith}
use Rattle.std.proofs.Common.{length-append, length-drop}
use Rattle.std.specs.Prelude.{Some, filter, filter_map, flat_map, slice_get}
use Rattle.std.specs.List.{enumerate_from, list_any}
use Rattle.std.proofs.lemmas.List.{drop-append-le, take-append-le}
use Rattle.std.proofs.lemmas.List.Elements.{filter-append, filter_map-append}
use Rattle.std.proofs.Math.Seq.{drop-append_seam, take-append_seam}
use Rattle.session_lookups.specs.Held.{overviews_between}
use Rattle.model.specs.Article.{overview_line}
use Rattle.model.specs.Spool.{
  Spool,
  SpoolEntry,
  NewsArticle,
  NewsGroup,
  article_filed,
  articles,
  entries,
  entries_from,
  filed_in,
  group_made,
  groups,
}
use Rattle.model.specs.Spool.{high, is_name}
use Rattle.model.specs.Stream.{Octets, dot_line, line}
use Rattle.model.proofs.Fronts.{entries_split}
use Rattle.model.proofs.Numbers.{front_stays}
use Rattle.kernel_outbox.specs.declared.made_lines.Lines.{Lines}
use Rattle.spool_texts.specs.Parts.{HasLines, lines_in, lines_of}

-- the changes so far, and those after them
entries_more : (S more : Spool) → entries (S ++ more) ≡ entries S ++ entries_from (1 + length S) more
entries_more S more =
    entries_split (length S) (S ++ more)
    ∙ (λ i. entries (take-append_seam S more i) ++ entries_from (1 + length S) (drop-append_seam S more i))

groups_more : (S more : Spool) → groups (S ++ more) ≡ groups S ++ filter_map group_made (entries_from (1 + length S) more)
unfolding groups
groups_more S more =
    ap (filter_map group_made) (entries_more S more) ∙ filter_map-append group_made (entries S) (entries_from (1 + length S) more)

later_filed : Spool → Spool → Octets → List NewsArticle
later_filed S more g = filter (λ (a : NewsArticle). list_any (is_name g) a.groups) (filter_map article_filed
    (entries_from (1 + length S) more))

filed_more : (S more : Spool) (g : Octets) → filed_in (S ++ more) g ≡ filed_in S g ++ later_filed S more g
unfolding filed_in articles later_filed
filed_more S more g =
    let test : NewsArticle → Bool = λ a. list_any (is_name g) a.groups in
    ap (λ (es : List SpoolEntry). filter test (filter_map article_filed es)) (entries_more S more)
    ∙ ap (filter test) (filter_map-append article_filed (entries S) (entries_from (1 + length S) more))
    ∙ filter-append test (filter_map article_filed (entries S)) (filter_map article_filed (entries_from (1 + length S) more))

-- the overviews of numbers that a group has had
overviews_stay : (S more : Spool) (g : Octets) (from to : ℕ) → 1 ≤ from → from ≤ to + 1 → to ≤ high S g
    → overviews_between (S ++ more) g from to ≡ overviews_between S g from to
overviews_stay S more g from to some order below =
    let filed = filed_in S g in
    let later = later_filed S more g in
    let same : take (to + 1 - from) (drop (from - 1) (filed_in (S ++ more) g)) ≡ take (to + 1 - from) (drop (from - 1) filed) =
    ap (λ (l : List NewsArticle). take (to + 1 - from) (drop (from - 1) l)) (filed_more S more g)
    ∙ ap (take (to + 1 - from)) (drop-append-le (from - 1) filed later (omega (arith, some, order, below)))
    ∙ take-append-le (to + 1 - from) (drop (from - 1) filed) later (omega (arith, some, order, below, length-drop (from - 1) filed)) in
    ap (λ (l : List NewsArticle). flat_map (λ (p : ℕ × NewsArticle). line (overview_line p.0 p.1.text)) (enumerate_from from l)) same

-- lines that these changes have are lines of these and any that come after them, and stand for the same octets
pub record Stay (S R : Spool) (lines : Lines) : Type 0 where
  pub has : HasLines R lines
  pub same : lines_of R lines ≡ lines_of S lines

pub lines_stay : (S more : Spool) (lines : Lines) → HasLines S lines → Stay S (S ++ more) lines
lines_stay S more lines has =
    let name = has.group.name in
    let there : slice_get (groups (S ++ more)) lines.group ≡ Some has.group =
    ap (λ (l : List NewsGroup). slice_get l lines.group) (groups_more S more)
    ∙ front_stays (groups S) (filter_map group_made (entries_from (1 + length S) more)) lines.group has.group has.there in
    let same : lines_of (S ++ more) lines ≡ lines_of S lines =
    ap (λ o. lines_in (S ++ more) o lines) there
    ∙ ap (λ (l : Octets). l ++ dot_line)
    (overviews_stay S more name lines.next (lines.end - 1) has.first (omega (arith, has.order)) (omega (arith, has.high)))
    ∙ ap (λ o. lines_in S o lines) (sym has.there) in
    let longer : high S name ≤ high (S ++ more) name =
    omega (
      arith,
      ap (λ (l : List NewsArticle). length l) (filed_more S more name),
      length-append (filed_in S name)
          (later_filed S more name),
    ) in
    record {
      has = record {
        group = has.group;
        there = there;
        first = has.first;
        order = has.order;
        high = omega (arith, has.high, longer);
        octets = has.octets ∙ ap (λ (l : Octets). length l) (sym same);
      };
      same = same;
    }
