-- A line of an overview that is copied under another number.
use Rattle.std.proofs.Common.{◌≡◌, ◌<◌, ◌≤◌, ℕ, ◌+◌, ◌-◌, List, [], ◌++◌, length, get_or, map, take, drop, refl, sym, ◌∙◌, ap, arith}
use Rattle.std.proofs.Math.Path.{transport}
use Rattle.std.proofs.Math.Seq.{drop-append_seam, take-length}
use Rattle.std.proofs.lemmas.List.{append_assoc, length-append}
use Rattle.std.proofs.lemmas.Option.{slice_get_within}
use Rattle.std.specs.Prelude.{Option, codes, decimal, option_map, unwrap_or}
use Rattle.model.specs.Article.{body_lines, overview_field, overview_line}
use Rattle.model.specs.Files.{IsFileSystem, content_of, entry}
use Rattle.model.specs.Indexed.{ArePlaces, FilePlaces, group_index, line_start}
use Rattle.model.specs.Spool.{Spool, NewsArticle, filed_in, groups}
use Rattle.model.specs.Stream.{Octets}
use Rattle.session_lookups.specs.Held.{text_of}
use Rattle.spool_groups.specs.Shown.{shown}
use Rattle.spool_groups.specs.declared.group.Group.{Group}
use Rattle.spool_texts.specs.Overviews.{IsFiledAs}
use Rattle.spool_texts.specs.Parts.{IsStored, LinesFit}
use Rattle.spool_texts.specs.Texts.{line_at}
use Rattle.spool_texts.specs.declared.overviews.Filed.{Filed}
use Rattle.spool_texts.proofs.Groups.{HasOverview, IsAt, IsKept, has_overview}
use Rattle.spool_texts.proofs.LineSizes.{lines_fit}
use Rattle.spool_texts.proofs.Lines.{Stands, stands}
use Rattle.spool_texts.proofs.Making.{kept_at}
use Rattle.spool_texts.proofs.Runs.{part_of_run}

-- ---- a line after its number

-- it is the same under each number
rest_of : Octets → Octets
rest_of text =
    codes "\t" ++ overview_field (codes "Subject") text ++ codes "\t" ++ overview_field (codes "From") text
    ++ codes "\t" ++ overview_field (codes "Date") text ++ codes "\t" ++ overview_field (codes "Message-ID") text
    ++ codes "\t" ++ overview_field (codes "References") text
    ++ codes "\t" ++ decimal (length text) ++ codes "\t" ++ decimal (length (body_lines text))

joined : (n t a b c d e f g : Octets)
    → n ++ t ++ a ++ t ++ b ++ t ++ c ++ t ++ d ++ t ++ e ++ t ++ f ++ t ++ g
    ≡ n ++ (t ++ a ++ t ++ b ++ t ++ c ++ t ++ d ++ t ++ e ++ t ++ f ++ t ++ g)
joined n t a b c d e f g = simp append_assoc

after_number : (number : ℕ) (text : Octets) → overview_line number text ≡ decimal number ++ rest_of text
unfolding rest_of
after_number number text =
    joined (decimal number) (codes "\t") (overview_field (codes "Subject") text) (overview_field (codes "From") text)
    (overview_field (codes "Date") text) (overview_field (codes "Message-ID") text) (overview_field (codes "References") text)
    (decimal (length text)) (decimal (length (body_lines text)))

-- what follows some octets of a line
rest_stands : (content first rest : Octets) (start stop from : ℕ) → take (stop - start) (drop start content) ≡ first ++ rest
    → from ≡ start + length first → stop ≡ start + length (first ++ rest) → take (stop - from) (drop from content) ≡ rest
rest_stands content first rest start stop from is begins ends =
    let size = length-append first rest in
    let low : start ≤ from = omega (arith, begins) in
    let order : from ≤ stop = omega (arith, begins, ends, size) in
    let skipped : from - start ≡ length first = omega (arith, begins) in
    let left : stop - from ≡ length rest = omega (arith, begins, ends, size) in
    sym (part_of_run content (first ++ rest) start from stop (stop - from) (record { some = stop - start; is = sym is }) low order
    (omega (arith, ends)) refl)
    ∙ ap (λ (n : ℕ). take (stop - from) (drop n (first ++ rest))) skipped
    ∙ ap (take (stop - from)) (drop-append_seam first rest)
    ∙ ap (λ (n : ℕ). take n rest) left ∙ take-length rest

-- ---- where it is copied from

-- what is read to copy a line: the inodes of the overviews, and what the index keeps of the group
pub record Copies (inodes : ℕ) (blocks : List Octets) (S : Spool) (serial : ℕ) (f : Filed) (places : List ℕ) (g : Group) : Type 0 where
  pub filed : IsFiledAs S serial f
  pub overview : HasOverview inodes blocks S places filed.group.name f.group
  pub kept : IsKept S filed.group.name (shown g)

pub copies : {inodes : ℕ} {blocks : List Octets} {S : Spool} {p : FilePlaces} {serial : ℕ} {f : Filed} {places : List ℕ} (gs : List Group)
    (g : Group) → IsFileSystem inodes blocks → ArePlaces inodes blocks S p → IsFiledAs S serial f → places ≡ p.overviews
    → map shown gs ≡ map (group_index S) (groups S) → g ≡ get_or gs f.group g → Copies inodes blocks S serial f places g
copies {inodes} {blocks} {S} {p} {serial} {f} {places} gs g rule placed filed same shows at =
    let its : IsAt S filed.group.name f.group = record { group = filed.group; its_name = refl; at = filed.here } in
    record {
      filed = filed;
      overview = has_overview inodes blocks rule S p places filed.group.name f.group same its placed;
      kept = kept_at S gs filed.group.name f.group g its shows at;
    }

-- what is copied ends in the content, and is short
pub record CanCopy (content : Octets) (stop from : ℕ) : Type 0 where
  pub order : from ≤ stop
  pub within : stop ≤ length content
  pub short : stop ≤ from + 8_191

-- the group has had the number
pub number_high : (S : Spool) (serial : ℕ) (f : Filed) (gs : List Group) (g : Group) → map shown gs ≡ map (group_index S) (groups S)
    → g ≡ get_or gs f.group g → IsFiledAs S serial f → f.number ≤ length (shown g).filed
number_high S serial f gs g shows at filed =
    let its : IsAt S filed.group.name f.group = record { group = filed.group; its_name = refl; at = filed.here } in
    omega (
      arith,
      (kept_at S gs filed.group.name f.group g its shows at).count,
      slice_get_within (filed_in S filed.group.name) (f.number - 1) filed.article filed.its_number,
      filed.first,
    )

module _ {inodes : ℕ} {blocks : List Octets} {S : Spool} {serial : ℕ} {f : Filed} {places : List ℕ} {g : Group}
    (r : Copies inodes blocks S serial f places g) where
  abbrev pub content : Octets
  content = content_of blocks (entry inodes blocks (get_or places f.group 0))

  text_is : text_of S serial ≡ r.filed.article.text
  text_is = ap (λ (o : Option NewsArticle). unwrap_or (option_map (λ (b : NewsArticle). b.text) o) []) r.filed.its_serial

  below : f.number - 1 < length (filed_in S r.filed.group.name)
  below = slice_get_within (filed_in S r.filed.group.name) (f.number - 1) r.filed.article r.filed.its_number

  low : f.number - 1 < length (shown g).filed
  low = omega (arith, below, r.kept.count)

  fits : IsStored S → LinesFit content (shown g).ends (length (shown g).filed)
  fits stored = transport (λ i. LinesFit (sym r.overview.content_is i) (sym r.kept.ends i) (sym r.kept.count i))
      (lines_fit S r.filed.group.name stored)

  its : Stands S r.filed.group.name (f.number - 1) r.filed.article
  its = stands S r.filed.group.name (f.number - 1) r.filed.article r.filed.its_number

  -- the line has this text, and stands there
  line_is : overview_line (f.number - 1 + 1) r.filed.article.text ≡ decimal f.number ++ rest_of (text_of S serial)
  line_is =
      let number : f.number - 1 + 1 ≡ f.number = omega (arith, r.filed.first) in
      ap (λ (n : ℕ). overview_line n r.filed.article.text) number
      ∙ after_number f.number r.filed.article.text
      ∙ ap (λ (t : Octets). decimal f.number ++ rest_of t) (sym text_is)

  line_stands : line_at content (shown g).ends (f.number - 1) ≡ decimal f.number ++ rest_of (text_of S serial)
  line_stands =
      (λ i. line_at (r.overview.content_is i) (r.kept.ends i) (f.number - 1)) ∙ its.is ∙ line_is

  line_ends : get_or (shown g).ends (f.number - 1) 0
      ≡ line_start (shown g).ends (f.number - 1) + length (decimal f.number ++ rest_of (text_of S serial))
  line_ends =
      ap (λ (l : List ℕ). get_or l (f.number - 1) 0) r.kept.ends ∙ its.size
      ∙ (λ i. line_start (sym r.kept.ends i) (f.number - 1) + length (line_is i))

  module _ (start stop from : ℕ) (begins : start ≡ line_start (shown g).ends (f.number - 1))
      (ends : stop ≡ get_or (shown g).ends (f.number - 1) 0) (skips : from ≡ start + length (decimal f.number)) where
    pub copied : IsStored S → CanCopy content stop from
    copied stored = record {
      order = omega (arith, begins, ends, skips, line_ends, length-append (decimal f.number) (rest_of (text_of S serial)));
      within = omega (arith, ends, (fits stored (f.number - 1) low).0);
      short = omega (arith, begins, ends, skips, (fits stored (f.number - 1) low).1);
    }

    -- with any other number it is the article's line
    pub renumbered : (number : ℕ) → decimal number ++ take (stop - from) (drop from content) ≡ overview_line number (text_of S serial)
    renumbered number =
        let there : take (stop - start) (drop start content) ≡ decimal f.number ++ rest_of (text_of S serial) =
        (λ i. take (ends i - begins i) (drop (begins i) content)) ∙ line_stands in
        let size : stop ≡ start + length (decimal f.number ++ rest_of (text_of S serial)) = omega (arith, begins, ends, line_ends) in
        ap (λ (l : Octets). decimal number ++ l)
        (rest_stands content (decimal f.number) (rest_of (text_of S serial)) start stop from there skips size)
        ∙ sym (after_number number (text_of S serial))
