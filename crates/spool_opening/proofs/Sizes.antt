-- The lines of an article in its groups, one after the other.
use Rattle.std.proofs.Common.{◌≡◌, ◌<◌, ◌≤◌, ℕ, ◌+◌, ◌^◌, true, List, length, refl, sym, ◌∙◌, ap, subst}
use Rattle.std.proofs.Common.{arith, Option, Some, None, inl, inr}
use Rattle.std.specs.Prelude.{option_map, is_some}
use Rattle.std.proofs.lemmas.Bool.{cases_lt}
use Rattle.model.specs.Stream.{Octets}
use Rattle.model.specs.Article.{overview_line}
use Rattle.model.specs.Files.{File}
use Rattle.model.specs.Indexed.{GroupIndex, group_index}
use Rattle.model.specs.Spool.{Spool, NewsGroup, filed_in, group_named, is_here}
use Rattle.model.specs.FileCalls.{next_line}
use Rattle.model.specs.Packs.{most_changes}
use Rattle.model.specs.SpoolFiles.{overview_file}
use Rattle.model.proofs.HoldsOne.{high_few}
use Rattle.spool_groups.specs.Filing.{end_of}
use Rattle.spool_index.specs.View.{IndexView}
use Rattle.spool_index.proofs.LookUps.{group_is}
use Rattle.spool_index.proofs.Growing.{overview_size}
use Rattle.spool_opening.specs.Replayed.{IsBounded}
use Rattle.spool_opening.specs.Stored.{HasPiece, Which, file_for, name_for, piece_for}
use Rattle.spool_opening.specs.Going.{GoesOn}
use Rattle.spool_reading.proofs.Groups.{high_is}
use Rattle.spool_opening.proofs.Going.{goes_on_is}

mapped : {Y : Type 0} (f : NewsGroup → Y) (o : Option NewsGroup) → is_some (option_map f o) ≡ is_some o
mapped f None = refl
mapped f (Some g) = refl

pub here_is : (S : Spool) (name : Octets) (i : GroupIndex) → Some i ≡ option_map (group_index S) (group_named S name)
    → is_here S name ≡ true
here_is S name i is = sym (mapped (group_index S) (group_named S name)) ∙ ap (λ (o : Option GroupIndex). is_some o) (sym is)

-- ---- the bounds that the index keeps

pub few_filed : (x : IndexView) (name : Octets) (i : GroupIndex) → (bounds : IsBounded x)
    → Some i ≡ option_map (group_index bounds.changes) (group_named bounds.changes name) → length i.filed ≤ most_changes
few_filed x name i bounds is =
    let its = group_is bounds.changes name i is in
    omega (
      arith,
      ap (λ (j : GroupIndex). length j.filed) its.its_index,
      high_is bounds.changes its.group,
      high_few bounds.changes its.group.name,
      bounds.few,
    )

pub short_end : (x : IndexView) (name : Octets) (i : GroupIndex) → (bounds : IsBounded x)
    → Some i ≡ option_map (group_index bounds.changes) (group_named bounds.changes name) → end_of i < 2 ^ 32
short_end x name i bounds is =
    let its = group_is bounds.changes name i is in
    let size : end_of i ≡ length (overview_file bounds.changes name) = ap end_of its.its_index ∙ overview_size bounds.changes its.group
    ∙ ap (λ (g : Octets). length (overview_file bounds.changes g)) its.its_name in
    omega (arith, size, bounds.short name (here_is bounds.changes name i is))

-- ---- one group

pub pieces_of : (inodes : List (Option File)) (S : Spool) (name text : Octets) (i : GroupIndex) (serial : ℕ)
    → Some i ≡ option_map (group_index S) (group_named S name) → serial ≡ length S + 1 → GoesOn inodes i serial text
    → (w : Which) → HasPiece inodes (name_for w name) (length (file_for w S name)) (piece_for w S text name)
pieces_of inodes S name text i serial is count goes w =
    let its = group_is S name i is in
    let moved : GoesOn inodes (group_index S its.group) (length S + 1) text =
    subst (λ (p : GroupIndex × ℕ). GoesOn inodes p.0 p.1 text) (λ j. (its.its_index j, count j)) goes in
    subst (λ (g : Octets). HasPiece inodes (name_for w g) (length (file_for w S g)) (piece_for w S text g)) its.its_name
    ((goes_on_is inodes S its.group text).0 moved w)

pub goes_by_pieces : (inodes : List (Option File)) (S : Spool) (name text : Octets) (i : GroupIndex) (serial : ℕ)
    → Some i ≡ option_map (group_index S) (group_named S name) → serial ≡ length S + 1
    → ((w : Which) → HasPiece inodes (name_for w name) (length (file_for w S name)) (piece_for w S text name)) → GoesOn inodes i serial text
goes_by_pieces inodes S name text i serial is count pieces =
    let its = group_is S name i is in
    let moved = (goes_on_is inodes S its.group text).1
    (λ w. subst (λ (g : Octets). HasPiece inodes (name_for w g) (length (file_for w S g)) (piece_for w S text g)) (sym its.its_name)
    (pieces w)) in
    subst (λ (p : GroupIndex × ℕ). GoesOn inodes p.0 p.1 text) (λ j. (sym its.its_index j, sym count j)) moved

pub line_size : (S : Spool) (name text : Octets) (i : GroupIndex) (n : ℕ) → Some i ≡ option_map (group_index S) (group_named S name)
    → n ≡ length (overview_line (length i.filed + 1) text) → n ≡ length (next_line S text name)
line_size S name text i n is size =
    let its = group_is S name i is in
    let high : length i.filed ≡ length (filed_in S name) = ap (λ (j : GroupIndex). length j.filed) its.its_index ∙ high_is S its.group
    ∙ ap (λ (g : Octets). length (filed_in S g)) its.its_name in
    size ∙ ap (λ (k : ℕ). length (overview_line (k + 1) text)) high

-- ---- one group more

pub pieces_more : (P : ℕ → Which → Type 0) (j : ℕ) → ((k : ℕ) (w : Which) → k < j → P k w) → ((w : Which) → P j w) → (k : ℕ) (w : Which)
    → k < j + 1 → P k w
pieces_more P j before here k w low = elim (cases_lt k j) [
  | inl less ↦ before k w less
  | inr more ↦ let same : j ≡ k = omega arith in subst (λ (m : ℕ). P m w) same (here w)
]
