-- What is asked of an article's lines by the index is what the definitions say.
use Rattle.std.proofs.Common.{◌≡◌, ◌≤◌, ◌↔◌, ℕ, ◌+◌, ◌*◌, Bool, false, List, length, take, drop, sym, ◌∙◌, ap}
use Rattle.std.proofs.Common.{subst, arith, Option, None}
use Rattle.std.specs.Prelude.{bytes_eq, IsTrue}
use Rattle.std.proofs.lemmas.List.{length-take, length-drop}
use Rattle.std.proofs.lemmas.Slice.Eq.{bytes_eq-Decides}
use Rattle.model.specs.Stream.{Octets}
use Rattle.model.specs.Article.{overview_line}
use Rattle.model.specs.Files.{File, HasRoom, IsFileSystem, table, largest_file}
use Rattle.model.specs.Indexed.{group_index, value_of}
use Rattle.model.specs.Spool.{Spool, NewsGroup}
use Rattle.model.specs.FileCalls.{next_line, next_record}
use Rattle.model.specs.FileKinds.{is_of_change}
use Rattle.model.specs.SpoolFiles.{number_record, numbers_file, numbers_name, overview_file}
use Rattle.model.specs.SpoolFiles.{overview_name}
use Rattle.model.proofs.Indexing.{numbers_size}
use Rattle.spool_groups.specs.Filing.{end_of}
use Rattle.spool_index.proofs.Growing.{overview_size}
use Rattle.spool_index.specs.declared.places.ChangePlace.{ChangePlace}
use Rattle.spool_reading.specs.Sorted.{AreSorted}
use Rattle.spool_opening.specs.Stored.{HasPiece, IsFileAt, Numbers, Overview, Which, file_for, name_for, piece_for}
use Rattle.spool_opening.specs.Going.{GoesOn}
use Rattle.spool_reading.proofs.Contents.{content_fits}
use Rattle.spool_reading.proofs.Groups.{high_is}
use Rattle.fs_layout.proofs.Tables.{there_once}

-- ---- a file with a piece

pub piece_by_test : (inodes : ℕ) (blocks : List Octets) (name piece content octets : Octets) (after at : ℕ) (same : Bool)
    → IsFileSystem inodes blocks → IsFileAt (table inodes blocks) at name content
    → octets ≡ take (length piece) (drop after content) → same ≡ bytes_eq octets piece
    → IsTrue same ↔ HasPiece (table inodes blocks) name after piece
piece_by_test inodes blocks name piece content octets after at same rule there read test = (
  λ yes. record { place = at; content = content; there = there; piece_is = sym read ∙ (bytes_eq-Decides octets piece).0 (sym test ∙ yes) },
  λ has. test ∙ (bytes_eq-Decides octets piece).1 (read
      ∙ ap (λ (o : Octets). take (length piece) (drop after o))
      (there_once inodes blocks rule at has.place name content has.content there has.there) ∙ has.piece_is),
)

pub no_piece : (inodes : List (Option File)) (slots : List (Option ChangePlace)) (named : List (Octets × ℕ)) (packed : ℕ)
    (name piece : Octets) (after : ℕ) → AreSorted inodes slots named packed
    → ((content : Octets) → is_of_change (record { name = name; content = content }) ≡ false) → value_of named name ≡ None
    → HasPiece inodes name after piece → ⊥
no_piece inodes slots named packed name piece after sorted other none has =
    absurd (let found = sorted.to name has.content has.place has.there (other has.content) in cc)

pub piece_fits : (inodes : ℕ) (blocks : List Octets) (name piece : Octets) (after : ℕ) → HasRoom inodes blocks → IsFileSystem inodes blocks
    → HasPiece (table inodes blocks) name after piece → length piece ≤ largest_file
piece_fits inodes blocks name piece after room rule has =
    let fits = content_fits inodes blocks has.place (record { name = name; content = has.content }) room rule has.there in
    omega (
      arith,
      fits,
      ap (λ (o : Octets). length o) has.piece_is,
      length-take (length piece) (drop after has.content),
      length-drop after has.content,
    )

-- ---- by the index

pub goes_on_is : (inodes : List (Option File)) (S : Spool) (g : NewsGroup) (text : Octets)
    → GoesOn inodes (group_index S g) (length S + 1) text ↔ ((w : Which)
    → HasPiece inodes (name_for w g.name) (length (file_for w S g.name)) (piece_for w S text g.name))
goes_on_is inodes S g text = (each, λ all. record { overview = back_overview (all Overview); numbers = back_numbers (all Numbers) }) where
  line_is : overview_line (length (group_index S g).filed + 1) text ≡ next_line S text g.name
  line_is = ap (λ (n : ℕ). overview_line (n + 1) text) (high_is S g)

  record_is : number_record (length S + 1) (end_of (group_index S g)) (overview_line (length (group_index S g).filed + 1) text)
      ≡ next_record S text g.name
  record_is = λ i. number_record (length S + 1) (overview_size S g i) (line_is i)

  place_is : 16 * length (group_index S g).filed ≡ length (numbers_file S g.name)
  place_is = ap (λ (n : ℕ). 16 * n) (high_is S g) ∙ sym (numbers_size S g.name)

  each : GoesOn inodes (group_index S g) (length S + 1) text → (w : Which)
      → HasPiece inodes (name_for w g.name) (length (file_for w S g.name)) (piece_for w S text g.name)
  each goes Overview = subst (λ (p : ℕ × Octets). HasPiece inodes (overview_name g.name) p.0 p.1)
      (λ i. (overview_size S g i, line_is i)) goes.overview
  each goes Numbers = subst (λ (p : ℕ × Octets). HasPiece inodes (numbers_name g.name) p.0 p.1)
      (λ i. (place_is i, record_is i)) goes.numbers

  back_overview : HasPiece inodes (overview_name g.name) (length (overview_file S g.name)) (next_line S text g.name)
      → HasPiece inodes (overview_name g.name) (end_of (group_index S g)) (overview_line (length (group_index S g).filed + 1) text)
  back_overview has = subst (λ (p : ℕ × Octets). HasPiece inodes (overview_name g.name) p.0 p.1)
      (λ i. (sym (overview_size S g) i, sym line_is i)) has

  back_numbers : HasPiece inodes (numbers_name g.name) (length (numbers_file S g.name)) (next_record S text g.name)
      → HasPiece inodes (numbers_name g.name) (16 * length (group_index S g).filed)
      (number_record (length S + 1) (end_of (group_index S g)) (overview_line (length (group_index S g).filed + 1) text))
  back_numbers has = subst (λ (p : ℕ × Octets). HasPiece inodes (numbers_name g.name) p.0 p.1) (λ i. (sym place_is i, sym record_is i)) has
