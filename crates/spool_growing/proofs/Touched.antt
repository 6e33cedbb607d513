-- The number of blocks that an article changes, at most.
use Rattle.std.proofs.Common.{◌≡◌, ◌≤◌, ℕ, ◌+◌, ◌/◌, Bool, true, false, cond, eqb, List, [], ◌∷◌, length, refl, sym, ◌∙◌, ap, subst, arith}
use Rattle.std.specs.Prelude.{Option, nat_lt, option_map, unwrap_or}
use Rattle.std.specs.List.{sum_by}
use Rattle.std.proofs.lemmas.List.Sums.{sum_by-cons}
use Rattle.model.specs.Stream.{Octets}
use Rattle.model.specs.Files.{File, table, largest_file_one}
use Rattle.model.specs.Lawful.{MayFile}
use Rattle.model.specs.Records.{article_record, largest_record}
use Rattle.model.specs.Asked.{blocks_changed, blocks_filed, blocks_fresh, pointers_put}
use Rattle.model.specs.Room.{content_blocks}
use Rattle.model.specs.Spool.{Spool, news_article}
use Rattle.model.specs.FileCalls.{next_line, next_record}
use Rattle.model.specs.SpoolFiles.{numbers_file, numbers_name, overview_file, overview_name}
use Rattle.model.specs.declared.change.Change.TheVariants.{Article}
use Rattle.model.specs.declared.change.Filing.{Filing}
use Rattle.model.proofs.Asking.{changes_ask_few}
use Rattle.fs.specs.Calls.{IsFileAt}
use Rattle.fs.specs.Touches.{Touches, touched_by_growth}
use Rattle.fs_layout.proofs.Touching.{touches_more}
use Rattle.spool_growing.specs.declared.file_calls.Piece.{Piece}
use Rattle.spool_growing.specs.Calls.{size_at, touched_by_pieces}
use Rattle.spool_growing.specs.Articles.{ArePieces}
use Rattle.spool_growing.specs.Kept.{IsHeld}
use Rattle.spool_growing.specs.Putting.{touched_by_put}
use Rattle.spool_growing.proofs.Held.{changes_are_few}

-- ---- its file

few_put : (fresh end : ℕ) → fresh ≤ 1000 → pointers_put fresh end ≤ 3
few_put fresh end few = by_tests (eqb fresh 0) (nat_lt largest_file_one end) (nat_lt 40960 end) where
  by_tests : (none huge large : Bool) → cond none 0 (cond huge (2 + (fresh + 1022) / 1024) (cond large 1 0)) ≤ 3
  by_tests true huge large = omega arith
  by_tests false true large = omega (arith, few)
  by_tests false false true = omega arith
  by_tests false false false = omega arith

pub reached_by : (n : ℕ) → n ≤ 1_000_000 → 2 + touched_by_growth 0 n ≤ content_blocks n + 6
reached_by n few = omega (arith, few_put (blocks_fresh 0 n) (0 + n) (omega (arith, few)))

-- the pack gets this many octets
pub reached_more : (size n : ℕ) → n ≤ 1_000_000 → touched_by_growth size n ≤ content_blocks n + 5
reached_more size n few = omega (arith, few_put (blocks_fresh size n) (size + n) (omega (arith, few)))

-- a new file of this many octets
pub few_reached : (n : ℕ) → n ≤ largest_record → 2 + touched_by_growth 0 n ≤ 71
few_reached n few = omega (arith, reached_by n (omega (arith, few)), few)

-- ---- its numbers and lines

abbrev pub touched_by : List (Option File) → Piece → ℕ
touched_by inodes p = touched_by_growth (size_at inodes p.at) (length p.octets.items)

one_piece : (inodes : List (Option File)) (p : Piece) (name content octets : Octets) → IsFileAt inodes p.at name content
    → p.octets.items ≡ octets → touched_by inodes p ≡ touched_by_growth (length content) (length octets)
one_piece inodes p name content octets there said =
    let its : size_at inodes p.at ≡ length content =
    ap (λ (o : Option File). unwrap_or (option_map (λ (f : File). length f.content) o) 0) there in
    λ i. touched_by_growth (its i) (length (said i))

joined : (all more rest first second one two those : ℕ) → all ≡ first + more → more ≡ second + rest → first ≡ one → second ≡ two
    → rest ≡ those → all ≡ one + two + those
joined all more rest first second one two those = omega arith

pieces_touch : (inodes : List (Option File)) (S : Spool) (text : Octets) (gs : List Octets) (pieces : List Piece)
    → ArePieces inodes S text gs pieces → touched_by_pieces inodes pieces ≡ sum_by (blocks_filed S text) gs
pieces_touch inodes S text [] [] are = refl
pieces_touch inodes S text [] (r ∷ pieces) are = absurd are
pieces_touch inodes S text (h ∷ gs) [] are = absurd are
pieces_touch inodes S text (h ∷ gs) (r ∷ []) are = absurd are
pieces_touch inodes S text (h ∷ gs) (r ∷ s ∷ pieces) are =
    let first = one_piece inodes r (numbers_name h) (numbers_file S h) (next_record S text h) are.0.numbers are.0.number_is in
    let second = one_piece inodes s (overview_name h) (overview_file S h) (next_line S text h) are.0.overview are.0.line_is in
    joined _ _ _ _ _ _ _ _ (sum_by-cons (touched_by inodes) r (s ∷ pieces)) (sum_by-cons (touched_by inodes) s pieces)
    first second (pieces_touch inodes S text gs pieces are.1)
    ∙ sym (sum_by-cons (blocks_filed S text) h gs)

-- ---- all of it

module _ (host : Octets) (inodes : ℕ) (blocks : List Octets) (S : Spool) (f : Filing) (is : IsHeld host inodes blocks S)
    (may : MayFile host S f) where
  abbrev octets_of : Octets
  octets_of = article_record (news_article (length S + 1) f)

  few_changed : touched_by_put (length octets_of) + sum_by (blocks_filed S f.text) f.envelope.groups ≤ 254
  unfolding blocks_changed
  few_changed =
      let asks = changes_ask_few host S (Article f) (changes_are_few host inodes blocks S is) is.held.lawful may in
      omega (arith, asks.changed)

  few_touched : (octets : Octets) (pieces : List Piece) → octets ≡ octets_of
      → ArePieces (table inodes blocks) S f.text f.envelope.groups pieces
      → touched_by_put (length octets) + touched_by_pieces (table inodes blocks) pieces ≤ 254
  few_touched octets pieces says are =
      let pieces_are = sym (pieces_touch (table inodes blocks) S f.text f.envelope.groups pieces are) in
      subst (λ (n : ℕ). touched_by_put (length octets) + n ≤ 254) pieces_are
      (subst (λ (o : Octets). touched_by_put (length o) + sum_by (blocks_filed S f.text) f.envelope.groups ≤ 254)
      (sym says) few_changed)

  pub article_touches : (serial : ℕ) (octets : Octets) (pieces : List Piece) (new : List Octets)
      → serial ≡ length S + 1 → octets ≡ article_record (news_article serial f)
      → ArePieces (table inodes blocks) S f.text f.envelope.groups pieces
      → Touches (touched_by_put (length octets) + touched_by_pieces (table inodes blocks) pieces) blocks new
      → Touches 254 blocks new
  article_touches serial octets pieces new count says are touches =
      let its_own = ap (λ (n : ℕ). article_record (news_article n f)) count in
      touches_more (touched_by_put (length octets) + touched_by_pieces (table inodes blocks) pieces) 254 blocks new
      (few_touched octets pieces (says ∙ its_own) are) touches
