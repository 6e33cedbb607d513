-- What an article adds to the files of its groups.
use Rattle.std.proofs.Common.{◌≡◌, ◌≢◌, inl, inr, ◌<◌, ◌≤◌, ℕ, zero, suc, ◌+◌, ◌*◌, Bool, true, false, cond, List, [], ◌∷◌, ◌++◌, length}
use Rattle.std.proofs.Common.{get_or, map, refl, sym, ◌∙◌, ap, subst, arith, length-append}
use Rattle.std.specs.Prelude.{Option, Some, None, bytes_eq, filter, flat_map, is_some, not, option_map, slice_get, unwrap_or}
use Rattle.std.specs.List.{Contains, list_any}
use Rattle.std.specs.Option.{option_and_then}
use Rattle.std.proofs.lemmas.Bool.{and_parts, not-true, or_parts, true≢false}
use Rattle.std.proofs.lemmas.List.{length-map}
use Rattle.std.proofs.lemmas.Option.{same_Some, slice_get-get_or, slice_get_cases, slice_get_read, slice_get_within}
use Rattle.model.specs.Stream.{Octets}
use Rattle.model.specs.Article.{are_distinct, groups_of, overview_line}
use Rattle.model.specs.Files.{File, table, largest_file}
use Rattle.model.specs.Indexed.{ArePlaces, FilePlaces, GroupIndex, group_index}
use Rattle.model.specs.Lawful.{MayFile}
use Rattle.model.specs.Packs.{most_changes, pack_name}
use Rattle.model.specs.Room.{is_full}
use Rattle.model.specs.Laws.Room.{HasRoomForChange}
use Rattle.model.specs.Spool.{Spool, NewsArticle, NewsGroup, group_named, groups}
use Rattle.model.specs.Spool.{is_here}
use Rattle.model.specs.FileCalls.{Append, filing_calls, next_line, next_record}
use Rattle.model.specs.SpoolFiles.{number_record, numbers_file, numbers_name, overview_file}
use Rattle.model.specs.SpoolFiles.{overview_name}
use Rattle.model.specs.declared.change.Change.TheVariants.{Article}
use Rattle.model.specs.declared.change.Filing.{Filing}
use Rattle.model.proofs.Asking.{changes_ask_few, not_full_room, records_size}
use Rattle.model.proofs.HoldsOne.{high_few}
use Rattle.model.proofs.Joined.{bytes_same, both_at}
use Rattle.model.proofs.Growing.{group_has_name}
use Rattle.fs.specs.Calls.{IsFileAt}
use Rattle.spool_growing.specs.declared.file_calls.Piece.{Piece}
use Rattle.spool_growing.specs.Calls.{MayAllGrow, MayGrow, append_call}
use Rattle.spool_growing.specs.Putting.{AreNotPacked}
use Rattle.spool_index.specs.Places.{name_of}
use Rattle.spool_groups.specs.Filing.{end_of}
use Rattle.spool_index.specs.View.{IndexView, Indexes}
use Rattle.spool_index.proofs.Callers.{overview_small}
use Rattle.spool_index.proofs.Growing.{filed_distinct, overview_size}
use Rattle.spool_index.proofs.Known.{count_is}
use Rattle.spool_reading.proofs.Groups.{high_is}
use Rattle.spool_growing.specs.Articles.{ArePieces, ArePiecesOf, CanFile, CanFileIn}
use Rattle.spool_growing.specs.Kept.{IsHeld}
use Rattle.spool_growing.proofs.Absent.{LacksNames, group_files_lack, not_first}
use Rattle.spool_growing.proofs.Held.{changes_are_few}
use Rattle.fs_inodes.proofs.Grown.{one_name}

-- ---- the groups of an article

filtered : (p : Octets → Bool) (xs : List Octets) (x : Octets) → Contains (filter p xs) x → p x ≡ true
filtered p [] x (k, low, is) = absurd (omega arith)
filtered p (y ∷ xs) x has = by_test (p y) refl has (λ later. filtered p xs x later) where
  by_test : (b : Bool) → p y ≡ b → Contains (cond b (y ∷ filter p xs) (filter p xs)) x → (Contains (filter p xs) x → p x ≡ true)
      → p x ≡ true
  by_test true at (zero, low, is) rest = ap p (sym is) ∙ at
  by_test true at (suc k, low, is) rest = rest (k, omega arith, is)
  by_test false at has rest = rest has

pub filed_here : (host : Octets) (S : Spool) (f : Filing) (g : Octets) → MayFile host S f → Contains f.envelope.groups g
    → is_here S g ≡ true
filed_here host S f g may has = filtered (is_here S) (groups_of f.text) g (subst (λ (gs : List Octets). Contains gs g) may.filed has)

-- ---- a group at its place

pub record IsAt (S : Spool) (name : Octets) (k : ℕ) : Type 0 where
  pub group : NewsGroup
  pub its_name : group.name ≡ name
  pub at : slice_get (groups S) k ≡ Some group

pub is_at : (S : Spool) (name : Octets) (k : ℕ) → k < length (groups S) → slice_get (groups S) k ≡ group_named S name → IsAt S name k
is_at S name k low same = elim (slice_get_cases (groups S) k).1 [
  | inl found ↦ record { group = found.0; its_name = group_has_name S name found.0 (sym same ∙ found.2); at = found.2 }
  | inr past ↦ absurd (omega (arith, low, past.0))
]

-- a group that is here has a place
pub never_absent : (S : Spool) (name : Octets) (o : Option ℕ) → option_and_then (slice_get (groups S)) o ≡ group_named S name
    → is_here S name ≡ true → o ≡ None → ⊥
never_absent S name o same here none =
    true≢false (sym here ∙ ap (λ (g : Option NewsGroup). is_some g) (sym same ∙ ap (option_and_then (slice_get (groups S))) none))

pub at_place : (S : Spool) (name : Octets) (k : ℕ) → slice_get (groups S) k ≡ group_named S name → is_here S name ≡ true
    → k < length (groups S)
at_place S name k same here = elim (slice_get_cases (groups S) k).1 [
  | inl found ↦ found.1
  | inr past ↦ absurd (true≢false (sym here ∙ ap (λ (g : Option NewsGroup). is_some g) (sym same ∙ past.1)))
]

pub same_count : (S R : Spool) (x : IndexView) → Indexes S x → Indexes R x → length (groups S) ≡ length (groups R)
same_count S R x is also = sym (count_is S x is) ∙ count_is R x also

-- what is kept of it
pub kept_at : {X : Type 0} (sh : X → GroupIndex) (gs : List X) (S : Spool) (name : Octets) (k : ℕ) (x : X) (its : IsAt S name k)
    → map sh gs ≡ map (group_index S) (groups S) → slice_get gs k ≡ Some x → sh x ≡ group_index S its.group
kept_at sh gs S name k x its same at = both_at sh (group_index S) gs (groups S) k x its.group same at its.at

pub indexed_at : {X : Type 0} (sh : X → GroupIndex) (gs : List X) (S : Spool) (name : Octets) (k : ℕ) (x : X) (its : IsAt S name k)
    → map sh gs ≡ map (group_index S) (groups S) → k < length (groups S) → x ≡ get_or gs k x → sh x ≡ group_index S its.group
indexed_at sh gs S name k x its same low is =
    let size : length gs ≡ length (groups S) = sym (length-map gs sh) ∙ ap (λ (l : List GroupIndex). length l) same
    ∙ length-map (groups S) (group_index S) in
    kept_at sh gs S name k x its same (slice_get_read gs (length (groups S)) k x (sym size) low is)

-- the place that the index finds for a group of the article
module _ (x : IndexView) (p : FilePlaces) (text g : Octets) (r : CanFileIn x p text g) (k : ℕ)
    (found : slice_get (groups r.can.changes) k ≡ group_named r.can.changes g) where
  pub place_below : k < length (groups r.can.changes)
  place_below = at_place r.can.changes g k found (filed_here r.can.host r.can.changes _ g r.can.may r.has)

  pub its_place : IsAt r.can.changes g k
  its_place = is_at r.can.changes g k place_below found

  pub read_place : {X : Type 0} (sh : X → GroupIndex) (gs : List X) (y : X)
      → map sh gs ≡ map (group_index r.can.changes) (groups r.can.changes) → y ≡ get_or gs k y
      → sh y ≡ group_index r.can.changes its_place.group
  read_place sh gs y same is = indexed_at sh gs r.can.changes g k y its_place same place_below is

-- where its files stand
placed_at : (inodes : List (Option File)) (f : NewsGroup → File) (gs : List NewsGroup) (places : List ℕ) (k : ℕ) (g : NewsGroup)
    → map (λ (j : ℕ). get_or inodes j None) places ≡ map (λ (h : NewsGroup). Some (f h)) gs → slice_get gs k ≡ Some g
    → (k < length places) × (get_or inodes (get_or places k 0) None ≡ Some (f g))
placed_at inodes f gs places k g same at =
    let low : k < length places = omega (
      arith,
      slice_get_within gs k g at,
      ap (λ (l : List (Option File)). length l) same,
      length-map places (λ (j : ℕ). get_or inodes j None),
      length-map gs (λ (h : NewsGroup). Some (f h)),
    ) in (
      low,
      both_at (λ (j : ℕ). get_or inodes j None) (λ (h : NewsGroup). Some (f h)) places gs k (get_or places k 0) g same
          (slice_get-get_or places k 0 low) at,
    )

pub numbers_at : (inodes : ℕ) (blocks : List Octets) (S : Spool) (p : FilePlaces) (name : Octets) (k : ℕ) (its : IsAt S name k)
    → ArePlaces inodes blocks S p
    → (k < length p.numbers) × (get_or (table inodes blocks) (get_or p.numbers k 0) None
    ≡ Some (record { name = numbers_name its.group.name; content = numbers_file S its.group.name }))
numbers_at inodes blocks S p name k its are =
    placed_at (table inodes blocks) (λ (g : NewsGroup). record { name = numbers_name g.name; content = numbers_file S g.name })
    (groups S) p.numbers k its.group are.numbers_are its.at

pub overview_at : (inodes : ℕ) (blocks : List Octets) (S : Spool) (p : FilePlaces) (name : Octets) (k : ℕ) (its : IsAt S name k)
    → ArePlaces inodes blocks S p
    → (k < length p.overviews) × (get_or (table inodes blocks) (get_or p.overviews k 0) None
    ≡ Some (record { name = overview_name its.group.name; content = overview_file S its.group.name }))
overview_at inodes blocks S p name k its are =
    placed_at (table inodes blocks) (λ (g : NewsGroup). record { name = overview_name g.name; content = overview_file S g.name })
    (groups S) p.overviews k its.group are.overviews_are its.at

-- ---- one group

pub few_filed : (S : Spool) (name : Octets) (k : ℕ) (its : IsAt S name k) (i : GroupIndex) → i ≡ group_index S its.group
    → length S ≤ most_changes
    → length i.filed ≤ most_changes
few_filed S name k its i is few =
    omega (arith, ap (λ (j : GroupIndex). length j.filed) is, high_is S its.group, high_few S its.group.name, few)

pub short_end : (x : IndexView) (p : FilePlaces) (text : Octets) (filed : List Octets) (can : CanFile x p text filed) (name : Octets)
    (k : ℕ) (its : IsAt can.changes name k) (i : GroupIndex) → i ≡ group_index can.changes its.group → end_of i ≤ largest_file
short_end x p text filed can name k its i is =
    let low = slice_get_within (groups can.changes) k its.group its.at in
    let among : Contains (groups can.changes) its.group = (
      k,
      low,
      same_Some (get_or (groups can.changes) k its.group) its.group (sym (slice_get-get_or (groups can.changes) k its.group low)
          ∙ its.at),
    ) in
    omega (
      arith,
      ap end_of is,
      overview_size can.changes its.group,
      overview_small can.host can.inodes can.blocks can.changes its.group can.is.held among,
    )

-- the pieces of the same groups
pub pieces_of : (inodes : List (Option File)) (S : Spool) (text : Octets) (gs names : List Octets) (ps : List Piece) → gs ≡ names
    → ArePieces inodes S text gs ps → ArePieces inodes S text names ps
pieces_of inodes S text gs names ps same are = subst (λ (l : List Octets). ArePieces inodes S text l ps) same are

-- the line of a group by the index
line_is : (S : Spool) (text : Octets) (g : NewsGroup) (i : GroupIndex) → i ≡ group_index S g
    → overview_line (length i.filed + 1) text ≡ next_line S text g.name
line_is S text g i is = ap (λ (n : ℕ). overview_line (n + 1) text) (ap (λ (j : GroupIndex). length j.filed) is ∙ high_is S g)

pub short_line : (x : IndexView) (p : FilePlaces) (text : Octets) (filed : List Octets) (can : CanFile x p text filed) (name : Octets)
    (k : ℕ) (its : IsAt can.changes name k) (i : GroupIndex) (line : Octets)
    → i ≡ group_index can.changes its.group → line ≡ overview_line (length i.filed + 1) text → length line ≤ 8191
short_line x p text filed can name k its i line is said =
    let filing : Filing = record { text = text; envelope = record can.envelope { groups = filed } } in
    let asks = changes_ask_few can.host can.changes (Article filing)
    (changes_are_few can.host can.inodes can.blocks can.changes can.is) can.is.held.lawful can.may in
    omega (
      arith,
      ap (λ (l : Octets). length l) (said ∙ line_is can.changes text its.group i is),
      asks.lines filing its.group.name refl,
    )

pub are_its_pieces : (inodes : ℕ) (blocks : List Octets) (S : Spool) (p : FilePlaces) (text name : Octets) (k serial : ℕ)
    (its : IsAt S name k) (i : GroupIndex) (number line : Piece) → ArePlaces inodes blocks S p → i ≡ group_index S its.group
    → serial ≡ length S + 1
    → number.at ≡ get_or p.numbers k 0 → line.at ≡ get_or p.overviews k 0
    → number.octets.items ≡ number_record serial (end_of i) line.octets.items
    → line.octets.items ≡ overview_line (length i.filed + 1) text
    → ArePiecesOf (table inodes blocks) S text name number line
are_its_pieces inodes blocks S p text name k serial its i number line are is count first second record_said line_said =
    let said : line.octets.items ≡ next_line S text its.group.name = line_said ∙ line_is S text its.group i is in
    let size : end_of i ≡ length (overview_file S its.group.name) = ap end_of is ∙ overview_size S its.group in
    subst (λ (g : Octets). ArePiecesOf (table inodes blocks) S text g number line) its.its_name (record {
      numbers = ap (λ (j : ℕ). get_or (table inodes blocks) j None) first ∙ (numbers_at inodes blocks S p name k its are).1;
      overview = ap (λ (j : ℕ). get_or (table inodes blocks) j None) second ∙ (overview_at inodes blocks S p name k its are).1;
      number_is = record_said ∙ (λ j. number_record (count j) (size j) (said j));
      line_is = said;
    })

-- ---- all of them

pub pieces_more : (inodes : List (Option File)) (S : Spool) (text : Octets) (gs : List Octets) (pieces : List Piece) (g : Octets)
    (p q : Piece) → ArePieces inodes S text gs pieces → ArePiecesOf inodes S text g p q
    → ArePieces inodes S text (gs ++ g ∷ []) (pieces ++ p ∷ q ∷ [])
pieces_more inodes S text [] [] g p q are next = (next, tt)
pieces_more inodes S text [] (r ∷ pieces) g p q are next = absurd are
pieces_more inodes S text (h ∷ gs) [] g p q are next = absurd are
pieces_more inodes S text (h ∷ gs) (r ∷ []) g p q are next = absurd are
pieces_more inodes S text (h ∷ gs) (r ∷ s ∷ pieces) g p q are next = (are.0, pieces_more inodes S text gs pieces g p q are.1 next)

pub pieces_count : (inodes : List (Option File)) (S : Spool) (text : Octets) (gs : List Octets) (pieces : List Piece)
    → ArePieces inodes S text gs pieces → length pieces ≡ 2 * length gs
pieces_count inodes S text [] [] are = refl
pieces_count inodes S text [] (r ∷ pieces) are = absurd are
pieces_count inodes S text (h ∷ gs) [] are = absurd are
pieces_count inodes S text (h ∷ gs) (r ∷ []) are = absurd are
pieces_count inodes S text (h ∷ gs) (r ∷ s ∷ pieces) are = omega (arith, pieces_count inodes S text gs pieces are.1)

its_call : (inodes : List (Option File)) (p : Piece) (name content octets : Octets) → IsFileAt inodes p.at name content
    → p.octets.items ≡ octets → append_call inodes p ≡ Append name octets
its_call inodes p name content octets there said =
    ap (λ (o : Option File). Append (unwrap_or (option_map (λ (f : File). f.name) o) []) p.octets.items) there
    ∙ ap (λ (l : Octets). Append name l) said

-- they are the calls that the change makes
pub pieces_call : (inodes : List (Option File)) (S : Spool) (text : Octets) (gs : List Octets) (pieces : List Piece)
    → ArePieces inodes S text gs pieces → map (append_call inodes) pieces ≡ flat_map (filing_calls S text) gs
pieces_call inodes S text [] [] are = refl
pieces_call inodes S text [] (r ∷ pieces) are = absurd are
pieces_call inodes S text (h ∷ gs) [] are = absurd are
pieces_call inodes S text (h ∷ gs) (r ∷ []) are = absurd are
pieces_call inodes S text (h ∷ gs) (r ∷ s ∷ pieces) are =
    let first = its_call inodes r (numbers_name h) (numbers_file S h) (next_record S text h) are.0.numbers are.0.number_is in
    let second = its_call inodes s (overview_name h) (overview_file S h) (next_line S text h) are.0.overview are.0.line_is in
    let rest = pieces_call inodes S text gs pieces are.1 in
    λ i. first i ∷ second i ∷ rest i

-- a piece is for the numbers or the overview of a group
data IsFor (inodes : List (Option File)) (S : Spool) (text g : Octets) (p : Piece) : Type 0 where
  ForNumbers : IsFileAt inodes p.at (numbers_name g) (numbers_file S g) → p.octets.items ≡ next_record S text g → IsFor inodes S text g p
  ForOverview : IsFileAt inodes p.at (overview_name g) (overview_file S g) → p.octets.items ≡ next_line S text g → IsFor inodes S text g p

record IsForOne (inodes : List (Option File)) (S : Spool) (text : Octets) (gs : List Octets) (p : Piece) : Type 0 where
  group : Octets
  has : Contains gs group
  is : IsFor inodes S text group p

for_first : (inodes : List (Option File)) (S : Spool) (text g : Octets) (gs : List Octets) (r p : Piece) → IsFor inodes S text g r
    → Some r ≡ Some p → IsForOne inodes S text (g ∷ gs) p
for_first inodes S text g gs r p is at =
    record { group = g; has = (0, omega arith, refl); is = subst (IsFor inodes S text g) (same_Some r p at) is }

piece_for : (inodes : List (Option File)) (S : Spool) (text : Octets) (gs : List Octets) (pieces : List Piece) (k : ℕ) (p : Piece)
    → ArePieces inodes S text gs pieces → slice_get pieces k ≡ Some p → IsForOne inodes S text gs p
piece_for inodes S text [] [] zero p are at = absurd (cc)
piece_for inodes S text [] [] (suc k) p are at = absurd (cc)
piece_for inodes S text [] (r ∷ pieces) k p are at = absurd are
piece_for inodes S text (h ∷ gs) [] k p are at = absurd are
piece_for inodes S text (h ∷ gs) (r ∷ []) k p are at = absurd are
piece_for inodes S text (h ∷ gs) (r ∷ s ∷ pieces) zero p are at =
    for_first inodes S text h gs r p (ForNumbers are.0.numbers are.0.number_is) at
piece_for inodes S text (h ∷ gs) (r ∷ s ∷ pieces) (suc zero) p are at =
    for_first inodes S text h gs s p (ForOverview are.0.overview are.0.line_is) at
piece_for inodes S text (h ∷ gs) (r ∷ s ∷ pieces) (suc (suc k)) p are at =
    let rest = piece_for inodes S text gs pieces k p are.1 at in
    record { group = rest.group; has = (suc rest.has.0, omega (arith, rest.has.1), rest.has.2); is = rest.is }

-- ---- none goes to the pack

not_the_pack : (inodes : List (Option File)) (p : Piece) (name content : Octets) (x : ℕ) → IsFileAt inodes p.at name content
    → get_or name 0 0 ≡ x → x ≢ 112 → name_of inodes p.at ≢ Some pack_name
not_the_pack inodes p name content x there first other named =
    let is : Some name ≡ Some pack_name = sym (ap (option_map (λ (f : File). f.name)) there) ∙ named in
    other (sym first ∙ ap (λ (o : Octets). get_or o 0 0) (same_Some name pack_name is))

pub none_for_pack : (inodes : List (Option File)) (S : Spool) (text : Octets) (gs : List Octets) (pieces : List Piece)
    → ArePieces inodes S text gs pieces → AreNotPacked inodes pieces
none_for_pack inodes S text gs pieces are k p at = by_kind (piece_for inodes S text gs pieces k p are at) where
  by_kind : IsForOne inodes S text gs p → name_of inodes p.at ≢ Some pack_name
  by_kind one = elim one.is [
    | ForNumbers there says ↦ not_the_pack inodes p (numbers_name one.group) (numbers_file S one.group) 110 there refl (λ e. omega arith)
    | ForOverview there says ↦ not_the_pack inodes p (overview_name one.group) (overview_file S one.group) 111 there refl (λ e. omega arith)
  ]

-- ---- no two go to one file

none_passes : (p : Octets → Bool) (xs : List Octets) (x : Octets) → list_any p xs ≡ false → Contains xs x → p x ≡ false
none_passes p [] x none (k, low, is) = absurd (omega arith)
none_passes p (y ∷ xs) x none (zero, low, is) = ap p (sym is) ∙ (or_parts (p y) (list_any p xs) none).0
none_passes p (y ∷ xs) x none (suc k, low, is) = none_passes p xs x (or_parts (p y) (list_any p xs) none).1 (k, omega arith, is)

apart_by_name : (inodes : List (Option File)) (p q : Piece) (n m c d : Octets) → IsFileAt inodes p.at n c → IsFileAt inodes q.at m d → n ≢ m
    → p.at ≢ q.at
apart_by_name inodes p q n m c d first second differ same =
    differ (one_name inodes q.at n m c d (subst (λ (k : ℕ). IsFileAt inodes k n c) same first) second)

-- a file of another name than those of a group
apart_from : (inodes : List (Option File)) (S : Spool) (text g : Octets) (p q : Piece) (n c : Octets) → IsFileAt inodes p.at n c
    → LacksNames g n → IsFor inodes S text g q → p.at ≢ q.at
apart_from inodes S text g p q n c there lacks (ForNumbers other said) =
    apart_by_name inodes p q n (numbers_name g) c (numbers_file S g) there other lacks.numbers
apart_from inodes S text g p q n c there lacks (ForOverview other said) =
    apart_by_name inodes p q n (overview_name g) c (overview_file S g) there other lacks.overview

module _ (inodes : List (Option File)) (S : Spool) (text h : Octets) (gs : List Octets) (r s : Piece) (pieces : List Piece)
    (are : ArePiecesOf inodes S text h r s) (rest : ArePieces inodes S text gs pieces) (none : list_any (bytes_eq h) gs ≡ false) where
  lacked : (g : Octets) → Contains gs g → LacksNames g (numbers_name h) × LacksNames g (overview_name h)
  lacked g has =
      let other : h ≢ g = λ same. true≢false (sym (bytes_same h) ∙ ap (bytes_eq h) same ∙ none_passes (bytes_eq h) gs g none has) in
      let lack = group_files_lack g h other in
      (lack.1, lack.2)

  two_apart : r.at ≢ s.at
  two_apart = apart_by_name inodes r s (numbers_name h) (overview_name h) (numbers_file S h) (overview_file S h) are.numbers are.overview
      (not_first (numbers_name h) (overview_name h) 110 111 refl refl (λ e. omega arith))

  first_apart : (k : ℕ) (q : Piece) → slice_get pieces k ≡ Some q → (r.at ≢ q.at) × (s.at ≢ q.at)
  first_apart k q at =
      let its = piece_for inodes S text gs pieces k q rest at in
      let lack = lacked its.group its.has in (
        apart_from inodes S text its.group r q (numbers_name h) (numbers_file S h) are.numbers lack.0 its.is,
        apart_from inodes S text its.group s q (overview_name h) (overview_file S h) are.overview lack.1 its.is,
      )

unequal : (p q r s : Piece) → Some r ≡ Some p → Some s ≡ Some q → r.at ≢ s.at → p.at ≢ q.at
unequal p q r s first second differ same =
    differ (ap (λ (x : Piece). x.at) (same_Some r p first) ∙ same ∙ ap (λ (x : Piece). x.at) (sym (same_Some s q second)))

pub pieces_apart : (inodes : List (Option File)) (S : Spool) (text : Octets) (gs : List Octets) (pieces : List Piece) (j k : ℕ)
    (p q : Piece) → ArePieces inodes S text gs pieces → are_distinct gs ≡ true → j < k → slice_get pieces j ≡ Some p
    → slice_get pieces k ≡ Some q → p.at ≢ q.at
unfolding are_distinct
pieces_apart inodes S text [] [] zero k p q are distinct less first second = absurd (cc)
pieces_apart inodes S text [] [] (suc j) k p q are distinct less first second = absurd (cc)
pieces_apart inodes S text [] (r ∷ pieces) j k p q are distinct less first second = absurd are
pieces_apart inodes S text (h ∷ gs) [] j k p q are distinct less first second = absurd are
pieces_apart inodes S text (h ∷ gs) (r ∷ []) j k p q are distinct less first second = absurd are
pieces_apart inodes S text (h ∷ gs) (r ∷ s ∷ pieces) j zero p q are distinct less first second = absurd (omega arith)
pieces_apart inodes S text (h ∷ gs) (r ∷ s ∷ pieces) zero (suc zero) p q are distinct less first second =
    let parts = and_parts (not (list_any (bytes_eq h) gs)) (are_distinct gs) distinct in
    unequal p q r s first second (two_apart inodes S text h gs r s pieces are.0 are.1 (not-true (list_any (bytes_eq h) gs) parts.0))
pieces_apart inodes S text (h ∷ gs) (r ∷ s ∷ pieces) (suc j) (suc zero) p q are distinct less first second = absurd (omega arith)
pieces_apart inodes S text (h ∷ gs) (r ∷ s ∷ pieces) zero (suc (suc k)) p q are distinct less first second =
    let parts = and_parts (not (list_any (bytes_eq h) gs)) (are_distinct gs) distinct in
    unequal p q r q first refl (first_apart inodes S text h gs r s pieces are.0 are.1
    (not-true (list_any (bytes_eq h) gs) parts.0) k q second).0
pieces_apart inodes S text (h ∷ gs) (r ∷ s ∷ pieces) (suc zero) (suc (suc k)) p q are distinct less first second =
    let parts = and_parts (not (list_any (bytes_eq h) gs)) (are_distinct gs) distinct in
    unequal p q s q first refl (first_apart inodes S text h gs r s pieces are.0 are.1
    (not-true (list_any (bytes_eq h) gs) parts.0) k q second).1
pieces_apart inodes S text (h ∷ gs) (r ∷ s ∷ pieces) (suc (suc j)) (suc (suc k)) p q are distinct less first second =
    let parts = and_parts (not (list_any (bytes_eq h) gs)) (are_distinct gs) distinct in
    pieces_apart inodes S text gs pieces j k p q are.1 parts.1 (omega (arith, less)) first second

-- ---- there is room for them

record_size : (S : Spool) (text g : Octets) → length (next_record S text g) ≡ 16
record_size S text g =
    let a : NewsArticle = record { serial = length S + 1; text = []; groups = []; moment = 0 } in
    omega (arith, records_size (length (overview_file S g)) ((a, next_line S text g) ∷ []), length-append (next_record S text g) [])

module _ (host : Octets) (inodes : ℕ) (blocks : List Octets) (S : Spool) (f : Filing) (pieces : List Piece)
    (is : IsHeld host inodes blocks S) (may : MayFile host S f) (room : is_full blocks inodes S (Some (Article f)) ≡ false)
    (are : ArePieces (table inodes blocks) S f.text f.envelope.groups pieces) where
  rooms : HasRoomForChange blocks inodes S (Article f)
  rooms = not_full_room host blocks inodes S (Article f) (changes_are_few host inodes blocks S is) is.held.lawful may room

  lines_short : (g : Octets) → length (next_line S f.text g) ≤ 8191
  lines_short g = (changes_ask_few host S (Article f) (changes_are_few host inodes blocks S is) is.held.lawful may).lines f g refl

  its_room : (g : Octets) (p : Piece) → Contains f.envelope.groups g → IsFor (table inodes blocks) S f.text g p
      → MayGrow inodes p.at (length p.octets.items) blocks × (length p.octets.items ≤ 8191)
  its_room g p has (ForNumbers there said) = (
    record {
      name = numbers_name g;
      content = numbers_file S g;
      there = there;
      small = omega (arith, (rooms.sizes f g refl has).0, ap (λ (o : Octets). length o) said);
    },
    omega (arith, record_size S f.text g, ap (λ (o : Octets). length o) said),
  )
  its_room g p has (ForOverview there said) = (
    record {
      name = overview_name g;
      content = overview_file S g;
      there = there;
      small = omega (arith, (rooms.sizes f g refl has).1, ap (λ (o : Octets). length o) said);
    },
    omega (arith, lines_short g, ap (λ (o : Octets). length o) said),
  )

  pub pieces_may_grow : MayAllGrow inodes pieces blocks
  pieces_may_grow = record {
    each = λ k p at. let its = piece_for (table inodes blocks) S f.text f.envelope.groups pieces k p are at in
        (its_room its.group p its.has its.is).0;
    small = λ k p at. let its = piece_for (table inodes blocks) S f.text f.envelope.groups pieces k p are at in
        (its_room its.group p its.has its.is).1;
    apart = λ j k p q less first second. pieces_apart (table inodes blocks) S f.text f.envelope.groups pieces j k p q are
        (filed_distinct host S f may) less first second;
  }
