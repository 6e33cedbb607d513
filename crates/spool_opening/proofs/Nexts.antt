-- The next change of a spool that the blocks hold.
use Rattle.std.proofs.Common.{◌≡◌, ◌<◌, ◌≤◌, ℕ, zero, suc, ◌+◌, Bool, true, false, cond, List, [], ◌∷◌, ◌++◌, length, get_or, drop}
use Rattle.std.proofs.Common.{refl, sym, ◌∙◌, ap, subst, arith, Option, Some, None, length-append}
use Rattle.std.specs.Prelude.{find, filter_map, is_some, ◌||◌}
use Rattle.std.specs.List.{list_any}
use Rattle.std.specs.Option.{option_or}
use Rattle.std.proofs.lemmas.Bool.{true≢false}
use Rattle.std.proofs.lemmas.List.{take-append-drop}
use Rattle.model.specs.Stream.{Octets}
use Rattle.model.specs.Files.{File, files_in, most_inodes, table}
use Rattle.model.specs.Indexed.{FilePlaces, IsAt, value_of}
use Rattle.model.specs.Layout.{Holds}
use Rattle.model.specs.Spool.{Spool, NewsGroup, group_made, is_here, is_name, news_group}
use Rattle.model.specs.FileKinds.{is_of_change}
use Rattle.model.specs.Packs.{IsMember, IsStored, most_changes}
use Rattle.model.specs.SpoolFiles.{change_file}
use Rattle.model.specs.declared.change.Change.{Change}
use Rattle.model.specs.declared.change.Change.TheVariants.{Group, Article, Expire}
use Rattle.model.specs.declared.change.Filing.{Filing}
use Rattle.model.specs.declared.change.NewGroup.{NewGroup}
use Rattle.model.proofs.HoldsOne.{same_change}
use Rattle.model.proofs.Joined.{bytes_same}
use Rattle.model.proofs.Growing.{here_stays}
use Rattle.spool_index.specs.View.{IndexView}
use Rattle.spool_index.specs.Viewed.{place_of}
use Rattle.spool_index.specs.declared.places.ChangePlace.{ChangePlace}
use Rattle.spool_index.specs.declared.places.ChangePlace.TheVariants.{Alone, Packed}
use Rattle.spool_reading.specs.StoredChanges.{IsFileOf}
use Rattle.spool_reading.specs.Sorted.{AreSorted}
use Rattle.spool_reading.proofs.Saying.{may_in_time}
use Rattle.spool_reading.proofs.Slots.{its_slot}
use Rattle.spool_opening.specs.Replayed.{AllGoOn, AreReplayedTo, IsItsFile, IsReplayed, MayStandAt}
use Rattle.spool_opening.specs.Stored.{AreRead, IsFileAt, IsNext, Numbers, Overview, Which, name_for}
use Rattle.spool_opening.proofs.Filed.{filed_here}
use Rattle.spool_opening.proofs.Fronts.{is_front, its_file, next_is, next_there, piece_stands}
use Rattle.spool_opening.proofs.Going.{no_piece}
use Rattle.spool_opening.proofs.Growing.{here_more}

-- ---- its file

-- the file says the next change
pub record IsNextFile (host : Octets) (R S : Spool) (name content : Octets) : Type 0 where
  pub change : Change
  pub next : IsNext host R S change
  pub is : IsFileOf (length R + 1) change name content

-- what is read of a place that has one file
abbrev pub IsReadAt : List (Option File) → ChangePlace → Octets → Octets → Type 0
IsReadAt inodes at name content = (f : File) → IsAt inodes (place_of at) f → f ≡ record { name = name; content = content }

pub next_file : (host : Octets) (inodes : ℕ) (blocks : List Octets) (R S : Spool) (slots : List (Option ChangePlace))
    (named : List (Octets × ℕ)) (packed : ℕ) (at : ChangePlace) (name content : Octets) → inodes ≤ most_inodes → Holds host inodes blocks S
    → AreRead host inodes blocks R → AreSorted (table inodes blocks) slots named packed → length R < length S
    → get_or slots (length R) None ≡ Some at → IsReadAt (table inodes blocks) at name content → IsNextFile host R S name content
next_file host inodes blocks R S slots named packed at name content few held read sorted low taken is_read =
    let front = is_front host inodes blocks S R few held read in
    let next = next_is host inodes blocks R S few held front low in
    let slot = its_slot host inodes blocks S (length R) next.change slots named packed few held sorted
    (next_there host inodes blocks R S few held front low) in
    let places : Some slot.0 ≡ Some at = sym slot.1 ∙ taken in
    let one : slot.0 ≡ at = cc in
    let there : IsAt (table inodes blocks) (place_of at) (change_file (record { serial = length R + 1; change = next.change })) =
    subst (λ (p : ChangePlace). IsAt (table inodes blocks) (place_of p)
    (change_file (record { serial = length R + 1; change = next.change }))) one slot.2 in
    record {
      change = next.change;
      next = record { may = next.may; front = next.front };
      is = record {
        room = next.room;
        in_time = may_in_time host R next.change next.may;
        file = is_read (change_file (record { serial = length R + 1; change = next.change })) there;
      };
    }

-- what was read from it is that change
pub said_next : (host : Octets) (R S : Spool) (name content : Octets) (c : Change) → IsNextFile host R S name content
    → IsFileOf (length R + 1) c name content → IsNext host R S c
said_next host R S name content c next is =
    let same = same_change (length R + 1) (length R + 1) next.change c next.is.room is.room (next.is.file ∙ sym is.file) in
    subst (IsNext host R S) same.1 next.next

-- ---- a group

-- the numbers or the overview of a new group are missing
other : (w : Which) (name content : Octets) → is_of_change (record { name = name_for w name; content = content }) ≡ false
other Numbers name content = refl
other Overview name content = refl

group_here : (host : Octets) (R S : Spool) (created : NewGroup) → IsNext host R S (Group created) → is_here S created.name ≡ true
group_here host R S created next =
    let c = Group created in
    let name = created.name in
    let its : NewsGroup = news_group (length R + 1) created in
    let whole : (R ++ c ∷ []) ++ drop (length R + 1) S ≡ S = ap (λ (T : Spool). T ++ drop (length R + 1) S) next.front
    ∙ take-append-drop (length R + 1) S in
    let here : is_here (R ++ c ∷ []) name ≡ true = ap (λ (o : Option NewsGroup). is_some o) (here_more R c name)
    ∙ ap (λ (o : Option NewsGroup). is_some
    (option_or o (find (λ (h : NewsGroup). is_name name h.name)
    (filter_map group_made (record { serial = length R + 1; change = c } ∷ []))))) next.may.new
    ∙ ap (λ (b : Bool). is_some (cond b (Some its) None)) (bytes_same name) in
    ap (λ (T : Spool). is_here T name) (sym whole) ∙ here_stays (R ++ c ∷ []) (drop (length R + 1) S) name here

pub group_named_there : (host : Octets) (inodes : ℕ) (blocks : List Octets) (R S : Spool) (slots : List (Option ChangePlace))
    (named : List (Octets × ℕ)) (packed : ℕ) (w : Which) (created : NewGroup) (file : Octets)
    → AreSorted (table inodes blocks) slots named packed
    → Holds host inodes blocks S → IsNext host R S (Group created) → file ≡ name_for w created.name
    → None ≡ value_of named file → ⊥
group_named_there host inodes blocks R S slots named packed w created file sorted held next is none =
    let its = its_file host inodes blocks S w created.name held (group_here host R S created next) in
    no_piece (table inodes blocks) slots named packed (name_for w created.name) [] 0 sorted (λ content. other w created.name content)
    (ap (value_of named) (sym is) ∙ sym none) (record { place = its.0; content = _; there = its.1; piece_is = refl })

-- ---- an article

any_of : (gs : List Octets) (k : ℕ) → k < length gs → list_any (is_name (get_or gs k [])) gs ≡ true
any_of [] k low = absurd (omega arith)
any_of (g ∷ gs) zero low = ap (λ (b : Bool). b || list_any (is_name g) gs) (bytes_same g)
any_of (g ∷ gs) (suc k) low = over (is_name (get_or gs k []) g) (any_of gs k (omega arith)) where
  over : (b : Bool) → list_any (is_name (get_or gs k [])) gs ≡ true → (b || list_any (is_name (get_or gs k [])) gs) ≡ true
  over true rest = refl
  over false rest = rest

pub all_go_on : (host : Octets) (inodes : ℕ) (blocks : List Octets) (R S : Spool) (f : Filing) → Holds host inodes blocks S
    → IsNext host R S (Article f) → AllGoOn (table inodes blocks) R f.text f.envelope.groups
all_go_on host inodes blocks R S f held next k w low =
    piece_stands host inodes blocks R S w f (get_or f.envelope.groups k []) held next.front (any_of f.envelope.groups k low)
    (filed_here R f.text f.envelope.groups next.may.filed k low)

-- ---- one more

pub one_replayed : (host : Octets) (inodes : ℕ) (blocks : List Octets) (x : IndexView) (p : FilePlaces) (R : Spool) (c : Change) (count : ℕ)
    → length R ≡ count → IsReplayed host inodes blocks x p (R ++ c ∷ []) → AreReplayedTo host inodes blocks x p (count + 1)
one_replayed host inodes blocks x p R c count is replayed =
    record { changes = R ++ c ∷ []; replayed = replayed; count_is = length-append R (c ∷ []) ∙ omega arith }

-- ---- what the code has

-- a place that a slot has
pub taken_there : (inodes : List (Option File)) (slots : List (Option ChangePlace)) (named : List (Octets × ℕ)) (packed n : ℕ)
    (at : ChangePlace) → AreSorted inodes slots named packed → get_or slots n None ≡ Some at
    → (f : File) × IsAt inodes (place_of at) f
taken_there inodes slots named packed n at sorted taken = let its = sorted.taken n at taken in (its.file, its.there)

-- the file that was read there
pub its_file_at : (inodes : ℕ) (blocks : List Octets) (slots : List (Option ChangePlace)) (named : List (Octets × ℕ)) (packed n serial : ℕ)
    (at : ChangePlace) (c : Change) (name content : Octets) → AreSorted (table inodes blocks) slots named packed
    → get_or slots n None ≡ Some at → IsReadAt (table inodes blocks) at name content → IsFileOf serial c name content
    → IsItsFile inodes blocks at serial c
its_file_at inodes blocks slots named packed n serial at c name content sorted taken is_read is =
    let its = sorted.taken n at taken in
    let same = is_read its.file its.there in
    record {
      name = name;
      content = content;
      is = is;
      stored = subst (IsStored (files_in (table inodes blocks))) same its.stored;
      there = subst (IsAt (table inodes blocks) (place_of at)) same its.there;
    }

-- a file in the pack is that of an article or of an expiry
pub may_stand : (inodes : List (Option File)) (slots : List (Option ChangePlace)) (named : List (Octets × ℕ)) (packed n serial : ℕ)
    (at : ChangePlace) (c : Change) (name content : Octets) → AreSorted inodes slots named packed → get_or slots n None ≡ Some at
    → IsReadAt inodes at name content → IsFileOf serial c name content → MayStandAt at c
may_stand inodes slots named packed n serial (Alone inode) c name content sorted taken is_read is = tt
may_stand inodes slots named packed n serial (Packed inode from size) (Article f) name content sorted taken is_read is = tt
may_stand inodes slots named packed n serial (Packed inode from size) (Expire e) name content sorted taken is_read is = tt
may_stand inodes slots named packed n serial (Packed inode from size) (Group g) name content sorted taken is_read is =
    let its = sorted.taken n (Packed inode from size) taken in
    let same : its.file ≡ change_file (record { serial = serial; change = Group g }) = is_read its.file its.there ∙ sym is.file in
    let member : IsMember (change_file (record { serial = serial; change = Group g })) = subst IsMember same its.may in
    true≢false (sym member.kind)

pub slots_few : (inodes : List (Option File)) (slots : List (Option ChangePlace)) (named : List (Octets × ℕ)) (packed n m : ℕ)
    → AreSorted inodes slots named packed → m ≡ n → n < length slots → m < most_changes
slots_few inodes slots named packed n m sorted is low = omega (arith, sorted.few)

-- the octets that were read are those of a file
pub same_file : (n m : ℕ) (c : Change) (name name' content content' : Octets) → n ≡ m → name ≡ name' → content ≡ content'
    → IsFileOf n c name content → IsFileOf m c name' content'
same_file n m c name name' content content' serials names contents is =
    subst (λ (p : ℕ × Octets × Octets). IsFileOf p.0 c p.1 p.2) (λ i. (serials i, names i, contents i)) is

pub named_at : (inodes : ℕ) (blocks : List Octets) (w : Which) (name file : Octets) (at : ℕ) → file ≡ name_for w name
    → ((content : Octets) × IsFileAt (table inodes blocks) at file content)
    → (content : Octets) × IsFileAt (table inodes blocks) at (name_for w name) content
named_at inodes blocks w name file at is there = (there.0, subst (λ (o : Octets). IsFileAt (table inodes blocks) at o there.0) is there.1)
