-- The changes that were read are the first ones of each spool that the blocks hold.
use Rattle.std.proofs.Common.{◌≡◌, ◌<◌, ◌≤◌, ℕ, zero, suc, ◌+◌, Bool, true, false, cond, List, [], ◌∷◌, ◌++◌, length, get_or, take, drop}
use Rattle.std.proofs.Common.{refl, sym, ◌∙◌, ap, subst, arith, Some, length-append}
use Rattle.std.specs.Prelude.{filter_map, slice_get}
use Rattle.std.specs.List.{Contains, list_any}
use Rattle.std.proofs.Math.Seq.{take-append-add, drop-append_seam, take-append_seam}
use Rattle.std.proofs.lemmas.List.{append_assoc, append-nil, take_more, take-append-drop}
use Rattle.std.proofs.lemmas.Option.{slice_get-get_or}
use Rattle.model.specs.Stream.{Octets}
use Rattle.model.specs.Files.{File, IsFileSystem, most_inodes, table}
use Rattle.model.specs.Layout.{Holds}
use Rattle.model.specs.Lawful.{IsLawfulAfter, MayFollow}
use Rattle.model.specs.Spool.{Spool, article_filed, filed_in, first, is_here, is_name, news_article}
use Rattle.model.specs.FileCalls.{next_line, next_record}
use Rattle.model.specs.FileKinds.{HasRoomInFile}
use Rattle.model.specs.SpoolFiles.{files_of, numbers_file, numbers_of, overview_file, overview_of}
use Rattle.model.specs.declared.change.Change.{Change}
use Rattle.model.specs.declared.change.Change.TheVariants.{Group, Article, Expire}
use Rattle.model.specs.declared.change.Filing.{Filing}
use Rattle.model.proofs.Growing.{filed_article, filed_no_more, numbers_push, overview_push, here_stays}
use Rattle.model.proofs.HoldsOne.{changes_few, fits_lawful, no_change}
use Rattle.fs_layout.proofs.Tables.{there_once}
use Rattle.model.proofs.Inodes.{is_among, where_is}
use Rattle.model.proofs.Opening.{fronts_read}
use Rattle.model.proofs.Packing.{stored_beside}
use Rattle.spool_opening.specs.Stored.{AreRead, NextIs, HasFront, HasPiece, IsFileAt, Numbers, Overview, Which, file_for, name_for}
use Rattle.spool_opening.specs.Stored.{piece_for}
use Rattle.spool_reading.proofs.Finding.{has_change, in_blocks, in_spool}
use Rattle.spool_opening.proofs.GroupFiles.{has_index, index_is, not_member, not_pack}

-- ---- the next change

may_next : (host : Octets) (before cs : Spool) (k : ℕ) → IsLawfulAfter host before cs → k < length cs
    → MayFollow host (before ++ take k cs) (get_or cs k no_change)
may_next host before [] k lawful low = absurd (omega arith)
may_next host before (c ∷ cs) zero lawful low = subst (λ (S : Spool). MayFollow host S c) (sym (append-nil before)) lawful.0
may_next host before (c ∷ cs) (suc k) lawful low =
    subst (λ (S : Spool). MayFollow host S (get_or cs k no_change)) (append_assoc before (c ∷ []) (take k cs))
    (may_next host (before ++ c ∷ []) cs k lawful.1 (omega arith))

pub is_front : (host : Octets) (inodes : ℕ) (blocks : List Octets) (S R : Spool) → inodes ≤ most_inodes → Holds host inodes blocks S
    → AreRead host inodes blocks R → R ≡ first S (length R)
is_front host inodes blocks S R room held read = fronts_read host inodes blocks S R room held read.changes

pub next_is : (host : Octets) (inodes : ℕ) (blocks : List Octets) (R S : Spool) → inodes ≤ most_inodes → Holds host inodes blocks S
    → R ≡ first S (length R) → length R < length S → NextIs host inodes blocks R S
next_is host inodes blocks R S room held front low =
    let few = changes_few host inodes blocks S held in
    let serial : 1 + length R ≡ length R + 1 = omega arith in
    record {
      change = get_or S (length R) no_change;
      may = subst (λ (T : Spool). MayFollow host T (get_or S (length R) no_change)) (sym front)
          (may_next host [] S (length R) held.lawful low);
      room = subst (λ (m : ℕ). HasRoomInFile m (get_or S (length R) no_change)) serial
          (fits_lawful host S held.lawful (omega (arith, few)) (length R) low);
      there = in_blocks host inodes blocks S _ held (has_change S (length R) low);
      front = ap (λ (T : Spool). T ++ get_or S (length R) no_change ∷ []) front ∙ sym (take_more S (length R) no_change low);
    }

pub next_there : (host : Octets) (inodes : ℕ) (blocks : List Octets) (R S : Spool) (room : inodes ≤ most_inodes)
    (held : Holds host inodes blocks S) (front : R ≡ first S (length R)) (low : length R < length S)
    → slice_get S (length R) ≡ Some (next_is host inodes blocks R S room held front low).change
unfolding next_is
next_there host inodes blocks R S room held front low = slice_get-get_or S (length R) no_change low

-- ---- one change more

pub other_grows : (w : Which) (S : Spool) (c : Change) (g : Octets)
    → filter_map article_filed (record { serial = length S + 1; change = c } ∷ []) ≡ [] → file_for w (S ++ c ∷ []) g ≡ file_for w S g
other_grows Numbers S c g none = ap numbers_of (filed_no_more S g c none)
other_grows Overview S c g none = ap overview_of (filed_no_more S g c none)

pub article_grows : (w : Which) (S : Spool) (f : Filing) (g : Octets)
    → file_for w (S ++ Article f ∷ []) g ≡ file_for w S g ++ cond (list_any (is_name g) f.envelope.groups) (piece_for w S f.text g) []
article_grows Numbers S f g = ap numbers_of (filed_article S g f) ∙ by_test (list_any (is_name g) f.envelope.groups) where
  by_test : (b : Bool) → numbers_of (filed_in S g ++ cond b (news_article (length S + 1) f ∷ []) [])
      ≡ numbers_file S g ++ cond b (next_record S f.text g) []
  by_test true = numbers_push (filed_in S g) (news_article (length S + 1) f)
  by_test false = ap numbers_of (append-nil (filed_in S g)) ∙ sym (append-nil (numbers_file S g))
article_grows Overview S f g = ap overview_of (filed_article S g f) ∙ by_test (list_any (is_name g) f.envelope.groups) where
  by_test : (b : Bool) → overview_of (filed_in S g ++ cond b (news_article (length S + 1) f ∷ []) [])
      ≡ overview_file S g ++ cond b (next_line S f.text g) []
  by_test true = overview_push (filed_in S g) (news_article (length S + 1) f)
  by_test false = ap overview_of (append-nil (filed_in S g)) ∙ sym (append-nil (overview_file S g))

-- some octets more, or none
grows : (w : Which) (S : Spool) (c : Change) (g : Octets) → (rest : Octets) × (file_for w (S ++ c ∷ []) g ≡ file_for w S g ++ rest)
grows w S (Group created) g = ([], other_grows w S (Group created) g refl ∙ sym (append-nil (file_for w S g)))
grows w S (Expire expiry) g = ([], other_grows w S (Expire expiry) g refl ∙ sym (append-nil (file_for w S g)))
grows w S (Article filing) g = (
  cond (list_any (is_name g) filing.envelope.groups)
      (piece_for w S filing.text g) [],
  article_grows w S filing g,
)

pub front_for : (w : Which) (S T : Spool) (g : Octets) → (rest : Octets) × (file_for w (S ++ T) g ≡ file_for w S g ++ rest)
front_for w S [] g = ([], ap (λ (R : Spool). file_for w R g) (append-nil S) ∙ sym (append-nil (file_for w S g)))
front_for w S (c ∷ T) g =
    let one = grows w S c g in
    let more = front_for w (S ++ c ∷ []) T g in (
      one.0 ++ more.0,
      ap (λ (R : Spool). file_for w R g) (sym (append_assoc S (c ∷ []) T)) ∙ more.1 ∙ ap (λ (o : Octets). o ++ more.0) one.1
          ∙ append_assoc (file_for w S g) one.0 more.0,
    )

-- ---- what the blocks have of a group

-- the file of this name is the spool's
pub its_content : (host : Octets) (inodes : ℕ) (blocks : List Octets) (S : Spool) (w : Which) (g : Octets) (k : ℕ) (content : Octets)
    → Holds host inodes blocks S
    → IsFileAt (table inodes blocks) k (name_for w g) content → content ≡ file_for w S g
its_content host inodes blocks S w g k content held there =
    (index_is w S g content (in_spool host inodes blocks S (record { name = name_for w g; content = content }) held (not_pack w g)
    (is_among (table inodes blocks) k (record { name = name_for w g; content = content }) there))).is

-- and it is there
pub its_file : (host : Octets) (inodes : ℕ) (blocks : List Octets) (S : Spool) (w : Which) (g : Octets) → Holds host inodes blocks S
    → is_here S g ≡ true
    → (k : ℕ) × IsFileAt (table inodes blocks) k (name_for w g) (file_for w S g)
its_file host inodes blocks S w g held here =
    where_is (table inodes blocks) (record { name = name_for w g; content = file_for w S g })
    (subst (λ (fs : List File). Contains fs (record { name = name_for w g; content = file_for w S g })) held.held.contents
    (stored_beside held.files (files_of S) held.same (record { name = name_for w g; content = file_for w S g }) (has_index w S g here)
    (not_member w g (file_for w S g))))

seam : (front piece rest : Octets) → take (length piece) (drop (length front) ((front ++ piece) ++ rest)) ≡ piece
seam front piece rest =
    ap (λ (o : Octets). take (length piece) (drop (length front) o)) (append_assoc front piece rest)
    ∙ ap (take (length piece)) (drop-append_seam front (piece ++ rest)) ∙ take-append_seam piece rest

-- so an article's piece stands behind those before it
pub piece_stands : (host : Octets) (inodes : ℕ) (blocks : List Octets) (R S : Spool) (w : Which) (f : Filing) (g : Octets)
    → Holds host inodes blocks S
    → R ++ Article f ∷ [] ≡ first S (length R + 1) → list_any (is_name g) f.envelope.groups ≡ true → is_here R g ≡ true
    → HasPiece (table inodes blocks) (name_for w g) (length (file_for w R g)) (piece_for w R f.text g)
piece_stands host inodes blocks R S w f g held front filed here =
    let c = Article f in
    let whole : (R ++ c ∷ []) ++ drop (length R + 1) S ≡ S = ap (λ (T : Spool). T ++ drop (length R + 1) S) front
    ∙ take-append-drop (length R + 1) S in
    let more = front_for w (R ++ c ∷ []) (drop (length R + 1) S) g in
    let here_all : is_here S g ≡ true =
    ap (λ (T : Spool). is_here T g) (sym (sym (append_assoc R (c ∷ []) (drop (length R + 1) S)) ∙ whole))
    ∙ here_stays R ((c ∷ []) ++ drop (length R + 1) S) g here in
    let its = its_file host inodes blocks S w g held here_all in
    let content : file_for w S g ≡ (file_for w R g ++ piece_for w R f.text g) ++ more.0 =
    ap (λ (T : Spool). file_for w T g) (sym whole) ∙ more.1
    ∙ ap (λ (o : Octets). o ++ more.0) (article_grows w R f g
    ∙ ap (λ (b : Bool). file_for w R g ++ cond b (piece_for w R f.text g) []) filed) in
    record {
      place = its.0;
      content = file_for w S g;
      there = its.1;
      piece_is = ap (λ (o : Octets). take (length (piece_for w R f.text g)) (drop (length (file_for w R g)) o)) content
          ∙ seam (file_for w R g) (piece_for w R f.text g) more.0;
    }

-- ---- one change more is read

longer : (front piece content : Octets) → take (length front) content ≡ front → take (length piece) (drop (length front) content) ≡ piece
    → take (length (front ++ piece)) content ≡ front ++ piece
longer front piece content one two =
    let split : front ++ drop (length front) content ≡ content = ap (λ (o : Octets). o ++ drop (length front) content) (sym one)
    ∙ take-append-drop (length front) content in
    ap (take (length (front ++ piece))) (sym split)
    ∙ ap (λ (n : ℕ). take n (front ++ drop (length front) content)) (length-append front piece)
    ∙ take-append-add front (drop (length front) content) (length piece)
    ∙ ap (λ (o : Octets). front ++ o) two

pub front_grows : (inodes : ℕ) (blocks : List Octets) (name front piece : Octets) → IsFileSystem inodes blocks
    → HasFront (table inodes blocks) name front → HasPiece (table inodes blocks) name (length front) piece
    → HasFront (table inodes blocks) name (front ++ piece)
front_grows inodes blocks name front piece fs has next =
    let same : next.content ≡ has.content =
    there_once inodes blocks fs next.place has.place name next.content has.content next.there has.there in
    record {
      place = has.place;
      content = has.content;
      there = has.there;
      front = longer front piece has.content has.front (ap (λ (o : Octets). take (length piece) (drop (length front) o)) (sym same)
          ∙ next.piece_is);
    }
