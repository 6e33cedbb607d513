-- Where the text of an article stands.
use Rattle.std.proofs.Common.{
  ◌≡◌,
  ◌<◌,
  ◌≤◌,
  ℕ,
  zero,
  suc,
  ◌+◌,
  ◌-◌,
  List,
  [],
  ◌∷◌,
  ◌++◌,
  length,
  get_or,
  map,
  take,
  drop,
  refl,
  sym,
  subst,
  ◌∙◌,
}
use Rattle.std.proofs.Common.{ap, arith, append_assoc, length-append}
use Rattle.std.specs.Prelude.{Option, Some, None, flat_map, option_map, slice_get, unwrap_or}
use Rattle.std.specs.Option.{option_and_then}
use Rattle.std.proofs.Math.Seq.{drop-append_seam, take-append_seam}
use Rattle.std.proofs.lemmas.List.{append-nil, get_or_default, length-map}
use Rattle.std.proofs.lemmas.Option.{same_Some, slice_get-get_or, slice_get_within}
use Rattle.byteorder.specs.Endian.{little_bytes}
use Rattle.model.specs.Stream.{Octets}
use Rattle.model.specs.Files.{File, HasRoom, IsFileSystem, content_of, entry, size, table}
use Rattle.model.specs.Indexed as indexed
use Rattle.model.specs.Indexed.{ArePlaces, FilePlaces, IsAt, IsPackedAt}
use Rattle.model.specs.Packs.{member_octets, pack_name}
use Rattle.model.specs.Records.{article_record}
use Rattle.model.specs.Spool.{Spool, SpoolEntry, NewsArticle, article_filed, entries, news_article}
use Rattle.model.specs.FileKinds.{article_file}
use Rattle.spool_index.specs.Kept.{lengths_of}
use Rattle.spool_index.specs.declared.note.Lengths.{Lengths}
use Rattle.model.specs.SpoolFiles.{change_file}
use Rattle.model.specs.declared.change.Change.{Change}
use Rattle.model.specs.declared.change.Change.TheVariants.{Group, Article, Expire}
use Rattle.model.proofs.Owning.{content_size}
use Rattle.model.proofs.Asking.{text_fits}
use Rattle.model.proofs.Joined.{both_at}
use Rattle.model.proofs.Packing.{member_front, member_parts}
use Rattle.spool_index.proofs.Read.{place_below, stands_at}
use Rattle.spool_index.specs.Viewed.{place_of}
use Rattle.spool_index.specs.declared.places.ChangePlace.{ChangePlace}
use Rattle.spool_texts.specs.Texts.{EndsAt}
use Rattle.session_lookups.specs.Held.{article_with, text_of}
use Rattle.fs_layout.proofs.Tables.{named_from_there}

-- ---- the last octets

front : NewsArticle → Octets
front a = little_bytes 8 a.serial ++
    (little_bytes 8 a.moment ++ (little_bytes 4 (length a.text) ++ (length a.groups ∷ flat_map (λ g. length g ∷ g) a.groups)))

record_ends : (a : NewsArticle) → article_record a ≡ front a ++ a.text
unfolding front
record_ends a = joined (little_bytes 8 a.serial) (little_bytes 8 a.moment) (little_bytes 4 (length a.text))
    (length a.groups ∷ flat_map (λ g. length g ∷ g) a.groups) a.text where
      joined : (w x y z text : Octets) → w ++ (x ++ (y ++ (z ++ text))) ≡ (w ++ (x ++ (y ++ z))) ++ text
      joined w x y z text = sym (append_assoc w (x ++ (y ++ z)) text
          ∙ ap (λ (l : Octets). w ++ l) (append_assoc x (y ++ z) text ∙ ap (λ (l : Octets). x ++ l) (append_assoc y z text)))

-- the text is where the record ends, whatever stands before and after it
text_is_last : (a : NewsArticle) (before after content : Octets) (end : ℕ) → content ≡ before ++ (article_record a ++ after)
    → end ≡ length before + length (article_record a)
    → take (length a.text) (drop (end - length a.text) content) ≡ a.text
text_is_last a before after content end is ends =
    let head = front a in
    let split : content ≡ (before ++ head) ++ (a.text ++ after) = is ∙ ap (λ (o : Octets). before ++ (o ++ after)) (record_ends a)
    ∙ ap (λ (o : Octets). before ++ o) (append_assoc head a.text after) ∙ sym (append_assoc before head (a.text ++ after)) in
    let place : end - length a.text ≡ length (before ++ head) = omega (
      arith,
      ends,
      ap (λ (o : Octets). length o) (record_ends a),
      length-append head a.text,
      length-append before head,
    ) in
    ap (λ (o : Octets). take (length a.text) (drop (end - length a.text) o)) split
    ∙ ap (λ (n : ℕ). take (length a.text) (drop n ((before ++ head) ++ (a.text ++ after)))) place
    ∙ ap (take (length a.text)) (drop-append_seam (before ++ head) (a.text ++ after)) ∙ take-append_seam a.text after

-- ---- the file of an article

filed_file : (n : ℕ) (c : Change) (a : NewsArticle) → article_filed (record { serial = n; change = c }) ≡ Some a
    → change_file (record { serial = n; change = c }) ≡ article_file a
filed_file n (Group created) a is = absurd (cc)
filed_file n (Expire expiry) a is = absurd (cc)
filed_file n (Article filing) a is = ap (λ (b : NewsArticle). article_file b) (same_Some (news_article n filing) a is)

record Its (S : Spool) (k : ℕ) (a : NewsArticle) : Type 0 where
  change : SpoolEntry
  at : slice_get (entries S) k ≡ Some change
  file_is : change_file change ≡ article_file a

its : (S : Spool) (k : ℕ) (a : NewsArticle) → article_with S (suc k) ≡ Some a → Its S k a
its S k a is = by_entry (slice_get (entries S) k) refl is where
  by_entry : (o : Option SpoolEntry) → slice_get (entries S) k ≡ o → option_and_then article_filed o ≡ Some a → Its S k a
  by_entry None at same = absurd (cc)
  by_entry (Some e) at same = record { change = e; at = at; file_is = filed_file e.serial e.change a same }

-- the elements of a list have files in these places
pub placed_at : {X : Type 0} (inodes : List (Option File)) (f : X → File) (xs : List X) (places : List ℕ) (k : ℕ) (x : X)
    → map (λ (j : ℕ). get_or inodes j None) places ≡ map (λ (y : X). Some (f y)) xs → slice_get xs k ≡ Some x
    → (k < length places) × (get_or inodes (get_or places k 0) None ≡ Some (f x))
placed_at {X} inodes f xs places k x same at =
    let low : k < length places = omega (
      arith,
      slice_get_within xs k x at,
      ap (λ (l : List (Option File)). length l) same,
      length-map places (λ (j : ℕ). get_or inodes j None),
      length-map xs (λ (y : X). Some (f y)),
    ) in (
      low,
      both_at (λ (j : ℕ). get_or inodes j None) (λ (y : X). Some (f y)) places xs k (get_or places k 0) x same
          (slice_get-get_or places k 0 low) at,
    )

pub record Sized (S : Spool) (serial : ℕ) (lengths : Lengths) : Type 0 where
  pub article : NewsArticle
  pub its_own : article_with S serial ≡ Some article
  pub lengths_are : lengths ≡ lengths_of article.text

pub sized : (S : Spool) (serial : ℕ) (lengths : Lengths)
    → Some lengths ≡ option_map (λ (a : NewsArticle). lengths_of a.text) (article_with S serial) → Sized S serial lengths
sized S serial lengths is = by_option (article_with S serial) refl is where
  by_option : (o : Option NewsArticle) → article_with S serial ≡ o → Some lengths ≡ option_map (λ (a : NewsArticle). lengths_of a.text) o
      → Sized S serial lengths
  by_option None at same = absurd (cc)
  by_option (Some a) at same = record { article = a; its_own = at; lengths_are = same_Some lengths (lengths_of a.text) same }

-- ---- where its file ends

-- a file that is stored by itself
pub ends_alone : (inodes : ℕ) (blocks : List Octets) → HasRoom inodes blocks → IsFileSystem inodes blocks → (inode end : ℕ) (f : File)
    → get_or (table inodes blocks) inode None ≡ Some f → end ≡ size (entry inodes blocks inode) → EndsAt inodes blocks inode end f
ends_alone inodes blocks room fs inode end f there is =
    let named = named_from_there inodes blocks fs inode f.name f.content there in
    let long : length (content_of blocks (entry inodes blocks inode)) ≡ size (entry inodes blocks inode) =
    content_size blocks (entry inodes blocks inode) room.blocks_whole (λ b owns. (fs.within inode b named.below owns).1) in
    record {
      below = named.below;
      file = named.file;
      before = [];
      after = [];
      content_is = sym named.content_is ∙ sym (append-nil f.content);
      end_is = omega (arith, is, long, ap (λ (o : Octets). length o) named.content_is);
    }

-- a file in the pack
pub ends_packed : (inodes : ℕ) (blocks : List Octets) → IsFileSystem inodes blocks → (inode from size end : ℕ) (f : File)
    → IsPackedAt (table inodes blocks) inode from size f → end ≡ from + size → EndsAt inodes blocks inode end f
ends_packed inodes blocks fs inode from count end f at is =
    let content = at.front ++ (member_octets f ++ at.rest) in
    let named = named_from_there inodes blocks fs inode pack_name content at.pack_is in
    let split : content ≡ (at.front ++ member_front f) ++ (f.content ++ at.rest) =
    ap (λ (o : Octets). at.front ++ (o ++ at.rest)) (member_parts f)
    ∙ ap (λ (o : Octets). at.front ++ o) (append_assoc (member_front f) f.content at.rest)
    ∙ sym (append_assoc at.front (member_front f) (f.content ++ at.rest)) in
    record {
      below = named.below;
      file = named.file;
      before = at.front ++ member_front f;
      after = at.rest;
      content_is = sym named.content_is ∙ split;
      end_is = omega (
        arith,
        is,
        at.from_is,
        at.size_is,
        ap (λ (o : Octets). length o) (member_parts f),
        length-append (member_front f) f.content,
        length-append at.front (member_front f),
      );
    }

-- ---- the text in it

-- the file of the article with this serial is at the place that is read
pub record StandsAt (inodes : ℕ) (blocks : List Octets) (p : FilePlaces) (serial : ℕ) (a : NewsArticle) : Type 0 where
  pub some : 1 ≤ serial
  pub low : serial - 1 < length p.changes
  pub at : (cs : List ChangePlace) (d : ChangePlace) → map place_of cs ≡ p.changes
      → IsAt (table inodes blocks) (place_of (get_or cs (serial - 1) d)) (article_file a)

pub article_stands : (inodes : ℕ) (blocks : List Octets) (S : Spool) (p : FilePlaces) (serial : ℕ) (a : NewsArticle)
    → ArePlaces inodes blocks S p → article_with S serial ≡ Some a → StandsAt inodes blocks p serial a
article_stands inodes blocks S p zero a are is = absurd (cc)
article_stands inodes blocks S p (suc k) a are is =
    let one = its S k a is in
    let same : suc k - 1 ≡ k = omega arith in
    record {
      some = omega arith;
      low = omega (arith, place_below inodes blocks S p are k one.change one.at);
      at = λ cs d viewed.
          let x = get_or cs k d in
          let there : k < length cs = omega (
            arith,
            place_below inodes blocks S p are k one.change one.at,
            length-map cs place_of,
            ap (λ (l : List indexed.ChangePlace). length l) viewed,
          ) in
          subst (λ (j : ℕ). IsAt (table inodes blocks) (place_of (get_or cs j d)) (article_file a)) (sym same)
          (subst (IsAt (table inodes blocks) (place_of x)) one.file_is
          (stands_at inodes blocks S p are k one.change one.at cs x viewed (get_or_default cs k d x there)));
    }

-- the text of n octets of an article stands where its file ends
pub record TextEnds (inodes : ℕ) (blocks : List Octets) (S : Spool) (serial inode end n : ℕ) : Type 0 where
  pub fits : n ≤ end
  pub within : end ≤ size (entry inodes blocks inode)
  pub long : length (take n (drop (end - n) (content_of blocks (entry inodes blocks inode)))) ≡ n
  pub text_is : take n (drop (end - n) (content_of blocks (entry inodes blocks inode))) ≡ text_of S serial

pub text_ends : (inodes : ℕ) (blocks : List Octets) → HasRoom inodes blocks → IsFileSystem inodes blocks
    → (S : Spool) (serial inode end n : ℕ)
    (a : NewsArticle) → article_with S serial ≡ Some a → n ≡ length a.text → EndsAt inodes blocks inode end (article_file a)
    → TextEnds inodes blocks S serial inode end n
text_ends inodes blocks room fs S serial inode end n a with size_is ends =
    let e = entry inodes blocks inode in
    let long : length (content_of blocks e) ≡ size e =
    content_size blocks e room.blocks_whole (λ b owns. (fs.within inode b ends.below owns).1) in
    let is : take n (drop (end - n) (content_of blocks e)) ≡ a.text =
    ap (λ (m : ℕ). take m (drop (end - m) (content_of blocks e))) size_is
    ∙ text_is_last a ends.before ends.after (content_of blocks e) end ends.content_is ends.end_is in
    record {
      fits = omega (arith, size_is, text_fits a, ends.end_is);
      within = omega (
        arith,
        ends.end_is,
        long,
        ap (λ (o : Octets). length o) ends.content_is,
        length-append ends.before (article_record a ++ ends.after),
        length-append (article_record a) ends.after,
      );
      long = ap (λ (o : Octets). length o) is ∙ sym size_is;
      text_is = is ∙ sym (ap (λ (o : Option NewsArticle). unwrap_or (option_map (λ (b : NewsArticle). b.text) o) []) with);
    }
