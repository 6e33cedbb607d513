-- What is required of blocks that texts are read from.
use Rattle.std.specs.Prelude.{◌≡◌, ℕ, zero, suc, ◌+◌, ◌-◌, ◌^◌, ◌<◌, ◌≤◌, List, [], ◌++◌, length, take, drop, slice_index, IsSome}
use Rattle.model.specs.Article.{header}
use Rattle.model.specs.Files.{File, IsFile, content_of, entry}
use Rattle.model.specs.Stream.{Octets, line}
use Rattle.model.specs.Indexed.{ArePlaces, FilePlaces, line_start}
use Rattle.model.specs.Spool.{Spool}
use Rattle.session_lookups.specs.Held.{article_with, text_of}
use Rattle.spool_index.specs.View.{IndexView, Indexes}
use Rattle.spool_texts.specs.declared.text_places.TextPlace.{TextPlace}

-- index and places are those of some changes, and this serial is that of an article among them
pub record HasArticle (inodes : ℕ) (blocks : List Octets) (index : IndexView) (places : FilePlaces) (serial : ℕ) : Type 0 where
  pub changes : Spool
  pub indexed : Indexes changes index
  pub placed : ArePlaces inodes blocks changes places
  pub there : IsSome (article_with changes serial)

-- ---- a text in its file

-- the octets of this file stand in the file of the inode, and end there
pub record EndsAt (inodes : ℕ) (blocks : List Octets) (inode end : ℕ) (f : File) : Type 0 where
  pub below : inode < inodes
  pub file : IsFile (entry inodes blocks inode)
  pub before : Octets
  pub after : Octets
  pub content_is : content_of blocks (entry inodes blocks inode) ≡ before ++ (f.content ++ after)
  pub end_is : end ≡ length before + length f.content

abbrev pub octets_in : ℕ → List Octets → TextPlace → Octets
octets_in inodes blocks p = take p.size (drop p.from (content_of blocks (entry inodes blocks p.inode)))

-- the text of the article with this serial is at this place
pub record IsPlaceOf (inodes : ℕ) (blocks : List Octets) (index : IndexView) (places : FilePlaces) (serial : ℕ)
    (p : TextPlace) : Type 0 where
  pub below : p.inode < inodes
  pub file : IsFile (entry inodes blocks p.inode)
  pub small : p.from + p.size < 2 ^ 64
  pub size : length (octets_in inodes blocks p) ≡ p.size
  pub text : (S : Spool) → Indexes S index → ArePlaces inodes blocks S places → octets_in inodes blocks p ≡ text_of S serial
  pub header : (S : Spool) → Indexes S index → p.header ≡ length (header (text_of S serial))

-- ---- lines of an overview

-- the line at this place, from 0
abbrev pub line_at : Octets → List ℕ → ℕ → Octets
line_at content ends k = take (slice_index ends k - line_start ends k) (drop (line_start ends k) content)

-- this many lines from this place on, each with its CRLF
abbrev pub lines_from : Octets → List ℕ → ℕ → ℕ → Octets
lines_from content ends k zero = []
lines_from content ends k (suc n) = line (line_at content ends k) ++ lines_from content ends (suc k) n

-- each line ends where it begins, or later
abbrev pub LinesRise : List ℕ → ℕ → Type 0
LinesRise ends count = (k : ℕ) → k < count → line_start ends k ≤ slice_index ends k

-- these octets are the content's from a place on
pub record IsRun (content : Octets) (at : ℕ) (octets : Octets) : Type 0 where
  pub some : ℕ
  pub is : octets ≡ take some (drop at content)
