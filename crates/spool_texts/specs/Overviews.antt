-- Overview lines that are copied from the overview of a group.
use Rattle.std.specs.Prelude.{◌≡◌, ℕ, ◌-◌, ◌≤◌, List, drop, slice_get, take, Some, IsSome}
use Rattle.model.specs.Files.{content_of, entry}
use Rattle.model.specs.Indexed.{ArePlaces, FilePlaces}
use Rattle.model.specs.Spool.{Spool, NewsArticle, NewsGroup, filed_in, groups}
use Rattle.model.specs.Stream.{Octets}
use Rattle.session_lookups.specs.Held.{article_with}
use Rattle.spool_index.specs.View.{IndexView, Indexes}
use Rattle.spool_texts.specs.Parts.{IsStored}
use Rattle.spool_texts.specs.declared.overviews.Filed.{Filed}
use Rattle.spool_texts.specs.declared.overviews.Span.{Span}

-- the index is that of some changes of a volume, and this serial is that of an article among them
pub record HasFiled (index : IndexView) (serial : ℕ) : Type 0 where
  pub changes : Spool
  pub stored : IsStored changes
  pub indexed : Indexes changes index
  pub there : IsSome (article_with changes serial)

-- and the places are those of their files
pub record KeepsArticle (inodes : ℕ) (blocks : List Octets) (index : IndexView) (places : FilePlaces) (serial : ℕ) : Type 0 where
  pub has : HasFiled index serial
  pub placed : ArePlaces inodes blocks has.changes places

-- the article with this serial was filed in the group with this place, and has this number there
pub record IsFiledAs (S : Spool) (serial : ℕ) (filed : Filed) : Type 0 where
  pub group : NewsGroup
  pub here : slice_get (groups S) filed.group ≡ Some group
  pub article : NewsArticle
  pub its_serial : article_with S serial ≡ Some article
  pub first : 1 ≤ filed.number
  pub its_number : slice_get (filed_in S group.name) (filed.number - 1) ≡ Some article

-- the octets of a file from one place to another
abbrev pub octets_of : ℕ → List Octets → Span → Octets
octets_of inodes blocks p = take (p.to - p.from) (drop p.from (content_of blocks (entry inodes blocks p.inode)))
