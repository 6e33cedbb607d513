-- What continues with an article in each of its groups.
use Rattle.std.specs.Prelude.{ℕ, ◌+◌, ◌*◌, length, List, Option}
use Rattle.model.specs.Stream.{Octets}
use Rattle.model.specs.Article.{overview_line}
use Rattle.model.specs.Files.{File}
use Rattle.model.specs.Indexed.{GroupIndex}
use Rattle.model.specs.SpoolFiles.{number_record, numbers_name, overview_name}
use Rattle.spool_groups.specs.Filing.{end_of}
use Rattle.spool_opening.specs.Stored.{HasPiece}

-- the numbers and the overview of a group continue with this article
pub record GoesOn (inodes : List (Option File)) (i : GroupIndex) (serial : ℕ) (text : Octets) : Type 0 where
  pub overview : HasPiece inodes (overview_name i.group.name) (end_of i) (overview_line (length i.filed + 1) text)
  pub numbers : HasPiece inodes (numbers_name i.group.name) (16 * length i.filed)
      (number_record serial (end_of i) (overview_line (length i.filed + 1) text))
