use Rattle.spool_opening.proofs.Growing.{article_is_read, expiry_is_read, group_is_read}
use Rattle.spool_opening.proofs.laws.one_change_more_is_read.Goals as goal

pub returns : goal.returns
returns c = record {
  group = λ host inodes blocks R g read may room there files. group_is_read host inodes blocks R read g may room there files;
  article = λ host inodes blocks R f rule read may room there pieces. article_is_read host inodes blocks R read f rule may room there
      pieces;
  expiry = λ host inodes blocks R e read may room there. expiry_is_read host inodes blocks R read e may room there;
}
