use Rattle.spool_opening.proofs.Fronts.{is_front, next_is}
use Rattle.spool_opening.proofs.Growing.{none_is_read}
use Rattle.spool_opening.proofs.Whole.{read_all}
use Rattle.spool_opening.proofs.laws.changes_are_read_in_order.Goals as goal

pub returns : goal.returns
returns c = record {
  none = none_is_read;
  next = λ host inodes blocks R S few held read low. next_is host inodes blocks R S few held
      (is_front host inodes blocks S R few held read) low;
  all = read_all;
}
