use Rattle.model.proofs.Naming.{names_distinct}
use Rattle.model.proofs.ByKind.{files_kinds}
use Rattle.model.proofs.Opening.{changes_counted, changes_read, files_counted, files_make_spool, files_once, fronts_read}
use Rattle.model.proofs.filed.files_say_their_spool.Goals as goal

pub returns : goal.returns
returns c = record {
  read = changes_read;
  fronts = fronts_read;
  changes = changes_counted;
  make = files_make_spool;
  once = files_once;
  names = names_distinct;
  counted = files_counted;
  kinds = files_kinds;
}
