use Rattle.std.proofs.Common.{refl}
use Rattle.model.proofs.Tables.{keywords_read, listings_read}
use Rattle.model.proofs.laws.tables_are_complete.Goals as goal

pub returns : goal.returns
returns c = record { keywords = refl; read = keywords_read; listings = refl; chosen = listings_read }
