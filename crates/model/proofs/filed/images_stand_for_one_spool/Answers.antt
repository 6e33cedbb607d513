use Rattle.model.proofs.Images.{empty_stands, images_one, rise_stands, version_one}
use Rattle.model.proofs.filed.images_stand_for_one_spool.Goals as goal

pub returns : goal.returns
returns c = record { one = images_one; version = version_one; empty = empty_stands; formats = rise_stands }
