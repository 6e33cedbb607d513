use Rattle.model.proofs.Naming.{spools_have_none}
use Rattle.model.proofs.PackedGrowing.{packed_grow}
use Rattle.model.proofs.Packing.{member_read, packed_stays, packs_grow, stands_alone}
use Rattle.model.proofs.filed.packs_stand_for_files.Goals as goal

pub returns : goal.returns
returns c = record {
  alone = stands_alone;
  spools = spools_have_none;
  grow = packs_grow;
  packed = packed_grow;
  read = member_read;
  stay = packed_stays;
}
