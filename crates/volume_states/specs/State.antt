-- The state of a volume, as the definitions of the spool and of its blocks say it.
use Rattle.std.specs.Prelude.{◌≡◌, ℕ, ◌+◌, ◌-◌, List, length, map}
use Rattle.model.specs.Files.{free_blocks, free_inodes}
use Rattle.model.specs.Indexed.{GroupIndex}
use Rattle.model.specs.Layout.{HoldsIn}
use Rattle.model.specs.Spool.{NewsGroup, Spool, contents, count, groups, high, low}
use Rattle.model.specs.SpoolFiles.{overview_file}
use Rattle.model.specs.Stream.{Octets}
use Rattle.spool_groups.specs.Filing.{end_of}
use Rattle.volume_states.specs.Gone.{IsGone}
use Rattle.volume_states.specs.declared.state.GroupStatus.{GroupStatus}
use Rattle.volume_states.specs.declared.state.Share.{Share}
use Rattle.volume_states.specs.declared.state.VolumeStatus.{VolumeStatus}

-- ---- shares

-- all blocks, and those that aren't free
pub record AreBlocks (blocks : List Octets) (share : Share) : Type 0 where
  pub all : share.all ≡ length blocks
  pub used : share.used + free_blocks blocks ≡ length blocks

-- all inodes, and those that aren't free
pub record AreInodes (inodes : ℕ) (blocks : List Octets) (share : Share) : Type 0 where
  pub all : share.all ≡ inodes
  pub used : share.used + free_inodes inodes blocks ≡ inodes

-- ---- groups

-- the state of a group of these changes
abbrev pub group_status : Spool → NewsGroup → GroupStatus
group_status S g = record {
  name = g.name;
  low = low S g.name;
  high = high S g.name;
  count = count (contents S g.name);
  status = g.status;
  overview = length (overview_file S g.name);
}

-- ---- the volume

-- the state of a volume of this format whose blocks hold some changes of the host
pub record IsStatusOf (format : ℕ) (host : Octets) (inodes : ℕ) (blocks : List Octets) (s : VolumeStatus) : Type 0 where
  pub changes : Spool
  pub held : HoldsIn format host inodes blocks changes
  pub host_is : s.host ≡ host
  pub format_is : s.format ≡ format
  pub blocks_are : AreBlocks blocks s.blocks
  pub inodes_are : AreInodes inodes blocks s.inodes
  pub changes_are : s.changes ≡ length changes
  pub gone_are : IsGone changes s.gone
  pub groups_are : s.groups.items ≡ map (group_status changes) (groups changes)

-- ---- the same in terms of the index

-- the state of a group, from what the index keeps of it
abbrev pub of_index : GroupIndex → GroupStatus
of_index i = record {
  name = i.group.name;
  low = i.low;
  high = length i.filed;
  count = length i.filed - (i.low - 1);
  status = i.group.status;
  overview = end_of i;
}
