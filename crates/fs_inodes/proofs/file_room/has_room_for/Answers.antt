use Rattle.std.proofs.Common.{rules}
use Rattle.fs_inodes.proofs.file_room.has_room_for.Goals as goal

pub returns-clause-full : goal.returns-clause-full
returns-clause-full c = search rules

pub returns-clause-room : goal.returns-clause-room
returns-clause-room c = search rules
