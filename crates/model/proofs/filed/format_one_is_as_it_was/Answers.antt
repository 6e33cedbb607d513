use Rattle.model.proofs.Formats.{files_of_one, read_as_one}
use Rattle.model.proofs.Sizes.{sizes_bound}
use Rattle.model.proofs.filed.format_one_is_as_it_was.Goals as goal

pub returns-clause-files : goal.returns-clause-files
returns-clause-files c blocks inode slot = files_of_one blocks inode slot

pub returns-clause-read : goal.returns-clause-read
returns-clause-read c blocks inode slot file = read_as_one blocks inode slot file

pub returns-clause-sizes : goal.returns-clause-sizes
returns-clause-sizes c most inodes blocks files room held = sizes_bound most inodes blocks files room held
