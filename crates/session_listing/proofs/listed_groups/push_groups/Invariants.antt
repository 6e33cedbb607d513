use Rattle.std.proofs.Common.{◌≡◌, ◌++◌}
use Rattle.std.specs.Prelude.{take}
use Rattle.session_lookups.specs.Held.{all_known}
use Rattle.session_listing.specs.Lists.{last_of, lines_of}
use Rattle.session_listing.proofs.listed_groups.push_groups.Given as goal

-- the lines and the last serial of the groups so far
abbrev pub invariant-loop-place : goal.invariant-loop-place
invariant-loop-place g l = record {
  lines : l.reply.items ≡ l.fn.reply.items ++ lines_of l.pick l.show (take l.place (all_known (g.L.LookUps.changes l.spool)));
  last : l.last ≡ last_of l.pick (take l.place (all_known (g.L.LookUps.changes l.spool)));
}
