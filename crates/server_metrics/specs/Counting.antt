-- What is counted of the events of a log. A count stops at 2^64 - 1.
use Rattle.std.specs.Prelude.{ℕ, ◌+◌, ◌-◌, ◌^◌, min}
use Rattle.server_log_lines.specs.declared.log_events.SessionCounts.{SessionCounts}
use Rattle.server_log_lines.specs.declared.log_events.SessionRefusal.{SessionRefusal}
use Rattle.server_log_lines.specs.declared.log_events.SessionRefusal.TheVariants as refusal
use Rattle.server_log_lines.specs.declared.posts.PostRefusal.{PostRefusal}
use Rattle.server_log_lines.specs.declared.posts.PostRefusal.TheVariants as post
use Rattle.server_metrics.specs.declared.counted_events.EventCounts.{EventCounts}
use Rattle.server_metrics.specs.declared.counted_refusals.CallerRefusals.{CallerRefusals}
use Rattle.server_metrics.specs.declared.counted_refusals.PostRefusals.{PostRefusals}

abbrev pub plus : ℕ → ℕ → ℕ
plus n more = min (n + more) (2 ^ 64 - 1)

abbrev pub no_callers : CallerRefusals
no_callers = record {
  access = 0;
  sessions = 0;
  address = 0;
  descriptors = 0;
  memory = 0;
  failed = 0;
  proxy = 0;
  halted = 0;
}

abbrev pub caller_counted : CallerRefusals → SessionRefusal → CallerRefusals
caller_counted c refusal.Access = record c { access = plus c.access 1 }
caller_counted c refusal.Sessions = record c { sessions = plus c.sessions 1 }
caller_counted c refusal.Address = record c { address = plus c.address 1 }
caller_counted c refusal.Descriptors = record c { descriptors = plus c.descriptors 1 }
caller_counted c refusal.Memory = record c { memory = plus c.memory 1 }
caller_counted c refusal.Failed = record c { failed = plus c.failed 1 }
caller_counted c refusal.Proxy = record c { proxy = plus c.proxy 1 }
caller_counted c refusal.Halted = record c { halted = plus c.halted 1 }

abbrev pub no_posts : PostRefusals
no_posts = record {
  octets = 0;
  no_end = 0;
  field = 0;
  twice = 0;
  missing = 0;
  id = 0;
  groups = 0;
  long = 0;
  repeat = 0;
  no_group = 0;
  closed = 0;
  other_id = 0;
  full = 0;
  memory = 0;
  stopped = 0;
}

abbrev pub post_counted : PostRefusals → PostRefusal → PostRefusals
post_counted p post.Octets = record p { octets = plus p.octets 1 }
post_counted p post.NoEnd = record p { no_end = plus p.no_end 1 }
post_counted p post.Field = record p { field = plus p.field 1 }
post_counted p post.Twice = record p { twice = plus p.twice 1 }
post_counted p post.Missing = record p { missing = plus p.missing 1 }
post_counted p post.Id = record p { id = plus p.id 1 }
post_counted p post.Groups = record p { groups = plus p.groups 1 }
post_counted p post.Long = record p { long = plus p.long 1 }
post_counted p post.Repeat = record p { repeat = plus p.repeat 1 }
post_counted p post.NoGroup = record p { no_group = plus p.no_group 1 }
post_counted p post.Closed = record p { closed = plus p.closed 1 }
post_counted p post.OtherId = record p { other_id = plus p.other_id 1 }
post_counted p post.Full = record p { full = plus p.full 1 }
post_counted p post.Memory = record p { memory = plus p.memory 1 }
post_counted p post.Stopped = record p { stopped = plus p.stopped 1 }

abbrev pub no_events : EventCounts
no_events = record {
  begun = 0;
  ended = 0;
  octets_in = 0;
  octets_out = 0;
  taken = 0;
  callers = no_callers;
  posts = no_posts;
}

abbrev pub begun_counted : EventCounts → EventCounts
begun_counted e = record e { begun = plus e.begun 1 }

-- a session that ended adds its octets
abbrev pub end_counted : EventCounts → SessionCounts → EventCounts
end_counted e counts = record e {
  ended = plus e.ended 1;
  octets_in = plus e.octets_in counts.octets_in;
  octets_out = plus e.octets_out counts.octets_out;
}

abbrev pub taken_counted : EventCounts → EventCounts
taken_counted e = record e { taken = plus e.taken 1 }
