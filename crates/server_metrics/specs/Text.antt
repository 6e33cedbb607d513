-- The text of what a monitor is told, in the format of Prometheus: for each metric a line that says what it is, one with its
-- type, and a line for each of its values.
use Rattle.std.specs.Prelude.{ℕ, [], ◌∷◌, ◌++◌, codes, decimal}
use Rattle.model.specs.Stream.{Octets}
use Rattle.server_metrics.specs.declared.counted_events.EventCounts.{EventCounts}
use Rattle.server_metrics.specs.declared.counted_refusals.CallerRefusals.{CallerRefusals}
use Rattle.server_metrics.specs.declared.counted_refusals.PostRefusals.{PostRefusals}
use Rattle.server_metrics.specs.declared.metrics_text.CommitTimes.{CommitTimes}
use Rattle.server_metrics.specs.declared.metrics_text.Metrics.{Metrics}
use Rattle.server_metrics.specs.declared.metrics_text.SessionStates.{SessionStates}
use Rattle.server_metrics.specs.declared.metrics_text.VolumeCounts.{VolumeCounts}

-- ---- lines

-- what a metric is, and its type
unfoldable pub head : Octets → Octets → Octets → Octets
head name kind help =
    codes "# HELP " ++ name ++ codes " " ++ help ++ codes "\n# TYPE " ++ name ++ codes " " ++ kind ++ codes "\n"

-- a value
unfoldable pub sample : Octets → ℕ → Octets
sample name n = name ++ codes " " ++ decimal n ++ codes "\n"

-- a number of microseconds as one of seconds
unfoldable pub seconds : Octets → ℕ → Octets
seconds name micros = name ++ codes " " ++ decimal micros ++ codes "e-6\n"

-- a value of several, told apart by a label
unfoldable pub labelled : Octets → Octets → ℕ → Octets
labelled labels word n = labels ++ word ++ codes "\"} " ++ decimal n ++ codes "\n"

-- a metric with one value: it only grows, or it rises and falls
unfoldable pub counter : Octets → Octets → ℕ → Octets
counter name help n = head name (codes "counter") help ++ sample name n

unfoldable pub gauge : Octets → Octets → ℕ → Octets
gauge name help n = head name (codes "gauge") help ++ sample name n

-- ---- sessions and callers

unfoldable pub states : SessionStates → Octets
states s =
    head (codes "newsd_sessions") (codes "gauge") (codes "Sessions by what they wait for: a command, an article, or a commit.")
    ++ labelled (codes "newsd_sessions{state=\"") (codes "idle") s.idle
    ++ labelled (codes "newsd_sessions{state=\"") (codes "sending") s.sending
    ++ labelled (codes "newsd_sessions{state=\"") (codes "held") s.held

unfoldable pub first_callers : CallerRefusals → Octets
first_callers callers =
    labelled (codes "newsd_callers_refused_total{cause=\"") (codes "access") callers.access
    ++ labelled (codes "newsd_callers_refused_total{cause=\"") (codes "sessions") callers.sessions
    ++ labelled (codes "newsd_callers_refused_total{cause=\"") (codes "address") callers.address
    ++ labelled (codes "newsd_callers_refused_total{cause=\"") (codes "descriptors") callers.descriptors

unfoldable pub other_callers : CallerRefusals → Octets
other_callers callers =
    labelled (codes "newsd_callers_refused_total{cause=\"") (codes "memory") callers.memory
    ++ labelled (codes "newsd_callers_refused_total{cause=\"") (codes "failed") callers.failed
    ++ labelled (codes "newsd_callers_refused_total{cause=\"") (codes "proxy") callers.proxy
    ++ labelled (codes "newsd_callers_refused_total{cause=\"") (codes "halted") callers.halted

unfoldable pub callers : CallerRefusals → Octets
callers c =
    head (codes "newsd_callers_refused_total") (codes "counter") (codes "Callers that got no session, by the cause.")
    ++ first_callers c
    ++ other_callers c

unfoldable pub sessions : Metrics → Octets
sessions metrics =
    states metrics.sessions
    ++ counter (codes "newsd_sessions_begun_total") (codes "Sessions that began.") metrics.events.begun
    ++ counter (codes "newsd_sessions_ended_total") (codes "Sessions that ended.") metrics.events.ended
    ++ callers metrics.events.callers

-- ---- posts

unfoldable pub form_causes : PostRefusals → Octets
form_causes posts =
    labelled (codes "newsd_posts_refused_total{cause=\"") (codes "octets") posts.octets
    ++ labelled (codes "newsd_posts_refused_total{cause=\"") (codes "noend") posts.no_end
    ++ labelled (codes "newsd_posts_refused_total{cause=\"") (codes "field") posts.field
    ++ labelled (codes "newsd_posts_refused_total{cause=\"") (codes "twice") posts.twice
    ++ labelled (codes "newsd_posts_refused_total{cause=\"") (codes "missing") posts.missing

unfoldable pub fields_causes : PostRefusals → Octets
fields_causes posts =
    labelled (codes "newsd_posts_refused_total{cause=\"") (codes "id") posts.id
    ++ labelled (codes "newsd_posts_refused_total{cause=\"") (codes "groups") posts.groups
    ++ labelled (codes "newsd_posts_refused_total{cause=\"") (codes "long") posts.long

unfoldable pub spool_causes : PostRefusals → Octets
spool_causes posts =
    labelled (codes "newsd_posts_refused_total{cause=\"") (codes "repeat") posts.repeat
    ++ labelled (codes "newsd_posts_refused_total{cause=\"") (codes "nogroup") posts.no_group
    ++ labelled (codes "newsd_posts_refused_total{cause=\"") (codes "closed") posts.closed
    ++ labelled (codes "newsd_posts_refused_total{cause=\"") (codes "otherid") posts.other_id

unfoldable pub server_causes : PostRefusals → Octets
server_causes posts =
    labelled (codes "newsd_posts_refused_total{cause=\"") (codes "full") posts.full
    ++ labelled (codes "newsd_posts_refused_total{cause=\"") (codes "memory") posts.memory
    ++ labelled (codes "newsd_posts_refused_total{cause=\"") (codes "stopped") posts.stopped

unfoldable pub refused : PostRefusals → Octets
refused posts =
    head (codes "newsd_posts_refused_total") (codes "counter") (codes "Posts and transfers that were refused, by the cause.")
    ++ form_causes posts
    ++ fields_causes posts
    ++ spool_causes posts
    ++ server_causes posts

unfoldable pub posts : EventCounts → Octets
posts events =
    counter (codes "newsd_posts_accepted_total") (codes "Posts and transfers that were accepted.") events.taken
    ++ refused events.posts

-- ---- the volume and its device

unfoldable pub changes : VolumeCounts → Octets
changes v =
    counter (codes "newsd_changes_accepted_total") (codes "Changes of the volume that were accepted.") v.accepted
    ++ counter (codes "newsd_changes_durable_total") (codes "Changes of the volume that are durable.") v.durable
    ++ gauge (codes "newsd_articles_gone")
    (codes "Articles that are in none of their groups any more; a renewal makes husks of them.") v.gone

unfoldable pub volume : VolumeCounts → Octets
volume v =
    changes v
    ++ gauge (codes "newsd_blocks") (codes "Blocks of the volume, used or free.") v.blocks
    ++ gauge (codes "newsd_blocks_used") (codes "Blocks that are used as of the last batch.") v.used_blocks
    ++ gauge (codes "newsd_inodes") (codes "Inodes of the volume, used or free.") v.inodes
    ++ gauge (codes "newsd_inodes_used") (codes "Inodes that are used.") v.used_inodes

unfoldable pub times : CommitTimes → Octets
times commits =
    head (codes "newsd_commit_seconds") (codes "summary") (codes "Times of commits: two syncs, and the writes before each.")
    ++ seconds (codes "newsd_commit_seconds_sum") commits.micros
    ++ sample (codes "newsd_commit_seconds_count") commits.commits

unfoldable pub commits : CommitTimes → Octets
commits c =
    counter (codes "newsd_batches_total") (codes "Batches that were committed.") c.batches
    ++ counter (codes "newsd_syncs_total") (codes "Syncs that were asked of the device.") c.syncs
    ++ times c

-- ---- traffic and waits

unfoldable pub wait : Metrics → Octets
wait metrics =
    head (codes "newsd_kernel_wait_seconds_max") (codes "gauge")
    (codes "The longest that a message waited for its answer since the last writing.")
    ++ seconds (codes "newsd_kernel_wait_seconds_max") metrics.longest_micros

unfoldable pub traffic : Metrics → Octets
traffic metrics =
    counter (codes "newsd_received_bytes_total") (codes "Octets that were read of callers.") metrics.octets_in
    ++ counter (codes "newsd_sent_bytes_total") (codes "Octets that were written to callers.") metrics.octets_out
    ++ wait metrics

-- ---- the whole

unfoldable pub text_of : Metrics → Octets
text_of metrics =
    sessions metrics ++ posts metrics.events ++ volume metrics.volume ++ commits metrics.commits ++ traffic metrics
