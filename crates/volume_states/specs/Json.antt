-- The state of a volume as JSON data. The members of an object are in the order of their keys.
use Rattle.model.specs.Files.{largest_file}
use Rattle.std.specs.Prelude.{ℕ, ◌-◌, ◌/◌, List, [], ◌∷◌, codes, map}
use Rattle.std.specs.Str.Lossy.{utf8_lossy}
use Rattle.model.specs.Room.{octets_asked}
use Rattle.model.specs.Spool.{status_octet}
use Rattle.model.specs.Stream.{Octets}
use Rattle.serde_json.specs.Data.{Data, array, member, no_members, number, object, string, unsigned}
use Rattle.serde_json.specs.View.{items_of}
use Rattle.volume_states.specs.declared.state.Gone.{Gone}
use Rattle.volume_states.specs.declared.state.GroupStatus.{GroupStatus}
use Rattle.volume_states.specs.declared.state.Share.{Share}
use Rattle.volume_states.specs.declared.state.VolumeStatus.{VolumeStatus}

abbrev pub natural : ℕ → Data
natural n = number (unsigned n)

-- octets as text; in every spool they are ASCII
abbrev pub words : Octets → Data
words octets = string (utf8_lossy octets)

abbrev pub share_data : Share → Data
share_data s =
    object (member (codes "all") (natural s.all)
    (member (codes "free") (natural (s.all - s.used))
    (member (codes "used") (natural s.used)
    no_members)))

-- the articles that are gone, those of them that have more than a husk, and the blocks that a renewal gives back of these
abbrev pub gone_data : Gone → Data
gone_data g =
    object (member (codes "articles") (natural g.articles)
    (member (codes "blocks") (natural (g.octets / 4096))
    (member (codes "texts") (natural g.texts)
    no_members)))

-- the size of an overview, and the size up to which its group takes articles
abbrev pub overview_data : ℕ → Data
overview_data size = object (member (codes "room") (natural (largest_file - octets_asked))
    (member (codes "used") (natural size) no_members))

abbrev pub group_data : GroupStatus → Data
group_data g =
    object (member (codes "count") (natural g.count)
    (member (codes "high") (natural g.high)
    (member (codes "low") (natural g.low)
    (member (codes "name") (words g.name)
    (member (codes "overview") (overview_data g.overview)
    (member (codes "status") (words (status_octet g.status ∷ []))
    no_members))))))

abbrev pub status_data : VolumeStatus → Data
status_data s =
    object (member (codes "blocks") (share_data s.blocks)
    (member (codes "changes") (natural s.changes)
    (member (codes "format") (natural s.format)
    (member (codes "gone") (gone_data s.gone)
    (member (codes "groups") (array (items_of (map group_data s.groups.items)))
    (member (codes "host") (words s.host)
    (member (codes "inodes") (share_data s.inodes)
    no_members)))))))
