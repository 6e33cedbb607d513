-- The index as its callers see it.
use Rattle.std.specs.Prelude.{◌≡◌, ℕ, List, Option, map, option_map}
use Rattle.model.specs.Stream.{Octets}
use Rattle.model.specs.Indexed.{GroupIndex, group_index}
use Rattle.model.specs.Spool.{Spool, by_id, entries, groups}
use Rattle.spool_index.specs.Ids.{IdsView, serial_with}
use Rattle.spool_index.specs.Kept.{kept}
use Rattle.spool_index.specs.declared.note.Note.{Note}

-- for each change a note, by serial; the groups, in rising serial; the serials of articles by their ids
pub record IndexView : Type 0 where
  pub notes : List Note
  pub groups : List GroupIndex
  pub ids : IdsView

-- the serial of the article with this id
abbrev pub serial_in : IndexView → Octets → Option ℕ
serial_in x wanted = serial_with x.ids x.notes wanted

-- it is the index of these changes
pub record Indexes (S : Spool) (x : IndexView) : Type 0 where
  pub notes_are : x.notes ≡ map kept (entries S)
  pub groups_are : x.groups ≡ map (group_index S) (groups S)
  pub ids_are : (wanted : Octets) → serial_in x wanted ≡ option_map (λ a. a.serial) (by_id S wanted)
