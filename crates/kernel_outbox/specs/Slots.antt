-- The slots of a buffer, and the entries that they stand for.
use Rattle.std.specs.Prelude.{ℕ, ◌≤◌, Bool, not, ◌&&◌, ◌==◌, if◌then◌else◌, List, [], ◌∷◌, map, slice_range}
use Rattle.kernel_outbox.specs.Queue.{ReadyEntry}
use Rattle.kernel_outbox.specs.declared.ready.Slot.{Slot}

-- a slot's entry
abbrev pub entry_at : List ℕ → Slot → ReadyEntry
entry_at octets slot = (slot.number, slice_range octets slot.start slot.end, slot.ends)

abbrev pub entries_in : List ℕ → List Slot → List ReadyEntry
entries_in octets slots = map (entry_at octets) slots

-- a slot lies within this many octets
pub record LiesWithin (size : ℕ) (slot : Slot) : Type 0 where
  pub order : slot.start ≤ slot.end
  pub bound : slot.end ≤ size

-- the slot of a session's octets, if there are some or the session ends
abbrev pub slots_of : ℕ → ℕ → ℕ → Bool → List Slot
slots_of number start end ends = if start == end && not ends then [] else record {
  number = number;
  start = start;
  end = end;
  ends = ends;
} ∷ []
