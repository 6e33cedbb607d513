-- How the collected octets are kept: for each block that has some, a slot of 4,096 octets, what was collected in it, and flags.
use Rattle.std.specs.Prelude.{◌≡◌, ◌⊎◌, ◌<◌, ◌≤◌, ◌==◌, ℕ, ◌+◌, ◌*◌, ◌/◌, ◌%◌, ◌^◌, if◌then◌else◌, Bool, true, false, List, length, map}
use Rattle.std.specs.Prelude.{slice_index, slice_index_or, Option, Some, None}
use Rattle.std.specs.List.{range_with_len}
use Rattle.disk_cache.specs.declared.collected.Fill.{Fill}
use Rattle.disk_cache.specs.declared.collected.Fill.TheVariants.{Nothing, Partly, Whole}

-- whether the octet at a place was collected, in a slot that is so filled
abbrev pub is_flagged : Fill → List ℕ → ℕ → Bool
is_flagged Nothing flags place = false
is_flagged Partly flags place = slice_index flags place == 1
is_flagged Whole flags place = true

-- whether the octet at a place of the slots was collected
abbrev pub is_collected : List Fill → List ℕ → ℕ → Bool
is_collected fills flags place = is_flagged (slice_index_or fills (place / 4096) Nothing) flags place

-- the octet at a place of the slots, if one was collected there
abbrev pub cell : List Fill → List ℕ → List ℕ → ℕ → Option ℕ
cell fills flags octets place = if is_collected fills flags place then Some (slice_index octets place) else None

-- the i-th octet of a slot, if there is one
abbrev pub in_slot : Option ℕ → List Fill → List ℕ → List ℕ → ℕ → Option ℕ
in_slot None fills flags octets i = None
in_slot (Some slot) fills flags octets i = cell fills flags octets (4096 * slot + i)

-- the octet that was collected for a place of the device, by the slots of the blocks
abbrev pub octet_at : (ℕ → Option ℕ) → List Fill → List ℕ → List ℕ → ℕ → Option ℕ
octet_at slot_of fills flags octets k = in_slot (slot_of (k / 4096)) fills flags octets (k % 4096)

-- the octets of the first n places
abbrev pub places : (ℕ → Option ℕ) → ℕ → List (Option ℕ)
places taken n = map taken (range_with_len 0 n)

-- each slot is the slot of one block, and has room
pub record IsSound (slot_of : ℕ → Option ℕ) (blocks : List ℕ) (fills : List Fill) (flags octets : List ℕ) : Type 0 where
  pub few : (b slot : ℕ) → slot_of b ≡ Some slot → b < 2 ^ 52
  pub within : (b slot : ℕ) → slot_of b ≡ Some slot → slot < length blocks
  pub owner : (b slot : ℕ) → slot_of b ≡ Some slot → slice_index blocks slot ≡ b
  pub owned : (slot : ℕ) → slot < length blocks → slot_of (slice_index blocks slot) ≡ Some slot
  pub fills_room : length blocks ≤ length fills
  pub room : 4096 * length blocks ≤ length flags
  pub octets_room : length flags ≤ length octets

-- adjacent blocks have adjacent slots
abbrev pub IsArranged : (ℕ → Option ℕ) → Type 0
IsArranged slot_of = (b slot next : ℕ) → slot_of b ≡ Some slot → slot_of (b + 1) ≡ Some next → next ≡ slot + 1

-- the first block with a slot, from one on
pub record IsNextBlock (slot_of : ℕ → Option ℕ) (from block slot : ℕ) : Type 0 where
  pub low : from ≤ block
  pub has : slot_of block ≡ Some slot
  pub first : (b : ℕ) → from ≤ b → b < block → slot_of b ≡ None

-- where a slot is when two have changed places
abbrev pub other_of : ℕ → ℕ → ℕ → ℕ
other_of low high slot = if slot == low then high else if slot == high then low else slot

-- some slots have all their flags and octets
pub record AreWhole (fills : List Fill) (flags octets : List ℕ) : Type 0 where
  pub flags_size : length flags ≡ 4096 * length fills
  pub octets_size : length octets ≡ 4096 * length fills

-- so many slots hold what was collected from a block on
pub record AreSlots (block n : ℕ) (taken : ℕ → Option ℕ) (fills : List Fill) (flags octets : List ℕ) : Type 0 where
  pub fills_size : length fills ≡ n
  pub whole : AreWhole fills flags octets
  pub cells : (i : ℕ) → i < 4096 * n → taken (4096 * block + i) ≡ cell fills flags octets i

-- the first run of collected octets of some slots from a place on
pub record IsNextRun (fills : List Fill) (flags : List ℕ) (from first past : ℕ) : Type 0 where
  pub low : from ≤ first
  pub some : first < past
  pub high : past ≤ length flags
  pub none : (k : ℕ) → from ≤ k → k < first → is_collected fills flags k ≡ true → ⊥
  pub each : (k : ℕ) → first ≤ k → k < past → is_collected fills flags k ≡ true
  pub ends : (past ≡ length flags) ⊎ (is_collected fills flags past ≡ false)
