-- What an opening leaves, and what a crash during it might have left.
use Rattle.std.specs.Prelude.{◌≡◌, ◌≢◌, ◌⊎◌, ◌==◌, if◌then◌else◌, ℕ, ◌+◌, ◌≤◌, IsTrue, List, [], ◌∷◌, length}
use Rattle.disk.specs.Device.{Device, Elapses, LeavesOnly, LeftNoMore}
use Rattle.journal.specs.Inside.{IsVolume}
use Rattle.journal.specs.Journal.{HasWholeBlocks, IsReady, JournalView, LeavesAdmitted, still_open}
pub use Rattle.journal.specs.Order.{IsMore}
pub use Rattle.journal_segments.specs.Found.{IsNoVolume}
use Rattle.model.specs.Volume.{StandsFor, block, descriptor_place, format_number, number_at, open_segments, segment_count}
use Rattle.journal.specs.declared.JournalError.{JournalError}
use Rattle.journal.specs.declared.JournalError.TheVariants.{Fault, Memory, NotAVolume, Halted}

-- two images of volumes with the same label and logical blocks, the second in no lower format
abbrev pub AreSameVolume : List ℕ → List ℕ → Type 0
AreSameVolume old new = (its_label : List ℕ)
    × ((blocks : List (List ℕ)) × (StandsFor old its_label blocks × IsVolume (format_number old) its_label blocks new))

-- each image that a crash since an earlier time might have left is one that it might have left before, or the same
-- volume as was read
abbrev pub LeftKept : Device → Device → Type 0
LeftKept old new =
    IsTrue old.tells → (t : ℕ) (c : List ℕ) → t ≤ old.clock → new.left_since t c → old.left_since t c ⊎ AreSameVolume old.content c

-- the same content, or the same volume
abbrev pub LeavesVolume : List ℕ → List ℕ → Type 0
LeavesVolume old new = (new ≡ old) ⊎ AreSameVolume old new

-- a journal opened over the volume on the device
pub record Opens {D : Type 0} (device : D → Device) (first : D) (journal : JournalView D) : Type 0 where
  pub ready : IsReady journal
  -- every segment is closed, and no later batch carries one home
  pub rest : still_open journal ≡ []
  pub stands : IsTrue (device first).tells → StandsFor (device first).content journal.label journal.blocks
  pub format : IsTrue (device first).tells → format_number (device first).content ≡ journal.format
  pub whole : HasWholeBlocks device journal
  pub now : LeavesAdmitted device journal
  pub since : LeftKept (device first) (device journal.disk)
  pub time : Elapses (device first) (device journal.disk)
  pub failures : (device journal.disk).failures ≡ (device first).failures

-- a refused opening has a cause in the device or its content, and returns the device
pub record Refuses {D : Type 0} (device : D → Device) (first last : D) (error : JournalError) : Type 0 where
  pub since : LeftKept (device first) (device last)
  pub time : Elapses (device first) (device last)
  pub fault : error ≡ Fault → (device last).failures ≢ (device first).failures
  pub no_volume : error ≡ NotAVolume → IsTrue (device first).tells → IsNoVolume (device first).content
  pub memory : error ≡ Memory → (device last).failures ≡ (device first).failures
  -- a refusal for memory leaves the content as it was, or the same volume
  pub left : error ≡ Memory → IsTrue (device first).tells → LeavesVolume (device first).content (device last).content
  pub not_halted : error ≢ Halted

-- The first good sync comes before every write. Until that sync a crash leaves what it might have left at the start. At
-- that moment it leaves what a read gives, and from then on the same volume as that.
pub record SyncsFirst {D : Type 0} (device : D → Device) (first last : D) : Type 0 where
  pub synced : D
  pub no_write : (device synced).writes ≡ (device first).writes
  pub before : (device first).clock ≤ (device synced).clock
  pub later : (device synced).clock ≤ (device last).clock
  pub until : LeftNoMore (device first) (device synced)
  pub content : IsTrue (device first).tells → (device synced).content ≡ (device first).content
  pub only : IsTrue (device first).tells → LeavesOnly (device synced) (device first).content
  pub after : IsTrue (device first).tells → (t : ℕ) (c : List ℕ) → t ≤ (device synced).clock → (device last).left_since t c
      → (device synced).left_since t c ⊎ AreSameVolume (device first).content c

-- no sync was good, and nothing was written
abbrev pub NeverSyncs : {D : Type 0} → (D → Device) → D → D → Type 0
NeverSyncs device first last = ((device last).writes ≡ (device first).writes) × LeftNoMore (device first) (device last)

-- the images in these open segments
abbrev pub images_in : List ℕ → List ℕ → ℕ
images_in image [] = 0
images_in image (s ∷ segments) = number_at 16 4 (block (descriptor_place s) image) + images_in image segments

-- the writes that close some open segments of a volume that has this many: one if these are all of them, else one for each
abbrev pub closing_writes : ℕ → ℕ → ℕ
closing_writes count some = if some == count then 1 else some

-- the writes that carry these open segments home and close them
abbrev pub home_writes : List ℕ → List ℕ → ℕ
home_writes image [] = 0
home_writes image segments = images_in image segments + closing_writes (segment_count image) (length segments)

-- the syncs: one after the images, and one after each write that closes
abbrev pub home_syncs : List ℕ → List ℕ → ℕ
home_syncs image [] = 0
home_syncs image segments = 1 + closing_writes (segment_count image) (length segments)

-- the writes and syncs that were asked: `first` syncs, and those that carry this content's open segments home
pub record Costs (first : ℕ) (content : List ℕ) (old new : Device) : Type 0 where
  pub writes : IsMore (home_writes content (open_segments content)) old.writes new.writes
  pub syncs : IsMore (first + home_syncs content (open_segments content)) old.syncs new.syncs
