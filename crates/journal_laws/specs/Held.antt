-- The open segments of an image, as a journal keeps them in memory.
use Rattle.std.specs.Prelude.{◌≡◌, ◌⊎◌, ◌<◌, ℕ, List, [], ◌∷◌, if◌then◌else◌, length, map, nat_lt, slice_index, slice_index_or, take}
use Rattle.model.specs.Volume.{Batch, all_laid_over, batch_in, block, descriptor_place, home, home_place, image_place, laid_over, listed}
use Rattle.model.specs.Volume.{number_at, open_segments}
use Rattle.journal_laws.specs.Images.{IsOpenIn, open_batches}

-- a segment by its place, and the batch that it holds
pub record HeldBatch : Type 0 where
  pub place : ℕ
  pub batch : Batch

abbrev pub batches_of : List HeldBatch → List Batch
batches_of held = map (λ h. h.batch) held

-- each of these segments is open, and holds its batch
abbrev pub AreHeld : List HeldBatch → List ℕ → Type 0
AreHeld [] image = Unit {0}
AreHeld (h ∷ held) image = (IsOpenIn h.place image × (batch_in h.place image ≡ h.batch)) × AreHeld held image

-- a place is that of one of these segments
abbrev pub IsAmong : ℕ → List HeldBatch → Type 0
IsAmong s [] = ⊥
IsAmong s (h ∷ held) = (s ≡ h.place) ⊎ IsAmong s held

-- each has a lesser number; each has a greater one
abbrev pub HaveLess : ℕ → List HeldBatch → Type 0
HaveLess n [] = Unit {0}
HaveLess n (h ∷ held) = (h.batch.number < n) × HaveLess n held

abbrev pub HaveMore : ℕ → List HeldBatch → Type 0
HaveMore n [] = Unit {0}
HaveMore n (h ∷ held) = (n < h.batch.number) × HaveMore n held

-- their numbers rise
abbrev pub AreRising : List HeldBatch → Type 0
AreRising [] = Unit {0}
AreRising (h ∷ held) = HaveMore h.batch.number held × AreRising held

-- the open segments are these, in rising number
pub record AreOpen (held : List HeldBatch) (image : List ℕ) : Type 0 where
  pub batches : open_batches image ≡ batches_of held
  pub each : AreHeld held image
  pub all : (s : ℕ) → IsOpenIn s image → IsAmong s held
  pub rise : AreRising held

-- the home consists of a first home, the batches that are done, and this many images of the next batch
abbrev pub IsHomeOnTheWay : List (List ℕ) → List HeldBatch → Batch → ℕ → List ℕ → Type 0
IsHomeOnTheWay first done next i image =
    home image ≡ laid_over (all_laid_over first (batches_of done)) (take i next.numbers) (take i next.images)

-- segments by rising number, and those of an image
abbrev pub insert_held : HeldBatch → List HeldBatch → List HeldBatch
insert_held h [] = h ∷ []
insert_held h (other ∷ held) = if nat_lt other.batch.number h.batch.number then other ∷ insert_held h held else h ∷ other ∷ held

abbrev pub sorted_held : List HeldBatch → List HeldBatch
sorted_held [] = []
sorted_held (h ∷ held) = insert_held h (sorted_held held)

abbrev pub held_at : List ℕ → List ℕ → List HeldBatch
held_at image places = map (λ s. record { place = s; batch = batch_in s image }) places

abbrev pub held_in : List ℕ → List HeldBatch
held_in image = sorted_held (held_at image (open_segments image))

-- a block is the home of a logical block of which one of these segments has an image
abbrev pub IsHomeOfHeld : ℕ → List HeldBatch → ℕ → Type 0
IsHomeOfHeld segments [] k = ⊥
IsHomeOfHeld segments (h ∷ held) k =
    ((i : ℕ) × (i < length h.batch.numbers) × (k ≡ home_place segments (slice_index h.batch.numbers i))) ⊎ IsHomeOfHeld segments held k

-- a segment has this descriptor block, and these images
pub record IsWrittenIn (s : ℕ) (descriptor : List ℕ) (images : List (List ℕ)) (image : List ℕ) : Type 0 where
  pub descriptor_is : block (descriptor_place s) image ≡ descriptor
  pub images_are : (i : ℕ) → i < length images → block (image_place s i) image ≡ slice_index_or images i []

-- the batch that a descriptor block and images describe
abbrev pub batch_of : List ℕ → List (List ℕ) → Batch
batch_of descriptor images = record {
  number = number_at 0 8 descriptor;
  last = number_at 8 8 descriptor;
  numbers = listed descriptor;
  images = images;
}
