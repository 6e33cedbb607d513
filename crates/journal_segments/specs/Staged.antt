-- Segments in memory, and the batches that they hold.
use Rattle.std.specs.Prelude.{◌≡◌, ◌<◌, ◌≤◌, ℕ, if◌then◌else◌, List, [], ◌∷◌, ◌++◌, length, nat_lt, slice_index_or, drop, take}
use Rattle.std.specs.List.{All}
use Rattle.model.specs.Volume.{AreDistinct, Batch, listed, number_at}
use Rattle.journal_laws.specs.Held.{HeldBatch}

-- a segment in memory: its place, its descriptor block, and the numbers and images of its batch
pub record Staged : Type 0 where
  pub place : ℕ
  pub descriptor : List ℕ
  pub numbers : List ℕ
  pub images : List (List ℕ)

-- the batch that a segment in memory holds, with the segment's place
abbrev pub held_as : Staged → HeldBatch
held_as s = record {
  place = s.place;
  batch = record { number = number_at 0 8 s.descriptor; last = number_at 8 8 s.descriptor; numbers = s.numbers; images = s.images };
}

-- the number of the batch of a segment in memory
abbrev pub number_of : Staged → ℕ
number_of s = number_at 0 8 s.descriptor

-- a segment inserted among some with rising numbers
abbrev pub put_staged : Staged → List Staged → List Staged
put_staged s [] = s ∷ []
put_staged s (other ∷ others) = if nat_lt (number_of s) (number_of other) then s ∷ put_staged other others else other ∷ put_staged s others

-- a segment in a list, by its index
abbrev pub none_staged : Staged
none_staged = record { place = 0; descriptor = []; numbers = []; images = [] }

abbrev pub staged_at : List Staged → ℕ → Staged
staged_at room i = slice_index_or room i none_staged

-- a batch has an image for each of its 1 to 512 numbers of logical blocks
pub record IsSound (blocks : ℕ) (batch : Batch) : Type 0 where
  pub some : 1 ≤ length batch.numbers
  pub few : length batch.numbers ≤ 512
  pub below : All (λ n. n < blocks) batch.numbers
  pub images : length batch.images ≡ length batch.numbers
  pub whole : (i : ℕ) → i < length batch.images → length (slice_index_or batch.images i []) ≡ 4096

-- a segment in memory holds a sound batch, and its descriptor block describes the batch
pub record IsStaged (blocks : ℕ) (s : Staged) : Type 0 where
  pub size : length s.descriptor ≡ 4096
  pub count : number_at 16 4 s.descriptor ≡ length s.numbers
  pub zero : number_at 20 4 s.descriptor ≡ 0
  pub lists : listed s.descriptor ≡ s.numbers
  pub distinct : AreDistinct s.numbers
  pub sound : IsSound blocks (held_as s).batch

-- the first i segments, followed by the rest of the first n with the next segment inserted
abbrev pub put_from : List Staged → ℕ → ℕ → List Staged
put_from room n i = take i room ++ put_staged (staged_at room n) (drop i (take n room))
