-- A journal with no batch in flight.
use Rattle.std.proofs.Common.{◌≡◌, inl, inr, ◌<◌, ◌≤◌, ℕ, ◌+◌, ◌-◌, Bool, true, false, cond, List, [], length, get_or, map, take, drop}
use Rattle.std.proofs.Common.{refl, sym, ◌∙◌}
use Rattle.std.proofs.Common.{ap, subst, arith}
use Rattle.std.proofs.lemmas.List.{drop-drop, drop-take, map_more, take-take}
use Rattle.disk.specs.Image.{part}
use Rattle.disk.specs.Device.{Device}
use Rattle.journal_laws.specs.Held.{AreOpen, batches_of}
use Rattle.journal_laws.proofs.Standing.{get_or-home, length-home}
use Rattle.journal_segments.specs.Staged.{Staged, held_as, none_staged}
use Rattle.journal.specs.Flight.{Flight, flight_in, left_of}
use Rattle.journal.specs.Inside.{IsAdmitted, IsTold, Holds, blocks_without}
use Rattle.model.specs.Volume.{all_laid_over, block, home, home_place}
use Rattle.journal.specs.declared.Next.{Next}
use Rattle.journal.specs.declared.Next.TheVariants.{Idle}

at_idle : (m : ℕ) (label : List ℕ) (x y : List ℕ) (after : List (List ℕ)) → IsAdmitted Idle label (blocks_without m Idle x) after y
    → blocks_without m Idle y ≡ blocks_without m Idle x
at_idle m label x y after (inl stands) = stands.has_blocks
at_idle m label x y after (inr commits) = let wrong = commits.0 in cc

pub idle_same : (m : ℕ) (next : Next) (label : List ℕ) (x y : List ℕ) (after : List (List ℕ)) → next ≡ Idle
    → IsAdmitted next label (blocks_without m next x) after y → blocks_without m next y ≡ blocks_without m next x
idle_same m next label x y after is admitted =
    subst (λ (n : Next). blocks_without m n y ≡ blocks_without m n x) (sym is)
    (at_idle m label x y after (subst (λ (n : Next). IsAdmitted n label (blocks_without m n x) after y) is admitted))

-- the segments that are open then are the first ones in memory
pub left_in_room : (room : List Staged) (filled : ℕ) (is_last : Bool) (n : ℕ) → filled < length room → n ≡ cond is_last 0 (filled + 1)
    → map held_as (take n room) ≡ left_of (flight_in room filled is_last)
left_in_room room filled true n there is = ap (λ (k : ℕ). map held_as (take k room)) is
left_in_room room filled false n there is = ap (λ (k : ℕ). map held_as (take k room)) is ∙ map_more held_as room filled none_staged there

-- they are there, and full
pub left_there : (is_last : Bool) (n filled segments : ℕ) → n ≡ cond is_last 0 (filled + 1) → (is_last ≡ false → filled + 1 < segments)
    → n ≤ segments
left_there true n filled segments is left = omega (arith, is)
left_there false n filled segments is left = omega (arith, is, left refl)

pub left_live : (is_last : Bool) (n filled t : ℕ) → n ≡ cond is_last 0 (filled + 1) → t < n → (is_last ≡ false) × (t ≤ filled)
left_live true n filled t is low = absurd (omega (arith, is, low))
left_live false n filled t is low = (refl, omega (arith, is, low))

-- the home of a logical block, and what they lay over it
module _ (device : Device) (blocks : ℕ) (label : List ℕ) (next : Next) (halted : Bool) (f : Flight)
    (told : IsTold device blocks label next halted f) (is : next ≡ Idle) (running : halted ≡ false) where
  abbrev x : List ℕ
  x = device.content

  pub idle_laid : blocks_without f.batch.place next x ≡ all_laid_over (home x) (batches_of (left_of f))
  idle_laid =
      let are : AreOpen (left_of f) x = subst (λ (n : Next). Holds f n x) is (told.holds running) in
      ap (λ (n : Next). blocks_without f.batch.place n x) is ∙ ap (all_laid_over (home x)) are.batches

  pub idle_home : (k : ℕ) → k < blocks → get_or (home x) k [] ≡ block (home_place f.segments k) x
  idle_home k below = get_or-home x k (subst (λ (n : ℕ). k < n) (sym told.size) below) ∙ ap (λ (n : ℕ). block (home_place n k) x) told.count

  pub idle_size : length (home x) ≡ blocks
  idle_size = length-home x ∙ told.size

-- what a read leaves of a part of it
pub part_of_part : (a n b m : ℕ) (x : List ℕ) → b + m ≤ n → part b m (part a n x) ≡ part (a + b) m x
part_of_part a n b m x fits =
    let all : n ≡ b + (n - b) = omega (arith, fits) in
    ap (λ (k : ℕ). take m (drop b (take k (drop a x)))) all
    ∙ ap (λ (l : List ℕ). take m l) (drop-take b (n - b) (drop a x))
    ∙ take-take m (n - b) (drop b (drop a x)) (omega (arith, fits))
    ∙ ap (λ (l : List ℕ). take m l) (drop-drop b a x)
