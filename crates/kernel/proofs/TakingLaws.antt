-- A batch of the dirty blocks, laid over blocks that are the cached ones but for these, gives the cached ones.
use Rattle.std.proofs.Common.{◌≡◌, ◌≢◌, inl, inr, ℕ, zero, suc, ◌<◌, ◌*◌, ◌==◌, Bool, true, false, List, [], ◌∷◌, length, refl, ap, sym}
use Rattle.std.proofs.Common.{◌∙◌, subst, arith, eq-eqb}
use Rattle.std.specs.Prelude.{Option, Some, map, ◌||◌, All, slice_index_or}
use Rattle.std.specs.List.{Contains, flat_map, list_any}
use Rattle.std.proofs.Math.Bool.{or-true}
use Rattle.std.proofs.lemmas.Bool.{cases_lt, eqb-true}
use Rattle.std.proofs.lemmas.List.{get_or_past}
use Rattle.std.proofs.lemmas.List.Elements.{All-get_or, All-weaker}
use Rattle.model.specs.Stream.{Octets}
use Rattle.model.specs.Volume.{AreDistinct, blocks_from, laid_over}
use Rattle.journal_volume.specs.Volume.{AgreeOutside}
use Rattle.fs_blocks.proofs.Octets.{blocks_from-flat_map}
use Rattle.spool.specs.View.{IsSpool, SpoolView}
use Rattle.kernel.specs.Kernel.{AgreesBehind, Takes}
use Rattle.kernel_seats.specs.Seats.{Seat}
use Rattle.kernel.specs.Kept.{IsKept}
use Rattle.kernel.specs.Stored.{kernel_of}

-- a number is among others, as a test and as a place
pub contained : (k : ℕ) (ns : List ℕ) → list_any (λ n. n == k) ns ≡ true → Contains ns k
contained k [] is = absurd (cc is)
contained k (n ∷ ns) is = go (λ later. contained k ns later) (n == k) refl is where
  go : (list_any (λ m. m == k) ns ≡ true → Contains ns k) → (b : Bool) → (n == k) ≡ b → (b || list_any (λ m. m == k) ns) ≡ true
      → Contains (n ∷ ns) k
  go later true same is = (0, omega arith, eqb-true n k same)
  go later false other is = let at = later is in (suc at.0, omega (arith, at.1), at.2)

pub among : (k : ℕ) (ns : List ℕ) → Contains ns k → list_any (λ n. n == k) ns ≡ true
among k [] (at, low, is) = absurd (omega (arith, low))
among k (n ∷ ns) (zero, low, is) = ap (λ (b : Bool). b || list_any (λ m. m == k) ns) (eq-eqb n k is)
among k (n ∷ ns) (suc at, low, is) = ap (λ (b : Bool). (n == k) || b) (among k ns (at, omega (arith, low), is)) ∙ or-true (n == k)

-- blocks that agree behind the dirty ones agree outside them
outside : (s : SpoolView) (d : ℕ) (f : Option ℕ) (halted : Bool) (most j : ℕ) (seats : List Seat) (base : List Octets)
    → AgreesBehind (kernel_of s d f halted most j seats) base → AgreeOutside s.dirty base s.blocks
outside s d f halted most j seats base agrees = record { count = agrees.size; same = same } where
  by_test : (k : ℕ) (b : Bool) → list_any (λ n. n == k) s.dirty ≡ b → k < length s.blocks → ¬ (Contains s.dirty k)
      → slice_index_or base k [] ≡ slice_index_or s.blocks k []
  by_test k true is low none = absurd (none (contained k s.dirty is))
  by_test k false is low none = agrees.clean k low is

  same : (k : ℕ) → ¬ (Contains s.dirty k) → slice_index_or base k [] ≡ slice_index_or s.blocks k []
  same k none = elim (cases_lt k (length s.blocks)) [
    | inl low ↦ by_test k (list_any (λ n. n == k) s.dirty) refl low none
    | inr high ↦ get_or_past base k [] (omega (arith, high, agrees.size)) ∙ sym (get_or_past s.blocks k [] (omega (arith, high)))
  ]

-- the images of the dirty blocks
pub images_are : (s : SpoolView) (images : List ℕ) → IsSpool s → All (λ n. n < length s.blocks) s.dirty
    → images ≡ flat_map (λ n. slice_index_or s.blocks n []) s.dirty
    → (length images ≡ 4096 * length s.dirty) × (blocks_from 0 (length s.dirty) images ≡ map (λ n. slice_index_or s.blocks n []) s.dirty)
images_are s images sound below is =
    let whole : All (λ n. length (slice_index_or s.blocks n []) ≡ 4096) s.dirty =
    All-weaker (λ n. n < length s.blocks) (λ n. length (slice_index_or s.blocks n []) ≡ 4096)
    (λ n low. All-get_or (λ octets. length octets ≡ 4096) s.blocks n [] low sound.room.blocks_whole) s.dirty below in
    let both = blocks_from-flat_map (λ n. slice_index_or s.blocks n []) s.dirty whole in
    (ap length is ∙ both.0, ap (blocks_from 0 (length s.dirty)) is ∙ both.1)

pub takes_dirty : (s s' : SpoolView) (d : ℕ) (f : Option ℕ) (halted : Bool) (most j : ℕ) (seats : List Seat) (numbers images : List ℕ)
    (last : ℕ)
    → length s.dirty ≢ 0 → last ≡ length s.changes → IsSpool s
    → numbers ≡ s.dirty → images ≡ flat_map (λ n. slice_index_or s.blocks n []) s.dirty
    → ((blocks : List (List ℕ)) → AgreeOutside numbers blocks s.blocks
    → laid_over blocks numbers (blocks_from 0 (length numbers) images) ≡ s.blocks)
    → s' ≡ record s { dirty = [] } → IsKept (kernel_of s d f halted most j seats)
    → Takes (kernel_of s d f halted most j seats) (kernel_of s' d (Some last) halted most j seats) numbers
    (blocks_from 0 (length numbers) images) last
takes_dirty s s' d f halted most j seats numbers images last some is sound taken octets laid clean h =
    record {
      last_is = is;
      kernel = (λ i. kernel_of (clean i) d (Some (is i)) halted most j seats);
      numbers_are = taken;
      some = omega (arith, ap length taken);
      few = omega (arith, ap length taken, h.few_dirty);
      below = subst (λ (ns : List ℕ). All (λ n. n < length s.blocks) ns) (sym taken) h.below;
      distinct = subst AreDistinct (sym taken) h.distinct;
      images_are = ap (λ (ns : List ℕ). blocks_from 0 (length ns) images) taken
          ∙ ((images_are s images sound h.below octets).1 ∙ ap (λ (ns : List ℕ). map (λ n. slice_index_or s.blocks n []) ns) (sym taken));
      lays = λ base agrees. laid base
          (subst (λ (ns : List ℕ). AgreeOutside ns base s.blocks) (sym taken) (outside s d f halted most j seats base agrees));
    }
