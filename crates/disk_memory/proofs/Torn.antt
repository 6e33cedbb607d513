-- What a write leaves of a device in memory.
use Rattle.std.proofs.Common.{◌≡◌, ◌⊎◌, inl, inr, ◌<◌, ◌≤◌, ℕ, ◌+◌, ◌-◌, ◌/◌, Bool, true, false, List, length, get_or, replicate, sym, ◌∙◌}
use Rattle.std.proofs.Common.{ap, subst, arith}
use Rattle.std.proofs.lemmas.List.{get_or-replicate, length-replicate}
use Rattle.std.proofs.lemmas.Bool.{cases_lt}
use Rattle.disk.specs.Image.{part, overwritten, Torn}
use Rattle.disk.proofs.Images.{length-overwritten, overwritten_below, overwritten_inside, overwritten_above, length-part, get_or-part}
use Rattle.disk_memory.specs.Memory.{IsSound, IsCrashImage}

module _ (synced present : List ℕ) (touched marked : List Bool) (at : ℕ) (from : List ℕ) (sound : IsSound synced present touched marked)
    (fits : at + length from ≤ length present) where
  -- the flags after the write
  abbrev flags : List Bool
  flags = overwritten at (replicate (length from) true) touched

  flags_fit : at + length (replicate (length from) true) ≤ length touched
  flags_fit = omega (arith, length-replicate (length from) true, sound.flags, sound.size)

  flags_inside : (k : ℕ) → at ≤ k → k < at + length from → get_or flags k false ≡ true
  flags_inside k low high =
      overwritten_inside at (replicate (length from) true) touched flags_fit k false low
      (omega (arith, length-replicate (length from) true))
      ∙ get_or-replicate (length from) (k - at) true false (omega arith)

  flags_outside : (k : ℕ) → (k < at) ⊎ (at + length from ≤ k) → get_or flags k false ≡ get_or touched k false
  flags_outside k (inl below) = overwritten_below at (replicate (length from) true) touched flags_fit k false below
  flags_outside k (inr above) = overwritten_above at (replicate (length from) true) touched flags_fit k false
      (omega (arith, length-replicate (length from) true))

  cases : (k : ℕ) → ((k < at) ⊎ (at + length from ≤ k)) ⊎ ((at ≤ k) × (k < at + length from))
  cases k = elim (cases_lt k at) [
    | inl below ↦ inl (inl below)
    | inr low ↦ elim (cases_lt k (at + length from)) [ inl high ↦ inr (low, high) | inr above ↦ inl (inr above) ]
  ]

  -- it stays sound
  pub written_sound : (marks : List Bool) → length marks ≡ length marked
      → ((k : ℕ) → at ≤ k → k < at + length from → get_or marks (k / 4096) false ≡ true)
      → ((b : ℕ) → get_or marked b false ≡ true → get_or marks b false ≡ true) → ((k : ℕ) → get_or from k 0 < 256)
      → IsSound synced (overwritten at from present) flags marks
  written_sound marks blocks covers keeps octets = record {
    size = length-overwritten at from present fits ∙ sound.size;
    flags = length-overwritten at (replicate (length from) true) touched flags_fit ∙ sound.flags;
    blocks = blocks ∙ sound.blocks;
    same = λ k untouched. same k untouched (cases k);
    covered = λ k touches. covered k touches (cases k);
    octets = λ k. each k (cases k);
    synced_octets = sound.synced_octets;
  }
    where
      outside : (k : ℕ) → (k < at) ⊎ (at + length from ≤ k) → get_or (overwritten at from present) k 0 ≡ get_or present k 0
      outside k (inl below) = overwritten_below at from present fits k 0 below
      outside k (inr above) = overwritten_above at from present fits k 0 above

      same : (k : ℕ) → get_or flags k false ≡ false → ((k < at) ⊎ (at + length from ≤ k)) ⊎ ((at ≤ k) × (k < at + length from))
          → get_or (overwritten at from present) k 0 ≡ get_or synced k 0
      same k untouched (inl out) = outside k out ∙ sound.same k (sym (flags_outside k out) ∙ untouched)
      same k untouched (inr inside) = absurd (cc (flags_inside k inside.0 inside.1, untouched))

      covered : (k : ℕ) → get_or flags k false ≡ true → ((k < at) ⊎ (at + length from ≤ k)) ⊎ ((at ≤ k) × (k < at + length from))
          → get_or marks (k / 4096) false ≡ true
      covered k touches (inl out) = keeps (k / 4096) (sound.covered k (sym (flags_outside k out) ∙ touches))
      covered k touches (inr inside) = covers k inside.0 inside.1

      each : (k : ℕ) → ((k < at) ⊎ (at + length from ≤ k)) ⊎ ((at ≤ k) × (k < at + length from))
          → get_or (overwritten at from present) k 0 < 256
      each k (inl out) = subst (λ (n : ℕ). n < 256) (sym (outside k out)) (sound.octets k)
      each k (inr inside) = subst (λ (n : ℕ). n < 256) (sym (overwritten_inside at from present fits k 0 inside.0 inside.1))
          (octets (k - at))

  -- each image that a crash may leave is an earlier one, torn where it was written
  module _ (c : List ℕ) (left : IsCrashImage synced flags c) where
    part_size : length (part at (length from) synced) ≡ length from
    part_size = length-part at (length from) synced (omega (arith, sound.size))

    part_fits : at + length (part at (length from) synced) ≤ length c
    part_fits = omega (arith, part_size, left.size, sound.size)

    abbrev before : List ℕ
    before = overwritten at (part at (length from) synced) c

    before_outside : (k : ℕ) → (k < at) ⊎ (at + length from ≤ k) → get_or before k 0 ≡ get_or c k 0
    before_outside k (inl below) = overwritten_below at (part at (length from) synced) c part_fits k 0 below
    before_outside k (inr above) = overwritten_above at (part at (length from) synced) c part_fits k 0 (omega (arith, part_size))

    before_inside : (k : ℕ) → at ≤ k → k < at + length from → get_or before k 0 ≡ get_or synced k 0
    before_inside k low high =
        let place : at + (k - at) ≡ k = omega arith in
        overwritten_inside at (part at (length from) synced) c part_fits k 0 low (omega (arith, part_size))
        ∙ get_or-part at (length from) synced (k - at) 0 (omega arith)
        ∙ ap (λ (n : ℕ). get_or synced n 0) place

    pub was_torn : (d : List ℕ) × IsCrashImage synced touched d × Torn at (length from) d c
    was_torn = (
      before,
      record {
        size = length-overwritten at (part at (length from) synced) c part_fits ∙ left.size;
        kept = λ k untouched. kept k untouched (cases k);
        octets = λ k written. octets k written (cases k);
      },
      record {
        size = sym (length-overwritten at (part at (length from) synced) c part_fits);
        below = λ k below. sym (before_outside k (inl below));
        above = λ k above. sym (before_outside k (inr above));
        octets = λ k low high. inr (left.octets k (flags_inside k low high));
      },
    )
      where
        kept : (k : ℕ) → get_or touched k false ≡ false → ((k < at) ⊎ (at + length from ≤ k)) ⊎ ((at ≤ k) × (k < at + length from))
            → get_or before k 0 ≡ get_or synced k 0
        kept k untouched (inl out) = before_outside k out ∙ left.kept k (flags_outside k out ∙ untouched)
        kept k untouched (inr inside) = before_inside k inside.0 inside.1

        octets : (k : ℕ) → get_or touched k false ≡ true → ((k < at) ⊎ (at + length from ≤ k)) ⊎ ((at ≤ k) × (k < at + length from))
            → get_or before k 0 < 256
        octets k written (inl out) = subst (λ (n : ℕ). n < 256) (sym (before_outside k out)) (left.octets k (flags_outside k out ∙ written))
        octets k written (inr inside) = subst (λ (n : ℕ). n < 256) (sym (before_inside k inside.0 inside.1)) (sound.synced_octets k)
