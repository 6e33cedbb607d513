-- A sync, block by block.
use Rattle.std.proofs.Common.{◌≡◌, ◌≢◌, ◌⊎◌, inl, inr, ◌<◌, ◌≤◌, ℕ, ◌+◌, ◌-◌, ◌*◌, ◌/◌, min, Bool, true, false, List, length, get_or}
use Rattle.std.proofs.Common.{replicate, sym, ◌∙◌, ap, arith}
use Rattle.std.proofs.lemmas.List.{get_or-replicate, length-replicate, get_or_past, ext_get_or}
use Rattle.std.proofs.lemmas.Bool.{cases_lt, cases_Bool, false≢true}
use Rattle.disk.specs.Image.{part, overwritten}
use Rattle.disk.proofs.Images.{length-overwritten, overwritten_below, overwritten_inside, overwritten_above, length-part, get_or-part}

-- where a flag is set there is one
pub set_within : (flags : List Bool) (k : ℕ) → get_or flags k false ≡ true → k < length flags
set_within flags k is = elim (cases_lt k (length flags)) [
  | inl within ↦ within
  | inr past ↦ absurd (false≢true (sym (get_or_past flags k false past) ∙ is))
]

-- the blocks below a place are synced
pub record IsSyncedTo (block : ℕ) (marked : List Bool) (present synced : List ℕ) (touched : List Bool) : Type 0 where
  pub size : length synced ≡ length present
  pub flags : length touched ≡ length present
  pub same : (k : ℕ) → get_or touched k false ≡ false → get_or present k 0 ≡ get_or synced k 0
  pub covered : (k : ℕ) → get_or touched k false ≡ true → get_or marked (k / 4096) false ≡ true
  pub left : (k : ℕ) → get_or touched k false ≡ true → block ≤ k / 4096

module _ (block : ℕ) (marked : List Bool) (present synced : List ℕ) (touched : List Bool)
    (so_far : IsSyncedTo block marked present synced touched) where
  pub unmarked_more : get_or marked block false ≡ false → IsSyncedTo (block + 1) marked present synced touched
  unmarked_more is = record {
    size = so_far.size;
    flags = so_far.flags;
    same = so_far.same;
    covered = so_far.covered;
    left = λ k touches.
        let other : k / 4096 ≢ block = λ at. false≢true (sym is
        ∙ (ap (λ (b : ℕ). get_or marked b false) (sym at) ∙ so_far.covered k touches)) in
        let from = so_far.left k touches in
        omega (arith, other, from);
  }

  module _ (start end : ℕ) (from : start ≡ block * 4096) (below : start ≤ length present)
      (to : end ≡ start + min 4096 (length present - start)) where
    abbrev octets : List ℕ
    octets = part start (end - start) present

    abbrev none : List Bool
    none = replicate (end - start) false

    within : end ≤ length present
    within = omega (arith, below, to)

    octets_size : length octets ≡ end - start
    octets_size = length-part start (end - start) present (omega (arith, below, to))

    octets_fit : start + length octets ≤ length synced
    octets_fit = omega (arith, octets_size, so_far.size, below, to)

    none_fit : start + length none ≤ length touched
    none_fit = omega (arith, length-replicate (end - start) false, so_far.flags, below, to)

    cases : (k : ℕ) → ((k < start) ⊎ (end ≤ k)) ⊎ ((start ≤ k) × (k < end))
    cases k = elim (cases_lt k start) [
      | inl low ↦ inl (inl low)
      | inr low ↦ elim (cases_lt k end) [ inl high ↦ inr (low, high) | inr high ↦ inl (inr high) ]
    ]

    synced_outside : (k : ℕ) → (k < start) ⊎ (end ≤ k) → get_or (overwritten start octets synced) k 0 ≡ get_or synced k 0
    synced_outside k (inl low) = overwritten_below start octets synced octets_fit k 0 low
    synced_outside k (inr high) = overwritten_above start octets synced octets_fit k 0 (omega (arith, octets_size, below, to))

    touched_outside : (k : ℕ) → (k < start) ⊎ (end ≤ k) → get_or (overwritten start none touched) k false ≡ get_or touched k false
    touched_outside k (inl low) = overwritten_below start none touched none_fit k false low
    touched_outside k (inr high) = overwritten_above start none touched none_fit k false
        (omega (arith, length-replicate (end - start) false, below, to))

    synced_inside : (k : ℕ) → start ≤ k → k < end → get_or (overwritten start octets synced) k 0 ≡ get_or present k 0
    synced_inside k low high =
        let place : start + (k - start) ≡ k = omega arith in
        overwritten_inside start octets synced octets_fit k 0 low (omega (arith, octets_size))
        ∙ get_or-part start (end - start) present (k - start) 0 (omega arith)
        ∙ ap (λ (n : ℕ). get_or present n 0) place

    touched_inside : (k : ℕ) → start ≤ k → k < end → get_or (overwritten start none touched) k false ≡ false
    touched_inside k low high =
        overwritten_inside start none touched none_fit k false low (omega (arith, length-replicate (end - start) false))
        ∙ get_or-replicate (end - start) (k - start) false false (omega arith)

    pub marked_more : IsSyncedTo (block + 1) marked present (overwritten start octets synced) (overwritten start none touched)
    marked_more = record {
      size = length-overwritten start octets synced octets_fit ∙ so_far.size;
      flags = length-overwritten start none touched none_fit ∙ so_far.flags;
      same = λ k untouched. same k untouched (cases k);
      covered = λ k touches. so_far.covered k (still k touches (cases k)).1;
      left = λ k touches. left k (still k touches (cases k));
    }
      where
        same : (k : ℕ) → get_or (overwritten start none touched) k false ≡ false → ((k < start) ⊎ (end ≤ k)) ⊎ ((start ≤ k) × (k < end))
            → get_or present k 0 ≡ get_or (overwritten start octets synced) k 0
        same k untouched (inl out) = so_far.same k (sym (touched_outside k out) ∙ untouched) ∙ sym (synced_outside k out)
        same k untouched (inr inside) = sym (synced_inside k inside.0 inside.1)

        still : (k : ℕ) → get_or (overwritten start none touched) k false ≡ true → ((k < start) ⊎ (end ≤ k)) ⊎ ((start ≤ k) × (k < end))
            → ((k < start) ⊎ (end ≤ k)) × (get_or touched k false ≡ true)
        still k touches (inl out) = (out, sym (touched_outside k out) ∙ touches)
        still k touches (inr inside) = absurd (false≢true (sym (touched_inside k inside.0 inside.1) ∙ touches))

        left : (k : ℕ) → ((k < start) ⊎ (end ≤ k)) × (get_or touched k false ≡ true) → block + 1 ≤ k / 4096
        left k (out, touches) =
            let earlier = so_far.left k touches in
            let inside = set_within touched k touches in
            omega (arith, earlier, inside, out, from, below, to, so_far.flags)

  -- after the last block
  module _ (ends : (b : ℕ) → get_or marked b false ≡ true → b < block) where
    untouched : (k : ℕ) → get_or touched k false ≡ false
    untouched k = elim (cases_Bool (get_or touched k false)) [
      | inl touches ↦
          let before = ends (k / 4096) (so_far.covered k touches) in
          let past = so_far.left k touches in
          absurd (omega (arith, before, past))
      | inr is ↦ is
    ]

    pub all_present : synced ≡ present
    all_present = ext_get_or 0 synced present so_far.size (λ k within. sym (so_far.same k (untouched k)))

    pub none_touched : touched ≡ replicate (length touched) false
    none_touched =
        ext_get_or false touched (replicate (length touched) false) (sym (length-replicate (length touched) false))
        (λ k within. untouched k ∙ sym (get_or-replicate (length touched) k false false within))
