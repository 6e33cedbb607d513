-- The picks, octet by octet and block by block.
use Rattle.std.proofs.Common.{◌≡◌, ◌≢◌, ◌⊎◌, inl, inr, ◌<◌, ◌≤◌, ℕ, suc, zero, ◌+◌, ◌-◌, ◌*◌, ◌/◌, min, Bool, true, false, List, [], ◌∷◌}
use Rattle.std.proofs.Common.{◌++◌, length, get_or, take, drop, set, refl, sym, ◌∙◌, ap, arith, append_assoc, length-set}
use Rattle.std.proofs.lemmas.List.{drop_more, take_more, take_more_set, drop_all, take_all, append-nil, drop-set-lt, get_or-set_other}
use Rattle.std.proofs.lemmas.Bool.{false≢true, cases_Bool, cases_lt}
use Rattle.disk_memory.specs.Picks.{octet_of, pick_for, picked_from, settled}
use Rattle.disk_memory.specs.declared.Pick.{Pick}

module _ (picks : List Pick) (count at : ℕ) (touched : List Bool) (synced present : List ℕ) (flags : length touched ≡ length present)
    (size : length synced ≡ length present) (within : at < length present) where
  opened : settled picks count at touched synced present ≡ take at present ++ picked_from picks count
      (get_or touched at false ∷ drop (at + 1) touched) (get_or synced at 0 ∷ drop (at + 1) synced)
      (get_or present at 0 ∷ drop (at + 1) present)
  opened =
      let ts = drop_more touched at false (omega (arith, flags)) in
      let os = drop_more synced at 0 (omega (arith, size)) in
      let ns = drop_more present at 0 within in
      cc

  pub settled_touched : get_or touched at false ≡ true
      → settled picks (count + 1) (at + 1) touched synced
      (set present at (octet_of (pick_for picks count) (get_or synced at 0) (get_or present at 0)))
      ≡ settled picks count at touched synced present
  settled_touched is =
      let octet = octet_of (pick_for picks count) (get_or synced at 0) (get_or present at 0) in
      let rest = picked_from picks (count + 1) (drop (at + 1) touched) (drop (at + 1) synced) (drop (at + 1) present) in
      let front : take (at + 1) (set present at octet) ≡ take at present ++ octet ∷ [] = take_more_set present at octet within in
      let back : drop (at + 1) (set present at octet) ≡ drop (at + 1) present = drop-set-lt (at + 1) present at octet (omega arith) in
      let taken : picked_from picks count (get_or touched at false ∷ drop (at + 1) touched) (get_or synced at 0 ∷ drop (at + 1) synced)
      (get_or present at 0 ∷ drop (at + 1) present) ≡ octet ∷ rest =
      ap (λ (t : Bool). picked_from picks count (t ∷ drop (at + 1) touched) (get_or synced at 0 ∷ drop (at + 1) synced)
      (get_or present at 0 ∷ drop (at + 1) present)) is in
      ap (λ (l : List ℕ). l ++ picked_from picks (count + 1) (drop (at + 1) touched) (drop (at + 1) synced)
      (drop (at + 1) (set present at octet))) front
      ∙ ap (λ (l : List ℕ). (take at present ++ octet ∷ []) ++ picked_from picks (count + 1) (drop (at + 1) touched)
      (drop (at + 1) synced) l) back
      ∙ append_assoc (take at present) (octet ∷ []) rest
      ∙ ap (λ (l : List ℕ). take at present ++ l) (sym taken)
      ∙ sym opened

  pub settled_untouched : get_or touched at false ≡ false
      → settled picks count (at + 1) touched synced present ≡ settled picks count at touched synced present
  settled_untouched is =
      let rest = picked_from picks count (drop (at + 1) touched) (drop (at + 1) synced) (drop (at + 1) present) in
      let front : take (at + 1) present ≡ take at present ++ get_or present at 0 ∷ [] = take_more present at 0 within in
      let taken : picked_from picks count (get_or touched at false ∷ drop (at + 1) touched) (get_or synced at 0 ∷ drop (at + 1) synced)
      (get_or present at 0 ∷ drop (at + 1) present) ≡ get_or present at 0 ∷ rest =
      ap (λ (t : Bool). picked_from picks count (t ∷ drop (at + 1) touched) (get_or synced at 0 ∷ drop (at + 1) synced)
      (get_or present at 0 ∷ drop (at + 1) present)) is in
      ap (λ (l : List ℕ). l ++ rest) front
      ∙ append_assoc (take at present) (get_or present at 0 ∷ []) rest
      ∙ ap (λ (l : List ℕ). take at present ++ l) (sym taken)
      ∙ sym opened

-- at the end and past it
pub settled_all : (picks : List Pick) (count at : ℕ) (touched : List Bool) (synced present : List ℕ) → length present ≤ at
    → settled picks count at touched synced present ≡ present
settled_all picks count at touched synced present ends =
    let front : take at present ≡ present = take_all at present ends in
    let none : drop at present ≡ [] = drop_all at present ends in
    let nothing = nothing_left picks count (drop at touched) (drop at synced) in
    ap (λ (l : List ℕ). l ++ picked_from picks count (drop at touched) (drop at synced) (drop at present)) front
    ∙ ap (λ (l : List ℕ). present ++ picked_from picks count (drop at touched) (drop at synced) l) none
    ∙ ap (λ (l : List ℕ). present ++ l) nothing
    ∙ append-nil present
  where
    nothing_left : (picks : List Pick) (count : ℕ) (ts : List Bool) (os : List ℕ) → picked_from picks count ts os [] ≡ []
    nothing_left picks count [] os = refl
    nothing_left picks count (t ∷ ts) [] = refl
    nothing_left picks count (t ∷ ts) (o ∷ os) = refl

-- two places from the end on
pub settled_past : (picks : List Pick) (count at to : ℕ) (touched : List Bool) (synced present : List ℕ) → length present ≤ at
    → length present ≤ to → settled picks count to touched synced present ≡ settled picks count at touched synced present
settled_past picks count at to touched synced present here there = settled_all picks count to touched synced present there
    ∙ sym (settled_all picks count at touched synced present here)

-- over octets that weren't touched
pub settled_run : (n : ℕ) (picks : List Pick) (count at : ℕ) (touched : List Bool) (synced present : List ℕ)
    → length touched ≡ length present → length synced ≡ length present → ((k : ℕ) → at ≤ k → k < at + n → get_or touched k false ≡ false)
    → settled picks count (at + n) touched synced present ≡ settled picks count at touched synced present
settled_run zero picks count at touched synced present flags size untouched =
    let none : at + zero ≡ at = omega arith in
    ap (λ (to : ℕ). settled picks count to touched synced present) none
settled_run (suc n) picks count at touched synced present flags size untouched =
    let more : at + suc n ≡ at + n + 1 = omega arith in
    let before = settled_run n picks count at touched synced present flags size (λ k low high. untouched k low (omega arith)) in
    ap (λ (to : ℕ). settled picks count to touched synced present) more
    ∙ one (cases_lt (at + n) (length present))
    ∙ before
  where
    one : (at + n < length present) ⊎ (length present ≤ at + n)
        → settled picks count (at + n + 1) touched synced present ≡ settled picks count (at + n) touched synced present
    one (inl within) = settled_untouched picks count (at + n) touched synced present flags size within
        (untouched (at + n) (omega arith) (omega arith))
    one (inr past) = settled_past picks count (at + n) (at + n + 1) touched synced present past (omega arith)

-- before the first octet that was touched
pub settled_first : (n : ℕ) (picks : List Pick) (touched : List Bool) (synced present : List ℕ) → length touched ≡ length present
    → length synced ≡ length present → ((k : ℕ) → k < n → get_or touched k false ≡ false)
    → settled picks 0 n touched synced present ≡ picked_from picks 0 touched synced present
settled_first n picks touched synced present flags size untouched =
    let start : 0 + n ≡ n = omega arith in
    ap (λ (to : ℕ). settled picks 0 to touched synced present) (sym start)
    ∙ settled_run n picks 0 0 touched synced present flags size (λ k low high. untouched k (omega arith))

-- after the last octet that was touched
pub settled_last : (picks : List Pick) (count at : ℕ) (touched : List Bool) (synced present : List ℕ) → length touched ≡ length present
    → length synced ≡ length present → ((k : ℕ) → at ≤ k → get_or touched k false ≡ false)
    → settled picks count at touched synced present ≡ present
settled_last picks count at touched synced present flags size untouched =
    sym (settled_run (length present) picks count at touched synced present flags size (λ k low high. untouched k low))
    ∙ settled_all picks count (at + length present) touched synced present (omega arith)

-- the octets below a place are settled, on the way to an image
pub record IsSettledTo (picks : List Pick) (count at : ℕ) (touched : List Bool) (synced image first present : List ℕ) : Type 0 where
  pub few : count ≤ at
  pub size : length present ≡ length first
  pub so_far : settled picks count at touched synced present ≡ image
  pub kept : (k : ℕ) → get_or touched k false ≡ false → get_or present k 0 ≡ get_or first k 0

module _ (picks : List Pick) (count at : ℕ) (touched : List Bool) (synced image first present : List ℕ)
    (so_far : IsSettledTo picks count at touched synced image first present) (flags : length touched ≡ length first)
    (size : length synced ≡ length first) where
  -- one more octet
  pub touched_more : (octet : ℕ) → at < length first → get_or touched at false ≡ true
      → octet ≡ octet_of (pick_for picks count) (get_or synced at 0) (get_or present at 0)
      → IsSettledTo picks (count + 1) (at + 1) touched synced image first (set present at octet)
  touched_more octet within is picked = record {
    few = omega (arith, so_far.few);
    size = length-set present at octet ∙ so_far.size;
    so_far =
        ap (λ (o : ℕ). settled picks (count + 1) (at + 1) touched synced (set present at o)) picked
        ∙ settled_touched picks count at touched synced present (flags ∙ sym so_far.size) (size
        ∙ sym so_far.size) (omega (arith, within, so_far.size)) is
        ∙ so_far.so_far;
    kept = λ k untouched.
        let other : k ≢ at = λ same. false≢true (sym untouched ∙ ap (λ (n : ℕ). get_or touched n false) same ∙ is) in
        get_or-set_other present at k octet 0 other ∙ so_far.kept k untouched;
  }

  pub untouched_more : at < length first → get_or touched at false ≡ false
      → IsSettledTo picks count (at + 1) touched synced image first present
  untouched_more within is = record {
    few = omega (arith, so_far.few);
    size = so_far.size;
    so_far = settled_untouched picks count at touched synced present (flags ∙ sym so_far.size) (size
        ∙ sym so_far.size) (omega (arith, within, so_far.size)) is ∙ so_far.so_far;
    kept = so_far.kept;
  }

  -- one more block
  pub unmarked_block : (block : ℕ) (marked : List Bool) → at ≡ block * 4096
      → ((k : ℕ) → get_or touched k false ≡ true → get_or marked (k / 4096) false ≡ true) → get_or marked block false ≡ false
      → IsSettledTo picks count ((block + 1) * 4096) touched synced image first present
  unmarked_block block marked here covered is = record {
    few = omega (arith, so_far.few, here);
    size = so_far.size;
    so_far =
        let next : (block + 1) * 4096 ≡ at + 4096 = omega (arith, here) in
        ap (λ (to : ℕ). settled picks count to touched synced present) next
        ∙ settled_run 4096 picks count at touched synced present (flags ∙ sym so_far.size) (size ∙ sym so_far.size) none
        ∙ so_far.so_far;
    kept = so_far.kept;
  }
    where
      none : (k : ℕ) → at ≤ k → k < at + 4096 → get_or touched k false ≡ false
      none k low high = elim (cases_Bool (get_or touched k false)) [
        | inl touches ↦
            let place : k / 4096 ≡ block = omega (arith, low, high, here) in
            absurd (false≢true (sym is ∙ (ap (λ (b : ℕ). get_or marked b false) (sym place) ∙ covered k touches)))
        | inr untouched ↦ untouched
      ]

  pub marked_block : (block end total : ℕ) (later : List ℕ) → at ≡ block * 4096 → at ≤ length first
      → end ≡ at + min 4096 (length first - at) → total ≤ end → length later ≡ length present
      → settled picks total end touched synced later ≡ settled picks count at touched synced present
      → ((k : ℕ) → get_or touched k false ≡ false → get_or later k 0 ≡ get_or present k 0)
      → IsSettledTo picks total ((block + 1) * 4096) touched synced image first later
  marked_block block end total later here below to few same_size settles kept = record {
    few = omega (arith, few, here, below, to);
    size = same_size ∙ so_far.size;
    so_far = to_next (cases_lt end ((block + 1) * 4096)) ∙ settles ∙ so_far.so_far;
    kept = λ k untouched. kept k untouched ∙ so_far.kept k untouched;
  }
    where
      to_next : (end < (block + 1) * 4096) ⊎ ((block + 1) * 4096 ≤ end)
          → settled picks total ((block + 1) * 4096) touched synced later ≡ settled picks total end touched synced later
      to_next (inl short) = settled_past picks total end ((block + 1) * 4096) touched synced later
          (omega (arith, short, here, below, to, same_size, so_far.size)) (omega (arith, short, here, below, to, same_size, so_far.size))
      to_next (inr full) =
          let whole : (block + 1) * 4096 ≡ end = omega (arith, full, here, below, to) in
          ap (λ (place : ℕ). settled picks total place touched synced later) whole
