-- What an image stands for after the gate of format 3 is opened, and what an image stands for that a crash during that write leaves.
use Rattle.std.proofs.Common.{◌≡◌, inl, inr, ◌<◌, ◌≤◌, ℕ, ◌+◌, ◌-◌, Bool, true, false, cond, eqb, List, [], ◌∷◌, length, get_or, sym, ◌∙◌}
use Rattle.std.proofs.Common.{ap, subst, arith}
use Rattle.std.proofs.lemmas.Bool.{cases_lt}
use Rattle.disk.specs.Image.{Torn, overwritten}
use Rattle.disk.proofs.Images.{get_or-part, length-overwritten, overwritten_above, overwritten_below, overwritten_inside}
use Rattle.model.proofs.Images.{few_format, rise_stands}
use Rattle.model.specs.Layout.{Stands}
use Rattle.model.specs.Spool.{Spool}
use Rattle.model.specs.Volume.{block, format_in, format_number}
use Rattle.journal_laws.proofs.Standing.{format_unread}

-- one octet is written
pub overwritten_torn : (at octet : ℕ) (x : List ℕ) → at + 1 ≤ length x → octet < 256 → Torn at 1 x (overwritten at (octet ∷ []) x)
overwritten_torn at octet x fits small = record {
  size = length-overwritten at (octet ∷ []) x fits;
  below = λ k low. overwritten_below at (octet ∷ []) x fits k 0 low;
  above = λ k high. overwritten_above at (octet ∷ []) x fits k 0 high;
  octets = λ k low high.
      let none : k - at ≡ 0 = omega (arith, low, high) in
      let is : get_or (overwritten at (octet ∷ []) x) k 0 ≡ octet = overwritten_inside at (octet ∷ []) x fits k 0 low high
      ∙ ap (λ (n : ℕ). get_or (octet ∷ []) n 0) none in
      inr (omega (arith, is, small));
}

-- a write that is torn at the gate of format 3 is torn at the two gates
pub torn_gates : (old new : List ℕ) → Torn 149 1 old new → Torn 148 2 old new
torn_gates old new tears = record {
  size = tears.size;
  below = λ k low. tears.below k (omega (arith, low));
  above = λ k high. tears.above k (omega (arith, high));
  octets = λ k low high. elim (cases_lt k 149) [
    | inl first ↦ inl (tears.below k first)
    | inr second ↦ tears.octets k second (omega (arith, high))
  ];
}

-- the format that the octets of the gates say
abbrev pub told_by : ℕ → ℕ → ℕ
told_by second third = cond (eqb third 3) 3 (cond (eqb second 2) 2 1)

-- the gate is open
gate_read : (x : List ℕ) → 150 ≤ length x → get_or (block 0 (overwritten 149 (3 ∷ []) x)) 149 0 ≡ 3
gate_read x fits =
    let first : get_or (block 0 (overwritten 149 (3 ∷ []) x)) 149 0 ≡ get_or (overwritten 149 (3 ∷ []) x) (0 + 149) 0 =
    get_or-part 0 4096 (overwritten 149 (3 ∷ []) x) 149 0 (omega arith) in
    first ∙ overwritten_inside 149 (3 ∷ []) x fits 149 0 (omega arith) (omega arith)

pub gate_opens : (x : List ℕ) → 150 ≤ length x → format_number (overwritten 149 (3 ∷ []) x) ≡ 3
gate_opens x fits = ap (λ (n : ℕ). told_by (get_or (block 0 (overwritten 149 (3 ∷ []) x)) 148 0) n) (gate_read x fits)

pub gate_opens_in : (superblock : List ℕ) → 150 ≤ length superblock → format_in (overwritten 149 (3 ∷ []) superblock) ≡ 3
gate_opens_in superblock fits =
    ap (λ (n : ℕ). told_by (get_or (overwritten 149 (3 ∷ []) superblock) 148 0) n)
    (overwritten_inside 149 (3 ∷ []) superblock fits 149 0 (omega arith) (omega arith))

-- whatever the gate of format 3 becomes, a format of 1 or 2 doesn't fall
abbrev chosen : Bool → Bool → ℕ
chosen second third = cond third 3 (cond second 2 1)

none_lower : (second was is : Bool) → chosen second was ≤ 2 → chosen second was ≤ chosen second is
none_lower second true is low = absurd (omega (arith, low))
none_lower true false true low = omega arith
none_lower true false false low = omega arith
none_lower false false true low = omega arith
none_lower false false false low = omega arith

pub torn_rises : (old new : List ℕ) → Torn 149 1 old new → format_number old ≤ 2 → format_number old ≤ format_number new
torn_rises old new tears low =
    let from_old : get_or (block 0 old) 148 0 ≡ get_or old 148 0 = get_or-part 0 4096 old 148 0 (omega arith) in
    let from_new : get_or (block 0 new) 148 0 ≡ get_or new 148 0 = get_or-part 0 4096 new 148 0 (omega arith) in
    let same : get_or (block 0 old) 148 0 ≡ get_or (block 0 new) 148 0 =
    from_old ∙ sym (tears.below 148 (omega arith)) ∙ sym from_new in
    subst (λ (second : ℕ). format_number old ≤ told_by second (get_or (block 0 new) 149 0)) same
    (none_lower (eqb (get_or (block 0 old) 148 0) 2) (eqb (get_or (block 0 old) 149 0) 3) (eqb (get_or (block 0 new) 149 0) 3) low)

-- the spool stays the same
risen_stands : (host old new : List ℕ) (S : Spool) → Stands host old S → Torn 149 1 old new → format_number old ≤ format_number new
    → Stands host new S
risen_stands host old new S s tears le =
    rise_stands host old new s.label s.blocks S s.volume (format_unread old new s.label s.blocks s.volume (torn_gates old new tears)) le s

pub torn_stands : (host old new : List ℕ) (S : Spool) → Stands host old S → format_number old ≤ 2 → Torn 149 1 old new → Stands host new S
torn_stands host old new S s low tears = risen_stands host old new S s tears (torn_rises old new tears low)

fits_in : (host image : List ℕ) (S : Spool) → Stands host image S → 150 ≤ length image
fits_in host image S s = omega (arith, s.volume.has_superblock.exactly)

pub opened_stands : (host image : List ℕ) (S : Spool) → Stands host image S
    → Stands host (overwritten 149 (3 ∷ []) image) S × (format_number (overwritten 149 (3 ∷ []) image) ≡ 3)
opened_stands host image S s =
    let fits = fits_in host image S s in
    let opens = gate_opens image fits in (
      risen_stands host image (overwritten 149 (3 ∷ []) image) S s (overwritten_torn 149 3 image fits (omega arith))
          (omega (arith, opens, few_format (block 0 image))),
      opens,
    )
