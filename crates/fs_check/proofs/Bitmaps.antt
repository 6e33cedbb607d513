-- The bitmap, block by block.
use Rattle.std.proofs.Common.{◌≡◌, ◌<◌, ℕ, ◌+◌, ◌*◌, ◌/◌, ◌%◌, ◌^◌, eqb, List, [], get_or, take, drop, sym, ◌∙◌, ap}
use Rattle.std.proofs.Common.{arith}
use Rattle.std.proofs.lemmas.List.{get_or-take, get_or-drop}
use Rattle.model.specs.Stream.{Octets}
use Rattle.model.specs.Files.{is_marked_used}
use Rattle.fs_layout.specs.Bits.{bit_of}
use Rattle.fs_layout.proofs.Counts.{mark_is_bit}

-- the bits of a part of the marks
bit_in_part : (marks : Octets) (table b : ℕ) → b < 32768
    → bit_of (take 4096 (drop (4096 * table) marks)) b ≡ bit_of marks (32768 * table + b)
bit_in_part marks table b low =
    let octet : 4096 * table + b / 8 ≡ (32768 * table + b) / 8 = omega arith in
    let bit : b % 8 ≡ (32768 * table + b) % 8 = omega arith in
    ap (λ (n : ℕ). eqb (n / 2 ^ (b % 8) % 2) 1)
    (get_or-take 4096 (drop (4096 * table) marks) (b / 8) 0 (omega arith) ∙ get_or-drop (4096 * table) marks (b / 8) 0
    ∙ ap (λ (n : ℕ). get_or marks n 0) octet)
    ∙ ap (λ (n : ℕ). eqb (get_or marks ((32768 * table + b) / 8) 0 / 2 ^ n % 2) 1) bit

module _ (blocks : List Octets) (marks block some : Octets) (table : ℕ) (here : block ≡ get_or blocks table [])
    (part : some ≡ take 4096 (drop (4096 * table) marks)) where
  bit_here : (b : ℕ) → b < 32768 → bit_of block b ≡ is_marked_used blocks (32768 * table + b)
  bit_here b low = ap (λ (o : Octets). bit_of o b) here ∙ sym (mark_is_bit blocks table b low)

  bit_there : (b : ℕ) → b < 32768 → bit_of some b ≡ bit_of marks (32768 * table + b)
  bit_there b low = ap (λ (o : Octets). bit_of o b) part ∙ bit_in_part marks table b low

  pub same_marks : ((b : ℕ) → b < 32768 → bit_of block b ≡ bit_of some b) → (b : ℕ) → b < 32768
      → is_marked_used blocks (32768 * table + b) ≡ bit_of marks (32768 * table + b)
  same_marks same b low = sym (bit_here b low) ∙ same b low ∙ bit_there b low

  pub same_bits : ((b : ℕ) → b < 32768 → is_marked_used blocks (32768 * table + b) ≡ bit_of marks (32768 * table + b))
      → (b : ℕ) → b < 32768 → bit_of block b ≡ bit_of some b
  same_bits same b low = bit_here b low ∙ same b low ∙ sym (bit_there b low)

-- all blocks of the bitmap
pub all_marks : (blocks : List Octets) (marks : Octets) (tables : ℕ)
    → ((table b : ℕ) → table < tables → b < 32768 → is_marked_used blocks (32768 * table + b) ≡ bit_of marks (32768 * table + b))
    → (b : ℕ) → b < 32768 * tables → is_marked_used blocks b ≡ bit_of marks b
all_marks blocks marks tables each b low =
    let is : 32768 * (b / 32768) + b % 32768 ≡ b = omega arith in
    ap (λ (n : ℕ). is_marked_used blocks n) (sym is) ∙ each (b / 32768) (b % 32768) (omega arith) (omega arith)
    ∙ ap (λ (n : ℕ). bit_of marks n) is
