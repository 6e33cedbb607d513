-- Numbers in records.
use Rattle.std.proofs.Common.{◌≡◌, ◌<◌, ◌≤◌, ℕ, ◌+◌, ◌-◌, ◌*◌, ◌/◌, ◌%◌, eqb, List, [], get_or, take, drop, sym, ◌∙◌, ap, arith, count_by}
use Rattle.std.proofs.Common.{Bool, length}
use Rattle.std.specs.List.{range_with_len}
use Rattle.std.proofs.lemmas.List.{drop-take, drop-drop}
use Rattle.byteorder.specs.Endian.{little_number}
use Rattle.byteorder.specs.Numbers.{little_from-take}
use Rattle.disk.specs.Image.{part}
use Rattle.model.specs.Stream.{Octets}
use Rattle.model.specs.Volume.{number_at}
use Rattle.model.specs.Files.{bitmap_blocks, kind, entry}
use Rattle.fs_layout.proofs.Counts.{count_split, count_same}

pub number_in_part : (from a n : ℕ) (octets : Octets) → a + n ≤ 64 → number_at a n (part from 64 octets) ≡ number_at (from + a) n octets
unfolding number_at
number_in_part from a n octets fits =
    let width : 64 ≡ a + (64 - a) = omega arith in
    ap (λ (m : ℕ). little_number n (drop a (take m (drop from octets)))) width
    ∙ ap (λ (l : Octets). little_number n l) (drop-take a (64 - a) (drop from octets))
    ∙ little_from-take 0 n (64 - a) (drop a (drop from octets)) (omega arith)
    ∙ ap (λ (l : Octets). little_number n l) (drop-drop a from octets)

-- the kind of an inode in its block
pub kind_in_block : (inodes : ℕ) (blocks : List Octets) (block : Octets) (t i : ℕ) → i < 64
    → block ≡ get_or blocks (bitmap_blocks (length blocks) + t) []
    → eqb (kind (entry inodes blocks (0 + 64 * t + i))) 0 ≡ eqb (number_at (64 * (0 + i)) 4 block) 0
kind_in_block inodes blocks block t i low is =
    let k : ℕ = 0 + 64 * t + i in
    let at : (0 + 64 * t + i) % 64 * 64 + 0 ≡ 64 * (0 + i) = omega arith in
    let where_is : bitmap_blocks (length blocks) + (0 + 64 * t + i) / 64 ≡ bitmap_blocks (length blocks) + t = omega arith in
    ap (λ (n : ℕ). eqb n 0) (
    number_in_part ((0 + 64 * t + i) % 64 * 64) 0 4 (get_or blocks (bitmap_blocks (length blocks) + (0 + 64 * t + i) / 64) []) (omega arith)
    ∙ ap (λ (n : ℕ). number_at n 4 (get_or blocks (bitmap_blocks (length blocks) + (0 + 64 * t + i) / 64) [])) at
    ∙ ap (λ (n : ℕ). number_at (64 * (0 + i)) 4 (get_or blocks n [])) where_is
    ∙ ap (λ (o : Octets). number_at (64 * (0 + i)) 4 o) (sym is))

-- one block of 64 more
pub table_more : (p q : ℕ → Bool) (t m free count : ℕ) → m ≡ 64 → free ≡ count_by p (range_with_len 0 (64 * t))
    → count ≡ count_by q (range_with_len 0 m) → ((i : ℕ) → i < m → p (0 + 64 * t + i) ≡ q (0 + i))
    → free + count ≡ count_by p (range_with_len 0 (64 * (t + 1)))
table_more p q t m free count is so_far here same =
    let length_is : 64 * t + m ≡ 64 * (t + 1) = omega arith in
    ap (λ (n : ℕ). n + count) so_far
    ∙ ap (λ (n : ℕ). count_by p (range_with_len 0 (64 * t)) + n) (here ∙ sym (count_same p q (0 + 64 * t) 0 m same))
    ∙ sym (count_split p 0 (64 * t) m)
    ∙ ap (λ (n : ℕ). count_by p (range_with_len 0 n)) length_is
