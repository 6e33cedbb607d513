-- The blocks of a volume that is made of zeros.
use Rattle.std.proofs.Common.{◌≡◌, ◌≤◌, ℕ, ◌+◌, ◌*◌, ◌/◌, ◌%◌, List, [], length, drop, replicate, refl, sym, ◌∙◌, ap, subst, arith}
use Rattle.std.specs.List.{All}
use Rattle.std.proofs.lemmas.List.Elements.{All-take, All-drop, All-replicate, All-from_get_or}
use Rattle.model.specs.Volume.{blocks_from}
use Rattle.model.specs.Files.{HasRoom, first_data}
use Rattle.model.proofs.Blocks.{get_or-blocks_from}
use Rattle.fs_blocks.proofs.Octets.{length-blocks_from, blocks_whole}

-- there is room for so many inodes
pub has_room : (inodes count : ℕ) (octets : List ℕ) (blocks : List (List ℕ)) → blocks ≡ blocks_from 0 count octets → 64 ≤ inodes
    → inodes ≤ 4194304 → inodes % 64 ≡ 0 → first_data count inodes + 256 ≤ count → count ≤ 4194304 → length octets ≡ 4096 * count
    → HasRoom inodes blocks
has_room inodes count octets blocks is some few whole room small size =
    let many : length blocks ≡ count = ap (λ (l : List (List ℕ)). length l) is ∙ length-blocks_from count octets in
    record {
      some = some;
      few = few;
      whole = whole;
      room = omega arith;
      count_few = omega arith;
      blocks_whole = subst (λ (l : List (List ℕ)). All (λ b. length b ≡ 4096) l) (sym is) (blocks_whole count octets size);
    }

-- and each octet is 0
pub are_zeros : (count n : ℕ) (octets : List ℕ) (blocks : List (List ℕ)) → blocks ≡ blocks_from 0 count octets → octets ≡ replicate n 0
    → All (λ b. All (λ o. o ≡ 0) b) blocks
are_zeros count n octets blocks is zero =
    subst (λ (l : List (List ℕ)). All (λ b. All (λ o. o ≡ 0) b) l) (sym is)
    (All-from_get_or (λ b. All (λ o. o ≡ 0) b) (blocks_from 0 count octets) [] (λ k low.
    subst (λ (b : List ℕ). All (λ o. o ≡ 0) b) (sym (get_or-blocks_from count k octets (omega (arith, length-blocks_from count octets))))
    (All-take (λ o. o ≡ 0) 4096 (drop (4096 * k) octets)
    (All-drop (λ o. o ≡ 0) (4096 * k) octets
    (subst (λ (l : List ℕ). All (λ o. o ≡ 0) l) (sym zero) (All-replicate (λ o. o ≡ 0) n 0 refl))))))
