-- What is free is a part of the whole.
use Rattle.std.proofs.Common.{◌≡◌, ◌≤◌, ℕ, ◌+◌, ◌-◌, not, List, length, arith}
use Rattle.std.specs.Prelude.{◌==◌}
use Rattle.std.specs.List.{range_with_len}
use Rattle.std.proofs.lemmas.List.FromFn.{length-range_with_len}
use Rattle.std.proofs.lemmas.List.Sums.{count_by-le-length}
use Rattle.model.specs.Files.{entry, free_blocks, free_inodes, is_marked_used, kind}
use Rattle.model.specs.Stream.{Octets}

pub blocks_few : (blocks : List Octets) → free_blocks blocks ≤ length blocks
blocks_few blocks =
    let few = count_by-le-length (λ b. not (is_marked_used blocks b)) (range_with_len 0 (length blocks)) in
    let many = length-range_with_len 0 (length blocks) in
    omega (arith, few, many)

pub inodes_few : (inodes : ℕ) (blocks : List Octets) → free_inodes inodes blocks ≤ inodes
inodes_few inodes blocks =
    let few = count_by-le-length (λ k. kind (entry inodes blocks k) == 0) (range_with_len 0 inodes) in
    let many = length-range_with_len 0 inodes in
    omega (arith, few, many)

pub rest : (all free n k : ℕ) → all ≡ n → free ≡ k → k ≤ n → all - free + k ≡ n
rest all free n k is those few = omega (arith, is, those, few)

pub below : (all free n k : ℕ) → all ≡ n → free ≡ k → k ≤ n → free ≤ all
below all free n k is those few = omega (arith, is, those, few)
