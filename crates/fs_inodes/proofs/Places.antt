-- Each octet of a file's content, and the blocks where they stand.
use Rattle.std.proofs.Common.{◌≡◌, ◌<◌, ℕ, ◌+◌, ◌/◌, ◌%◌, List, [], length, get_or, sym, ◌∙◌, ap, arith}
use Rattle.std.specs.List.{All, Contains}
use Rattle.disk.specs.Image.{part}
use Rattle.disk.proofs.Images.{get_or-part}
use Rattle.model.specs.Stream.{Octets}
use Rattle.model.specs.Files.{FileEntry, size, pointer, owned, content_of}
use Rattle.fs_inodes.proofs.Contents.{content_part}

-- the first octet of a part
first_of : (at : ℕ) (octets : Octets) → get_or (part at 1 octets) 0 0 ≡ get_or octets at 0
first_of at octets =
    let none : at + 0 ≡ at = omega arith in
    get_or-part at 1 octets 0 0 (omega arith) ∙ ap (λ (n : ℕ). get_or octets n 0) none

module _ (blocks : List Octets) (e : FileEntry) (whole : All (λ b. length b ≡ 4096) blocks) (within : (b : ℕ) → Contains (owned e) b
    → b < length blocks) where
  pub get_or-content : (k : ℕ) → k < size e
      → get_or (content_of blocks e) k 0 ≡ get_or (get_or blocks (pointer e (k / 4096)) []) (k % 4096) 0
  get_or-content k low =
      sym (first_of k (content_of blocks e))
      ∙ ap (λ (l : Octets). get_or l 0 0) (content_part blocks e whole within k 1 (omega arith) (omega arith) (omega arith))
      ∙ first_of (k % 4096) (get_or blocks (pointer e (k / 4096)) [])
