-- The numbers of an inode, after some of them were put there.
use Rattle.std.proofs.Common.{◌≡◌, ◌<◌, ◌≤◌, ℕ, ◌+◌, ◌*◌, ◌/◌, ◌%◌, List, [], length, get_or, map, take, sym, ◌∙◌, ap, arith}
use Rattle.std.specs.List.{All, Contains, range_with_len}
use Rattle.std.proofs.lemmas.List.{ext_get_or, get_or-take, length-take-le}
use Rattle.std.proofs.lemmas.List.FromFn.{length-map-range_with_len, get_or-map-range_with_len}
use Rattle.disk.proofs.Images.{length-part}
use Rattle.model.specs.Stream.{Octets}
use Rattle.model.specs.Files.{FileEntry, HasRoom, size, block_count, pointer, owned, content_of, inode_of}
use Rattle.model.specs.Files.{bitmap_blocks}
use Rattle.model.proofs.Owning.{content_size}
use Rattle.fs_inodes.proofs.Places.{get_or-content}

pub length-inode : (inodes k : ℕ) (blocks : List Octets) → HasRoom inodes blocks → k < inodes → length (inode_of blocks k) ≡ 64
length-inode inodes k blocks room low =
    let there : bitmap_blocks (length blocks) + k / 64 < length blocks = omega (arith, room.room, room.whole) in
    let whole = room.blocks_whole (bitmap_blocks (length blocks) + k / 64) [] there in
    length-part (k % 64 * 64) 64 (get_or blocks (bitmap_blocks (length blocks) + k / 64) []) (omega arith)

pub map_same : (f g : ℕ → ℕ) (n m : ℕ) → n ≡ m → ((i : ℕ) → i < n → f i ≡ g i) → map f (range_with_len 0 n) ≡ map g (range_with_len 0 m)
map_same f g n m is same =
    ext_get_or 0 (map f (range_with_len 0 n)) (map g (range_with_len 0 m)) (length-map-range_with_len f 0 n ∙ is
    ∙ sym (length-map-range_with_len g 0 m)) (λ i low.
    let inside : i < n = omega (arith, length-map-range_with_len f 0 n) in
    get_or-map-range_with_len f 0 n i i 0 inside (omega arith) ∙ same i inside
    ∙ sym (get_or-map-range_with_len g 0 m i i 0 (omega arith) (omega arith)))

-- a prefix of the same blocks
pub content_front : (old new : List Octets) (e f : FileEntry) → All (λ b. length b ≡ 4096) old
    → ((b : ℕ) → Contains (owned e) b → b < length old) → All (λ b. length b ≡ 4096) new → ((b : ℕ) → Contains (owned f) b → b < length new)
    → size f ≤ size e → ((i : ℕ) → i < block_count f → get_or new (pointer f i) [] ≡ get_or old (pointer e i) [])
    → take (size f) (content_of old e) ≡ content_of new f
content_front old new e f whole within whole' within' less same =
    ext_get_or 0 (take (size f) (content_of old e)) (content_of new f) (front ∙ sym (content_size new f whole' within')) (λ j low.
    let small : j < size f = omega (arith, front) in
    get_or-take (size f) (content_of old e) j 0 small
    ∙ get_or-content old e whole within j (omega arith)
    ∙ ap (λ (o : Octets). get_or o (j % 4096) 0) (sym (same (j / 4096) (omega arith)))
    ∙ sym (get_or-content new f whole' within' j small))
  where
    front : length (take (size f) (content_of old e)) ≡ size f
    front = length-take-le (size f) (content_of old e) (omega (arith, content_size old e whole within))
