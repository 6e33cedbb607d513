-- The empty file system on zeroed blocks, of which the first are replaced.
use Rattle.std.proofs.Common.{◌≡◌, inl, inr, ◌≤◌, ◌+◌, ◌*◌, ◌/◌, ◌%◌, ◌^◌, ℕ, false, leb, ltb, eqb, List, None, [], length}
use Rattle.std.proofs.Common.{get_or, drop, replicate, refl, sym, ◌∙◌, ap, subst, arith}
use Rattle.std.specs.Prelude.{IsTrue, ◌&&◌}
use Rattle.std.specs.List.{All}
use Rattle.std.proofs.Math.Nat.{zero-div}
use Rattle.std.proofs.lemmas.Bool.{and_parts, cases_lt, eqb-true, le-ltb, leb-true}
use Rattle.std.proofs.lemmas.List.{get_or_past, length-replicate}
use Rattle.std.proofs.lemmas.List.Elements.{All-drop, All-replicate, All-take}
use Rattle.model.specs.Files.{HasRoom, bitmap_blocks, first_data, is_marked_used, most_blocks, most_inodes}
use Rattle.model.specs.Layout.{IsLabel, label_octets}
use Rattle.model.specs.Names.{is_host}
use Rattle.model.specs.Stream.{Octets}
use Rattle.model.specs.Volume.{block}
use Rattle.journal_layout.specs.Formatting.{zero_block, zeroed}
use Rattle.journal_layout.proofs.Formatted.{IsZero}
use Rattle.model.proofs.Owning.{zero_at}
use Rattle.fs_layout.specs.Bits.{bit_of}
use Rattle.fs_layout.specs.Table.{Makes}
use Rattle.fs_layout.proofs.Marking.{mark_at}
use Rattle.fs.specs.Emptying.{Emptied}
use Rattle.fs.proofs.Emptying.{makes_empty}
use Rattle.volume_new.specs.Formatting.{tables_of}
use Rattle.volume_new.specs.Sizes.{are_sizes}

-- ---- zeroed blocks

pub part_zero : (k : ℕ) (octets : List ℕ) → All IsZero octets → All IsZero (block k octets)
part_zero k octets all = All-take IsZero 4096 (drop (4096 * k) octets) (All-drop IsZero (4096 * k) octets all)

pub zero_block_zero : All IsZero zero_block
unfolding zero_block
zero_block_zero = All-replicate IsZero 4096 0 refl

pub zero_block_size : length zero_block ≡ 4096
unfolding zero_block
zero_block_size = length-replicate {A = ℕ} 4096 0

all_zero : (count : ℕ) → All (λ b. All IsZero b) (zeroed count)
all_zero count = All-replicate (λ b. All IsZero b) count zero_block zero_block_zero

-- ---- what its sizes say

pub record Sized (blocks inodes : ℕ) : Type 0 where
  pub low : 1024 ≤ blocks
  pub high : blocks ≤ most_blocks
  pub some : 64 ≤ inodes
  pub few : inodes ≤ most_inodes
  pub whole : inodes % 64 ≡ 0
  pub room : first_data blocks inodes + 256 ≤ blocks

pub sized : (blocks inodes : ℕ) → IsTrue (are_sizes blocks inodes) → Sized blocks inodes
sized blocks inodes are =
    let parts = and_parts (leb 1024 blocks && leb blocks most_blocks)
    ((leb 64 inodes && leb inodes most_inodes) && (eqb (inodes % 64) 0 && leb (first_data blocks inodes + 256) blocks)) are in
    let bounds = and_parts (leb 1024 blocks) (leb blocks most_blocks) parts.0 in
    let rest = and_parts (leb 64 inodes && leb inodes most_inodes)
    (eqb (inodes % 64) 0 && leb (first_data blocks inodes + 256) blocks) parts.1 in
    let counts = and_parts (leb 64 inodes) (leb inodes most_inodes) rest.0 in
    let ends = and_parts (eqb (inodes % 64) 0) (leb (first_data blocks inodes + 256) blocks) rest.1 in
    record {
      low = leb-true 1024 blocks bounds.0;
      high = leb-true blocks most_blocks bounds.1;
      some = leb-true 64 inodes counts.0;
      few = leb-true inodes most_inodes counts.1;
      whole = eqb-true (inodes % 64) 0 ends.0;
      room = leb-true (first_data blocks inodes + 256) blocks ends.1;
    }

-- ---- the blocks of the bitmap that have no mark are zeros, as they were

no_bit : (octets : Octets) → All IsZero octets → (b : ℕ) → bit_of octets b ≡ false
no_bit octets zeros b =
    ap (λ (o : ℕ). eqb (o / 2 ^ (b % 8) % 2) 1) (zero_at octets (b / 8) zeros) ∙ ap (λ (o : ℕ). eqb (o % 2) 1) (zero-div (2 ^ (b % 8)))

module _ (first t : ℕ) (old new : List Octets) (done : Emptied first t old new) (zeros : All (λ b. All IsZero b) old)
    (enough : first ≤ 32768 * t) where
  zeros_at : (n : ℕ) → t ≤ n → All IsZero (get_or new n [])
  zeros_at n past = subst (All IsZero) (sym (done.rest n past)) (elim (cases_lt n (length old)) [
    | inl low ↦ zeros n [] low
    | inr high ↦ subst (All IsZero) (sym (get_or_past old n [] high)) (λ k d low. absurd (omega arith))
  ])

  unmarked : (b : ℕ) → 32768 * t ≤ b → is_marked_used new b ≡ ltb b first
  unmarked b past =
      mark_at new b ∙ no_bit (get_or new (b / 32768) []) (zeros_at (b / 32768) (omega (arith, past))) (b % 32768)
      ∙ sym (le-ltb b first (omega (arith, past, enough)))

  -- so all blocks of the bitmap are as they should be
  pub emptied_all : (tables : ℕ) → t ≤ tables → Emptied first tables old new
  emptied_all tables more = record {
    count = done.count;
    whole = done.whole;
    marks = λ b low. elim (cases_lt b (32768 * t)) [
      | inl before ↦ done.marks b before
      | inr past ↦ unmarked b past
    ];
    rest = λ n high. done.rest n (omega (arith, more, high));
  }

-- ---- the first blocks are the bitmap of the empty file system

module _ (blocks inodes : ℕ) (its : Sized blocks inodes) where
  pub many : length (zeroed blocks) ≡ blocks
  many = length-replicate blocks zero_block

  room : HasRoom inodes (zeroed blocks)
  room = record {
    some = its.some;
    few = its.few;
    whole = its.whole;
    room = omega (arith, its.room, its.whole, many);
    count_few = omega (arith, its.high, many);
    blocks_whole = All-replicate (λ b. length b ≡ 4096) blocks zero_block zero_block_size;
  }

  module _ (new : List Octets) (done : Emptied (first_data blocks inodes) (tables_of (first_data blocks inodes)) (zeroed blocks) new) where
    pub as_many : length new ≡ blocks
    as_many = done.count ∙ many

    all_marked : Emptied (first_data blocks inodes) (bitmap_blocks blocks) (zeroed blocks) new
    all_marked =
        emptied_all (first_data blocks inodes) (tables_of (first_data blocks inodes)) (zeroed blocks) new done (all_zero blocks)
        (omega arith) (bitmap_blocks blocks) (omega (arith, its.room))

    pub makes : Makes inodes (replicate inodes None) new
    makes = makes_empty inodes (zeroed blocks) new room (all_zero blocks)
        (subst (λ (n : ℕ). Emptied (first_data n inodes) (bitmap_blocks n) (zeroed blocks) new) (sym many) all_marked)

-- ---- its label

pub labelled : (blocks inodes : ℕ) → Sized blocks inodes → (host : Octets) → IsTrue (is_host host) → (new : List Octets)
    → length new ≡ blocks → IsLabel (label_octets inodes host) (length new) inodes host
labelled blocks inodes its host named new many = record {
  octets = refl;
  host_is = named;
  some = its.some;
  few = its.few;
  whole = its.whole;
  room = omega (arith, its.room, many);
}
