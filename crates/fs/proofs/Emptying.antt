-- The empty file system.
use Rattle.std.proofs.Common.{◌≡◌, ◌≢◌, inl, inr, ◌<◌, ◌≤◌, ℕ, ◌+◌, ◌-◌, ◌*◌, ◌/◌, ◌%◌, ltb, None, List, [], length}
use Rattle.std.proofs.Common.{get_or, drop, set, replicate, refl, sym, ◌∙◌, ap, subst, arith, length-set}
use Rattle.std.specs.List.{All, Contains}
use Rattle.std.proofs.lemmas.List.{ext_get_or, get_or-replicate, length-replicate, get_or-set_same, get_or-set_other, get_or_past}
use Rattle.std.proofs.lemmas.List.Elements.{All-take, All-drop, All-set}
use Rattle.std.proofs.lemmas.Bool.{cases_lt, ltb-true, lt-ltb}
use Rattle.model.specs.Stream.{Octets}
use Rattle.model.specs.Volume.{AreDistinct}
use Rattle.model.specs.Files.{HasRoom, IsFree, owned, entry, first_data, is_marked_used, IsFileSystem, table}
use Rattle.model.specs.Files.{bitmap_bits, bitmap_blocks}
use Rattle.model.proofs.Owning.{free_kind, free_owns}
use Rattle.fs_layout.specs.Bits.{bit_of}
use Rattle.fs_layout.specs.Table.{Makes}
use Rattle.fs_layout.specs.Touches.{Touches}
use Rattle.fs_layout.proofs.Marking.{mark_at, mark_in}
use Rattle.fs_layout.proofs.Tables.{length-table, get_or-table, file_at_free}
use Rattle.fs_layout.proofs.Keeps.{keeps_room}
use Rattle.fs.specs.Emptying.{Emptied, MarksFirst, PutsBitmap}

-- ---- the bitmap, block by block

pub emptied_none : (first : ℕ) (old : List Octets) → Emptied first 0 old old
emptied_none first old = record {
  count = refl;
  whole = λ all. all;
  marks = λ b low. absurd (omega arith);
  rest = λ n high. refl;
}

module _ (first t : ℕ) (old mid : List Octets) (bitmap : Octets) (so_far : Emptied first t old mid) (there : t < length mid)
    (first_marked : MarksFirst t first bitmap) where
  written : bitmap ≡ get_or (set mid t bitmap) t []
  written = sym (get_or-set_same mid t bitmap [] there)

  marks_now : (b : ℕ) → b < 32768 * (t + 1) → is_marked_used (set mid t bitmap) b ≡ ltb b first
  marks_now b low = elim (cases_lt b (32768 * t)) [
    | inl before ↦
        mark_at (set mid t bitmap) b
        ∙ ap (λ (o : Octets). bit_of o (b % 32768)) (get_or-set_other mid t (b / 32768) bitmap [] (omega arith))
        ∙ sym (mark_at mid b) ∙ so_far.marks b before
    | inr here ↦
        let at : 32768 * t + (b - 32768 * t) ≡ b = omega arith in
        mark_in (set mid t bitmap) t b bitmap written here (omega arith) ∙ first_marked.bits (b - 32768 * t) (omega arith)
        ∙ ap (λ (k : ℕ). ltb k first) at
  ]

  emptied_set : Emptied first (t + 1) old (set mid t bitmap)
  emptied_set = record {
    count = length-set mid t bitmap ∙ so_far.count;
    whole = λ all. All-set (λ b. length b ≡ 4096) mid t bitmap first_marked.whole (so_far.whole all);
    marks = marks_now;
    rest = λ n high. get_or-set_other mid t n bitmap [] (omega arith) ∙ so_far.rest n (omega arith);
  }

pub emptied_more : (first t : ℕ) (old mid new : List Octets) → Emptied first t old mid → t < length mid → PutsBitmap t first mid new
    → Emptied first (t + 1) old new
emptied_more first t old mid new so_far there put =
    subst (λ (bs : List Octets). Emptied first (t + 1) old bs) (sym put.puts)
    (emptied_set first t old mid put.bitmap so_far there put.marks)

-- ---- the file system

abbrev AreZeros : Octets → Type 0
AreZeros octets = All (λ o. o ≡ 0) octets

module _ (inodes : ℕ) (old new : List Octets) (room : HasRoom inodes old) (zeros : All (λ block. All (λ o. o ≡ 0) block) old)
    (done : Emptied (first_data (length old) inodes) (bitmap_blocks (length old)) old new) where
  zero_block : (n : ℕ) → bitmap_blocks (length new) ≤ n → AreZeros (get_or new n [])
  zero_block n high = subst AreZeros (sym (done.rest n (omega (arith, high, done.count)))) (elim (cases_lt n (length old)) [
    | inl low ↦ zeros n [] low
    | inr past ↦ subst AreZeros (sym (get_or_past old n [] past)) (λ k d low. absurd (omega arith))
  ])

  pub empty_entry : (k : ℕ) → IsFree (entry inodes new k)
  empty_entry k = record {
    inode_zeros = All-take (λ o. o ≡ 0) 64 (drop (k % 64 * 64) (get_or new (bitmap_blocks (length new) + k / 64) []))
        (All-drop (λ o. o ≡ 0) (k % 64 * 64) (get_or new (bitmap_blocks (length new) + k / 64) [])
        (zero_block (bitmap_blocks (length new) + k / 64) (omega arith)));
    slot_zeros = All-take (λ o. o ≡ 0) 64 (drop (k % 64 * 64) (get_or new (bitmap_blocks (length new) + inodes / 64 + k / 64) []))
        (All-drop (λ o. o ≡ 0) (k % 64 * 64) (get_or new (bitmap_blocks (length new) + inodes / 64 + k / 64) [])
        (zero_block (bitmap_blocks (length new) + inodes / 64 + k / 64) (omega arith)));
  }

  owns_nothing : (k b : ℕ) → ¬ (Contains (owned (entry inodes new k)) b)
  owns_nothing k b owns =
      let none = subst (λ (o : List ℕ). Contains o b) (free_owns (entry inodes new k) (empty_entry k)) owns in
      omega (arith, none.1)

  rule : IsFileSystem inodes new
  rule = record {
    each = λ k low. inl (empty_entry k);
    within = λ k b low owns. absurd (owns_nothing k b owns);
    distinct = λ k low. subst AreDistinct (sym (free_owns (entry inodes new k) (empty_entry k)))
        (λ i j less inside. absurd (omega arith));
    one_owner = λ k l b low below owns also. absurd (owns_nothing k b owns);
    bits = λ b small. (
      (λ marked. inl (omega (
        arith,
        done.count,
        ltb-true b (first_data (length old) inodes)
            (sym (done.marks b (omega (arith, small, done.count))) ∙ marked),
      ))),
      (λ used. elim used [
        | inl reserved ↦ done.marks b (omega (arith, small, done.count))
            ∙ lt-ltb b (first_data (length old) inodes) (omega (arith, reserved, done.count))
        | inr owner ↦ absurd (owns_nothing owner.0 b owner.2)
      ]),
    );
    names_distinct = λ k l low below file other same. absurd (let zero = free_kind (entry inodes new k) (empty_entry k) in
        omega (arith, file.kind_is));
  }

  pub makes_empty : Makes inodes (replicate inodes None) new
  makes_empty = record {
    room = keeps_room inodes old new room done.count (done.whole room.blocks_whole);
    rule = rule;
    files_are = ext_get_or None (table inodes new) (replicate inodes None) (length-table inodes new
        ∙ sym (length-replicate inodes None)) (λ k low.
        let inside : k < inodes = omega (arith, length-table inodes new) in
        get_or-table inodes new k inside ∙ file_at_free inodes new k (empty_entry k)
        ∙ sym (get_or-replicate inodes k None None inside));
  }

  pub touches_none : Touches 0 old new
  touches_none = record {
    count = done.count;
    others = [];
    few = omega arith;
    same = λ b some lacks. done.rest b some;
  }
