-- A pointer of an inode is put.
use Rattle.std.proofs.Common.{◌≡◌, ◌≢◌, ◌⊎◌, inl, inr, ◌<◌, ◌≤◌, ℕ, ◌+◌, ◌-◌, ◌*◌, ◌/◌, ◌%◌, ◌^◌, cond, eqb, Bool, List}
use Rattle.std.proofs.Common.{[], length, get_or, set, refl, sym, ◌∙◌, ap, arith, length-set}
use Rattle.std.proofs.lemmas.List.{get_or-set_same, get_or-set_other}
use Rattle.std.proofs.lemmas.List.Elements.{All-set}
use Rattle.std.proofs.lemmas.Bool.{cases_eq, cases_lt, cases_order, eq-eqb, ne_eqb, lt-ltb, le-ltb}
use Rattle.byteorder.specs.Endian.{little_bytes}
use Rattle.disk.specs.Image.{overwritten}
use Rattle.disk.proofs.Images.{length-overwritten}
use Rattle.disk_numbers.proofs.Numbers.{number_at_apart, number_at_written}
use Rattle.model.specs.Stream.{Octets}
use Rattle.model.specs.Volume.{number_at}
use Rattle.model.specs.Files.{indirect_of, indirect_pointer, pointer}
use Rattle.model.specs.Files.{bitmap_blocks}
use Rattle.fs_inodes.specs.Growing.{IsApart, PutsIndirect, PutsPointer, inode_entry}
use Rattle.fs_layout.proofs.Keeps.{indirect_same}

-- a pointer in the inode, and one in a block of pointers
pub in_inode : (blocks : List Octets) (inode : Octets) (j : ℕ) → j < 10
    → pointer (inode_entry blocks inode) j ≡ number_at (12 + 4 * j) 4 inode
in_inode blocks inode j low = ap
    (λ (t : Bool). cond t (number_at (12 + 4 * j) 4 inode)
    (number_at (4 * ((j - 10) % 1024)) 4 ((inode_entry blocks inode).pointers ((j - 10) / 1024)))) (lt-ltb j 10 low)

pub in_block : (blocks : List Octets) (inode : Octets) (j : ℕ) → 10 ≤ j
    → pointer (inode_entry blocks inode) j ≡ number_at (4 * ((j - 10) % 1024)) 4
    (indirect_of blocks (indirect_pointer (inode_entry blocks inode) ((j - 10) / 1024)))
in_block blocks inode j high = ap
    (λ (t : Bool). cond t (number_at (12 + 4 * j) 4 inode)
    (number_at (4 * ((j - 10) % 1024)) 4 ((inode_entry blocks inode).pointers ((j - 10) / 1024)))) (le-ltb j 10 high)

-- places of pointers in one block
places_apart : (i j : ℕ) → i ≢ j → (4 * j + 4 ≤ 4 * i) ⊎ (4 * i + 4 ≤ 4 * j)
places_apart i j other = elim (cases_order j i) [
  | inl same ↦ absurd (other (sym same))
  | inr ordered ↦ elim ordered [ inl below ↦ inl (omega (arith, below)) | inr above ↦ inr (omega (arith, above)) ]
]

module _ (i number : ℕ) (inode : Octets) (size : length inode ≡ 64) (fits : number < 2 ^ 32) where
  module _ (blocks : List Octets) (low : i < 10) where
    abbrev direct : Octets
    direct = overwritten (12 + 4 * i) (little_bytes 4 number) inode

    behind_same : (a w : ℕ) → 52 ≤ a → number_at a w direct ≡ number_at a w inode
    behind_same a w behind = number_at_apart (12 + 4 * i) (little_bytes 4 number) inode (omega (arith, size, low)) a w
        (inr (omega (arith, behind, low)))

    same_number : (q : ℕ) → indirect_pointer (inode_entry blocks direct) q ≡ indirect_pointer (inode_entry blocks inode) q
    same_number q =
        ap (λ (m : ℕ). cond (eqb q 0) m (number_at (4 * (q - 1)) 4 (indirect_of blocks (number_at 56 4 direct))))
        (behind_same 52 4 (omega arith))
        ∙ ap (λ (m : ℕ). cond (eqb q 0) (number_at 52 4 inode) (number_at (4 * (q - 1)) 4 (indirect_of blocks m)))
        (behind_same 56 4 (omega arith))

    pub puts_direct : PutsPointer i number inode (overwritten (12 + 4 * i) (little_bytes 4 number) inode) blocks blocks
    puts_direct = record {
      count = refl;
      whole = λ all. all;
      size = length-overwritten (12 + 4 * i) (little_bytes 4 number) inode (omega (arith, size, low));
      here = in_inode blocks direct i low ∙ number_at_written (12 + 4 * i) 4 number inode (omega (arith, size, low)) (omega (arith, fits));
      other = λ j apart. elim (cases_lt j 10) [
        | inl small ↦
            in_inode blocks direct j small
            ∙ number_at_apart (12 + 4 * i) (little_bytes 4 number) inode (omega (arith, size, low)) (12 + 4 * j) 4
            (elim (places_apart i j (λ is. apart (sym is))) [
              | inl before ↦ inl (omega (arith, before))
              | inr after ↦ inr (omega (arith, after))
            ])
            ∙ sym (in_inode blocks inode j small)
        | inr high ↦
            in_block blocks direct j high ∙ ap (λ (m : ℕ). number_at (4 * ((j - 10) % 1024)) 4 (indirect_of blocks m))
            (same_number ((j - 10) / 1024)) ∙ sym (in_block blocks inode j high)
      ];
      indirect = same_number;
      head = λ a w before. number_at_apart (12 + 4 * i) (little_bytes 4 number) inode (omega (arith, size, low)) a w
          (inl (omega (arith, before)));
      tail = λ a w behind. behind_same a w behind;
      marks = λ b few. refl;
      blocks = λ b apart. refl;
    }

  module _ (blocks : List Octets) (block : Octets) (high : 10 ≤ i) (at : ℕ)
      (at_is : at ≡ indirect_pointer (inode_entry blocks inode) ((i - 10) / 1024)) (some : bitmap_blocks (length blocks) ≤ at)
      (there : at < length blocks)
      (apart_from : IsApart ((i - 10) / 1024) (inode_entry blocks inode)) (is : block ≡ get_or blocks at [])
      (whole : length block ≡ 4096) where
    abbrev place : ℕ
    place = 4 * ((i - 10) % 1024)

    abbrev written : Octets
    written = overwritten (4 * ((i - 10) % 1024)) (little_bytes 4 number) block

    abbrev new : List Octets
    new = set blocks at written

    stays : (n : ℕ) → n ≢ at → indirect_of new n ≡ indirect_of blocks n
    stays n other = indirect_same blocks new n (λ t. get_or-set_other blocks at n written [] other)

    double_stays : indirect_of new (number_at 56 4 inode) ≡ indirect_of blocks (number_at 56 4 inode)
    double_stays = stays (number_at 56 4 inode) (λ same. apart_from.double (same ∙ at_is))

    same_numbers : (q : ℕ) → indirect_pointer (inode_entry new inode) q ≡ indirect_pointer (inode_entry blocks inode) q
    same_numbers q = ap (λ (o : Octets). cond (eqb q 0) (number_at 52 4 inode) (number_at (4 * (q - 1)) 4 o)) double_stays

    is_written : indirect_of new at ≡ written
    is_written = ap (λ (t : Bool). cond t [] (get_or new at [])) (ne_eqb at 0 (λ none. absurd (omega (arith, some, none))))
        ∙ get_or-set_same blocks at written [] there

    was : indirect_of blocks at ≡ block
    was = ap (λ (t : Bool). cond t [] (get_or blocks at [])) (ne_eqb at 0 (λ none. absurd (omega (arith, some, none)))) ∙ sym is

    -- the block of pointers that is written, and the others
    here_now : (q : ℕ) → q ≡ (i - 10) / 1024 → indirect_of new (indirect_pointer (inode_entry new inode) q) ≡ written
    here_now q same = ap (indirect_of new) (same_numbers q ∙ ap (λ (p : ℕ). indirect_pointer (inode_entry blocks inode) p) same ∙ sym at_is)
        ∙ is_written

    here_was : (q : ℕ) → q ≡ (i - 10) / 1024 → indirect_of blocks (indirect_pointer (inode_entry blocks inode) q) ≡ block
    here_was q same = ap (indirect_of blocks) (ap (λ (p : ℕ). indirect_pointer (inode_entry blocks inode) p) same ∙ sym at_is) ∙ was

    elsewhere : (q : ℕ) → q ≢ (i - 10) / 1024
        → indirect_of new (indirect_pointer (inode_entry new inode) q) ≡ indirect_of blocks (indirect_pointer (inode_entry blocks inode) q)
    elsewhere q other = ap (indirect_of new) (same_numbers q)
        ∙ stays (indirect_pointer (inode_entry blocks inode) q) (λ same. apart_from.others q other (same ∙ at_is))

    pub puts_indirect : PutsPointer i number inode inode blocks
        (set blocks at (overwritten (4 * ((i - 10) % 1024)) (little_bytes 4 number) block))
    puts_indirect = record {
      count = length-set blocks at written;
      whole = λ all. All-set (λ b. length b ≡ 4096) blocks at written
          (length-overwritten place (little_bytes 4 number) block (omega (arith, whole)) ∙ whole) all;
      size = refl;
      here =
          in_block new inode i high ∙ ap (number_at place 4) (here_now ((i - 10) / 1024) refl)
          ∙ number_at_written place 4 number block (omega (arith, whole)) (omega (arith, fits));
      other = λ j apart. elim (cases_lt j 10) [
        | inl small ↦ in_inode new inode j small ∙ sym (in_inode blocks inode j small)
        | inr past ↦
            in_block new inode j past
            ∙ elim (cases_eq ((j - 10) / 1024) ((i - 10) / 1024)) [
              | inl same ↦
                  let others : (i - 10) % 1024 ≢ (j - 10) % 1024 = λ equal. apart (omega (arith, equal, same, high, past)) in
                  ap (number_at (4 * ((j - 10) % 1024)) 4) (here_now ((j - 10) / 1024) same)
                  ∙ number_at_apart place (little_bytes 4 number) block (omega (arith, whole)) (4 * ((j - 10) % 1024)) 4
                  (elim (places_apart ((i - 10) % 1024) ((j - 10) % 1024) others) [
                    | inl before ↦ inl (omega (arith, before))
                    | inr after ↦ inr (omega (arith, after))
                  ])
                  ∙ ap (number_at (4 * ((j - 10) % 1024)) 4) (sym (here_was ((j - 10) / 1024) same))
              | inr other ↦ ap (number_at (4 * ((j - 10) % 1024)) 4) (elsewhere ((j - 10) / 1024) other)
            ]
            ∙ sym (in_block blocks inode j past)
      ];
      indirect = same_numbers;
      head = λ a w before. refl;
      tail = λ a w behind. refl;
      marks = λ b low. get_or-set_other blocks at b written [] (λ same. absurd (omega (arith, low, some, same)));
      blocks = λ b apart. get_or-set_other blocks at b written [] (λ same. apart (same ∙ at_is));
    }

-- ---- the number of a block of pointers

-- one that is in the double-indirect block
pub in_double : (blocks : List Octets) (inode : Octets) (q : ℕ) → q ≢ 0
    → indirect_pointer (inode_entry blocks inode) q ≡ number_at (4 * (q - 1)) 4 (indirect_of blocks (number_at 56 4 inode))
in_double blocks inode q other =
    ap (λ (t : Bool). cond t (number_at 52 4 inode) (number_at (4 * (q - 1)) 4 (indirect_of blocks (number_at 56 4 inode))))
    (ne_eqb q 0 other)

module _ (number : ℕ) (inode : Octets) (size : length inode ≡ 64) (fits : number < 2 ^ 32) where
  module _ (blocks : List Octets) where
    abbrev first : Octets
    first = overwritten 52 (little_bytes 4 number) inode

    first_tail : (a w : ℕ) → 56 ≤ a → number_at a w first ≡ number_at a w inode
    first_tail a w behind = number_at_apart 52 (little_bytes 4 number) inode (omega (arith, size)) a w (inr (omega (arith, behind)))

    first_other : (q : ℕ) → q ≢ 0 → indirect_pointer (inode_entry blocks first) q ≡ indirect_pointer (inode_entry blocks inode) q
    first_other q other =
        in_double blocks first q other ∙ ap (λ (m : ℕ). number_at (4 * (q - 1)) 4 (indirect_of blocks m)) (first_tail 56 4 (omega arith))
        ∙ sym (in_double blocks inode q other)

    pub puts_first : PutsIndirect 0 number inode (overwritten 52 (little_bytes 4 number) inode) blocks blocks
    puts_first = record {
      count = refl;
      whole = λ all. all;
      size = length-overwritten 52 (little_bytes 4 number) inode (omega (arith, size));
      here = number_at_written 52 4 number inode (omega (arith, size)) (omega (arith, fits));
      other = first_other;
      octets = λ q other. ap (indirect_of blocks) (first_other q other);
      head = λ a w before. number_at_apart 52 (little_bytes 4 number) inode (omega (arith, size)) a w (inl (omega (arith, before)));
      tail = first_tail;
      marks = λ b few. refl;
      blocks = λ b apart. refl;
    }

  module _ (p : ℕ) (blocks : List Octets) (block : Octets) (some_p : 0 < p) (few : p < 1025) (at : ℕ) (at_is : at ≡ number_at 56 4 inode)
      (some : bitmap_blocks (length blocks) ≤ at) (there : at < length blocks)
      (apart_from : (q : ℕ) → q ≢ p → indirect_pointer (inode_entry blocks inode) q ≢ number_at 56 4 inode)
      (is : block ≡ get_or blocks at []) (whole : length block ≡ 4096) where
    abbrev put : Octets
    put = overwritten (4 * (p - 1)) (little_bytes 4 number) block

    abbrev later : List Octets
    later = set blocks at put

    p_some : p ≢ 0
    p_some none = absurd (omega (arith, none, some_p))

    double_now : indirect_of later (number_at 56 4 inode) ≡ put
    double_now =
        ap (indirect_of later) (sym at_is)
        ∙ ap (λ (t : Bool). cond t [] (get_or later at [])) (ne_eqb at 0 (λ none. absurd (omega (arith, some, none))))
        ∙ get_or-set_same blocks at put [] there

    double_was : indirect_of blocks (number_at 56 4 inode) ≡ block
    double_was = ap (indirect_of blocks) (sym at_is)
        ∙ ap (λ (t : Bool). cond t [] (get_or blocks at [])) (ne_eqb at 0 (λ none. absurd (omega (arith, some, none)))) ∙ sym is

    later_other : (q : ℕ) → q ≢ p → indirect_pointer (inode_entry later inode) q ≡ indirect_pointer (inode_entry blocks inode) q
    later_other q other = elim (cases_eq q 0) [
      | inl none ↦
          ap (λ (t : Bool). cond t (number_at 52 4 inode) (number_at (4 * (q - 1)) 4 (indirect_of later (number_at 56 4 inode))))
          (eq-eqb q 0 none)
          ∙ sym (ap (λ (t : Bool). cond t (number_at 52 4 inode) (number_at (4 * (q - 1)) 4 (indirect_of blocks (number_at 56 4 inode))))
          (eq-eqb q 0 none))
      | inr some_q ↦
          in_double later inode q some_q
          ∙ ap (number_at (4 * (q - 1)) 4) double_now
          ∙ number_at_apart (4 * (p - 1)) (little_bytes 4 number) block (omega (arith, whole, few)) (4 * (q - 1)) 4
          (elim (places_apart (p - 1) (q - 1) (λ same. absurd (other (omega (arith, same, some_p, some_q))))) [
            | inl before ↦
                inl (omega (arith, before))
            | inr after ↦ inr (omega (arith, after))
          ])
          ∙ ap (number_at (4 * (q - 1)) 4) (sym double_was)
          ∙ sym (in_double blocks inode q some_q)
    ]

    pub puts_later : PutsIndirect p number inode inode blocks (set blocks at (overwritten (4 * (p - 1)) (little_bytes 4 number) block))
    puts_later = record {
      count = length-set blocks at put;
      whole = λ all. All-set (λ b. length b ≡ 4096) blocks at put
          (length-overwritten (4 * (p - 1)) (little_bytes 4 number) block (omega (arith, whole, few)) ∙ whole) all;
      size = refl;
      here = in_double later inode p p_some ∙ ap (number_at (4 * (p - 1)) 4) double_now
          ∙ number_at_written (4 * (p - 1)) 4 number block (omega (arith, whole, few)) (omega (arith, fits));
      other = later_other;
      octets = λ q other.
          ap (indirect_of later) (later_other q other)
          ∙ indirect_same blocks later (indirect_pointer (inode_entry blocks inode) q)
          (λ t. get_or-set_other blocks at (indirect_pointer (inode_entry blocks inode) q) put []
          (λ same. apart_from q other (same ∙ at_is)));
      head = λ a w before. refl;
      tail = λ a w behind. refl;
      marks = λ b low. get_or-set_other blocks at b put [] (λ same. absurd (omega (arith, low, some, same)));
      blocks = λ b apart. get_or-set_other blocks at b put [] (λ same. apart (same ∙ at_is));
    }
