-- Blocks in pieces.
use Rattle.std.proofs.Common.{◌≡◌, ◌≢◌, inl, inr, ◌<◌, ◌≤◌, ℕ, ◌+◌, ◌-◌, ◌*◌, ◌/◌, ◌%◌, Bool, true, false, ltb, List, [], ◌∷◌, ◌++◌}
use Rattle.std.proofs.Common.{length, get_or, set, take, replicate, refl, sym, ◌∙◌, ap, subst, arith, length-set, Vec, Global}
use Rattle.std.specs.List.{All}
use Rattle.std.proofs.lemmas.List.{ext_get_or, get_or-set_same, get_or-set_other, get_or-map, get_or-replicate, get_or_past, length-map}
use Rattle.std.proofs.lemmas.List.{length-replicate, map-set, set-get_or, take-replicate, drop-replicate, take_all, append-nil}
use Rattle.std.proofs.lemmas.List.{nil_from_length}
use Rattle.std.proofs.lemmas.List.FromFn.{get_or-map-range_with_len, length-map-range_with_len}
use Rattle.std.proofs.lemmas.List.Elements.{All-from_get_or}
use Rattle.std.proofs.lemmas.Bool.{cases_eq, cases_lt, ltb-true}
use Rattle.disk.specs.Image.{overwritten}
use Rattle.model.specs.Volume.{block}
use Rattle.fs_blocks.proofs.Octets.{length-block, block-put, block-put_other, length-put}
use Rattle.journal_volume.specs.Pieces.{ArePieces, IsMade, block_in, block_at, octets_of, view_of, zero_block}

-- ---- blocks of a piece

pub length-zero_block : length zero_block ≡ 4096
unfolding zero_block
length-zero_block = length-replicate {A = ℕ} 4096 0

pub zeros_are : replicate 4096 0 ≡ zero_block
unfolding zero_block
zeros_are = refl

pub in_none : (piece : List ℕ) (k : ℕ) → length piece ≡ 0 → block_in piece k ≡ zero_block
in_none [] k none = refl
in_none (octet ∷ octets) k none = absurd (omega arith)

pub in_some : (piece : List ℕ) (k : ℕ) → 0 < length piece → block_in piece k ≡ block k piece
in_some [] k some = absurd (omega arith)
in_some (octet ∷ octets) k some = refl

pub length-block_in : (piece : List ℕ) (k : ℕ) → k < 256 → (0 < length piece → length piece ≡ 1048576)
    → length (block_in piece k) ≡ 4096
length-block_in piece k below whole = elim (cases_eq (length piece) 0) [
  | inl none ↦ ap length (in_none piece k none) ∙ length-zero_block
  | inr other ↦
      let some : 0 < length piece = omega arith in
      let size = whole some in
      ap length (in_some piece k some) ∙ length-block k piece (omega arith)
]

block_of_zeros : (n k : ℕ) → 4096 * k + 4096 ≤ n → block k (replicate n 0) ≡ zero_block
unfolding zero_block
block_of_zeros n k fits =
    ap (λ (l : List ℕ). take 4096 l) (drop-replicate (4096 * k) n 0) ∙ take-replicate 4096 (n - 4096 * k) 0 (omega arith)

-- a piece that is filled up with zeros
module _ (n : ℕ) (piece filled : List ℕ) (whole : 0 < length piece → length piece ≡ n)
    (is : filled ≡ take n piece ++ replicate (n - length piece) 0) where
  filled_none : length piece ≡ 0 → filled ≡ replicate n 0
  filled_none none =
      let rest : n - length piece ≡ n = omega arith in
      is ∙ ap (λ (m : ℕ). take n piece ++ replicate m 0) rest ∙ ap (λ (l : List ℕ). take n l ++ replicate n 0) (nil_from_length piece none)
      ∙ ap (λ (l : List ℕ). l ++ replicate n 0) (take_all n [] (omega arith))

  filled_some : 0 < length piece → filled ≡ piece
  filled_some some =
      let size : length piece ≤ n = omega (arith, whole some) in
      let rest : n - length piece ≡ 0 = omega (arith, whole some) in
      is ∙ ap (λ (l : List ℕ). l ++ replicate (n - length piece) 0) (take_all n piece size)
      ∙ ap (λ (k : ℕ). piece ++ replicate k 0) rest ∙ append-nil piece

  pub length-filled : length filled ≡ n
  length-filled = elim (cases_eq (length piece) 0) [
    | inl none ↦ ap length (filled_none none) ∙ length-replicate n 0
    | inr other ↦ let some : 0 < length piece = omega arith in ap length (filled_some some) ∙ whole some
  ]

  pub in_filled : (k : ℕ) → 4096 * k + 4096 ≤ n → block_in filled k ≡ block_in piece k
  in_filled k fits = elim (cases_eq (length piece) 0) [
    | inl none ↦
        in_some filled k (omega (arith, length-filled)) ∙ ap (λ (l : List ℕ). block k l) (filled_none none) ∙ block_of_zeros n k fits
        ∙ sym (in_none piece k none)
    | inr other ↦ let some : 0 < length piece = omega arith in ap (λ (l : List ℕ). block_in l k) (filled_some some)
  ]

-- ---- blocks of pieces

pub length-view : (count : ℕ) (pieces : List (List ℕ)) → length (view_of count pieces).blocks ≡ count
length-view count pieces = length-map-range_with_len (λ n. block_at pieces n) 0 count

pub get_or-view : (count n : ℕ) (pieces : List (List ℕ)) → n < count → get_or (view_of count pieces).blocks n [] ≡ block_at pieces n
get_or-view count n pieces below = get_or-map-range_with_len (λ n. block_at pieces n) 0 count n n [] below (omega arith)

-- pieces without octets
nothing_at : (many i : ℕ) → get_or (replicate {A = List ℕ} many []) i [] ≡ []
nothing_at many i = elim (cases_lt i many) [
  | inl inside ↦ get_or-replicate many i [] [] inside
  | inr past ↦ get_or_past (replicate many []) i [] (omega (arith, length-replicate {A = List ℕ} many []))
]

pub none_are : (count many : ℕ) → count ≤ 256 * many → ArePieces count (replicate many [])
none_are count many enough = record {
  enough = omega (arith, length-replicate {A = List ℕ} many []);
  whole = λ i some. absurd (omega (arith, ap length (nothing_at many i)));
}

pub zeros_in : (count many : ℕ) → (view_of count (replicate many [])).blocks ≡ replicate count zero_block
zeros_in count many =
    ext_get_or [] (view_of count (replicate many [])).blocks (replicate count zero_block)
    (length-view count (replicate many []) ∙ sym (length-replicate count zero_block)) (λ n low.
    let below : n < count = omega (arith, length-view count (replicate many [])) in
    get_or-view count n (replicate many []) below ∙ ap (λ (c : List ℕ). block_in c (n % 256)) (nothing_at many (n / 256))
    ∙ sym (get_or-replicate count n zero_block [] below))

module _ (count : ℕ) (pieces : List (List ℕ)) (are : ArePieces count pieces) where
  pub piece_there : (n : ℕ) → n < count → n / 256 < length pieces
  piece_there n below = omega (arith, are.enough)

  pub length-at : (n : ℕ) → n < count → length (block_at pieces n) ≡ 4096
  length-at n below = length-block_in (get_or pieces (n / 256) []) (n % 256) (omega arith) (are.whole (n / 256))

  pub view_whole : All (λ octets. length octets ≡ 4096) (view_of count pieces).blocks
  view_whole = All-from_get_or (λ octets. length octets ≡ 4096) (view_of count pieces).blocks [] (λ n low.
      let below : n < count = omega (arith, length-view count pieces) in
      ap length (get_or-view count n pieces below) ∙ length-at n below)

  made_is : (i : ℕ) → i < length pieces
      → get_or (view_of count pieces).made i false ≡ ltb 0 (length (get_or pieces i []))
  made_is i there = get_or-map (λ piece. ltb 0 (length piece)) pieces i [] false there

  pub has_octets : (n : ℕ) → n < count → IsMade (view_of count pieces).made n → 0 < length (get_or pieces (n / 256) [])
  has_octets n below made =
      ltb-true 0 (length (get_or pieces (n / 256) [])) (sym (made_is (n / 256) (piece_there n below)) ∙ made)

  -- another piece in place of one
  module _ (i : ℕ) (piece : List ℕ) (there : i < length pieces) where
    pub at_same : (n : ℕ) → n / 256 ≡ i → block_at (set pieces i piece) n ≡ block_in piece (n % 256)
    at_same n is =
        ap (λ (c : List ℕ). block_in c (n % 256))
        (ap (λ (j : ℕ). get_or (set pieces i piece) j []) is ∙ get_or-set_same pieces i piece [] there)

    pub at_other : (n : ℕ) → n / 256 ≢ i → block_at (set pieces i piece) n ≡ block_at pieces n
    at_other n other = ap (λ (c : List ℕ). block_in c (n % 256)) (get_or-set_other pieces i (n / 256) piece [] other)

    pub set_are : length piece ≡ 1048576 → ArePieces count (set pieces i piece)
    set_are size = record {
      enough = omega (arith, are.enough, length-set pieces i piece);
      whole = λ j. elim (cases_eq j i) [
        | inl is ↦ λ some. ap (λ (k : ℕ). length (get_or (set pieces i piece) k [])) is
            ∙ ap length (get_or-set_same pieces i piece [] there) ∙ size
        | inr other ↦ subst (λ (l : List ℕ). 0 < length l → length l ≡ 1048576) (sym (get_or-set_other pieces i j piece [] other))
            (are.whole j)
      ];
    }

    -- the same blocks
    pub set_blocks : ((k : ℕ) → k < 256 → block_in piece k ≡ block_in (get_or pieces i []) k)
        → (view_of count (set pieces i piece)).blocks ≡ (view_of count pieces).blocks
    set_blocks same =
        ext_get_or [] (view_of count (set pieces i piece)).blocks (view_of count pieces).blocks
        (length-view count (set pieces i piece) ∙ sym (length-view count pieces)) (λ n low.
        let below : n < count = omega (arith, length-view count (set pieces i piece)) in
        get_or-view count n (set pieces i piece) below ∙ at n ∙ sym (get_or-view count n pieces below))
      where
        at : (n : ℕ) → block_at (set pieces i piece) n ≡ block_at pieces n
        at n = elim (cases_eq (n / 256) i) [
          | inl is ↦
              at_same n is ∙ same (n % 256) (omega arith) ∙ ap (λ (j : ℕ). block_in (get_or pieces j []) (n % 256)) (sym is)
          | inr other ↦ at_other n other
        ]

    pub set_room : 0 < length piece → (n : ℕ) → n / 256 ≡ i → IsMade (view_of count (set pieces i piece)).made n
    set_room some n is =
        ap (λ (j : ℕ). get_or (view_of count (set pieces i piece)).made j false) is
        ∙ get_or-map (λ c. ltb 0 (length c)) (set pieces i piece) i [] false (omega (arith, length-set pieces i piece))
        ∙ ap (λ (c : List ℕ). ltb 0 (length c)) (get_or-set_same pieces i piece [] there)
        ∙ above (length piece) some
      where
        above : (m : ℕ) → 0 < m → ltb 0 m ≡ true
        above m low = grind arith

    pub set_kept : 0 < length piece → (n : ℕ) → IsMade (view_of count pieces).made n
        → IsMade (view_of count (set pieces i piece)).made n
    set_kept some n made = elim (cases_eq (n / 256) i) [
      | inl is ↦ set_room some n is
      | inr other ↦
          ap (λ (l : List Bool). get_or l (n / 256) false) (map-set (λ c. ltb 0 (length c)) pieces i piece)
          ∙ get_or-set_other (view_of count pieces).made i (n / 256) (ltb 0 (length piece)) false other ∙ made
    ]

  -- a put of a block
  module _ (n : ℕ) (from piece : List ℕ) (below : n < count) (whole : length from ≡ 4096)
      (some : 0 < length (get_or pieces (n / 256) []))
      (put : piece ≡ overwritten (4096 * (n % 256)) from (get_or pieces (n / 256) [])) where
    old_size : length (get_or pieces (n / 256) []) ≡ 1048576
    old_size = are.whole (n / 256) some

    fits : 4096 * (n % 256) + 4096 ≤ length (get_or pieces (n / 256) [])
    fits = omega (arith, old_size)

    pub put_size : length piece ≡ 1048576
    put_size = ap length put ∙ length-put (n % 256) from (get_or pieces (n / 256) []) whole fits ∙ old_size

    put_here : block_at (set pieces (n / 256) piece) n ≡ from
    put_here =
        at_same (n / 256) piece (piece_there n below) n refl
        ∙ in_some piece (n % 256) (omega (arith, put_size))
        ∙ ap (λ (l : List ℕ). block (n % 256) l) put
        ∙ block-put (n % 256) from (get_or pieces (n / 256) []) whole fits

    put_elsewhere : (k : ℕ) → k ≢ n → block_at (set pieces (n / 256) piece) k ≡ block_at pieces k
    put_elsewhere k other = elim (cases_eq (k / 256) (n / 256)) [
      | inl is ↦
          let apart : k % 256 ≢ n % 256 = λ e. other (omega arith) in
          at_same (n / 256) piece (piece_there n below) k is
          ∙ in_some piece (k % 256) (omega (arith, put_size))
          ∙ ap (λ (l : List ℕ). block (k % 256) l) put
          ∙ block-put_other (n % 256) from (get_or pieces (n / 256) []) whole fits (k % 256) apart
          ∙ sym (in_some (get_or pieces (n / 256) []) (k % 256) some)
          ∙ ap (λ (j : ℕ). block_in (get_or pieces j []) (k % 256)) (sym is)
      | inr apart ↦ at_other (n / 256) piece (piece_there n below) k apart
    ]

    put_blocks : (view_of count (set pieces (n / 256) piece)).blocks ≡ set (view_of count pieces).blocks n from
    put_blocks =
        ext_get_or [] (view_of count (set pieces (n / 256) piece)).blocks (set (view_of count pieces).blocks n from)
        (length-view count (set pieces (n / 256) piece) ∙ sym (length-set (view_of count pieces).blocks n from ∙ length-view count pieces))
        (λ k low.
        let inside : k < count = omega (arith, length-view count (set pieces (n / 256) piece)) in
        get_or-view count k (set pieces (n / 256) piece) inside ∙ elim (cases_eq k n) [
          | inl is ↦
              ap (λ (j : ℕ). block_at (set pieces (n / 256) piece) j) is ∙ put_here
              ∙ sym (ap (λ (j : ℕ). get_or (set (view_of count pieces).blocks n from) j []) is
              ∙ get_or-set_same (view_of count pieces).blocks n from [] (omega (arith, length-view count pieces)))
          | inr other ↦
              put_elsewhere k other
              ∙ sym (get_or-set_other (view_of count pieces).blocks n k from [] other ∙ get_or-view count k pieces inside)
        ])

    put_made : (view_of count (set pieces (n / 256) piece)).made ≡ (view_of count pieces).made
    put_made =
        map-set (λ c. ltb 0 (length c)) pieces (n / 256) piece
        ∙ ap (λ (b : Bool). set (view_of count pieces).made (n / 256) b)
        (ap (λ (m : ℕ). ltb 0 m) (put_size ∙ sym old_size) ∙ sym (made_is (n / 256) (piece_there n below)))
        ∙ set-get_or (view_of count pieces).made (n / 256) false

    pub put_is : view_of count (set pieces (n / 256) piece)
        ≡ record { blocks = set (view_of count pieces).blocks n from; made = (view_of count pieces).made }
    put_is =
        ap (λ (b : List (List ℕ)). record { blocks = b; made = (view_of count (set pieces (n / 256) piece)).made }) put_blocks
        ∙ ap (λ (m : List Bool). record { blocks = set (view_of count pieces).blocks n from; made = m }) put_made

-- ---- the vector of pieces, with a new piece in place of the one that `pieces[n / 256]` reads

module _ (count : ℕ) (items : List (Vec ℕ Global)) (are : ArePieces count (octets_of items)) (n : ℕ) (below : n < count) where
  pub index_there : n / 256 < length items
  index_there = omega (arith, piece_there count (octets_of items) are n below, length-map items (λ piece. piece.items))

  module _ (old : Vec ℕ Global) (read : old ≡ get_or items (n / 256) old) where
    pub was : old.items ≡ get_or (octets_of items) (n / 256) []
    was = ap (λ (v : Vec ℕ Global). v.items) read ∙ sym (get_or-map (λ (v : Vec ℕ Global). v.items) items (n / 256) old [] index_there)

    module _ (new : Vec ℕ Global) where
      set_is : octets_of (set items (n / 256) new) ≡ set (octets_of items) (n / 256) new.items
      set_is = map-set (λ (v : Vec ℕ Global). v.items) items (n / 256) new

      there : n / 256 < length (octets_of items)
      there = piece_there count (octets_of items) are n below

      -- the same octets
      pub kept_is : new.items ≡ old.items → octets_of (set items (n / 256) new) ≡ octets_of items
      kept_is same =
          set_is ∙ ap (λ (l : List ℕ). set (octets_of items) (n / 256) l) (same ∙ was) ∙ set-get_or (octets_of items) (n / 256) []

      -- filled up with zeros
      module _ (filled_size : length new.items ≡ 1048576)
          (same : (k : ℕ) → 4096 * k + 4096 ≤ 1048576 → block_in new.items k ≡ block_in old.items k) where
        filled_above : 0 < length new.items
        filled_above = omega (arith, filled_size)

        pub filled_are : ArePieces count (octets_of (set items (n / 256) new))
        filled_are = subst (λ (l : List (List ℕ)). ArePieces count l) (sym set_is)
            (set_are count (octets_of items) are (n / 256) new.items there filled_size)

        pub filled_blocks : (view_of count (octets_of (set items (n / 256) new))).blocks ≡ (view_of count (octets_of items)).blocks
        filled_blocks =
            ap (λ (l : List (List ℕ)). (view_of count l).blocks) set_is
            ∙ set_blocks count (octets_of items) are (n / 256) new.items there (λ k low.
            same k (omega arith) ∙ ap (λ (l : List ℕ). block_in l k) was)

        pub filled_room : IsMade (view_of count (octets_of (set items (n / 256) new))).made n
        filled_room = subst (λ (l : List (List ℕ)). IsMade (view_of count l).made n) (sym set_is)
            (set_room count (octets_of items) are (n / 256) new.items there filled_above n refl)

        pub filled_kept : (k : ℕ) → IsMade (view_of count (octets_of items)).made k
            → IsMade (view_of count (octets_of (set items (n / 256) new))).made k
        filled_kept k made = subst (λ (l : List (List ℕ)). IsMade (view_of count l).made k) (sym set_is)
            (set_kept count (octets_of items) are (n / 256) new.items there filled_above k made)

      -- with another block
      module _ (from : List ℕ) (whole : length from ≡ 4096) (room : IsMade (view_of count (octets_of items)).made n)
          (is : new.items ≡ overwritten (4096 * (n % 256)) from old.items) where
        put_in : new.items ≡ overwritten (4096 * (n % 256)) from (get_or (octets_of items) (n / 256) [])
        put_in = is ∙ ap (λ (l : List ℕ). overwritten (4096 * (n % 256)) from l) was

        put_above : 0 < length (get_or (octets_of items) (n / 256) [])
        put_above = has_octets count (octets_of items) are n below room

        pub put_are : ArePieces count (octets_of (set items (n / 256) new))
        put_are = subst (λ (l : List (List ℕ)). ArePieces count l) (sym set_is)
            (set_are count (octets_of items) are (n / 256) new.items there
            (put_size count (octets_of items) are n from new.items below whole put_above put_in))

        pub put_view : view_of count (octets_of (set items (n / 256) new))
            ≡ record { blocks = set (view_of count (octets_of items)).blocks n from; made = (view_of count (octets_of items)).made }
        put_view =
            ap (λ (l : List (List ℕ)). view_of count l) set_is
            ∙ put_is count (octets_of items) are n from new.items below whole put_above put_in
