use Rattle.std.proofs.Common.{◌≡◌, inl, inr, ℕ, ◌+◌, ◌-◌, ◌/◌, ◌%◌, ◌<◌, ◌≤◌, List, [], ◌∷◌, length, get_or, take, drop, sym, ◌∙◌, ap}
use Rattle.std.proofs.Common.{subst, arith, length-drop}
use Rattle.std.specs.Prelude.{min}
use Rattle.std.proofs.lemmas.Bool.{cases_lt}
use Rattle.std.proofs.lemmas.List.{take_all}
use Rattle.model.specs.Volume.{number_at}
use Rattle.model.specs.Files.{FileEntry, entry, entry_of, size, pointer, content_of, indirect_pointer, block_count}
use Rattle.model.proofs.Owning.{content_size, owns_pointer}
use Rattle.fs_layout.specs.Blocks.{IsThere}
use Rattle.fs_inodes.proofs.Contents.{content_part}
use Rattle.fs_inodes.proofs.Named.{double_is_there, table_is_there}
use Rattle.fs_inodes.proofs.file_reading.piece.Goals as goal

-- a front that reaches the end, or has the size that is asked for
front : (xs : List ℕ) (some asked : ℕ) → some ≡ min asked (length xs) → take some xs ≡ take asked xs
front xs some asked is = elim (cases_lt asked (length xs)) [
  | inl fewer ↦ let same : some ≡ asked = omega arith in ap (λ (n : ℕ). take n xs) same
  | inr all ↦ take_all some xs (omega arith) ∙ sym (take_all asked xs all)
]

-- the octets of the block where the place stands
within_block : (content block : List ℕ) (place within some asked width : ℕ) → width ≡ some
    → (0 < some → take some (drop place content) ≡ take some (drop within block)) → some ≡ min asked (length (drop place content))
    → take width (drop within block) ≡ take asked (drop place content)
within_block content block place within some asked width wide part is = elim (cases_lt 0 some) [
  | inl positive ↦ ap (λ (n : ℕ). take n (drop within block)) wide ∙ sym (part positive) ∙ front (drop place content) some asked is
  | inr zero_some ↦
      let none : some ≡ 0 = omega arith in
      ap (λ (n : ℕ). take n (drop within block)) (wide ∙ none) ∙ sym (ap (λ (n : ℕ). take n (drop place content)) none)
      ∙ front (drop place content) some asked is
]

nothing : (xs : List ℕ) (n : ℕ) → length xs ≡ 0 → [] ≡ take n xs
nothing [] n none = sym (take_all n [] (omega arith))
nothing (x ∷ xs) n none = absurd (omega arith)

pub returns-then-size-place : goal.returns-then-size-place
returns-then-size-place g c =
    let blocks = g.B.Blocks.blocks c.args.blocks.now in
    let e : FileEntry = entry c.args.inodes blocks c.args.at in
    let sized : c.number64-size.result ≡ size e = c.number64-size.ensures ∙ ap (λ (o : List ℕ). number_at 4 8 o) c.get_inode.ensures in
    let long = content_size blocks e c.requires.room.blocks_whole (λ b owns. (c.requires.rule.within c.args.at b c.requires.below owns).1)
    in
    nothing (drop c.args.place (content_of blocks e)) (min c.args.count (4096 - c.args.place % 4096))
    (omega (arith, long, sized, length-drop c.args.place (content_of blocks e)))

pub pointer_at-number-requires-clause-double : goal.pointer_at-number-requires-clause-double
pointer_at-number-requires-clause-double g c =
    let blocks = g.B.Blocks.blocks c.args.blocks.now in
    let e : FileEntry = entry c.args.inodes blocks c.args.at in
    let sized : c.number64-size.result ≡ size e = c.number64-size.ensures ∙ ap (λ (o : List ℕ). number_at 4 8 o) c.get_inode.ensures in
    subst (λ (o : List ℕ). 1034 ≤ c.args.place / 4096 → IsThere (number_at 56 4 o) blocks) (sym c.get_inode.ensures)
    (double_is_there c.args.inodes c.args.at blocks c.requires.room c.requires.rule c.requires.below c.requires.file (c.args.place / 4096)
    (omega arith))

pub pointer_at-number-requires-clause-indirect : goal.pointer_at-number-requires-clause-indirect
pointer_at-number-requires-clause-indirect g c =
    let blocks = g.B.Blocks.blocks c.args.blocks.now in
    let e : FileEntry = entry c.args.inodes blocks c.args.at in
    let sized : c.number64-size.result ≡ size e = c.number64-size.ensures ∙ ap (λ (o : List ℕ). number_at 4 8 o) c.get_inode.ensures in
    subst (λ (o : List ℕ). 10 ≤ c.args.place / 4096
    → IsThere (indirect_pointer (entry_of blocks o []) ((c.args.place / 4096 - 10) / 1024)) blocks) (sym c.get_inode.ensures)
    (table_is_there c.args.inodes c.args.at blocks c.requires.room c.requires.rule c.requires.below c.requires.file (c.args.place / 4096)
    (omega arith))

pub block-requires : goal.block-requires
block-requires g c =
    let blocks = g.B.Blocks.blocks c.args.blocks.now in
    let e : FileEntry = entry c.args.inodes blocks c.args.at in
    let i = c.args.place / 4096 in
    let sized : c.number64-size.result ≡ size e = c.number64-size.ensures ∙ ap (λ (o : List ℕ). number_at 4 8 o) c.get_inode.ensures in
    let low : i < block_count e = omega arith in
    let is : c.pointer_at-number.result ≡ pointer e i = c.pointer_at-number.ensures
    ∙ ap (λ (o : List ℕ). pointer (entry_of blocks o []) i) c.get_inode.ensures in
    subst (λ (n : ℕ). n < length blocks) (sym is)
    ((c.requires.rule.within c.args.at (pointer e i) c.requires.below (owns_pointer e i low)).1)

pub returns : goal.returns
returns g c =
    let blocks = g.B.Blocks.blocks c.args.blocks.now in
    let e : FileEntry = entry c.args.inodes blocks c.args.at in
    let place = c.args.place in
    let some = c.min-some.result in
    let sized : c.number64-size.result ≡ size e = c.number64-size.ensures ∙ ap (λ (o : List ℕ). number_at 4 8 o) c.get_inode.ensures in
    let is : c.pointer_at-number.result ≡ pointer e (place / 4096) = c.pointer_at-number.ensures
    ∙ ap (λ (o : List ℕ). pointer (entry_of blocks o []) (place / 4096)) c.get_inode.ensures in
    let long = content_size blocks e c.requires.room.blocks_whole (λ b owns. (c.requires.rule.within c.args.at b c.requires.below owns).1)
    in
    let width : place % 4096 + some - place % 4096 ≡ some = omega arith in
    let few : some ≡ min (min c.args.count (4096 - place % 4096)) (length (drop place (content_of blocks e))) =
    omega (arith, long, sized, length-drop place (content_of blocks e)) in
    within_block (content_of blocks e) c.block.result.now place (place % 4096) some (min c.args.count (4096 - place % 4096))
    (place % 4096 + some - place % 4096) width
    (λ positive.
    content_part blocks e c.requires.room.blocks_whole (λ b owns. (c.requires.rule.within c.args.at b c.requires.below owns).1) place some
    (omega arith) (omega arith) positive
    ∙ ap (λ (l : List ℕ). take some (drop (place % 4096) l)) (sym (c.block.ensures.octets ∙ ap (λ (n : ℕ). get_or blocks n []) is)))
    few
