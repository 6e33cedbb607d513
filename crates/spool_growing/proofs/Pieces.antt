-- Pieces put at the ends of their files, one after the other.
use Rattle.std.proofs.Common.{◌≡◌, ◌<◌, ◌≤◌, ℕ, zero, suc, ◌+◌, ◌*◌, List, [], ◌∷◌, ◌++◌, length, get_or, map, take, refl, sym, ◌∙◌, ap}
use Rattle.std.proofs.Common.{subst, arith}
use Rattle.std.specs.Prelude.{Option, Some, None, option_map, slice_get, unwrap_or}
use Rattle.std.specs.List.{sum_by}
use Rattle.std.proofs.lemmas.List.{map_more, take_more}
use Rattle.std.proofs.lemmas.List.Sums.{sum_by-append, sum_by-cons}
use Rattle.std.proofs.lemmas.Option.{same_Some, slice_get-get_or}
use Rattle.model.specs.Stream.{Octets}
use Rattle.model.specs.Files.{File, HasRoom, IsFileSystem, free_blocks, table}
use Rattle.model.specs.Asked.{blocks_taken}
use Rattle.model.specs.FileCalls.{FileCall, Append}
use Rattle.fs.specs.Calls.{IsFileAt}
use Rattle.fs.specs.Touches.{Touches, touched_by_growth}
use Rattle.fs_inodes.proofs.Grown.{one_name}
use Rattle.fs_layout.proofs.Touching.{touches_then}
use Rattle.spool_growing.specs.declared.file_calls.Piece.{Piece}
use Rattle.spool_growing.specs.Calls.{AppendsAt, AppendsFirst, Calls, MayAllGrow, MayGrow, append_call, blocks_for_more, size_at}
use Rattle.spool_growing.specs.Calls.{touched_by_pieces}
use Rattle.spool_growing.proofs.Calling.{calls_then, no_calls}
use Rattle.spool_index.specs.Places.{name_of}

-- ---- at first

pub none_yet : (inodes : ℕ) (pieces : List Piece) (blocks : List Octets) → HasRoom inodes blocks → IsFileSystem inodes blocks
    → AppendsFirst inodes pieces 0 blocks blocks
none_yet inodes pieces blocks room rule = record { calls = no_calls inodes blocks room rule; others = λ i other. refl }

pub touches_none : (old : List Octets) → Touches 0 old old
touches_none old = record { count = refl; others = []; few = omega arith; same = λ b some lacks. refl }

-- ---- the blocks that they take

few_taken : (inodes : List (Option File)) (ps : List Piece) (n : ℕ)
    → ((k : ℕ) (p : Piece) → slice_get ps k ≡ Some p → length p.octets.items ≤ 8191)
    → sum_by blocks_taken (map (append_call inodes) (take n ps)) ≤ 4 * n
few_taken inodes ps zero small = omega arith
few_taken inodes [] (suc n) small = omega arith
few_taken inodes (p ∷ ps) (suc n) small =
    omega (
      arith,
      sum_by-cons blocks_taken (append_call inodes p) (map (append_call inodes) (take n ps)),
      few_taken inodes ps n (λ k q at. small (suc k) q at),
      small 0 p refl,
    )

-- a sum with one more
one_added : (f : Piece → ℕ) (p : Piece) (xs ys : List Piece) → ys ≡ xs ++ p ∷ [] → sum_by f xs + f p ≡ sum_by f ys
one_added f p xs ys is =
    let all : sum_by f ys ≡ sum_by f (xs ++ p ∷ []) = ap (λ (l : List Piece). sum_by f l) is in
    let none : sum_by f [] ≡ 0 = refl in
    omega (arith, all, none, sum_by-append f xs (p ∷ []), sum_by-cons f p [])

-- ---- one more

module _ (inodes : ℕ) (pieces : List Piece) (old mid : List Octets) (n : ℕ) (p : Piece) (may : MayAllGrow inodes pieces old)
    (so_far : AppendsFirst inodes pieces n old mid) (at : slice_get pieces n ≡ Some p) (low : n < length pieces) where
  same_file : get_or (table inodes mid) p.at None ≡ get_or (table inodes old) p.at None
  same_file = so_far.others p.at (λ k q less here same. may.apart k n q p less here at (sym same))

  pub may_still : MayGrow inodes p.at (length p.octets.items) mid
  may_still = let its = may.each n p at in
      record { name = its.name; content = its.content; there = same_file ∙ its.there; small = its.small }

  pub still_free : 4 * length pieces ≤ free_blocks old → blocks_for_more (length p.octets.items) ≤ free_blocks mid
  still_free free = omega (arith, free, low, so_far.calls.free, few_taken (table inodes old) pieces n may.small, may.small n p at)

  -- the call that puts it there
  its_call : (new : List Octets) (appends : AppendsAt inodes p.at p.octets.items mid new)
      → append_call (table inodes old) p ≡ Append appends.name p.octets.items
  its_call new appends =
      let its = may.each n p at in
      let named : name_of (table inodes old) p.at ≡ Some its.name = ap (option_map (λ (f : File). f.name)) its.there in
      let one : its.name ≡ appends.name =
      one_name (table inodes mid) p.at its.name appends.name its.content appends.content (same_file ∙ its.there) appends.was in
      ap (λ (o : Option Octets). Append (unwrap_or o []) p.octets.items) named ∙ ap (λ (q : Octets). Append q p.octets.items) one

  pub one_more : (new : List Octets) → AppendsAt inodes p.at p.octets.items mid new → AppendsFirst inodes pieces (n + 1) old new
  one_more new appends =
      let call = append_call (table inodes old) in
      let its : get_or pieces n p ≡ p = same_Some (get_or pieces n p) p (sym (slice_get-get_or pieces n p low) ∙ at) in
      let next : map call (take n pieces) ++ Append appends.name p.octets.items ∷ [] ≡ map call (take (n + 1) pieces) =
      sym (map_more call pieces n p low ∙ ap (λ (q : Piece). map call (take n pieces) ++ call q ∷ []) its
      ∙ ap (λ (c : FileCall). map call (take n pieces) ++ c ∷ []) (its_call new appends)) in
      record {
        calls = subst (λ (cs : List FileCall). Calls inodes cs old new) next
            (calls_then inodes (map call (take n pieces)) (Append appends.name p.octets.items ∷ []) old mid new so_far.calls appends.calls);
        others = λ i other. appends.others i (other n p (omega arith) at)
            ∙ so_far.others i (λ k q less here. other k q (omega (arith, less)) here);
      }

  pub touches_one_more : (new : List Octets) → Touches (touched_by_pieces (table inodes old) (take n pieces)) old mid
      → ((name content : Octets) → IsFileAt (table inodes mid) p.at name content
      → Touches (touched_by_growth (length content) (length p.octets.items)) mid new)
      → Touches (touched_by_pieces (table inodes old) (take (n + 1) pieces)) old new
  touches_one_more new first second =
      let its = may.each n p at in
      let reaches = λ (q : Piece). touched_by_growth (size_at (table inodes old) q.at) (length q.octets.items) in
      let its_size : length its.content ≡ size_at (table inodes old) p.at =
      sym (ap (λ (o : Option File). unwrap_or (option_map (λ (f : File). length f.content) o) 0) its.there) in
      let same : get_or pieces n p ≡ p = same_Some (get_or pieces n p) p (sym (slice_get-get_or pieces n p low) ∙ at) in
      let next : take (n + 1) pieces ≡ take n pieces ++ p ∷ [] = take_more pieces n p low
      ∙ ap (λ (q : Piece). take n pieces ++ q ∷ []) same in
      let sum : sum_by reaches (take n pieces) + reaches p ≡ sum_by reaches (take (n + 1) pieces) =
      one_added reaches p (take n pieces) (take (n + 1) pieces) next in
      let then : Touches (reaches p) mid new =
      subst (λ (m : ℕ). Touches (touched_by_growth m (length p.octets.items)) mid new) its_size
      (second its.name its.content (same_file ∙ its.there)) in
      subst (λ (m : ℕ). Touches m old new) sum (touches_then (sum_by reaches (take n pieces)) (reaches p) old mid new first then)
