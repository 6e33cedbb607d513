use Rattle.std.proofs.Common.{◌≡◌, ◌≢◌, inl, ℕ, List, [], length, sym, ◌∙◌, ap, subst, arith}
use Rattle.std.specs.List.{All}
use Rattle.std.proofs.lemmas.Bool.{false≢true}
use Rattle.model.specs.Volume.{number_at}
use Rattle.model.specs.Files.{FileEntry, IsFree, entry, entry_of, inode_of, kind, first_data, most_octets}
use Rattle.fs_check.specs.Checking.{IsSlot, HasPointers}
use Rattle.fs_check.proofs.Deciding.{entry_from_file, free_from_entry, free_small, most_few, slot_from_entry, pointers_from_entry, no_entry}
use Rattle.fs_check.proofs.entry.is_entry.Goals as goal

-- pointers do not depend on the slot
of_inode : (first count most inodes at : ℕ) (blocks : List (List ℕ))
    → HasPointers most first count (entry_of blocks (inode_of blocks at) []) → HasPointers most first count (entry inodes blocks at)
of_inode first count most inodes at blocks has = record {
  small = has.small;
  spare = has.spare;
  double = has.double;
  tables = has.tables;
  no_other_pointer = has.no_other_pointer;
}

to_inode : (first count most inodes at : ℕ) (blocks : List (List ℕ)) → HasPointers most first count (entry inodes blocks at)
    → HasPointers most first count (entry_of blocks (inode_of blocks at) [])
to_inode first count most inodes at blocks has = record {
  small = has.small;
  spare = has.spare;
  double = has.double;
  tables = has.tables;
  no_other_pointer = has.no_other_pointer;
}

pub returns-then-are_zeros : goal.returns-then-are_zeros
returns-then-are_zeros g c =
    let blocks = g.B.Blocks.blocks c.args.blocks.now in
    let e : FileEntry = entry c.args.inodes blocks c.args.at in
    let none : kind e ≡ 0 = sym (c.number32.ensures ∙ ap (λ (o : List ℕ). number_at 0 4 o) c.get_inode.ensures) ∙ c.in-0.is in (
      (λ zeros.
          let free : IsFree e = record {
            inode_zeros = subst (λ (o : List ℕ). All (λ octet. octet ≡ 0) o) c.get_inode.ensures
                (c.are_zeros.ensures.0 c.if-are_zeros.true);
            slot_zeros = rw (← c.get_slot.ensures) (c.are_zeros-then-are_zeros.ensures.0 zeros);
          } in
          (inl free, free_small (most_octets c.args.format) e free)),
      (λ has. c.are_zeros-then-are_zeros.ensures.1
          (rw c.get_slot.ensures (free_from_entry (first_data (length (g.B.Blocks.blocks c.args.blocks.now)) c.args.inodes)
          (length blocks) e none has.0).slot_zeros)),
    )

pub returns-else-is_slot : goal.returns-else-is_slot
returns-else-is_slot g c =
    let blocks = g.B.Blocks.blocks c.args.blocks.now in
    let e : FileEntry = entry c.args.inodes blocks c.args.at in
    let is : c.number32.result ≡ kind e = c.number32.ensures ∙ ap (λ (o : List ℕ). number_at 0 4 o) c.get_inode.ensures in (
      (λ slot. absurd (false≢true (sym c.if-is_slot.false ∙ slot))),
      (λ one. c.is_slot.ensures.1 (rw c.get_slot.ensures
          (slot_from_entry (first_data (length (g.B.Blocks.blocks c.args.blocks.now)) c.args.inodes) (length blocks) e
          (sym is ∙ c.in-1.is) one.0))),
    )

pub returns-in_default : goal.returns-in_default
returns-in_default g c =
    let blocks = g.B.Blocks.blocks c.args.blocks.now in
    let e : FileEntry = entry c.args.inodes blocks c.args.at in
    let is : c.number32.result ≡ kind e = c.number32.ensures ∙ ap (λ (o : List ℕ). number_at 0 4 o) c.get_inode.ensures in
    let other : c.number32.result ≢ 0 = omega arith in
    let another : c.number32.result ≢ 1 = omega arith in (
      (λ slot. absurd (false≢true slot)),
      (λ one. absurd (no_entry (first_data (length (g.B.Blocks.blocks c.args.blocks.now)) c.args.inodes) (length blocks) e
          (λ zero. other (is ∙ zero))
          (λ first. another (is ∙ first)) one.0)),
    )

pub returns-then-is_slot : goal.returns-then-is_slot
returns-then-is_slot g c =
    let blocks = g.B.Blocks.blocks c.args.blocks.now in
    let e : FileEntry = entry c.args.inodes blocks c.args.at in
    let first = first_data (length (g.B.Blocks.blocks c.args.blocks.now)) c.args.inodes in
    let most = most_octets c.args.format in
    let has = λ (o : List ℕ). HasPointers most first (length blocks) (entry_of blocks o []) in
    let one : kind e ≡ 1 = sym (c.number32.ensures ∙ ap (λ (o : List ℕ). number_at 0 4 o) c.get_inode.ensures) ∙ c.in-1.is in (
      (λ some. entry_from_file first (length blocks) e most (most_few c.args.format) (omega arith) one
          (subst IsSlot c.get_slot.ensures (c.is_slot.ensures.0 c.if-is_slot.true))
          (of_inode first (length blocks) most c.args.inodes c.args.at blocks
          (subst has c.get_inode.ensures (c.has_pointers.ensures.0 some)))),
      (λ file. c.has_pointers.ensures.1
          (subst has (sym c.get_inode.ensures)
          (to_inode first (length blocks) most c.args.inodes c.args.at blocks
          (pointers_from_entry first (length blocks) e most one file.0 file.1)))),
    )
