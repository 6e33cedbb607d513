use Rattle.std.proofs.Common.{◌≡◌, inl, inr, ℕ, ◌+◌, ◌-◌, ◌%◌, ◌≤◌, List, ◌++◌, length, take, drop, refl, sym, ◌∙◌, ap, arith, append_assoc}
use Rattle.std.proofs.lemmas.Bool.{cases_lt}
use Rattle.std.proofs.lemmas.List.{append-nil}
use Rattle.model.specs.Files.{FileEntry, entry, size, content_of}
use Rattle.model.proofs.Owning.{content_size}
use Rattle.fs_inodes.proofs.Contents.{piece_size, take_then, taken_all}
use Rattle.fs_inodes.proofs.file_reading.read_into.Goals as goal

pub loop-from-init : goal.loop-from-init
loop-from-init g c =
    let blocks = g.B.Blocks.blocks c.args.blocks.now in
    let none : c.args.place - c.args.place ≡ 0 = omega arith in
    record {
      from_place = omega arith;
      to_end = inl refl;
      octets_are = sym (ap (λ (n : ℕ). c.args.into.now.items ++ take n
          (drop c.args.place (content_of blocks (entry c.args.inodes blocks c.args.at)))) none ∙ append-nil c.args.into.now.items);
    }

pub overflow_add-from : goal.overflow_add-from
overflow_add-from g c =
    let blocks = g.B.Blocks.blocks c.args.blocks.now in
    let e : FileEntry = entry c.args.inodes blocks c.args.at in
    let content = content_of blocks e in
    let from = c.loop-from.from in
    let long = content_size blocks e c.requires.room.blocks_whole (λ b owns. (c.requires.rule.within c.args.at b c.requires.below owns).1)
    in
    let sized = c.size_of.ensures in
    let fits : c.min-end.result ≤ length content = omega arith in
    let many = piece_size content c.piece-octets.result.now from c.min-end.result (4096 - from % 4096) c.piece-octets.ensures fits
    (omega arith) in
    omega (arith, many)

pub loop-from-preserved : goal.loop-from-preserved
loop-from-preserved g c =
    let blocks = g.B.Blocks.blocks c.args.blocks.now in
    let e : FileEntry = entry c.args.inodes blocks c.args.at in
    let content = content_of blocks e in
    let from = c.loop-from.from in
    let long = content_size blocks e c.requires.room.blocks_whole (λ b owns. (c.requires.rule.within c.args.at b c.requires.below owns).1)
    in
    let sized = c.size_of.ensures in
    let fits : c.min-end.result ≤ length content = omega arith in
    let many = piece_size content c.piece-octets.result.now from c.min-end.result (4096 - from % 4096) c.piece-octets.ensures fits
    (omega arith) in
    let some = length c.piece-octets.result.now in
    record {
      from_place = omega (arith, c.loop-from.invariant.from_place);
      to_end = inr (omega arith);
      octets_are =
          c.in_ok-extend_from_slice.ensures.items
          ∙ ap (λ (l : List ℕ). l ++ c.piece-octets.result.now) c.loop-from.invariant.octets_are
          ∙ append_assoc c.args.into.now.items (take (from - c.args.place) (drop c.args.place content)) c.piece-octets.result.now
          ∙ ap (λ (l : List ℕ). c.args.into.now.items ++ l)
          (ap (λ (l : List ℕ). take (from - c.args.place) (drop c.args.place content) ++ l) (c.piece-octets.ensures
          ∙ ap (λ (n : ℕ). take n (drop from content)) (sym many))
          ∙ sym (take_then content c.args.place from some c.loop-from.invariant.from_place));
    }

pub loop-from-smaller : goal.loop-from-smaller
loop-from-smaller g c =
    let blocks = g.B.Blocks.blocks c.args.blocks.now in
    let e : FileEntry = entry c.args.inodes blocks c.args.at in
    let content = content_of blocks e in
    let from = c.loop-from.from in
    let long = content_size blocks e c.requires.room.blocks_whole (λ b owns. (c.requires.rule.within c.args.at b c.requires.below owns).1)
    in
    let sized = c.size_of.ensures in
    let fits : c.min-end.result ≤ length content = omega arith in
    let many = piece_size content c.piece-octets.result.now from c.min-end.result (4096 - from % 4096) c.piece-octets.ensures fits
    (omega arith) in
    omega (arith, many)

pub returns : goal.returns
returns g c =
    let blocks = g.B.Blocks.blocks c.args.blocks.now in
    let e : FileEntry = entry c.args.inodes blocks c.args.at in
    let sized = c.size_of.ensures in
    let long = content_size blocks e c.requires.room.blocks_whole (λ b owns. (c.requires.rule.within c.args.at b c.requires.below owns).1)
    in
    let small = c.requires.file.small in
    c.loop-from.invariant.octets_are
    ∙ ap (λ (l : List ℕ). c.args.into.now.items ++ l)
    (taken_all (content_of blocks e) c.args.place c.args.count c.loop-from.from c.min-end.result
    (omega arith) c.loop-from.invariant.from_place c.loop-from.invariant.to_end
    (elim (cases_lt (c.args.place + c.args.count) (size e)) [
      | inl asked ↦ inr (omega arith)
      | inr past ↦ inl (omega arith)
    ]) (omega arith) (omega arith))
