use Rattle.std.proofs.Common.{◌-◌, ◌%◌, ◌++◌, ℕ, List, length, take, drop, sym, ◌∙◌, ap, arith, append_assoc}
use Rattle.model.specs.Files.{content_of, entry}
use Rattle.fs_inodes.proofs.Contents.{piece_size, take_then}
use Rattle.spool_texts.proofs.overview_parts.append_run.Goals as goal

pub loop-from-preserved : goal.loop-from-preserved
loop-from-preserved g c =
    let blocks = g.B.Blocks.blocks c.args.blocks.now in
    let content = content_of blocks (entry c.args.inodes blocks c.args.inode) in
    let from = c.loop-from.from in
    let so_far = c.loop-from.invariant.so_far in
    let many = piece_size content c.piece-some.result.now from c.args.stop (4096 - from % 4096) c.piece-some.ensures c.requires.within
    (omega arith) in
    let some = length c.piece-some.result.now in
    record {
      so_far = record {
        low = omega (arith, so_far.low);
        high = omega (arith, many);
        octets_are =
            c.append.ensures.items
            ∙ ap (λ (l : List ℕ). l ++ c.piece-some.result.now) so_far.octets_are
            ∙ append_assoc c.args.octets.now.items (take (from - c.args.start) (drop c.args.start content)) c.piece-some.result.now
            ∙ ap (λ (l : List ℕ). c.args.octets.now.items ++ l)
            (ap (λ (l : List ℕ). take (from - c.args.start) (drop c.args.start content) ++ l) (c.piece-some.ensures
            ∙ ap (λ (n : ℕ). take n (drop from content)) (sym many))
            ∙ sym (take_then content c.args.start from some so_far.low));
      };
      len = omega (arith, c.append.ensures.len, c.loop-from.invariant.len, so_far.low);
      capacity = omega (arith, c.append.ensures.capacity, c.loop-from.invariant.capacity);
    }
