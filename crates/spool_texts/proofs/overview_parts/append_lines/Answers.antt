use Rattle.std.proofs.Common.{◌≡◌, ◌+◌, ◌-◌, ◌%◌, ◌++◌, ℕ, length, get_or, take, drop, sym, ◌∙◌, ap, arith}
use Rattle.std.proofs.Common.{vec_len, vec_capacity, suc, Vec, Global}
use Rattle.std.proofs.Math.Path.{transport}
use Rattle.std.specs.Prelude.{min}
use Rattle.std.proofs.lemmas.List.{length-take}
use Rattle.model.specs.Files.{content_of, entry}
use Rattle.model.specs.Indexed.{line_start}
use Rattle.model.specs.Stream.{Octets}
use Rattle.spool_groups.specs.Shown.{shown}
use Rattle.spool_texts.specs.Texts.{IsRun, lines_from}
use Rattle.spool_texts.proofs.LineSizes.{room_left}
use Rattle.spool_texts.proofs.Lines.{one_appended}
use Rattle.spool_texts.proofs.overview_parts.append_lines.Goals as goal
use Rattle.spool_texts.proofs.overview_parts.append_lines.Goals.{in-Some, in_default}

pub append-requires : goal.append-requires
append-requires g c =
    let blocks = g.B.Blocks.blocks c.args.blocks.now in
    let content = content_of blocks (entry c.args.inodes blocks c.args.inode) in
    let so_far = c.loop-next.invariant.so_far in
    let room = room_left content (shown c.args.group.now).ends (length (shown c.args.group.now).filed) c.requires.rise
    (λ k low. (c.requires.fit k low).0) c.requires.fit c.args.lines.next c.loop-next.next c.args.lines.end c.args.octets.now.items
    c.loop-next.octets.items c.requires.first so_far.low
    c.loop-next-test.true c.requires.high so_far.lines (omega arith) in
    let text : length c.in-Some.text.now ≡ min (c.line-start.result.1 - c.line-start.result.0) (length (drop c.line-start.result.0 content))
    =
    ap (λ (l : Octets). length l) (c.in-Some.ensures content so_far.is_run)
    ∙ length-take (c.line-start.result.1 - c.line-start.result.0) (drop c.line-start.result.0 content) in
    omega (arith, room, text, c.requires.capacity, c.loop-next.invariant.capacity, c.line-start.ensures.from, c.line-start.ensures.to)

pub append_run-requires-clause-capacity : goal.append_run-requires-clause-capacity
append_run-requires-clause-capacity g c =
    let blocks = g.B.Blocks.blocks c.args.blocks.now in
    let content = content_of blocks (entry c.args.inodes blocks c.args.inode) in
    let so_far = c.loop-next.invariant.so_far in
    let room = room_left content (shown c.args.group.now).ends (length (shown c.args.group.now).filed) c.requires.rise
    (λ k low. (c.requires.fit k low).0) c.requires.fit c.args.lines.next c.loop-next.next c.args.lines.end c.args.octets.now.items
    c.loop-next.octets.items c.requires.first so_far.low
    c.loop-next-test.true c.requires.high so_far.lines (omega arith) in
    omega (arith, room, c.requires.capacity, c.loop-next.invariant.capacity, c.line-start.ensures.from, c.line-start.ensures.to)

pub append-requires-in-loop-next : goal.append-requires-in-loop-next
append-requires-in-loop-next g c =
    let blocks = g.B.Blocks.blocks c.args.blocks.now in
    let content = content_of blocks (entry c.args.inodes blocks c.args.inode) in
    let so_far = c.loop-next.invariant.so_far in
    let room = room_left content (shown c.args.group.now).ends (length (shown c.args.group.now).filed) c.requires.rise
    (λ k low. (c.requires.fit k low).0) c.requires.fit c.args.lines.next c.loop-next.next c.args.lines.end c.args.octets.now.items
    c.loop-next.octets.items c.requires.first so_far.low
    c.loop-next-test.true c.requires.high so_far.lines (omega arith) in
    elim c.match-part_of.branch [
      | in-Some w ↦
          let text : length w.in-Some.text.now
          ≡ min (c.line-start.result.1 - c.line-start.result.0) (length (drop c.line-start.result.0 content)) =
          ap (λ (l : Octets). length l) (w.in-Some.ensures content so_far.is_run)
          ∙ length-take (c.line-start.result.1 - c.line-start.result.0) (drop c.line-start.result.0 content) in
          omega (
            arith,
            room,
            text,
            ap vec_len w.octets-is,
            ap vec_capacity w.octets-is,
            w.append.ensures.len,
            w.append.ensures.capacity,
            c.requires.capacity,
            c.loop-next.invariant.capacity,
            c.line-start.ensures.from,
            c.line-start.ensures.to,
          )
      | in_default w ↦
          omega (
            arith,
            room,
            ap vec_len w.octets-is,
            ap vec_capacity w.octets-is,
            w.append_run.ensures.len,
            w.append_run.ensures.capacity,
            c.requires.capacity,
            c.loop-next.invariant.capacity,
            c.line-start.ensures.from,
            c.line-start.ensures.to,
          )
    ]

pub loop-next-preserved : goal.loop-next-preserved
loop-next-preserved g c =
    let blocks = g.B.Blocks.blocks c.args.blocks.now in
    let content = content_of blocks (entry c.args.inodes blocks c.args.inode) in
    let ends = (shown c.args.group.now).ends in
    let so_far = c.loop-next.invariant.so_far in
    let first = c.args.lines.next in
    let next = c.loop-next.next in
    let start = c.line-start.result.0 in
    let stop = c.line-start.result.1 in
    let before = c.loop-next.octets.items in
    let room = room_left content ends (length (shown c.args.group.now).filed) c.requires.rise
    (λ k low. (c.requires.fit k low).0) c.requires.fit first next c.args.lines.end c.args.octets.now.items before c.requires.first
    so_far.low c.loop-next-test.true c.requires.high so_far.lines (omega arith) in
    let rises = c.requires.rise (next - 1) (omega (arith, so_far.low, c.requires.first, c.requires.high, c.loop-next-test.true)) in
    let here : next - 1 ≡ next - 1 + 1 - 1 = omega arith in
    let far : next - first ≡ next - 1 - (first - 1) = omega (arith, c.requires.first, so_far.low) in
    let farther : next - 1 + 1 - (first - 1) ≡ next + 1 - first = omega (arith, c.requires.first, so_far.low) in
    let after : next + 1 - 1 ≡ suc (next - 1) = omega (arith, c.requires.first, so_far.low) in
    let ended : line_start ends (next + 1 - 1) ≡ get_or ends (next - 1) 0 = ap (line_start ends) after in
    let appended = λ (read : c.match-part_of.octets.items ≡ before ++ take (stop - start) (drop start content)).
    one_appended content ends (first - 1) (next - 1) start stop c.args.octets.now.items before c.match-part_of.octets.items
    c.append-in-loop-next.new.octets.items (omega (arith, so_far.low)) (c.line-start.ensures.from ∙ ap (line_start ends) here)
    (c.line-start.ensures.to ∙ ap (λ (k : ℕ). get_or ends k 0) here)
    (so_far.lines ∙ ap (λ (n : ℕ). c.args.octets.now.items ++ lines_from content ends (first - 1) n) far) read
    c.append-in-loop-next.ensures.items
    ∙ ap (λ (n : ℕ). c.args.octets.now.items ++ lines_from content ends (first - 1) n) farther in
    elim c.match-part_of.branch [
      | in-Some w ↦
          let text = w.in-Some.ensures content so_far.is_run in
          let size : length w.in-Some.text.now ≡ min (stop - start) (length (drop start content)) =
          ap (λ (l : Octets). length l) text ∙ length-take (stop - start) (drop start content) in
          record {
            so_far = record {
              low = omega (arith, so_far.low);
              high = omega (arith, c.loop-next-test.true);
              lines = appended (ap (λ (v : Vec ℕ Global). v.items) w.octets-is ∙ w.append.ensures.items
                  ∙ ap (λ (l : Octets). before ++ l) text);
              behind = omega (arith, w.at-is, so_far.behind, rises, ended);
              is_run = transport (λ i. IsRun content (sym w.at-is i) (sym w.run-is i).now) so_far.is_run;
            };
            bound = omega (
              arith,
              room,
              size,
              ap vec_len w.octets-is,
              w.append.ensures.len,
              c.append-in-loop-next.ensures.len,
              c.line-start.ensures.from,
              c.line-start.ensures.to,
            );
            capacity = omega (
              arith,
              ap vec_capacity w.octets-is,
              w.append.ensures.capacity,
              c.append-in-loop-next.ensures.capacity,
              c.loop-next.invariant.capacity,
            );
          }
      | in_default w ↦
          record {
            so_far = record {
              low = omega (arith, so_far.low);
              high = omega (arith, c.loop-next-test.true);
              lines = appended (ap (λ (v : Vec ℕ Global). v.items) w.octets-is ∙ w.append_run.ensures.items);
              behind = omega (arith, w.at-is, c.line-start.ensures.to, ended);
              is_run = transport (λ i. IsRun content (sym w.at-is i) (sym w.run-is i).now)
                  (record { some = min 4096 (4096 - stop % 4096); is = w.piece-run.ensures });
            };
            bound = omega (
              arith,
              room,
              ap vec_len w.octets-is,
              w.append_run.ensures.len,
              c.append-in-loop-next.ensures.len,
              c.line-start.ensures.from,
              c.line-start.ensures.to,
            );
            capacity = omega (
              arith,
              ap vec_capacity w.octets-is,
              w.append_run.ensures.capacity,
              c.append-in-loop-next.ensures.capacity,
              c.loop-next.invariant.capacity,
            );
          }
    ]
