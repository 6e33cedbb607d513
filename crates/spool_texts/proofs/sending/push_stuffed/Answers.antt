use Rattle.std.proofs.Common.{◌≡◌, inl, inr, ℕ, ◌+◌, ◌-◌, ◌%◌, ◌≤◌, List, ◌++◌, length, take, drop, refl, sym, ◌∙◌, ap, arith, append_assoc}
use Rattle.std.specs.Prelude.{min}
use Rattle.std.proofs.lemmas.Bool.{cases_lt}
use Rattle.std.proofs.lemmas.List.{append-nil}
use Rattle.std.proofs.lemmas.Result.{on_ok_weaker}
use Rattle.model.specs.Files.{FileEntry, entry, size, content_of}
use Rattle.model.specs.Stream.{dot_line}
use Rattle.model.proofs.Owning.{content_size}
use Rattle.fs_inodes.proofs.Contents.{piece_size, take_then, taken_all}
use Rattle.session_replies.specs.Stuffing.{after, stuffed_from}
use Rattle.session_replies.specs.declared.stuffing.Stuffing.{Stuffing}
use Rattle.session_replies.proofs.Pieced.{pieces_follow, pieces_make}
use Rattle.spool_texts.proofs.sending.push_stuffed.Invariants.{fresh}
use Rattle.spool_texts.proofs.sending.push_stuffed.Goals as goal

-- what is sent with one piece more
one_more : (content octets : List ℕ) (place from few : ℕ) → octets ≡ take few (drop from content) → few ≡ length octets → place ≤ from →
    take (from + length octets - place) (drop place content) ≡ take (from - place) (drop place content) ++ octets
one_more content octets place from few is many low =
    take_then content place from (length octets) low
    ∙ ap (λ (l : List ℕ). take (from - place) (drop place content) ++ l) (ap (λ (n : ℕ). take n (drop from content)) (sym many) ∙ sym is)

pub loop-from-init : goal.loop-from-init
loop-from-init g c =
    let blocks = g.B.Blocks.blocks c.args.blocks.now in
    let content = content_of blocks (entry c.args.inodes blocks c.args.at) in
    let none : c.args.place - c.args.place ≡ 0 = omega arith in
    record {
      from_place = omega arith;
      to_end = inl refl;
      reply_is = c.in_ok-reserve.ensures.items
          ∙ sym (ap (λ (n : ℕ). c.args.reply.now.items ++ stuffed_from fresh (take n (drop c.args.place content))) none
          ∙ append-nil c.args.reply.now.items);
      state_is = c.new-stuffing.ensures ∙ sym (ap (λ (n : ℕ). after fresh (take n (drop c.args.place content))) none);
    }

pub overflow_add-from : goal.overflow_add-from
overflow_add-from g c =
    let blocks = g.B.Blocks.blocks c.args.blocks.now in
    let e : FileEntry = entry c.args.inodes blocks c.args.at in
    let content = content_of blocks e in
    let from = c.loop-from.from in
    let long = content_size blocks e c.requires.room.blocks_whole (λ b owns. (c.requires.rule.within c.args.at b c.requires.below owns).1)
    in
    let sized = c.size_of.ensures in
    let fits : c.min-end.result ≤ length content = omega arith in
    let many = piece_size content c.piece-octets.result.now from c.min-end.result (4096 - from % 4096) c.piece-octets.ensures fits
    (omega arith) in
    omega (arith, many)

pub loop-from-preserved : goal.loop-from-preserved
loop-from-preserved g c =
    let blocks = g.B.Blocks.blocks c.args.blocks.now in
    let e : FileEntry = entry c.args.inodes blocks c.args.at in
    let content = content_of blocks e in
    let from = c.loop-from.from in
    let octets = c.piece-octets.result.now in
    let long = content_size blocks e c.requires.room.blocks_whole (λ b owns. (c.requires.rule.within c.args.at b c.requires.below owns).1)
    in
    let sized = c.size_of.ensures in
    let fits : c.min-end.result ≤ length content = omega arith in
    let many = piece_size content octets from c.min-end.result (4096 - from % 4096) c.piece-octets.ensures fits (omega arith) in
    let sent = take (from - c.args.place) (drop c.args.place content) in
    let more = one_more content octets c.args.place from (min (c.min-end.result - from) (4096 - from % 4096)) c.piece-octets.ensures
    (sym many) c.loop-from.invariant.from_place in
    record {
      from_place = omega (arith, c.loop-from.invariant.from_place);
      to_end = inr (omega arith);
      reply_is =
          c.in_ok-push.ensures.sent
          ∙ ap (λ (l : List ℕ). l ++ stuffed_from c.loop-from.stuffing octets) c.loop-from.invariant.reply_is
          ∙ append_assoc c.args.reply.now.items (stuffed_from fresh sent) (stuffed_from c.loop-from.stuffing octets)
          ∙ ap (λ (l : List ℕ). c.args.reply.now.items ++ l)
          (ap (λ (s : Stuffing). stuffed_from fresh sent ++ stuffed_from s octets) c.loop-from.invariant.state_is
          ∙ sym (pieces_follow.sent fresh sent octets)
          ∙ ap (stuffed_from fresh) (sym more));
      state_is =
          c.in_ok-push.ensures.state
          ∙ ap (λ (s : Stuffing). after s octets) c.loop-from.invariant.state_is
          ∙ sym (pieces_follow.state fresh sent octets)
          ∙ ap (after fresh) (sym more);
    }

pub loop-from-smaller : goal.loop-from-smaller
loop-from-smaller g c =
    let blocks = g.B.Blocks.blocks c.args.blocks.now in
    let e : FileEntry = entry c.args.inodes blocks c.args.at in
    let content = content_of blocks e in
    let from = c.loop-from.from in
    let long = content_size blocks e c.requires.room.blocks_whole (λ b owns. (c.requires.rule.within c.args.at b c.requires.below owns).1)
    in
    let sized = c.size_of.ensures in
    let fits : c.min-end.result ≤ length content = omega arith in
    let many = piece_size content c.piece-octets.result.now from c.min-end.result (4096 - from % 4096) c.piece-octets.ensures fits
    (omega arith) in
    omega (arith, many)

pub returns : goal.returns
returns g c =
    let blocks = g.B.Blocks.blocks c.args.blocks.now in
    let e : FileEntry = entry c.args.inodes blocks c.args.at in
    let long = content_size blocks e c.requires.room.blocks_whole (λ b owns. (c.requires.rule.within c.args.at b c.requires.below owns).1)
    in
    let sized = c.size_of.ensures in
    let small = c.requires.file.small in
    let all = taken_all (content_of blocks e) c.args.place c.args.count c.loop-from.from c.min-end.result
    (omega arith) c.loop-from.invariant.from_place c.loop-from.invariant.to_end
    (elim (cases_lt (c.args.place + c.args.count) (size e)) [
      | inl asked ↦ inr (omega arith)
      | inr past ↦ inl (omega arith)
    ]) (omega arith) (omega arith) in
    let text = take c.args.count (drop c.args.place (content_of blocks e)) in
    on_ok_weaker c.push_end.result (λ is.
    is ∙ ap (λ (l : List ℕ). l ++ dot_line) (c.loop-from.invariant.reply_is
    ∙ ap (λ (l : List ℕ). c.args.reply.now.items ++ stuffed_from fresh l) all)
    ∙ append_assoc c.args.reply.now.items (stuffed_from fresh text) dot_line
    ∙ ap (λ (l : List ℕ). c.args.reply.now.items ++ l) (pieces_make text)) c.push_end.ensures
