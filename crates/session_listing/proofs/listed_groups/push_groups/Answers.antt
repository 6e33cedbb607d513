use Rattle.std.proofs.Common.{◌++◌, sym, ◌∙◌, ap, append_assoc}
use Rattle.std.specs.Prelude.{take}
use Rattle.session_lookups.specs.Held.{all_known, shown}
use Rattle.session_listing.specs.Lists.{later_of, line_of, lines_of}
use Rattle.session_listing.proofs.Listing.{last_more, line_more}
use Rattle.session_listing.proofs.listed_groups.push_groups.Goals as goal

pub loop-place-preserved : goal.loop-place-preserved
loop-place-preserved g c =
    let ks = all_known (g.L.LookUps.changes c.args.spool.now) in
    let pick = c.args.pick.now in
    let show = c.args.show in
    let n = c.loop-place.place in
    let k = shown c.group_at-group.result in
    record {
      lines = c.in_ok-last.ensures.lines
          ∙ ap (λ os. os ++ line_of pick show k) c.loop-place.invariant.lines
          ∙ append_assoc c.args.reply.now.items (lines_of pick show (take n ks)) (line_of pick show k)
          ∙ ap (λ os. c.args.reply.now.items ++ os) (sym (line_more pick ks n k c.group_at-group.ensures show));
      last = c.in_ok-last.ensures.last ∙ ap (λ last. later_of pick last k) c.loop-place.invariant.last
          ∙ sym (last_more pick ks n k c.group_at-group.ensures);
    }
