use Rattle.std.proofs.Common.{◌≡◌, ℕ, List, length, sym, subst, arith, rules}
use Rattle.std.specs.List.{All}
use Rattle.model.specs.Layout.{IsLabel}
use Rattle.kernel.proofs.kernel_opening.load_blocks.Goals as goal

pub returns-in-Ok-loaded-clause-ok : goal.returns-in-Ok-loaded-clause-ok
returns-in-Ok-loaded-clause-ok g c =
    let labelled : IsLabel c.args.journal.now.label c.args.journal.now.size c.in-Some.label.inodes c.in-Some.label.host.now =
    search rules in
    let named : c.in-Ok.host.items ≡ c.in-Some.label.host.now = search rules in
    let count : length c.in-Ok-loaded.volume.cache ≡ c.args.journal.now.size = c.in-Ok-loaded.ensures.count in
    record {
      labelled = subst (IsLabel c.args.journal.now.label c.args.journal.now.size c.in-Some.label.inodes) (sym named) labelled;
      format = c.format_number-format.ensures.format;
      size = count;
      blocks = c.in-Ok-loaded.ensures.blocks;
      seen = c.in-Ok-loaded.ensures.seen;
      clean = search rules;
      room = record {
        some = labelled.some;
        few = labelled.few;
        whole = labelled.whole;
        room = omega (arith, labelled.room, labelled.whole, count);
        count_few = omega (arith, count, c.is_idle.ensures.few);
        blocks_whole = subst (λ (blocks : List (List ℕ)). All (λ octets. length octets ≡ 4096) blocks) c.in-Ok-loaded.ensures.seen
            c.len-count.ensures.whole;
      };
    }
