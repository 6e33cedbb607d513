use Rattle.std.proofs.Common.{◌^◌, sym, ◌∙◌, ap, map, refl, subst}
use Rattle.spool_groups.specs.Filing.{EndBelow}
use Rattle.spool_index.proofs.Callers.{overviews_end}
use Rattle.model.specs.Spool.{groups}
use Rattle.volume_states.proofs.Groups.{of_groups}
use Rattle.volume_states.specs.State.{of_index}
use Rattle.volume_states.proofs.contents.volume_status.Goals as goal

pub statuses-requires : goal.statuses-requires
statuses-requires g c =
    let its = c.in-Ok.ensures.ok in
    subst (EndBelow (2 ^ 32)) (sym c.groups.ensures.kept) (overviews_end _ _ _ _ _ its.held its.indexed)

pub returns-clause-ok : goal.returns-clause-ok
returns-clause-ok g c =
    let its = c.in-Ok.ensures.ok in
    record {
      changes = its.changes;
      held = c.in-Ok.ensures.format its.changes its.held;
      host_is = c.new-host.ensures ∙ c.in_ok-from_slice.ensures.items;
      format_is = refl;
      blocks_are = c.block_share.ensures;
      inodes_are = c.inode_share.ensures;
      changes_are = c.len.ensures its.changes its.indexed;
      gone_are = c.in_ok-gone.ensures c.args.host.now its.changes its.held.lawful its.indexed;
      groups_are = c.in_ok-groups.ensures ∙ ap (map of_index) (c.groups.ensures.spool its.changes its.indexed)
          ∙ of_groups its.changes (groups its.changes);
    }
