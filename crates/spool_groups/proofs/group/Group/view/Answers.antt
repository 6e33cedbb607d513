use Rattle.std.proofs.Common.{◌∙◌}
use Rattle.spool_groups.proofs.group.Group.view.Goals as goal

pub returns : goal.returns
returns c = λ i. record {
  listed = record {
    group = record {
      serial = c.serial.ensures i;
      name = c.name.ensures i;
      status = c.status.ensures i;
      description = c.description.ensures i;
      moment = (c.seconds.ensures.value ∙ c.moment.ensures) i;
    };
    low = c.low.ensures i;
    high = c.high.ensures i;
  };
  last = c.last.ensures i;
}
