use Rattle.test_model.proofs.Smaller as example
use Rattle.test_model.proofs.least.Goals as goal

pub returns : goal.returns
returns c = record {
  gone_by_id = example.gone_by_id;
  below_by_number = example.below_by_number;
  below_current = example.below_current;
  found_by_number = example.found_by_number;
}
