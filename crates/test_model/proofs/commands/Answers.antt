use Rattle.test_model.proofs.Examples as example
use Rattle.test_model.proofs.commands.Goals as goal

pub returns : goal.returns
returns c = record {
  post_then_group = example.post_then_group;
  empty_group = example.empty_group;
  other_group = example.other_group;
  offered_twice = example.offered_twice;
  posted_twice = example.posted_twice;
  injection = example.injection;
  overviews = example.overviews;
  closed_group = example.closed_group;
  wildmats = example.wildmats;
  new_groups = example.new_groups;
  walk = example.walk;
}
