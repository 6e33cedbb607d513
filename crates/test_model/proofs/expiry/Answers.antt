use Rattle.test_model.proofs.Examples as example
use Rattle.test_model.proofs.expiry.Goals as goal

pub returns : goal.returns
returns c = record {
  each_alone = example.each_alone;
  only_once = example.may_only_once;
  lost = example.lost;
  next_number = example.next_number;
  go_on = example.numbers_go_on;
  ids = example.ids_are_remembered;
  shows = example.shows_what_is_in;
  current = example.current_is_taken_out;
  two_groups = example.two_groups;
  stored = example.stored;
}
