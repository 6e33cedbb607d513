use Rattle.test_model.proofs.Examples as example
use Rattle.test_model.proofs.numbers.Goals as goal

pub returns : goal.returns
returns c = record { by_number = example.by_number; below_the_lowest = example.below_the_lowest }
