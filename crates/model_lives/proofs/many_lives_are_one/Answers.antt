use Rattle.model_lives.proofs.many_lives_are_one.Goals as goal
use Rattle.model_lives.proofs.ManyLives.{lives_are_one, nothing_is_undone}

pub returns-clause-one : goal.returns-clause-one
returns-clause-one g c service = lives_are_one service

pub returns-clause-undone : goal.returns-clause-undone
returns-clause-undone g c service = nothing_is_undone service
