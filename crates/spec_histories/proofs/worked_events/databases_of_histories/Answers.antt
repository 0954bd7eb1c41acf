use Rattle.std.proofs.Common.{refl}
use Rattle.spec_histories.specs.History.{program_effect}
use Rattle.spec_histories.proofs.worked_events.databases_of_histories.Goals as goal

pub returns-clause-own_before : goal.returns-clause-own_before
unfolding program_effect
returns-clause-own_before c = refl

pub returns-clause-committed_after : goal.returns-clause-committed_after
unfolding program_effect
returns-clause-committed_after c = refl

pub returns-clause-own_after : goal.returns-clause-own_after
unfolding program_effect
returns-clause-own_after c = refl

pub returns-clause-of_the_ended : goal.returns-clause-of_the_ended
unfolding program_effect
returns-clause-of_the_ended c = refl
