use Rattle.spec_statements.proofs.Effects.{answered_or_unchanged}
use Rattle.spec_statements.proofs.laws.faults_have_no_effect.Goals as goal

pub returns : goal.returns
returns c = answered_or_unchanged
