use Rattle.std.proofs.Common.{sym, ◌∙◌}
use Rattle.spec_statements.proofs.laws.agreement_is_an_equivalence.Goals as goal

pub returns-clause-symmetric : goal.returns-clause-symmetric
returns-clause-symmetric c = λ types list one other h name mode at. sym (h name mode at)

pub returns-clause-transitive : goal.returns-clause-transitive
returns-clause-transitive c = λ types list one other third g h name mode at. g name mode at ∙ h name mode at

pub returns-clause-fewer : goal.returns-clause-fewer
returns-clause-fewer c = λ types list fewer one other within h name mode at. h name mode (within (name, mode) at)
