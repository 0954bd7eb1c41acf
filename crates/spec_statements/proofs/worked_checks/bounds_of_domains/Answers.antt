use Rattle.std.proofs.Common.{refl}
use Rattle.spec_statements.proofs.CheckedForms.{form_equations}
use Rattle.spec_statements.proofs.worked_checks.bounds_of_domains.Goals as goal

pub returns-clause-checked : goal.returns-clause-checked
returns-clause-checked c = simp form_equations refl

pub returns-clause-lower : goal.returns-clause-lower
returns-clause-lower c = simp form_equations refl

pub returns-clause-upper : goal.returns-clause-upper
returns-clause-upper c = simp form_equations refl

pub returns-clause-neither : goal.returns-clause-neither
returns-clause-neither c = simp form_equations refl

pub returns-clause-interval_alone : goal.returns-clause-interval_alone
returns-clause-interval_alone c = simp form_equations refl

pub returns-clause-no_such_axis : goal.returns-clause-no_such_axis
returns-clause-no_such_axis c = simp form_equations refl
