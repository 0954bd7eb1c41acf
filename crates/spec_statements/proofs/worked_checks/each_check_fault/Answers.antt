use Rattle.std.proofs.Common.{refl}
use Rattle.spec_statements.proofs.CheckedForms.{form_equations}
use Rattle.spec_statements.proofs.worked_checks.each_check_fault.Goals as goal

pub returns-clause-no_iterator : goal.returns-clause-no_iterator
returns-clause-no_iterator c = simp form_equations refl

pub returns-clause-double_variable : goal.returns-clause-double_variable
returns-clause-double_variable c = simp form_equations refl

pub returns-clause-no_component : goal.returns-clause-no_component
returns-clause-no_component c = simp form_equations refl

pub returns-clause-scalar_body : goal.returns-clause-scalar_body
returns-clause-scalar_body c = simp form_equations refl

pub returns-clause-seven_axes : goal.returns-clause-seven_axes
returns-clause-seven_axes c = simp form_equations refl

pub returns-clause-variable_bound : goal.returns-clause-variable_bound
returns-clause-variable_bound c = simp form_equations refl
