use Rattle.std.proofs.Common.{refl}
use Rattle.spec_statements.proofs.CheckedForms.{form_equations}
use Rattle.spec_statements.proofs.worked_checks.order_of_check_faults.Goals as goal

pub returns-clause-parts_first : goal.returns-clause-parts_first
returns-clause-parts_first c = simp form_equations refl

pub returns-clause-variable_then : goal.returns-clause-variable_then
returns-clause-variable_then c = simp form_equations refl

pub returns-clause-expressions_before_rules : goal.returns-clause-expressions_before_rules
returns-clause-expressions_before_rules c = simp form_equations refl

pub returns-clause-condition : goal.returns-clause-condition
returns-clause-condition c = simp form_equations refl

pub returns-clause-suffix_in_a_bound : goal.returns-clause-suffix_in_a_bound
returns-clause-suffix_in_a_bound c = simp form_equations refl

pub returns-clause-identifier_of_a_variable : goal.returns-clause-identifier_of_a_variable
returns-clause-identifier_of_a_variable c = simp form_equations refl

pub returns-clause-target : goal.returns-clause-target
returns-clause-target c = simp form_equations refl

pub returns-clause-target_before_body : goal.returns-clause-target_before_body
returns-clause-target_before_body c = simp form_equations refl

pub returns-clause-array_condition : goal.returns-clause-array_condition
returns-clause-array_condition c = simp form_equations refl

pub returns-clause-condition_of_a_fold : goal.returns-clause-condition_of_a_fold
returns-clause-condition_of_a_fold c = simp form_equations refl

pub returns-clause-bound_of_a_fold : goal.returns-clause-bound_of_a_fold
returns-clause-bound_of_a_fold c = simp form_equations refl

pub returns-clause-no_such_component : goal.returns-clause-no_such_component
returns-clause-no_such_component c = simp form_equations refl

pub returns-clause-bool_for_a_number : goal.returns-clause-bool_for_a_number
returns-clause-bool_for_a_number c = simp form_equations refl

pub returns-clause-too_few_axes : goal.returns-clause-too_few_axes
returns-clause-too_few_axes c = simp form_equations refl
