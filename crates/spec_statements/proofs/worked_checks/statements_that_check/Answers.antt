use Rattle.std.proofs.Common.{refl}
use Rattle.spec_statements.proofs.CheckedForms.{form_equations}
use Rattle.spec_statements.proofs.worked_checks.statements_that_check.Goals as goal

pub returns-clause-component : goal.returns-clause-component
returns-clause-component c = simp form_equations refl

pub returns-clause-cut : goal.returns-clause-cut
returns-clause-cut c = simp form_equations refl

pub returns-clause-deleted : goal.returns-clause-deleted
returns-clause-deleted c = simp form_equations refl

pub returns-clause-inserted : goal.returns-clause-inserted
returns-clause-inserted c = simp form_equations refl

pub returns-clause-updated : goal.returns-clause-updated
returns-clause-updated c = simp form_equations refl

pub returns-clause-one_cell : goal.returns-clause-one_cell
returns-clause-one_cell c = simp form_equations refl

pub returns-clause-second_source : goal.returns-clause-second_source
returns-clause-second_source c = simp form_equations refl

pub returns-clause-numbered_component : goal.returns-clause-numbered_component
returns-clause-numbered_component c = simp form_equations refl

pub returns-clause-position_in_a_target : goal.returns-clause-position_in_a_target
returns-clause-position_in_a_target c = simp form_equations refl
