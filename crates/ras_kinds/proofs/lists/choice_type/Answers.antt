use Rattle.std.proofs.Common.{true, false, map, ◌++◌, ◌∷◌, [], sym, ◌∙◌}
use Rattle.spec_expressions.specs.Check.{kind_of}
use Rattle.ras_kinds.proofs.Joints.{choice_where}
use Rattle.ras_kinds.proofs.lists.choice_type.Goals as goal

pub returns-then-are_conditions : goal.returns-then-are_conditions
returns-then-are_conditions c =
    let values = map (λ arm. kind_of arm.1) c.args.arms.now ++ kind_of c.args.other.now ∷ [] in
    c.cell.ensures values c.join_of_values.ensures ∙ sym (choice_where c.args.arms.now values true (sym c.if-are_conditions.true ∙ c.are_conditions.ensures))

pub returns-else-are_conditions : goal.returns-else-are_conditions
returns-else-are_conditions c =
    let values = map (λ arm. kind_of arm.1) c.args.arms.now ++ kind_of c.args.other.now ∷ [] in
    sym (choice_where c.args.arms.now values false (sym c.if-are_conditions.false ∙ c.are_conditions.ensures))
