use Rattle.std.proofs.Common.{◌≡◌, drop}
use Rattle.spec_expressions.specs.Reach.{box_named}
use Rattle.ras_reach.specs.Variables.{variable_boxes}
use Rattle.ras_reach.proofs.variables.box_named.Given as goal

abbrev pub invariant-loop-variable : goal.invariant-loop-variable
invariant-loop-variable l = box_named (variable_boxes (drop l.variable-index l.variables)) l.name ≡ box_named (variable_boxes l.variables) l.name
