-- The variables in scope, as the code has them.
use Rattle.std.specs.Prelude.{List, map}
use Rattle.spec_expressions.specs.Shape.{Box}
use Rattle.spec_expressions.specs.Tree.{NameOf}
use Rattle.ras_reach.specs.declared.variables.Variable.{Variable}

abbrev pub variable_box : Variable → NameOf × Box
variable_box variable = (variable.name, variable.axes.items)

-- innermost first
abbrev pub variable_boxes : List Variable → List (NameOf × Box)
variable_boxes variables = map variable_box variables
