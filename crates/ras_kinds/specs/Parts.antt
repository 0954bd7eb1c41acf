-- The parts of sdom(e)[k].
use Rattle.std.specs.Prelude.{if◌then◌else◌, Result, Ok, Err}
use Rattle.ras_syntax.specs.declared.expr.Part.{Part}
use Rattle.ras_syntax.specs.declared.expr.Part.TheVariants.{Named}
use Rattle.ras_syntax.specs.declared.faults.CheckFault.{CheckFault}
use Rattle.ras_syntax.specs.declared.faults.CheckFault.TheVariants.{NoComponent}
use Rattle.ras_syntax.specs.declared.typed.Kind.{Kind}
use Rattle.ras_syntax.specs.declared.typed.Kind.TheVariants.{Scalar}
use Rattle.spec_expressions.specs.Tree.{NameOf}
use Rattle.spec_expressions.specs.Kinds.{wide_type}
use Rattle.spec_expressions.specs.Check.{is_bound_name}

-- the bounds keep their names
abbrev pub bound_told : NameOf → Result (Kind × Part) CheckFault
bound_told name = if is_bound_name name then Ok (Scalar wide_type, Named name) else Err NoComponent
