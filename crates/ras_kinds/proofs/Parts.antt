-- A part by its name, of an interval and of anything else.
use Rattle.std.proofs.Common.{◌≡◌, Bool, true, false, refl}
use Rattle.std.specs.Prelude.{List, Result}
use Rattle.ras_syntax.specs.declared.expr.Part.{Part}
use Rattle.ras_syntax.specs.declared.expr.Part.TheVariants.{Named}
use Rattle.ras_syntax.specs.declared.faults.CheckFault.{CheckFault}
use Rattle.ras_syntax.specs.declared.span.Span.{Span}
use Rattle.ras_syntax.specs.declared.typed.Kind.{Kind}
use Rattle.ras_syntax.specs.declared.typed.CheckedSource.{CheckedSource}
use Rattle.spec_expressions.specs.Tree.{NameOf, Form, node, interval_of}
use Rattle.spec_expressions.specs.Names.{names_of, place_among}
use Rattle.spec_expressions.specs.Check.{named_part, part_kind}
use Rattle.ras_kinds.specs.Seen.{is_interval_tree}
use Rattle.ras_kinds.specs.Parts.{bound_told}

abbrev pub part_in : Bool → NameOf → Result (Kind × Part) CheckFault → Result (Kind × Part) CheckFault
part_in true name other = bound_told name
part_in false name other = other

pub part_told : (sources : List CheckedSource) (s : Span) (kind : Kind) (f : Form) (name : NameOf)
    → part_kind sources (node s kind f) (Named name)
    ≡ part_in (is_interval_tree (node s kind f)) name (named_part kind (place_among name (names_of sources (node s kind f))))
part_told sources s kind (interval_of e k) name = refl
part_told sources s kind f name = refl
