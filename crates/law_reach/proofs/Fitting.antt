-- Shapes and boxes over the arrays of a row.
use Rattle.std.proofs.Common.{◌≡◌, List, All, Ok}
use Rattle.ras_domain.specs.Region.{HasSmallBounds}
use Rattle.ras_syntax.specs.declared.typed.CheckedSource.{CheckedSource}
use Rattle.spec_expressions.specs.Eval.{Environment, domains_in}
use Rattle.spec_expressions.specs.Fits.{AreMembersOf, IsShapeOf}
use Rattle.spec_expressions.specs.Shape.{Shape, box_of, shape_of}
use Rattle.spec_expressions.specs.Tree.{Tree}
use Rattle.spec_expressions.specs.WellTyped.{IsWellTyped, Variables, kind_in}
use Rattle.law_shapes.proofs.Agree.{shape-agrees}
use Rattle.law_shapes.proofs.Sound.{shape-sound}
use Rattle.law_cells.proofs.Scopes.{domains-members, sound-members}

-- a well typed expression has a shape of its kind, with bounds of 32 bits
pub shape-fits : (sources : List CheckedSource) (variables : Variables) (scope : Environment) (tree : Tree) (shape : Shape) → IsWellTyped sources variables tree
    → AreMembersOf sources scope.row → shape_of (domains_in scope) tree ≡ Ok shape → IsShapeOf (kind_in tree) shape × All HasSmallBounds (box_of shape)
shape-fits sources variables scope tree shape typed members shaped = (
  shape-agrees sources variables (domains_in scope) tree shape typed (domains-members sources scope.row members) shaped,
  (shape-sound (domains_in scope) tree shape (sound-members sources scope.row members) shaped).small_bounds,
)
