-- The trees of lists of expressions, of axes and of domains.
use Rattle.std.specs.Prelude.{◌≡◌, List, [], ◌∷◌, map, Option, Some, None, Result, Ok, Err}
use Rattle.ras_cells.specs.Outcomes.{◌>>=◌}
use Rattle.ras_syntax.specs.declared.typed.TypedExpr.{TypedExpr}
use Rattle.ras_syntax.specs.declared.typed.TypedAxis.{TypedAxis, fold-TypedAxis}
use Rattle.ras_syntax.specs.declared.typed.TypedDomain.{TypedDomain, fold-TypedDomain}
use Rattle.ras_domain.specs.declared.region.Interval.{Interval}
use Rattle.spec_expressions.specs.Tree.{Tree, Form, Trees, Pairs, Axes, Domain, tree_of, trees_of, pairs_of, axis_tree_step, domain_tree_step, form_tree_step, expr_tree_step}
use Rattle.spec_expressions.specs.Shape.{Box, Cut, ShapeMisfit, bounds_of, cut_of}
use Rattle.ras_shape.specs.declared.form.ShapeError.{ShapeError}
use Rattle.ras_shape.specs.declared.cuts.Cut.{Cut as CutFound}
use Rattle.ras_shape.specs.Cuts.{cut_found}
use Rattle.ras_shape.specs.Gives.{StopsAs}

abbrev pub trees_seen : List TypedExpr → Trees
trees_seen es = trees_of (map tree_of es)

abbrev pub pairs_seen : List (TypedExpr × TypedExpr) → Pairs
pairs_seen ps = pairs_of (map (λ p. (tree_of p.0, tree_of p.1)) ps)

abbrev pub axis_seen : TypedAxis → Axes → Axes
axis_seen = fold-TypedAxis (Axes → Axes) Domain Form Tree axis_tree_step domain_tree_step form_tree_step expr_tree_step

abbrev pub domain_looked_at : TypedDomain → Domain
domain_looked_at = fold-TypedDomain (Axes → Axes) Domain Form Tree axis_tree_step domain_tree_step form_tree_step expr_tree_step

-- the cuts between written bounds
abbrev pub bound_cuts : List Box → Pairs → Result (List Cut) ShapeMisfit
bound_cuts domains ps = do
  ends ← bounds_of domains ps
  Ok (map cut_of ends)

-- an axis, if there is one, and those after it
abbrev pub axis_and : Option Interval → Box → Box
axis_and None rest = []
axis_and (Some axis) rest = axis ∷ rest

-- the cuts of an axis of an index and of those after it, from the cuts of those and what the axis makes
abbrev pub StepsCut : Result (List Cut) ShapeMisfit → Result (List Cut) ShapeMisfit → Result (Option CutFound) ShapeError → Type 0
StepsCut whole others (Ok None) = whole ≡ Ok []
StepsCut whole others (Ok (Some found)) = whole ≡ (others >>= λ cuts. Ok (cut_found found ∷ cuts))
StepsCut whole others (Err error) = StopsAs whole error
