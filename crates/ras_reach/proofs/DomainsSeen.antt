-- The box of a domain, by how it is written.
use Rattle.std.proofs.Common.{◌≡◌, List, Result, Ok, Err, refl, sym, ap, ◌∙◌}
use Rattle.ras_cells.specs.Outcomes.{◌>>=◌}
use Rattle.ras_syntax.specs.declared.typed.TypedDomain.{TypedDomain, fold-roll-TypedDomain}
use Rattle.ras_syntax.specs.declared.typed.TypedDomain.TheVariants as typed
use Rattle.ras_syntax.specs.declared.typed.TypedAxis.TheOpen.{TypedDomain-F}
use Rattle.ras_syntax.specs.declared.typed.TypedExpr.{TypedExpr}
use Rattle.spec_expressions.specs.Tree.{Tree, Form, Axes, Domain, bounds, domain_like, tree_of, axis_tree_step, domain_tree_step, form_tree_step, expr_tree_step}
use Rattle.spec_expressions.specs.Eval.{axes_in, box_in, written_in}
use Rattle.spec_expressions.specs.Shape.{Box, Shape, ShapeMisfit, box_of, shape_of, taken, written_of}
use Rattle.ras_shape.specs.Trees.{domain_looked_at, pairs_seen}
use Rattle.ras_reach.specs.Statics.{all_found, interval_found, found_or_none}
use Rattle.ras_reach.proofs.StaticsSeen.{bounds_are}

literal_rolls : (d : TypedDomain) (ps : List (TypedExpr × TypedExpr)) → d ≡ typed.Literal ps → domain_looked_at d ≡ bounds (pairs_seen ps)
literal_rolls d ps is =
    ap domain_looked_at (is ∙ sym (typed.rolls-Literal ps))
    ∙ fold-roll-TypedDomain (Axes → Axes) Domain Form Tree axis_tree_step domain_tree_step form_tree_step expr_tree_step (TypedDomain-F.Literal ps)

like_rolls : (d : TypedDomain) (e : TypedExpr) → d ≡ typed.Sdom e → domain_looked_at d ≡ domain_like (tree_of e)
like_rolls d e is =
    ap domain_looked_at (is ∙ sym (typed.rolls-Sdom e))
    ∙ fold-roll-TypedDomain (Axes → Axes) Domain Form Tree axis_tree_step domain_tree_step form_tree_step expr_tree_step (TypedDomain-F.«TypedDomain::Sdom» e)

pub literal_box : (domains : List Box) (d : TypedDomain) (ps : List (TypedExpr × TypedExpr)) → d ≡ typed.Literal ps
    → axes_in (written_in (written_of domains (domain_looked_at d))) ≡ found_or_none (all_found (interval_found domains) ps)
literal_box domains d ps is = ap (λ domain. axes_in (written_in (written_of domains domain))) (literal_rolls d ps is) ∙ bounds_are domains ps

pub like_box : (domains : List Box) (d : TypedDomain) (e : TypedExpr) → d ≡ typed.Sdom e
    → axes_in (written_in (written_of domains (domain_looked_at d))) ≡ box_in (shape_of domains (tree_of e))
like_box domains d e is = ap (λ domain. axes_in (written_in (written_of domains domain))) (like_rolls d e is) ∙ by_shape (shape_of domains (tree_of e)) where
  by_shape : (r : Result Shape ShapeMisfit) → axes_in (written_in (r >>= λ x. Ok (taken (box_of x)))) ≡ box_in r
  by_shape (Ok shape) = refl
  by_shape (Err misfit) = refl

pub ruleset domain_boxes = (literal_box, like_box)
