-- What the walk makes of an axis of an index and of a bound of a trim.
use Rattle.std.proofs.Common.{◌≡◌, ℤ, List, ◌∷◌, Result, Ok, Err, Option, Some, None, refl, sym, ap, subst, ◌∙◌}
use Rattle.std.specs.Prelude.{option_map}
use Rattle.ras_cells.specs.Outcomes.{◌>>=◌}
use Rattle.ras_domain.specs.declared.region.Interval.{Interval}
use Rattle.ras_syntax.specs.declared.typed.TypedExpr.{TypedExpr}
use Rattle.ras_syntax.specs.declared.typed.TypedAxis.{TypedAxis, fold-roll-TypedAxis}
use Rattle.ras_syntax.specs.declared.typed.TypedAxis.TheOpen.{TypedAxis-F}
use Rattle.ras_syntax.specs.declared.typed.TypedAxis.TheVariants as typed
use Rattle.spec_expressions.specs.Tree.{Tree, Form, Axes, Domain, Edge, edge, edge_of, position, trim, tree_of, axis_tree_step, domain_tree_step, form_tree_step, expr_tree_step}
use Rattle.spec_expressions.specs.Shape.{Box, Bound, cuts_of, edge_value, is_static, position_cut, shape_of, static_of, trim_cut}
use Rattle.ras_shape.specs.declared.cuts.Cut.{Cut}
use Rattle.ras_shape.specs.declared.form.ShapeError.{ShapeError}
use Rattle.ras_shape.specs.declared.look.Look.{Look}
use Rattle.ras_shape.specs.Cuts.{cut_found}
use Rattle.ras_shape.specs.Gives.{StopsAs}
use Rattle.ras_shape.specs.Looks.{IsLook}
use Rattle.ras_shape.specs.Trees.{StepsCut, axis_and, axis_seen}
use Rattle.ras_shape.proofs.Follow.{stops_bind}
use Rattle.ras_shape.proofs.IndexTurns.{StepsEach}

pub edge_sees : (domains : List Box) (z : ℤ) (t : Tree) (look : Look) → IsLook domains t look → edge_value domains z (edge t) ≡ Ok look.value
edge_sees domains z t look is = rw is.shape (ap (λ v. Ok v) is.value)

pub edge_stops : (domains : List Box) (z : ℤ) (t : Tree) (error : ShapeError) → StopsAs (shape_of domains t) error → StopsAs (edge_value domains z (edge t)) error
edge_stops domains z t error stop = stops_bind (shape_of domains t) (λ inner. Ok (static_of domains t)) error stop

pub axis_at : (x : TypedAxis) (t : TypedExpr) (rest : Axes) → x ≡ typed.At t → axis_seen x rest ≡ position (tree_of t) rest
axis_at x t rest is =
    ap (λ y. axis_seen y rest) (is ∙ sym (typed.rolls-At t))
    ∙ ap (λ before. before rest) (fold-roll-TypedAxis (Axes → Axes) Domain Form Tree axis_tree_step domain_tree_step form_tree_step expr_tree_step (TypedAxis-F.At t))

trim_rolls : (a b : Option TypedExpr) (rest : Axes) → axis_seen (typed.Trim a b) rest ≡ trim (edge_of (option_map tree_of a)) (edge_of (option_map tree_of b)) rest
trim_rolls None None rest =
    ap (λ y. axis_seen y rest) (sym (typed.rolls-Trim None None))
    ∙ ap (λ before. before rest) (fold-roll-TypedAxis (Axes → Axes) Domain Form Tree axis_tree_step domain_tree_step form_tree_step expr_tree_step (TypedAxis-F.Trim None None))
trim_rolls None (Some b) rest =
    ap (λ y. axis_seen y rest) (sym (typed.rolls-Trim None (Some b)))
    ∙ ap (λ before. before rest) (fold-roll-TypedAxis (Axes → Axes) Domain Form Tree axis_tree_step domain_tree_step form_tree_step expr_tree_step (TypedAxis-F.Trim None (Some b)))
trim_rolls (Some a) None rest =
    ap (λ y. axis_seen y rest) (sym (typed.rolls-Trim (Some a) None))
    ∙ ap (λ before. before rest) (fold-roll-TypedAxis (Axes → Axes) Domain Form Tree axis_tree_step domain_tree_step form_tree_step expr_tree_step (TypedAxis-F.Trim (Some a) None))
trim_rolls (Some a) (Some b) rest =
    ap (λ y. axis_seen y rest) (sym (typed.rolls-Trim (Some a) (Some b)))
    ∙ ap (λ before. before rest) (fold-roll-TypedAxis (Axes → Axes) Domain Form Tree axis_tree_step domain_tree_step form_tree_step expr_tree_step (TypedAxis-F.Trim (Some a) (Some b)))

pub axis_trim : (x : TypedAxis) (a b : Option TypedExpr) (rest : Axes) → x ≡ typed.Trim a b
    → axis_seen x rest ≡ trim (edge_of (option_map tree_of a)) (edge_of (option_map tree_of b)) rest
axis_trim x a b rest is = ap (λ y. axis_seen y rest) is ∙ trim_rolls a b rest

-- ---- the cuts from a position or a trim on

-- an array that has such an axis
at_step : (domains : List Box) (t : Tree) (look : Look) (cut : Cut) (axis : Interval) (others : Axes) (rest : Box)
    → IsLook domains t look → cut_found cut ≡ position_cut look.fixed look.value
    → StepsCut (cuts_of domains (position t others) (axis ∷ rest)) (cuts_of domains others rest) (Ok (Some cut))
at_step domains t look cut axis others rest is same = rw (is.shape, is.fixed, is.value, same) refl

trim_step : (domains : List Box) (a b : Edge) (lo hi : Bound) (cut : Cut) (axis : Interval) (others : Axes) (rest : Box)
    → edge_value domains axis.lo a ≡ Ok lo → edge_value domains axis.hi b ≡ Ok hi → cut_found cut ≡ trim_cut lo hi
    → StepsCut (cuts_of domains (trim a b others) (axis ∷ rest)) (cuts_of domains others rest) (Ok (Some cut))
trim_step domains a b lo hi cut axis others rest low high same = rw (low, high, same) refl

-- an axis of an index is a position
at_steps : (domains : List Box) (x : TypedAxis) (t : TypedExpr) (axis : Option Interval) (r : Result (Option Cut) ShapeError) → x ≡ typed.At t
    → ((others : Axes) (rest : Box) → StepsCut (cuts_of domains (position (tree_of t) others) (axis_and axis rest)) (cuts_of domains others rest) r) → StepsEach domains x axis r
at_steps domains x t axis r is steps others rest =
    subst (λ index. StepsCut (cuts_of domains index (axis_and axis rest)) (cuts_of domains others rest) r) (sym (axis_at x t others is)) (steps others rest)

pub position_found : (domains : List Box) (x : TypedAxis) (t : TypedExpr) (axis : Option Interval) (one : Interval) (look : Look) (cut : Cut) → x ≡ typed.At t → axis ≡ Some one
    → IsLook domains (tree_of t) look → cut_found cut ≡ position_cut look.fixed look.value → StepsEach domains x axis (Ok (Some cut))
position_found domains x t axis one look cut is here sees same =
    subst (λ o. StepsEach domains x o (Ok (Some cut))) (sym here)
    (at_steps domains x t (Some one) (Ok (Some cut)) is (λ others rest. at_step domains (tree_of t) look cut one others rest sees same))

pub position_over : (domains : List Box) (x : TypedAxis) (t : TypedExpr) (axis : Option Interval) → x ≡ typed.At t → axis ≡ None → StepsEach domains x axis (Ok None)
position_over domains x t axis is over =
    subst (λ o. StepsEach domains x o (Ok None)) (sym over) (at_steps domains x t None (Ok None) is (λ others rest. refl))

pub position_stops : (domains : List Box) (x : TypedAxis) (t : TypedExpr) (axis : Option Interval) (one : Interval) (error : ShapeError) → x ≡ typed.At t → axis ≡ Some one
    → StopsAs (shape_of domains (tree_of t)) error → StepsEach domains x axis (Err error)
position_stops domains x t axis one error is here stop =
    subst (λ o. StepsEach domains x o (Err error)) (sym here)
    (at_steps domains x t (Some one) (Err error) is (λ others rest.
    stops_bind (shape_of domains (tree_of t))
    (λ inner. cuts_of domains others rest >>= λ cuts. Ok (position_cut (is_static (tree_of t)) (static_of domains (tree_of t)) ∷ cuts)) error stop))

-- an axis of an index is a trim
abbrev pub edge_seen : Option TypedExpr → Edge
edge_seen e = edge_of (option_map tree_of e)

trim_steps : (domains : List Box) (x : TypedAxis) (a b : Option TypedExpr) (axis : Option Interval) (r : Result (Option Cut) ShapeError) → x ≡ typed.Trim a b
    → ((others : Axes) (rest : Box) → StepsCut (cuts_of domains (trim (edge_seen a) (edge_seen b) others) (axis_and axis rest)) (cuts_of domains others rest) r)
    → StepsEach domains x axis r
trim_steps domains x a b axis r is steps others rest =
    subst (λ index. StepsCut (cuts_of domains index (axis_and axis rest)) (cuts_of domains others rest) r) (sym (axis_trim x a b others is)) (steps others rest)

pub trim_found : (domains : List Box) (x : TypedAxis) (a b : Option TypedExpr) (axis : Option Interval) (one : Interval) (lo hi : Bound) (cut : Cut) → x ≡ typed.Trim a b → axis ≡ Some one
    → edge_value domains one.lo (edge_seen a) ≡ Ok lo → edge_value domains one.hi (edge_seen b) ≡ Ok hi → cut_found cut ≡ trim_cut lo hi → StepsEach domains x axis (Ok (Some cut))
trim_found domains x a b axis one lo hi cut is here low high same =
    subst (λ o. StepsEach domains x o (Ok (Some cut))) (sym here)
    (trim_steps domains x a b (Some one) (Ok (Some cut)) is (λ others rest. trim_step domains (edge_seen a) (edge_seen b) lo hi cut one others rest low high same))

pub trim_over : (domains : List Box) (x : TypedAxis) (a b : Option TypedExpr) (axis : Option Interval) → x ≡ typed.Trim a b → axis ≡ None → StepsEach domains x axis (Ok None)
trim_over domains x a b axis is over =
    subst (λ o. StepsEach domains x o (Ok None)) (sym over) (trim_steps domains x a b None (Ok None) is (λ others rest. refl))

pub trim_low_stops : (domains : List Box) (x : TypedAxis) (a b : Option TypedExpr) (axis : Option Interval) (one : Interval) (error : ShapeError) → x ≡ typed.Trim a b → axis ≡ Some one
    → StopsAs (edge_value domains one.lo (edge_seen a)) error → StepsEach domains x axis (Err error)
trim_low_stops domains x a b axis one error is here stop =
    subst (λ o. StepsEach domains x o (Err error)) (sym here)
    (trim_steps domains x a b (Some one) (Err error) is (λ others rest.
    stops_bind (edge_value domains one.lo (edge_seen a))
    (λ lo. edge_value domains one.hi (edge_seen b) >>= λ hi. cuts_of domains others rest >>= λ cuts. Ok (trim_cut lo hi ∷ cuts)) error stop))

pub trim_high_stops : (domains : List Box) (x : TypedAxis) (a b : Option TypedExpr) (axis : Option Interval) (one : Interval) (lo : Bound) (error : ShapeError) → x ≡ typed.Trim a b
    → axis ≡ Some one → edge_value domains one.lo (edge_seen a) ≡ Ok lo → StopsAs (edge_value domains one.hi (edge_seen b)) error → StepsEach domains x axis (Err error)
trim_high_stops domains x a b axis one lo error is here low stop =
    subst (λ o. StepsEach domains x o (Err error)) (sym here)
    (trim_steps domains x a b (Some one) (Err error) is (λ others rest.
    rw low (stops_bind (edge_value domains one.hi (edge_seen b)) (λ hi. cuts_of domains others rest >>= λ cuts. Ok (trim_cut lo hi ∷ cuts)) error stop)))
