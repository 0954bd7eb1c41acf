-- What the walk makes of a domain.
use Rattle.std.proofs.Common.{◌≡◌, List, map, Result, Ok, Err, Vec, Global, refl, sym, ap, subst, ◌∙◌}
use Rattle.ras_cells.specs.Outcomes.{◌>>=◌}
use Rattle.ras_syntax.specs.declared.span.Span.{Span}
use Rattle.ras_syntax.specs.declared.typed.TypedExpr.{TypedExpr}
use Rattle.ras_syntax.specs.declared.typed.TypedDomain.{TypedDomain, fold-roll-TypedDomain}
use Rattle.ras_syntax.specs.declared.typed.TypedAxis.TheOpen.{TypedDomain-F}
use Rattle.ras_syntax.specs.declared.typed.TypedDomain.TheVariants as typed
use Rattle.spec_expressions.specs.Tree.{Tree, Form, Axes, Domain, bounds, domain_like, tree_of, axis_tree_step, domain_tree_step, form_tree_step, expr_tree_step}
use Rattle.spec_expressions.specs.Shape.{Written as WrittenBounds, literal, taken, Box, Bound, ShapeMisfit, box_of, bounds_of, cut_of, shape_of, written_box, written_of}
use Rattle.ras_shape.specs.declared.cuts.Cut.{Cut}
use Rattle.ras_shape.specs.declared.domains.Written.TheVariants.{Literal, Taken}
use Rattle.ras_shape.specs.declared.form.ShapeError.{ShapeError}
use Rattle.ras_shape.specs.declared.look.Look.{Look}
use Rattle.ras_shape.specs.Cuts.{cut_found, literal_box}
use Rattle.ras_shape.specs.Gives.{StopsAs, shape_of_form}
use Rattle.ras_shape.specs.Joins.{IsDomainFound, SeesDomain}
use Rattle.ras_shape.specs.Looks.{IsLook}
use Rattle.ras_shape.specs.Trees.{bound_cuts, domain_looked_at, pairs_seen}
use Rattle.ras_shape.proofs.Follow.{stops_bind, stops_first}

domain_literal : (d : TypedDomain) (ps : List (TypedExpr × TypedExpr)) → d ≡ typed.Literal ps → domain_looked_at d ≡ bounds (pairs_seen ps)
domain_literal d ps is =
    ap domain_looked_at (is ∙ sym (typed.rolls-Literal ps))
    ∙ fold-roll-TypedDomain (Axes → Axes) Domain Form Tree axis_tree_step domain_tree_step form_tree_step expr_tree_step (TypedDomain-F.Literal ps)

domain_taken : (d : TypedDomain) (e : TypedExpr) → d ≡ typed.Sdom e → domain_looked_at d ≡ domain_like (tree_of e)
domain_taken d e is =
    ap domain_looked_at (is ∙ sym (typed.rolls-Sdom e))
    ∙ fold-roll-TypedDomain (Axes → Axes) Domain Form Tree axis_tree_step domain_tree_step form_tree_step expr_tree_step (TypedDomain-F.«TypedDomain::Sdom» e)

literal_written : (cuts : Vec Cut Global) (r : Result (List (Bound × Bound)) ShapeMisfit) → (r >>= λ ends. Ok (map cut_of ends)) ≡ Ok (map cut_found cuts.items)
    → (written : WrittenBounds) × ((r >>= λ values. Ok (literal values)) ≡ Ok written) × ((span : Span) → written_box span written ≡ literal_box span (map cut_found cuts.items))
literal_written cuts (Ok ends) is =
    let same : map cut_of ends ≡ map cut_found cuts.items = cc in
    (literal ends, refl, λ span. ap (literal_box span) same)
literal_written cuts (Err misfit) is = absurd cc

pub sees_literal : (domains : List Box) (d : TypedDomain) (ps : List (TypedExpr × TypedExpr)) (cuts : Vec Cut Global) → d ≡ typed.Literal ps
    → bound_cuts domains (pairs_seen ps) ≡ Ok (map cut_found cuts.items) → SeesDomain domains (domain_looked_at d) (Ok (Literal cuts))
sees_literal domains d ps cuts is found =
    subst (λ x. IsDomainFound domains x (Literal cuts)) (sym (domain_literal d ps is)) (literal_written cuts (bounds_of domains (pairs_seen ps)) found)

pub literal_stops : (domains : List Box) (d : TypedDomain) (ps : List (TypedExpr × TypedExpr)) (error : ShapeError) → d ≡ typed.Literal ps
    → StopsAs (bound_cuts domains (pairs_seen ps)) error → SeesDomain domains (domain_looked_at d) (Err error)
literal_stops domains d ps error is stop =
    subst (λ x. StopsAs (written_of domains x) error) (sym (domain_literal d ps is))
    (stops_bind (bounds_of domains (pairs_seen ps)) (λ values. Ok (literal values)) error (stops_first (bounds_of domains (pairs_seen ps)) (λ ends. map cut_of ends) error stop))

pub sees_taken : (domains : List Box) (d : TypedDomain) (e : TypedExpr) (look : Look) → d ≡ typed.Sdom e → IsLook domains (tree_of e) look
    → SeesDomain domains (domain_looked_at d) (Ok (Taken look.form))
sees_taken domains d e look is sees =
    let written : written_of domains (domain_like (tree_of e)) ≡ Ok (taken (box_of (shape_of_form look.form))) = rw sees.shape refl in
    subst (λ x. IsDomainFound domains x (Taken look.form)) (sym (domain_taken d e is)) (taken (box_of (shape_of_form look.form)), written, λ span. refl)

pub taken_stops : (domains : List Box) (d : TypedDomain) (e : TypedExpr) (error : ShapeError) → d ≡ typed.Sdom e → StopsAs (shape_of domains (tree_of e)) error
    → SeesDomain domains (domain_looked_at d) (Err error)
taken_stops domains d e error is stop =
    subst (λ x. StopsAs (written_of domains x) error) (sym (domain_taken d e is)) (stops_bind (shape_of domains (tree_of e)) (λ x. Ok (taken (box_of x))) error stop)
