-- What the forms that are written as an index or a part are, by what their operands are.
use Rattle.std.proofs.Common.{◌≡◌, ℤ, List, [], ◌∷◌, map, Result, Ok, Err, Option, Some, None, Bool, true, false, refl, sym, ap, Vec, Global, length, ◌≢◌}
use Rattle.std.specs.Prelude.{pos, slice_get, if◌then◌else◌, codes}
use Rattle.ras_cells.specs.declared.cell.CellFault.TheVariants.{Overflow}
use Rattle.ras_cells.specs.Outcomes.{◌>>=◌}
use Rattle.ras_domain.specs.declared.region.Interval.{Interval as IntervalOf}
use Rattle.ras_syntax.specs.declared.span.Span.{Span}
use Rattle.ras_syntax.specs.declared.expr.Part.{Part}
use Rattle.ras_syntax.specs.declared.expr.Part.TheVariants as parts
use Rattle.ras_syntax.specs.declared.typed.Kind.{Kind}
use Rattle.ras_syntax.specs.declared.typed.TypedExpr.{TypedExpr}
use Rattle.ras_syntax.specs.declared.typed.TypedForm.{TypedForm, fold-TypedForm}
use Rattle.ras_syntax.specs.declared.typed.TypedDomain.{TypedDomain}
use Rattle.ras_syntax.specs.declared.typed.TypedAxis.{TypedAxis, map-TypedAxis, out-TypedAxis, fold_out-TypedAxis}
use Rattle.ras_syntax.specs.declared.typed.TypedAxis.TheOpen.{TypedAxis-F}
use Rattle.spec_expressions.specs.Check.{tree_of_axes}
use Rattle.ras_shape.specs.Trees.{axis_seen, domain_looked_at}
use Rattle.spec_expressions.specs.Tree.{Domain, tree_of, axis_tree_step, domain_tree_step, form_tree_step, expr_tree_step, Tree, Form, Axes, Side, lower, upper, node, variable, number}
use Rattle.spec_expressions.specs.Tree.{domain_of, interval_of, bound_of, component, no_axes, position, index_form, part_form, is_same_name}
use Rattle.spec_expressions.specs.Shape.{Box, Shape, scalar, box, box_of, Cut, ShapeMisfit, shape_of, form_shape, cuts_of, cut_shape, is_static_form, static_form, side_of, interval_at}
use Rattle.spec_expressions.specs.Shape.{interval_list}
use Rattle.ras_shape.specs.declared.form.Form.{Form as Found}
use Rattle.ras_shape.specs.declared.form.ShapeError.{ShapeError}
use Rattle.ras_shape.specs.declared.look.Look.{Look}
use Rattle.ras_shape.specs.declared.cuts.Cut.{Cut as CutFound}
use Rattle.ras_shape.specs.declared.ways.Head.TheVariants as heads
use Rattle.ras_shape.specs.declared.ways.Way.{Way}
use Rattle.ras_shape.specs.declared.ways.Way.TheVariants.{Cell, Interval, Cells}
use Rattle.ras_shape.specs.declared.ways.PartWay.TheVariants.{Lower, Upper}
use Rattle.ras_shape.specs.Cuts.{cut_found}
use Rattle.ras_shape.specs.Gives.{shape_of_form, StopsAs, GivesAs, GivesShape, FollowsAsShape, shape_seen}
use Rattle.ras_shape.specs.Looks.{IsLook, Sees, plain_look, form_seen}
use Rattle.ras_shape.specs.Joins.{cuts_seen, index_from}
use Rattle.ras_shape.specs.Ways.{head_of_tree, way_between, has_one_position, index_way_of, is_axis_of_domain, is_axis_way, part_way_of, part_look, bound_look}
use Rattle.ras_shape.proofs.Follow.{first_stop, gives_step, stops_bind, stops_first}
use Rattle.ras_shape.proofs.Looking.{sees_form, sees_plain, scalar-gives}

-- ---- indexes

pub index-static : (e : Tree) (axes : Axes) → is_static_form (index_form e axes) ≡ false
index-static (node s k (variable x)) (position (node t l (number n atom)) no_axes) = refl
index-static (node s k (domain_of e)) (position (node t l (number n atom)) no_axes) = refl
index-static e (position (node t l (variable x)) no_axes) = refl
index-static e axes = refl

pub index-value : (domains : List Box) (e : Tree) (axes : Axes) → static_form domains (index_form e axes) ≡ Err Overflow
index-value domains (node s k (variable x)) (position (node t l (number n atom)) no_axes) = refl
index-value domains (node s k (domain_of e)) (position (node t l (number n atom)) no_axes) = refl
index-value domains e (position (node t l (variable x)) no_axes) = refl
index-value domains e axes = refl

pub index_head : (s : Span) (kind : Kind) (e : Tree) (axes : Axes) → head_of_tree (node s kind (index_form e axes)) ≡ heads.Other
index_head s kind (node t k (variable x)) (position (node u l (number n atom)) no_axes) = refl
index_head s kind (node t k (domain_of e)) (position (node u l (number n atom)) no_axes) = refl
index_head s kind e (position (node u l (variable x)) no_axes) = refl
index_head s kind e axes = refl

pub part_head : (s : Span) (kind : Kind) (e : Tree) (part : Part) → head_of_tree (node s kind (part_form e part)) ≡ heads.Other
part_head s kind (node t k (interval_of e n)) (parts.Named name) =
    elim (is_same_name name (codes "lo")) as (λ b. head_of_tree (node s kind (if b then bound_of lower e n else bound_of upper e n)) ≡ heads.Other) [ true ↦ refl | false ↦ refl ]
part_head s kind e (parts.Named name) = refl
part_head s kind e (parts.Numbered n) = refl

-- by the heads of its parts, where there is one position, and where there is none or more
pub way_of_one : (e t : Tree) → index_way_of e (position t no_axes) ≡ way_between (head_of_tree t) (head_of_tree e)
way_of_one (node s k (variable x)) (node t l (number n atom)) = refl
way_of_one (node s k (domain_of e)) (node t l (number n atom)) = refl
way_of_one e (node t l (variable x)) = refl
way_of_one e t = refl

pub way_of_other : (e : Tree) (axes : Axes) → has_one_position axes ≡ false → index_way_of e axes ≡ Cells
way_of_other (node s k (variable x)) (position (node t l (number n atom)) no_axes) other = absurd cc
way_of_other (node s k (domain_of e)) (position (node t l (number n atom)) no_axes) other = absurd cc
way_of_other e (position (node t l (variable x)) no_axes) other = absurd cc
way_of_other e axes other = refl

pub index_axis : (s : Span) (kind : Kind) (e : Tree) (axes : Axes) → is_axis_of_domain (node s kind (index_form e axes)) ≡ is_axis_way (index_way_of e axes)
index_axis s kind (node t k (variable x)) (position (node u l (number n atom)) no_axes) = refl
index_axis s kind (node t k (domain_of e)) (position (node u l (number n atom)) no_axes) = refl
index_axis s kind e (position (node u l (variable x)) no_axes) = refl
index_axis s kind e axes = refl

pub part_axis : (s : Span) (kind : Kind) (e : Tree) (part : Part) → is_axis_of_domain (node s kind (part_form e part)) ≡ false
part_axis s kind (node t k (interval_of e n)) (parts.Named name) =
    elim (is_same_name name (codes "lo")) as (λ b. is_axis_of_domain (node s kind (if b then bound_of lower e n else bound_of upper e n)) ≡ false) [ true ↦ refl | false ↦ refl ]
part_axis s kind e (parts.Named name) = refl
part_axis s kind e (parts.Numbered n) = refl

-- one axis of a domain, from the domain
twice : (r : Result Shape ShapeMisfit) (k : ℤ)
    → ((r >>= λ x. Ok (box (box_of x))) >>= λ x. Ok (box (interval_list (interval_at (box_of x) k)))) ≡ (r >>= λ x. Ok (box (interval_list (interval_at (box_of x) k))))
twice (Ok x) k = refl
twice (Err misfit) k = refl

-- the shape of an index, by its way
abbrev way_shape : List Box → Span → Tree → Axes → Way → Result Shape ShapeMisfit
way_shape domains span e axes Cell = shape_of domains e >>= λ inner. Ok scalar
way_shape domains span e axes (Interval k) = shape_of domains e >>= λ x. Ok (box (interval_list (interval_at (box_of x) k)))
way_shape domains span e axes Cells = shape_of domains e >>= λ x. cuts_of domains axes (box_of x) >>= λ cuts. cut_shape span (box_of x) cuts

index-shape : (domains : List Box) (span : Span) (kind : Kind) (e : Tree) (axes : Axes) → form_shape domains span kind (index_form e axes) ≡ way_shape domains span e axes (index_way_of e axes)
index-shape domains span kind (node s k (variable x)) (position (node t l (number n atom)) no_axes) = refl
index-shape domains span kind (node s k (domain_of e)) (position (node t l (number n atom)) no_axes) = sym (twice (shape_of domains e) n)
index-shape domains span kind e (position (node t l (variable x)) no_axes) = refl
index-shape domains span kind e axes = refl

abbrev pub GivesCuts : Result (List Cut) ShapeMisfit → Result (Vec CutFound Global) ShapeError → Type 0
GivesCuts = GivesAs (λ cuts. map cut_found cuts.items)

way-gives : (domains : List Box) (span : Span) (e : Tree) (axes : Axes) (way : Way) (r : Result Found ShapeError) (cuts : Result (Vec CutFound Global) ShapeError) (got : Result Found ShapeError)
    → GivesShape (shape_of domains e) r → ((form : Found) → r ≡ Ok form → GivesCuts (cuts_of domains axes (box_of (shape_of_form form))) cuts)
    → FollowsAsShape (index_from way span (shape_seen r) (cuts_seen cuts)) got → GivesShape (way_shape domains span e axes way) got
way-gives domains span e axes Cell r cuts got s c from = scalar-gives domains e r got s from
way-gives domains span e axes (Interval k) r cuts got s c from =
    gives_step shape_of_form shape_of_form (shape_of domains e) r (λ x. Ok (box (interval_list (interval_at (box_of x) k)))) got s from
way-gives domains span e axes Cells (Ok form) cuts got s c from =
    rw s (gives_step (λ cs. map cut_found cs.items) shape_of_form (cuts_of domains axes (box_of (shape_of_form form))) cuts
    (λ all. cut_shape span (box_of (shape_of_form form)) all) got (c form refl) from)
way-gives domains span e axes Cells (Err error) cuts got s c from =
    first_stop shape_of_form (way_shape domains span e axes Cells) error got
    (stops_bind (shape_of domains e) (λ x. cuts_of domains axes (box_of x) >>= λ all. cut_shape span (box_of x) all) error s) from

pub sees_index : (domains : List Box) (span : Span) (kind : Kind) (e : Tree) (axes : Axes) (r : Result Found ShapeError) (cuts : Result (Vec CutFound Global) ShapeError)
    (got : Result Found ShapeError)
    → GivesShape (shape_of domains e) r → ((form : Found) → r ≡ Ok form → GivesCuts (cuts_of domains axes (box_of (shape_of_form form))) cuts)
    → FollowsAsShape (index_from (index_way_of e axes) span (shape_seen r) (cuts_seen cuts)) got → Sees domains (node span kind (index_form e axes)) (plain_look got)
sees_index domains span kind e axes r cuts got s c from =
    sees_plain domains span kind (index_form e axes) got (index-static e axes) (index-value domains e axes)
    (rw (index-shape domains span kind e axes) (way-gives domains span e axes (index_way_of e axes) r cuts got s c from))

-- ---- parts

side-first : (side : Side) (o : Option IntervalOf) → side_of side o ≡ side_of side (slice_get (interval_list o) 0)
side-first lower None = refl
side-first lower (Some axis) = refl
side-first upper None = refl
side-first upper (Some axis) = refl

-- the bound of an axis of a domain, whose shape is known
bound-known : (domains : List Box) (span : Span) (kind : Kind) (e : Tree) (n : ℤ) (side : Side) (look : Look) (r : Result Shape ShapeMisfit) → shape_of domains e ≡ r
    → (r >>= λ x. Ok (box (interval_list (interval_at (box_of x) n)))) ≡ Ok (shape_of_form look.form)
    → IsLook domains (node span kind (bound_of side e n)) (bound_look (side_of side (slice_get (box_of (shape_of_form look.form)) 0)))
bound-known domains span kind e n side look (Ok x) known is =
    let same : box (interval_list (interval_at (box_of x) n)) ≡ shape_of_form look.form = cc in
    record {
      shape = rw known refl;
      fixed = refl;
      value = rw (known, ← same) (side-first side (interval_at (box_of x) n));
    }
bound-known domains span kind e n side look (Err misfit) known is = absurd cc

sees_bound : (domains : List Box) (span s : Span) (kind k : Kind) (e : Tree) (n : ℤ) (side : Side) (look : Look) → IsLook domains (node s k (interval_of e n)) look
    → IsLook domains (node span kind (bound_of side e n)) (bound_look (side_of side (slice_get (box_of (shape_of_form look.form)) 0)))
sees_bound domains span s kind k e n side look is = bound-known domains span kind e n side look (shape_of domains e) refl is.shape

bound-stops : (domains : List Box) (e : Tree) (n : ℤ) (error : ShapeError) → StopsAs (shape_of domains e >>= λ x. Ok (box (interval_list (interval_at (box_of x) n)))) error
    → StopsAs (shape_of domains e >>= λ inner. Ok scalar) error
bound-stops domains e n error stop =
    stops_bind (shape_of domains e) (λ inner. Ok scalar) error (stops_first (shape_of domains e) (λ x. box (interval_list (interval_at (box_of x) n))) error stop)

bound_named-sees : (domains : List Box) (span s : Span) (kind k : Kind) (e : Tree) (n : ℤ) (is_lower : Bool) (r : Result Look ShapeError) → Sees domains (node s k (interval_of e n)) r
    → Sees domains (node span kind (if is_lower then bound_of lower e n else bound_of upper e n)) (part_look (if is_lower then Lower else Upper) r)
bound_named-sees domains span s kind k e n true (Ok look) is = sees_bound domains span s kind k e n lower look is
bound_named-sees domains span s kind k e n false (Ok look) is = sees_bound domains span s kind k e n upper look is
bound_named-sees domains span s kind k e n true (Err error) stop = bound-stops domains e n error stop
bound_named-sees domains span s kind k e n false (Err error) stop = bound-stops domains e n error stop

component-sees : (domains : List Box) (span : Span) (kind : Kind) (e : Tree) (n : ℤ) (r : Result Look ShapeError) → Sees domains e r
    → Sees domains (node span kind (component e n)) (plain_look (form_seen r))
component-sees domains span kind e n r s = sees_plain domains span kind (component e n) (form_seen r) refl refl (sees_form domains e r s)

pub sees_part : (domains : List Box) (span : Span) (kind : Kind) (e : Tree) (part : Part) (r : Result Look ShapeError) → Sees domains e r
    → Sees domains (node span kind (part_form e part)) (part_look (part_way_of part (is_axis_of_domain e)) r)
sees_part domains span kind (node s k (interval_of e n)) (parts.Named name) r is = bound_named-sees domains span s kind k e n (is_same_name name (codes "lo")) r is
sees_part domains span kind e (parts.Named name) r is = component-sees domains span kind e (pos 0) r is
sees_part domains span kind e (parts.Numbered n) r is = component-sees domains span kind e n r is

-- ---- one position

abbrev form_within : TypedForm → Form
form_within = fold-TypedForm (Axes → Axes) Domain Form Tree axis_tree_step domain_tree_step form_tree_step expr_tree_step

abbrev AxisLayer : Type 0
AxisLayer = TypedAxis-F (Axes → Axes) Domain Form Tree

abbrev layer_within : TypedAxis → AxisLayer
layer_within a = map-TypedAxis TypedAxis TypedDomain TypedForm TypedExpr (Axes → Axes) Domain Form Tree axis_seen domain_looked_at form_within tree_of (out-TypedAxis a)

axis-opened : (a : TypedAxis) (rest : Axes) → axis_seen a rest ≡ axis_tree_step (layer_within a) rest
axis-opened a rest = ap (λ before. before rest) (fold_out-TypedAxis (Axes → Axes) Domain Form Tree axis_tree_step domain_tree_step form_tree_step expr_tree_step a)

two-steps : (first second : AxisLayer) (rest : Axes) → has_one_position (axis_tree_step first (axis_tree_step second rest)) ≡ false
two-steps (TypedAxis-F.At t) (TypedAxis-F.At u) rest = refl
two-steps (TypedAxis-F.At t) (TypedAxis-F.Trim a b) rest = refl
two-steps (TypedAxis-F.Trim a b) second rest = refl

-- where there is not one axis, there is not one position
pub one_axis : (axes : List TypedAxis) → length axes ≢ 1 → has_one_position (tree_of_axes axes) ≡ false
one_axis [] never = refl
one_axis (a ∷ []) never = absurd (never refl)
one_axis (a ∷ b ∷ more) never =
    rw (axis-opened a (axis_seen b (tree_of_axes more)), axis-opened b (tree_of_axes more)) (two-steps (layer_within a) (layer_within b) (tree_of_axes more))
