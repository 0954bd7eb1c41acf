-- The axes of an index, one after the other.
use Rattle.std.proofs.Common.{◌≡◌, ℕ, zero, suc, ◌+◌, ◌≤◌, Bool, true, false, List, [], ◌∷◌, length, refl, sym, ap, ◌∙◌, zero-add, arith}
use Rattle.std.specs.Prelude.{ℤ, ◌≢◌, ◌==◌, ◌&&◌, cond, Option, Some, None, Result, Ok, Err}
use Rattle.std.specs.List.{list_all, count_by}
use Rattle.std.proofs.lemmas.List.Sums.{sum_by_from, count_by-le-length}
use Rattle.ras_cells.specs.declared.cell.CellType.{CellType}
use Rattle.ras_syntax.specs.declared.faults.CheckFault.{CheckFault}
use Rattle.ras_syntax.specs.declared.faults.CheckFault.TheVariants.{TypeMismatch}
use Rattle.ras_syntax.specs.declared.typed.Kind.{Kind}
use Rattle.ras_syntax.specs.declared.typed.Kind.TheVariants.{Scalar, Point}
use Rattle.ras_syntax.specs.declared.typed.TypedExpr.{TypedExpr}
use Rattle.ras_syntax.specs.declared.typed.TypedForm.{TypedForm, fold-TypedForm}
use Rattle.ras_syntax.specs.declared.typed.TypedDomain.{TypedDomain, fold-TypedDomain}
use Rattle.ras_syntax.specs.declared.typed.TypedAxis.{TypedAxis, fold-TypedAxis, map-TypedAxis, out-TypedAxis, fold_out-TypedAxis}
use Rattle.ras_syntax.specs.declared.typed.TypedAxis.TheOpen.{TypedAxis-F}
use Rattle.spec_expressions.specs.Tree.{Tree, Form, Axes, Domain, node, number, no_axes, position, trim, tree_of, axis_tree_step, domain_tree_step, form_tree_step, expr_tree_step}
use Rattle.spec_expressions.specs.Shape.{is_static}
use Rattle.spec_expressions.specs.Kinds.{by_rules}
use Rattle.spec_expressions.specs.Check.{tree_of_axes, on_axes, is_number_tree, are_numbers, bounds_are_static, all_are_static, count_of, kept_of, cut_kind, element_kind, is_axis, on_axis}
use Rattle.ras_kinds.specs.Seen.{is_number_axis_seen, has_static_bounds_seen, is_static_axis_seen, is_one_position, only_literal_in, only_point_in}

-- ---- an axis before others

abbrev form_in : TypedForm → Form
form_in = fold-TypedForm (Axes → Axes) Domain Form Tree axis_tree_step domain_tree_step form_tree_step expr_tree_step

abbrev domain_in : TypedDomain → Domain
domain_in = fold-TypedDomain (Axes → Axes) Domain Form Tree axis_tree_step domain_tree_step form_tree_step expr_tree_step

abbrev axis_in : TypedAxis → Axes → Axes
axis_in = fold-TypedAxis (Axes → Axes) Domain Form Tree axis_tree_step domain_tree_step form_tree_step expr_tree_step

abbrev Layer : Type 0
Layer = TypedAxis-F (Axes → Axes) Domain Form Tree

abbrev layer_of : TypedAxis → Layer
layer_of a = map-TypedAxis TypedAxis TypedDomain TypedForm TypedExpr (Axes → Axes) Domain Form Tree axis_in domain_in form_in tree_of (out-TypedAxis a)

opened : (a : TypedAxis) (rest : Axes) → axis_in a rest ≡ axis_tree_step (layer_of a) rest
opened a rest = ap (λ before. before rest) (fold_out-TypedAxis (Axes → Axes) Domain Form Tree axis_tree_step domain_tree_step form_tree_step expr_tree_step a)

both : (a b : Bool) → (a && b) ≡ ((a && true) && b)
both true b = refl
both false b = refl

all_three : (a b c : Bool) → (a && (b && c)) ≡ ((a && (b && true)) && c)
all_three true true c = refl
all_three true false c = refl
all_three false b c = refl

before_rest : (at bound : Tree → Bool) (layer : Layer) (rest : Axes)
    → on_axes at bound (axis_tree_step layer rest) ≡ (on_axes at bound (axis_tree_step layer no_axes) && on_axes at bound rest)
before_rest at bound (TypedAxis-F.At t) rest = both (at t) (on_axes at bound rest)
before_rest at bound (TypedAxis-F.Trim None None) rest = refl
before_rest at bound (TypedAxis-F.Trim None (Some b)) rest = both (bound b) (on_axes at bound rest)
before_rest at bound (TypedAxis-F.Trim (Some a) None) rest = both (bound a) (on_axes at bound rest)
before_rest at bound (TypedAxis-F.Trim (Some a) (Some b)) rest = all_three (bound a) (bound b) (on_axes at bound rest)

on_each : (at bound : Tree → Bool) (axes : List TypedAxis)
    → on_axes at bound (tree_of_axes axes) ≡ list_all (λ axis. on_axes at bound (tree_of_axes (axis ∷ []))) axes
on_each at bound [] = refl
on_each at bound (a ∷ as_) =
    ap (on_axes at bound) (opened a (tree_of_axes as_))
    ∙ before_rest at bound (layer_of a) (tree_of_axes as_)
    ∙ ap (λ axes. on_axes at bound axes && on_axes at bound (tree_of_axes as_)) (sym (opened a no_axes))
    ∙ ap (λ b. on_axes at bound (tree_of_axes (a ∷ [])) && b) (on_each at bound as_)

pub numbers_each : (axes : List TypedAxis) → are_numbers (tree_of_axes axes) ≡ list_all is_number_axis_seen axes
unfolding is_number_axis_seen
numbers_each axes = on_each is_number_tree is_number_tree axes

pub bounds_each : (axes : List TypedAxis) → bounds_are_static (tree_of_axes axes) ≡ list_all has_static_bounds_seen axes
unfolding has_static_bounds_seen
bounds_each axes = on_each (λ e. true) is_static axes

pub static_each : (axes : List TypedAxis) → all_are_static (tree_of_axes axes) ≡ list_all is_static_axis_seen axes
unfolding is_static_axis_seen
static_each axes = on_each is_static is_static axes

-- ---- how many there are

counted : (layer : Layer) (rest : Axes) → count_of (axis_tree_step layer rest) ≡ suc (count_of rest)
counted (TypedAxis-F.At t) rest = refl
counted (TypedAxis-F.Trim a b) rest = refl

pub count_each : (axes : List TypedAxis) → count_of (tree_of_axes axes) ≡ length axes
count_each [] = refl
count_each (a ∷ as_) = ap count_of (opened a (tree_of_axes as_)) ∙ counted (layer_of a) (tree_of_axes as_) ∙ ap suc (count_each as_)

kept_layer : (layer : Layer) (rest : Axes)
    → kept_of (axis_tree_step layer rest) ≡ cond (kept_of (axis_tree_step layer no_axes) == 1) 1 0 + kept_of rest
kept_layer (TypedAxis-F.At t) rest = omega arith
kept_layer (TypedAxis-F.Trim a b) rest = omega arith

abbrev keeps : TypedAxis → Bool
keeps axis = kept_of (tree_of_axes (axis ∷ [])) == 1

pub kept_each : (axes : List TypedAxis) → kept_of (tree_of_axes axes) ≡ count_by (λ axis. kept_of (tree_of_axes (axis ∷ [])) == 1) axes
kept_each [] = refl
kept_each (a ∷ as_) =
    ap kept_of (opened a (tree_of_axes as_))
    ∙ kept_layer (layer_of a) (tree_of_axes as_)
    ∙ ap (λ axes. cond (kept_of axes == 1) 1 0 + kept_of (tree_of_axes as_)) (sym (opened a no_axes))
    ∙ ap (λ n. cond (keeps a) 1 0 + n) (kept_each as_)
    ∙ ap (λ n. n + count_by keeps as_) (sym (zero-add (cond (keeps a) 1 0)))
    ∙ sym (sum_by_from (λ axis. cond (keeps axis) 1 0) (0 + cond (keeps a) 1 0) as_)

-- no more are kept than there are
pub kept_few : (axes : List TypedAxis) → kept_of (tree_of_axes axes) ≤ length axes
kept_few axes = rw (kept_each axes) (count_by-le-length keeps axes)

-- ---- the only position

two : (one other : Layer) (rest : Axes) → is_one_position (axis_tree_step one (axis_tree_step other rest)) ≡ false
two (TypedAxis-F.At t) (TypedAxis-F.At u) rest = refl
two (TypedAxis-F.At t) (TypedAxis-F.Trim a b) rest = refl
two (TypedAxis-F.Trim a b) other rest = refl

pub many_axes : (axes : List TypedAxis) → length axes ≢ 1 → is_one_position (tree_of_axes axes) ≡ false
many_axes [] other = refl
many_axes (a ∷ []) other = absurd (other refl)
many_axes (a ∷ b ∷ rest) other =
    ap is_one_position (opened a (tree_of_axes (b ∷ rest)))
    ∙ ap (λ axes. is_one_position (axis_tree_step (layer_of a) axes)) (opened b (tree_of_axes rest))
    ∙ two (layer_of a) (layer_of b) (tree_of_axes rest)

abbrev pub point_told : CellType → ℕ → Axes → Option ℕ → Result Kind CheckFault
point_told cell n axes None = cut_kind cell n axes
point_told cell n axes (Some m) = by_rules true (m == n) true (Scalar cell)

pub element_told : (cell : CellType) (n : ℕ) (axes : Axes) → element_kind cell n axes ≡ point_told cell n axes (only_point_in axes)
element_told cell n (position (node span (Point m) form) no_axes) = refl
element_told cell n axes = refl

abbrev pub literal_told : Kind → ℕ → Option ℤ → Result Kind CheckFault
literal_told kind n None = Err TypeMismatch
literal_told kind n (Some k) = by_rules true (is_axis k n) true kind

pub on_axis_told : (kind : Kind) (n : ℕ) (axes : Axes) → on_axis kind n axes ≡ literal_told kind n (only_literal_in axes)
on_axis_told kind n (position (node span k (number z atom)) no_axes) = refl
on_axis_told kind n axes = refl
