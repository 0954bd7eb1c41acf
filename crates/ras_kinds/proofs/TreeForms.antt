-- What the forms of trees are seen as: an index and a part have the tree's form only in part.
use Rattle.std.proofs.Common.{◌≡◌, ℕ, Bool, true, false, List, refl, sym, ap, ◌∙◌}
use Rattle.std.specs.Prelude.{◌&&◌, if◌then◌else◌, Option, Some, None, is_some, codes}
use Rattle.ras_syntax.specs.declared.expr.Part.{Part}
use Rattle.ras_syntax.specs.declared.expr.Part.TheVariants.{Named, Numbered}
use Rattle.ras_syntax.specs.declared.span.Span.{Span}
use Rattle.ras_syntax.specs.declared.typed.TypedAxis.{TypedAxis}
use Rattle.ras_syntax.specs.declared.typed.TypedAxis.TheOpen.{TypedForm-F}
use Rattle.ras_syntax.specs.declared.typed.TypedExpr.{TypedExpr, out-TypedExpr, fold_out-TypedExpr}
use Rattle.ras_syntax.specs.declared.typed.TypedForm.{TypedForm, fold-TypedForm, fold-roll-TypedForm}
use Rattle.ras_syntax.specs.declared.typed.TypedForm.TheVariants as typed
use Rattle.ras_syntax.specs.declared.typed.Kind.{Kind}
use Rattle.ras_syntax.specs.declared.typed.Kind.TheVariants.{Point}
use Rattle.spec_expressions.specs.Tree.{NameOf, is_same_name, Tree, Form, Axes, node, number, variable, domain_of, interval_of, bound_of, lower, upper, no_axes, position, trim, index_form, part_form, Domain, tree_of, axis_tree_step, domain_tree_step, form_tree_step, expr_tree_step}
use Rattle.spec_expressions.specs.Shape.{is_static, is_static_form}
use Rattle.spec_expressions.specs.Check.{tree_of_axes}
use Rattle.ras_kinds.specs.Seen.{is_interval_tree, is_sdom_tree, literal_in, is_one_position, only_literal_in, only_point_in, point_axes_in}

-- ---- an index

pub literal_index : (s : Span) (kind : Kind) (e : Tree) (axes : Axes) → literal_in (node s kind (index_form e axes)) ≡ None
literal_index s kind (node t k (variable x)) (position (node u l (number n atom)) no_axes) = refl
literal_index s kind (node t k (domain_of e)) (position (node u l (number n atom)) no_axes) = refl
literal_index s kind e (position (node u l (variable x)) no_axes) = refl
literal_index s kind e axes = refl

pub sdom_index : (s : Span) (kind : Kind) (e : Tree) (axes : Axes) → is_sdom_tree (node s kind (index_form e axes)) ≡ false
sdom_index s kind (node t k (variable x)) (position (node u l (number n atom)) no_axes) = refl
sdom_index s kind (node t k (domain_of e)) (position (node u l (number n atom)) no_axes) = refl
sdom_index s kind e (position (node u l (variable x)) no_axes) = refl
sdom_index s kind e axes = refl

pub static_index : (e : Tree) (axes : Axes) → is_static_form (index_form e axes) ≡ false
static_index (node t k (variable x)) (position (node u l (number n atom)) no_axes) = refl
static_index (node t k (domain_of e)) (position (node u l (number n atom)) no_axes) = refl
static_index e (position (node u l (variable x)) no_axes) = refl
static_index e axes = refl

pub interval_index : (s : Span) (kind : Kind) (e : Tree) (axes : Axes)
    → is_interval_tree (node s kind (index_form e axes)) ≡ (is_sdom_tree e && is_some (only_literal_in axes))
interval_index s kind (node t k (variable x)) (position (node u l (number n atom)) no_axes) = refl
interval_index s kind (node t k (domain_of e)) (position (node u l (number n atom)) no_axes) = refl
interval_index s kind e (position (node u l (variable x)) no_axes) = refl
interval_index s kind e axes = refl

-- ---- a part

pub literal_part : (s : Span) (kind : Kind) (e : Tree) (part : Part) → literal_in (node s kind (part_form e part)) ≡ None
literal_part s kind (node t k (interval_of e n)) (Named name) =
    elim (is_same_name name (codes "lo")) as (λ b. literal_in (node s kind (if b then bound_of lower e n else bound_of upper e n)) ≡ None) [ true ↦ refl | false ↦ refl ]
literal_part s kind e (Named name) = refl
literal_part s kind e (Numbered n) = refl

pub sdom_part : (s : Span) (kind : Kind) (e : Tree) (part : Part) → is_sdom_tree (node s kind (part_form e part)) ≡ false
sdom_part s kind (node t k (interval_of e n)) (Named name) =
    elim (is_same_name name (codes "lo")) as (λ b. is_sdom_tree (node s kind (if b then bound_of lower e n else bound_of upper e n)) ≡ false) [ true ↦ refl | false ↦ refl ]
sdom_part s kind e (Named name) = refl
sdom_part s kind e (Numbered n) = refl

pub interval_part : (s : Span) (kind : Kind) (e : Tree) (part : Part) → is_interval_tree (node s kind (part_form e part)) ≡ false
interval_part s kind (node t k (interval_of e n)) (Named name) =
    elim (is_same_name name (codes "lo")) as (λ b. is_interval_tree (node s kind (if b then bound_of lower e n else bound_of upper e n)) ≡ false) [ true ↦ refl | false ↦ refl ]
interval_part s kind e (Named name) = refl
interval_part s kind e (Numbered n) = refl

pub bound_part : (e : Tree) (name : NameOf) → is_static_form (part_form e (Named name)) ≡ is_interval_tree e
bound_part (node t k (interval_of e n)) name =
    elim (is_same_name name (codes "lo")) as (λ b. is_static_form (if b then bound_of lower e n else bound_of upper e n) ≡ true) [ true ↦ refl | false ↦ refl ]
bound_part e name = refl

-- ---- the only position

pub only_literal_one : (t : Tree) → only_literal_in (position t no_axes) ≡ literal_in t
only_literal_one (node s k (number z atom)) = refl
only_literal_one t = refl

pub only_literal_other : (axes : Axes) → is_one_position axes ≡ false → only_literal_in axes ≡ None
only_literal_other no_axes is = refl
only_literal_other (trim a b axes) is = refl
only_literal_other (position (node s k (number z atom)) no_axes) is = cc
only_literal_other (position (node s k (number z atom)) (position t axes)) is = refl
only_literal_other (position (node s k (number z atom)) (trim a b axes)) is = refl
only_literal_other (position t axes) is = refl

pub only_point_one : (s : Span) (kind : Kind) (f : Form) → only_point_in (position (node s kind f) no_axes) ≡ point_axes_in kind
only_point_one s (Point n) f = refl
only_point_one s kind f = refl

pub only_point_other : (axes : Axes) → is_one_position axes ≡ false → only_point_in axes ≡ None
only_point_other no_axes is = refl
only_point_other (trim a b axes) is = refl
only_point_other (position (node s (Point n) f) no_axes) is = cc
only_point_other (position (node s (Point n) f) (position t axes)) is = refl
only_point_other (position (node s (Point n) f) (trim a b axes)) is = refl
only_point_other (position t axes) is = refl

-- ---- the tree of an index

abbrev form_in : TypedForm → Form
form_in = fold-TypedForm (Axes → Axes) Domain Form Tree axis_tree_step domain_tree_step form_tree_step expr_tree_step

index_is : (e : TypedExpr) (axes : List TypedAxis) → form_in (typed.Index e axes) ≡ index_form (tree_of e) (tree_of_axes axes)
index_is e axes =
    ap form_in (sym (typed.rolls-Index e axes))
    ∙ fold-roll-TypedForm (Axes → Axes) Domain Form Tree axis_tree_step domain_tree_step form_tree_step expr_tree_step (TypedForm-F.Index e axes)

pub index_seen : (x e : TypedExpr) (axes : List TypedAxis) → (out-TypedExpr x).form ≡ typed.Index e axes
    → tree_of x ≡ node (out-TypedExpr x).span (out-TypedExpr x).kind (index_form (tree_of e) (tree_of_axes axes))
index_seen x e axes h =
    fold_out-TypedExpr (Axes → Axes) Domain Form Tree axis_tree_step domain_tree_step form_tree_step expr_tree_step x
    ∙ ap (node (out-TypedExpr x).span (out-TypedExpr x).kind) (ap form_in h ∙ index_is e axes)

pub no_literal : (x e : TypedExpr) (axes : List TypedAxis) → (out-TypedExpr x).form ≡ typed.Index e axes → None ≡ literal_in (tree_of x)
no_literal x e axes h =
    sym (ap literal_in (index_seen x e axes h) ∙ literal_index (out-TypedExpr x).span (out-TypedExpr x).kind (tree_of e) (tree_of_axes axes))

pub no_sdom : (x e : TypedExpr) (axes : List TypedAxis) → (out-TypedExpr x).form ≡ typed.Index e axes → false ≡ is_sdom_tree (tree_of x)
no_sdom x e axes h =
    sym (ap is_sdom_tree (index_seen x e axes h) ∙ sdom_index (out-TypedExpr x).span (out-TypedExpr x).kind (tree_of e) (tree_of_axes axes))

pub not_static : (x e : TypedExpr) (axes : List TypedAxis) → (out-TypedExpr x).form ≡ typed.Index e axes → false ≡ is_static (tree_of x)
not_static x e axes h = sym (ap is_static (index_seen x e axes h) ∙ static_index (tree_of e) (tree_of_axes axes))

pub no_interval : (x e : TypedExpr) (axes : List TypedAxis) (is : Bool) → (out-TypedExpr x).form ≡ typed.Index e axes
    → is ≡ is_sdom_tree (tree_of e) → is ≡ false → is ≡ is_interval_tree (tree_of x)
no_interval x e axes is h told none =
    none
    ∙ sym (ap is_interval_tree (index_seen x e axes h)
    ∙ interval_index (out-TypedExpr x).span (out-TypedExpr x).kind (tree_of e) (tree_of_axes axes)
    ∙ ap (λ b. b && is_some (only_literal_in (tree_of_axes axes))) (sym told ∙ none))
