-- The rules of bodies and targets: what they say of a part, and the part itself.
use Rattle.std.specs.Prelude.{◌≡◌, ◌==◌, ◌||◌, Bool, true, false, List, length, Some, Result, Ok, Err}
use Rattle.std.proofs.Common.{refl, sym, ap, subst, ◌∙◌}
use Rattle.ras_syntax.specs.declared.expr.Part.{Part}
use Rattle.ras_syntax.specs.declared.faults.CheckFault.{CheckFault}
use Rattle.ras_syntax.specs.declared.span.Span.{Span}
use Rattle.ras_syntax.specs.declared.types.SetType.{SetType}
use Rattle.ras_syntax.specs.declared.typed.Kind.{Kind}
use Rattle.ras_syntax.specs.declared.typed.Kind.TheVariants as kind
use Rattle.ras_syntax.specs.declared.typed.TypedAxis.{TypedAxis}
use Rattle.ras_syntax.specs.declared.typed.TypedExpr.{TypedExpr, out-TypedExpr, fold_out-TypedExpr}
use Rattle.ras_syntax.specs.declared.typed.TypedForm.{fold-TypedForm}
use Rattle.spec_expressions.specs.Tree.{Tree, Form, Axes, Domain, node, domain_of, part_form, tree_of, axis_tree_step, domain_tree_step, form_tree_step, expr_tree_step}
use Rattle.spec_expressions.specs.Kinds.{by_rules, is_given, cell_type_in}
use Rattle.spec_expressions.specs.Check.{CheckMisfit, placed_at, tree_of_axes, are_numbers, all_are_static}
use Rattle.spec_statements.specs.CheckStatement.{is_result, written_axes, axes_of_set_type}
use Rattle.ras_kinds.specs.Seen.{is_sdom_tree}
use Rattle.ras_kinds.proofs.Axes.{count_each}
use Rattle.ras_kinds.proofs.TreeForms.{sdom_part}
use Rattle.ras_catalog.specs.declared.fault.CheckError.{CheckError}
use Rattle.ras_catalog.specs.declared.fault.CheckError.TheVariants.{Fault, Memory}
use Rattle.ras_catalog.specs.Outcome.{IsChecked, passed}

-- ---- results

pub part_is_no_domain : (s : Span) (k : Kind) (e : Tree) (part : Part) → is_sdom_tree (node s k (part_form e part)) ≡ false
part_is_no_domain s k e part = sdom_part s k e part

node_result : (s : Span) (k : Kind) (f : Form) → is_result (node s k f) ≡ (is_given (cell_type_in k) || is_sdom_tree (node s k f))
node_result s (kind.Scalar cell) f = refl
node_result s (kind.Array cell axes) f = refl
node_result s (kind.Domain axes) (domain_of e) = refl
node_result s (kind.Domain axes) f = refl
node_result s (kind.Point axes) (domain_of e) = refl
node_result s (kind.Point axes) f = refl

pub result_is : (x : TypedExpr) → is_result (tree_of x) ≡ (is_given (cell_type_in (out-TypedExpr x).kind) || is_sdom_tree (tree_of x))
result_is x =
    let form = fold-TypedForm (Axes → Axes) Domain Form Tree axis_tree_step domain_tree_step form_tree_step expr_tree_step (out-TypedExpr x).form in
    let seen : tree_of x ≡ node (out-TypedExpr x).span (out-TypedExpr x).kind form =
    fold_out-TypedExpr (Axes → Axes) Domain Form Tree axis_tree_step domain_tree_step form_tree_step expr_tree_step x in
    ap is_result seen
    ∙ node_result (out-TypedExpr x).span (out-TypedExpr x).kind form
    ∙ ap (λ t. is_given (cell_type_in (out-TypedExpr x).kind) || is_sdom_tree t) (sym seen)

-- ---- targets

passes_rules : {A : Type 0} (a : A) (types_fit axes_fit is_fixed : Bool) → passed a (by_rules {A = Unit {0}} types_fit axes_fit is_fixed tt) ≡ by_rules types_fit axes_fit is_fixed a
passes_rules a true true true = refl
passes_rules a true true false = refl
passes_rules a true false f = refl
passes_rules a false x f = refl

placed_passed : {A : Type 0} (a : A) (span : Span) (rule : Result (Unit {0}) CheckFault) → passed a (placed_at span rule) ≡ placed_at span (passed a rule)
placed_passed a span (Ok u) = refl
placed_passed a span (Err f) = refl

pub passed_checked : {A : Type 0} (a : A) (wanted : Result (Unit {0}) CheckMisfit) (outcome : Result (Unit {0}) CheckError)
    → IsChecked wanted outcome → IsChecked (passed a wanted) (passed a outcome)
passed_checked a wanted (Ok u) h = record { tells = ap (passed a) h.tells }
passed_checked a wanted (Err (Fault span fault)) h = record { tells = ap (passed a) h.tells }
passed_checked a wanted (Err Memory) h = record { tells = tt }

pub axes_written : (target : Span) (of : SetType) (axes : List TypedAxis) (outcome : Result (Unit {0}) CheckError)
    → IsChecked (placed_at target (by_rules (are_numbers (tree_of_axes axes)) (length axes == length of.bounds.items) (all_are_static (tree_of_axes axes)) tt)) outcome
    → IsChecked (written_axes target of (Some axes)) (passed (Some axes) outcome)
axes_written target of axes outcome h =
    let numbers = are_numbers (tree_of_axes axes) in
    let fixed = all_are_static (tree_of_axes axes) in
    let fits = length axes == length of.bounds.items in
    subst (λ wanted. IsChecked wanted (passed (Some axes) outcome))
    (placed_passed (Some axes) target (by_rules numbers fits fixed tt)
    ∙ ap (placed_at target) (passes_rules (Some axes) numbers fits fixed)
    ∙ ap (λ n. placed_at target (by_rules numbers (n == axes_of_set_type of) fixed (Some axes))) (sym (count_each axes)))
    (passed_checked (Some axes) (placed_at target (by_rules numbers fits fixed tt)) outcome h)
