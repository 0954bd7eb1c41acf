-- The plan of an update without axes.
use Rattle.std.proofs.Common.{◌≡◌, ℕ, List, Option, None, Result, sym, ap, subst, ◌∙◌}
use Rattle.ras_rows.specs.declared.plan.Plan.{Plan as PlanMade}
use Rattle.ras_rows.specs.Plans.{plan_seen}
use Rattle.ras_shape.specs.declared.form.ShapeError.{ShapeError}
use Rattle.ras_shape.specs.Gives.{GivesAs}
use Rattle.ras_syntax.specs.declared.span.Span.{Span}
use Rattle.ras_syntax.specs.declared.typed.CheckedForm.{CheckedForm}
use Rattle.ras_syntax.specs.declared.typed.CheckedForm.TheVariants.{Update}
use Rattle.ras_syntax.specs.declared.typed.CheckedSource.{CheckedSource}
use Rattle.ras_syntax.specs.declared.typed.TypedAxis.{TypedAxis}
use Rattle.ras_syntax.specs.declared.typed.TypedExpr.{TypedExpr}
use Rattle.spec_expressions.specs.Tree.{tree_of}
use Rattle.spec_statements.specs.Plans.{row_plan, update_plan}
use Rattle.spec_statements.specs.Rows.{Row}
use Rattle.spec_statements.specs.Statement.{request_of}

pub whole-of : (form : CheckedForm) (source : CheckedSource) (axes : Option (List TypedAxis)) (target : Span) (body : TypedExpr) (cond : Option TypedExpr) (number : ℕ) (row : Row)
    (result : Result PlanMade ShapeError)
    → form ≡ Update source axes target body cond → axes ≡ None → GivesAs plan_seen (update_plan source.of target (tree_of body) None (number, row)) result
    → GivesAs plan_seen (row_plan (request_of form) (number, row)) result
whole-of form source axes target body cond number row result is none gives =
    subst (λ (f : CheckedForm). GivesAs plan_seen (row_plan (request_of f) (number, row)) result)
    (sym (is ∙ ap (λ (a : Option (List TypedAxis)). Update source a target body cond) none)) gives
