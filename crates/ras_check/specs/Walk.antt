-- The check of the parts of an expression.
use Rattle.std.specs.Prelude.{List, option_map, Option, Result, Ok, Err}
use Rattle.ras_cells.specs.Outcomes.{◌>>=◌}
use Rattle.ras_syntax.specs.declared.expr.Expr.{Expr}
use Rattle.ras_syntax.specs.declared.expr.ExprForm.{ExprForm, fold-ExprForm}
use Rattle.ras_syntax.specs.declared.expr.DomainExpr.{DomainExpr, fold-DomainExpr}
use Rattle.ras_syntax.specs.declared.expr.Part.{Part}
use Rattle.ras_syntax.specs.declared.span.Span.{Span}
use Rattle.ras_syntax.specs.declared.span.Spanned.{Spanned}
use Rattle.ras_syntax.specs.declared.typed.CheckedSource.{CheckedSource}
use Rattle.ras_syntax.specs.declared.typed.TypedExpr.{TypedExpr}
use Rattle.ras_syntax.specs.declared.typed.TypedForm.TheVariants as typed
use Rattle.spec_expressions.specs.Tree.{tree_of}
use Rattle.spec_expressions.specs.Names.{Scope, variable_axes, source_named}
use Rattle.spec_expressions.specs.Check.{CheckMisfit, placed_at, typed_of, part_kind, oid_kind, AxisCheck, DomainCheck, FormCheck, Check}
use Rattle.spec_expressions.specs.Check.{check_axis, check_domain, check_form, check_expr, checked_expr, checked_option}

abbrev pub check_of_form : ExprForm → FormCheck
check_of_form = fold-ExprForm AxisCheck DomainCheck FormCheck Check check_axis check_domain check_form check_expr

abbrev pub check_of_domain : DomainExpr → DomainCheck
check_of_domain = fold-DomainExpr AxisCheck DomainCheck FormCheck Check check_axis check_domain check_form check_expr

abbrev pub checked_maybe : Option Expr → Scope → Result (Option TypedExpr) CheckMisfit
checked_maybe e scope = checked_option (option_map checked_expr e) scope

-- two expressions, from left to right
abbrev pub checked_both : Scope → Expr × Expr → Result (TypedExpr × TypedExpr) CheckMisfit
checked_both scope pair = do
  x ← checked_expr pair.0 scope
  y ← checked_expr pair.1 scope
  Ok (x, y)

-- a component of an expression, or a bound of an interval
abbrev pub checked_component : List CheckedSource → Part → Span → TypedExpr → Result TypedExpr CheckMisfit
checked_component sources part span x = do
  found ← placed_at span (part_kind sources (tree_of x) part)
  typed_of span (typed.Part x found.1) (Ok found.0)

abbrev pub checked_oid : Spanned → FormCheck
checked_oid a span scope = do
  kind ← placed_at a.span (oid_kind (variable_axes scope a.name) (source_named scope a.name))
  typed_of span (typed.Oid a) (Ok kind)
