-- The check of a statement, by the steps of its form: what is left to do when some parts are checked.
use Rattle.std.specs.Prelude.{List, [], ◌∷◌, map, Option, Result, Ok, Err}
use Rattle.ras_cells.specs.Outcomes.{◌>>=◌}
use Rattle.ras_syntax.specs.declared.span.Span.{Span}
use Rattle.ras_syntax.specs.declared.span.Spanned.{Spanned}
use Rattle.ras_syntax.specs.declared.types.SetType.{SetType}
use Rattle.ras_syntax.specs.declared.expr.Expr.{Expr}
use Rattle.ras_syntax.specs.declared.expr.Axis.{Axis}
use Rattle.ras_syntax.specs.declared.statement.SourceName.{SourceName}
use Rattle.ras_syntax.specs.declared.typed.CheckedForm.{CheckedForm}
use Rattle.ras_syntax.specs.declared.typed.CheckedForm.TheVariants as checked
use Rattle.ras_syntax.specs.declared.typed.CheckedSource.{CheckedSource}
use Rattle.ras_syntax.specs.declared.typed.TypedExpr.{TypedExpr}
use Rattle.ras_syntax.specs.declared.typed.TypedAxis.{TypedAxis}
use Rattle.spec_expressions.specs.Tree.{NameOf}
use Rattle.spec_expressions.specs.Check.{CheckMisfit, checked_expr}
use Rattle.spec_statements.specs.CheckStatement.{Catalog, known_source, once_each, iterator_of, same_iterator, scope_of, checked_condition}
use Rattle.spec_statements.specs.CheckStatement.{checked_target, result_body, bool_condition, whole_body, written_body, written_axes}

-- ---- the rules, where the expressions are checked

abbrev pub selected_of : List CheckedSource → TypedExpr → Option TypedExpr → Result CheckedForm CheckMisfit
selected_of from e c = do
  result ← result_body e
  test ← bool_condition c
  Ok (checked.Select result from test)

abbrev pub inserted_of : NameOf → SetType → TypedExpr → Result CheckedForm CheckMisfit
inserted_of into of e = do
  whole ← whole_body of e
  Ok (checked.Insert into of whole)

abbrev pub deleted_of : CheckedSource → Option TypedExpr → Result CheckedForm CheckMisfit
deleted_of from c = do
  test ← bool_condition c
  Ok (checked.Delete from test)

abbrev pub updated_of : CheckedSource → Span → Option (List TypedAxis) → TypedExpr → Option TypedExpr → Result CheckedForm CheckMisfit
updated_of from target xs e c = do
  region ← written_axes target from.of xs
  written ← written_body xs from.of e
  test ← bool_condition c
  Ok (checked.Update from region target written test)

-- ---- the expressions and the rules, where the names are looked up

abbrev pub select_over : Expr → Option Expr → List CheckedSource → Result CheckedForm CheckMisfit
select_over body cond from = do
  e ← checked_expr body (scope_of from)
  c ← checked_condition cond (scope_of from)
  selected_of from e c

abbrev pub select_from : Expr → List SourceName → Option Expr → List CheckedSource → Result CheckedForm CheckMisfit
select_from body sources cond from = do
  names ← once_each [] (map iterator_of sources)
  select_over body cond from

abbrev pub insert_of : NameOf → Expr → SetType → Result CheckedForm CheckMisfit
insert_of into body of = do
  e ← checked_expr body (scope_of [])
  inserted_of into of e

abbrev pub delete_of : Option Expr → CheckedSource → Result CheckedForm CheckMisfit
delete_of cond from = do
  c ← checked_condition cond (scope_of (from ∷ []))
  deleted_of from c

abbrev pub update_over : Option (List Axis) → Span → Expr → Option Expr → CheckedSource → Result CheckedForm CheckMisfit
update_over axes target body cond from = do
  xs ← checked_target axes (scope_of (from ∷ []))
  e ← checked_expr body (scope_of (from ∷ []))
  c ← checked_condition cond (scope_of (from ∷ []))
  updated_of from target xs e c

-- the source of an update, whose iterator stands after set
abbrev pub updated_source : Catalog → SourceName → Spanned → Result CheckedSource CheckMisfit
updated_source catalog source set = do
  from ← known_source catalog source
  name ← same_iterator set from.iterator
  Ok from
