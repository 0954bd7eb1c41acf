-- Whether the numbers that stand in an expression lie in the ranges of their atoms.
use Rattle.std.specs.Prelude.{Bool, true, ◌&&◌, List, map, Option, Some, None}
use Rattle.std.specs.List.{list_all}
use Rattle.ras_cells.specs.Atoms.{is_in_range}
use Rattle.ras_syntax.specs.declared.expr.Expr.{Expr, fold-Expr}
use Rattle.ras_syntax.specs.declared.expr.Axis.{Axis, fold-Axis}
use Rattle.ras_syntax.specs.declared.expr.Axis.TheOpen.{Expr-F, ExprForm-F, Axis-F, DomainExpr-F}
use Rattle.ras_syntax.specs.declared.statement.StatementForm.{StatementForm}
use Rattle.ras_syntax.specs.declared.statement.StatementForm.TheVariants.{Select, Insert, Delete, Update, Create, Drop, Word}

abbrev pub all_fit : List Bool → Bool
all_fit = list_all (λ fits. fits)

abbrev pub pairs_fit : List (Bool × Bool) → Bool
pairs_fit = list_all (λ pair. pair.0 && pair.1)

-- what is missing has no number
abbrev pub if_there : Option Bool → Bool
if_there None = true
if_there (Some fits) = fits

abbrev pub axis_fits : Axis-F Bool Bool Bool Bool → Bool
axis_fits (Axis-F.At e) = e
axis_fits (Axis-F.Trim a b) = if_there a && if_there b

abbrev pub domain_fits : DomainExpr-F Bool Bool Bool Bool → Bool
domain_fits (DomainExpr-F.Literal ps) = pairs_fit ps
domain_fits (DomainExpr-F.«DomainExpr::Sdom» e) = e

abbrev pub form_fits : ExprForm-F Bool Bool Bool Bool → Bool
form_fits (ExprForm-F.Bool b) = true
form_fits (ExprForm-F.Number value atom) = is_in_range atom value
form_fits (ExprForm-F.Name name) = true
form_fits (ExprForm-F.Unary op e) = e
form_fits (ExprForm-F.Cast to e) = e
form_fits (ExprForm-F.Binary op a b) = a && b
form_fits (ExprForm-F.Index e axes) = e && all_fit axes
form_fits (ExprForm-F.Part e part) = e
form_fits (ExprForm-F.Case arms other) = pairs_fit arms && other
form_fits (ExprForm-F.Build es) = all_fit es
form_fits (ExprForm-F.Marray x domain e) = domain && e
form_fits (ExprForm-F.Condense op x domain cond e) = domain && (if_there cond && e)
form_fits (ExprForm-F.Cells f e) = e
form_fits (ExprForm-F.Shift e offsets) = e && all_fit offsets
form_fits (ExprForm-F.Extend e domain) = e && domain
form_fits (ExprForm-F.Concat parts along) = all_fit parts
form_fits (ExprForm-F.«ExprForm::Sdom» e) = e
form_fits (ExprForm-F.Oid a) = true

abbrev pub expr_fits : Expr-F Bool Bool Bool Bool → Bool
expr_fits e = e.form

-- each number of the expression lies in the range of its atom
abbrev pub numbers_fit : Expr → Bool
numbers_fit = fold-Expr Bool Bool Bool Bool axis_fits domain_fits form_fits expr_fits

abbrev pub axis_numbers_fit : Axis → Bool
axis_numbers_fit = fold-Axis Bool Bool Bool Bool axis_fits domain_fits form_fits expr_fits

abbrev pub condition_numbers_fit : Option Expr → Bool
condition_numbers_fit None = true
condition_numbers_fit (Some c) = numbers_fit c

abbrev pub target_numbers_fit : Option (List Axis) → Bool
target_numbers_fit None = true
target_numbers_fit (Some axes) = all_fit (map axis_numbers_fit axes)

-- the same of all expressions of a statement
abbrev pub statement_numbers_fit : StatementForm → Bool
statement_numbers_fit (Select body sources cond) = numbers_fit body && condition_numbers_fit cond
statement_numbers_fit (Insert into body) = numbers_fit body
statement_numbers_fit (Delete source cond) = condition_numbers_fit cond
statement_numbers_fit (Update source set axes target body cond) =
    target_numbers_fit axes && (numbers_fit body && condition_numbers_fit cond)
statement_numbers_fit (Create name of) = true
statement_numbers_fit (Drop name) = true
statement_numbers_fit (Word word) = true
