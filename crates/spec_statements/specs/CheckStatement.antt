-- The check of a data statement: the statement with its kinds, or its first check fault. Names of collections and types come
-- first in the order of the text, then the names that it declares and the name after set, then its expressions in the order
-- of the text, then its own rules in that order.
use Rattle.std.specs.Prelude.{ℕ, ◌==◌, Bool, true, false, if◌then◌else◌, List, [], ◌∷◌, length, map, slice_get, is_some, Option, Some, None, unwrap_or, Result, Ok, Err}
use Rattle.std.specs.List.{list_any}
use Rattle.std.specs.Map.{lookup}
use Rattle.ras_cells.specs.Outcomes.{◌>>=◌}
use Rattle.ras_syntax.specs.declared.span.Span.{Span}
use Rattle.ras_syntax.specs.declared.span.Spanned.{Spanned}
use Rattle.ras_syntax.specs.declared.types.SetType.{SetType}
use Rattle.ras_syntax.specs.declared.expr.Expr.{Expr}
use Rattle.ras_syntax.specs.declared.expr.Axis.{Axis}
use Rattle.ras_syntax.specs.declared.statement.SourceName.{SourceName}
use Rattle.ras_syntax.specs.declared.statement.Statement.{Statement}
use Rattle.ras_syntax.specs.declared.statement.StatementForm.{StatementForm}
use Rattle.ras_syntax.specs.declared.statement.StatementForm.TheVariants.{Select, Insert, Delete, Update, Create, Drop, Word}
use Rattle.ras_syntax.specs.declared.faults.CheckFault.TheVariants.{NoCollection, CollectionExists, NoType, NoIterator, DoubleName, TypeMismatch}
use Rattle.ras_syntax.specs.declared.typed.Kind.{Kind}
use Rattle.ras_syntax.specs.declared.typed.Kind.TheVariants as kinds
use Rattle.ras_syntax.specs.declared.typed.Checked.{Checked}
use Rattle.ras_syntax.specs.declared.typed.CheckedForm.{CheckedForm}
use Rattle.ras_syntax.specs.declared.typed.CheckedForm.TheVariants as checked
use Rattle.ras_syntax.specs.declared.typed.CheckedSource.{CheckedSource}
use Rattle.ras_syntax.specs.declared.typed.TypedExpr.{TypedExpr, out-TypedExpr}
use Rattle.ras_syntax.specs.declared.typed.TypedAxis.{TypedAxis}
use Rattle.spec_expressions.specs.Tree.{is_same_name, NameOf, Tree, node, domain_of, tree_of}
use Rattle.spec_expressions.specs.Kinds.{stores, is_scalar_bool, axes_of_kind, by_rules}
use Rattle.spec_expressions.specs.Names.{Scope, place_among}
use Rattle.spec_expressions.specs.Check.{CheckMisfit, placed_at, found_at, kind_of, are_numbers, count_of, all_are_static, tree_of_axes, checked_axes, checked_expr, checked_axis}

-- the types, and the collections by their names, each with the place of its type among the types
pub record Catalog : Type 0 where
  pub types : List SetType
  pub collections : List (NameOf × ℕ)

-- ---- names

abbrev pub type_at : List SetType → Option ℕ → Option SetType
type_at types None = None
type_at types (Some place) = slice_get types place

-- the type of a collection
abbrev pub collection_type : Catalog → NameOf → Option SetType
collection_type catalog name = type_at catalog.types (lookup (is_same_name name) catalog.collections)

abbrev pub known_collection : Catalog → Spanned → Result SetType CheckMisfit
known_collection catalog name = found_at name.span NoCollection (collection_type catalog name.name)

abbrev pub new_collection : Catalog → Spanned → Result NameOf CheckMisfit
new_collection catalog name =
    if is_some (collection_type catalog name.name) then Err (name.span, CollectionExists) else Ok name.name

-- the place of a type among the types
abbrev pub known_type : Catalog → Spanned → Result ℕ CheckMisfit
known_type catalog name = found_at name.span NoType (place_among name.name (map (λ of. of.name) catalog.types))

-- an iterator without `as` has its collection's name
abbrev pub iterator_of : SourceName → Spanned
iterator_of source = unwrap_or source.iterator source.collection

abbrev pub known_source : Catalog → SourceName → Result CheckedSource CheckMisfit
known_source catalog source = do
  of ← known_collection catalog source.collection
  Ok (record { collection = source.collection.name; iterator = (iterator_of source).name; of = of })

abbrev pub known_sources : Catalog → List SourceName → Result (List CheckedSource) CheckMisfit
known_sources catalog [] = Ok []
known_sources catalog (source ∷ sources) = do
  x ← known_source catalog source
  xs ← known_sources catalog sources
  Ok (x ∷ xs)

-- the names, where none is among those seen or stands twice; the fault is at the second one
abbrev pub once_each : List NameOf → List Spanned → Result (List NameOf) CheckMisfit
once_each seen [] = Ok seen
once_each seen (a ∷ others) =
    if list_any (is_same_name a.name) seen then Err (a.span, DoubleName) else once_each (a.name ∷ seen) others

-- the name after set is the iterator
abbrev pub same_iterator : Spanned → NameOf → Result NameOf CheckMisfit
same_iterator set iterator = if is_same_name set.name iterator then Ok iterator else Err (set.span, NoIterator)

abbrev pub scope_of : List CheckedSource → Scope
scope_of sources = record { sources = sources; variables = [] }

-- ---- expressions

abbrev pub checked_condition : Option Expr → Scope → Result (Option TypedExpr) CheckMisfit
checked_condition None scope = Ok None
checked_condition (Some c) scope = do
  x ← checked_expr c scope
  Ok (Some x)

abbrev pub checked_target : Option (List Axis) → Scope → Result (Option (List TypedAxis)) CheckMisfit
checked_target None scope = Ok None
checked_target (Some axes) scope = do
  xs ← checked_axes (map checked_axis axes) scope
  Ok (Some xs)

-- ---- the rules of statements

-- a result is a scalar, an array, or the domain that sdom gives
abbrev pub is_result : Tree → Bool
is_result (node span (kinds.Scalar cell) form) = true
is_result (node span (kinds.Array cell axes) form) = true
is_result (node span kind (domain_of e)) = true
is_result other = false

abbrev pub result_body : TypedExpr → Result TypedExpr CheckMisfit
result_body body = if is_result (tree_of body) then Ok body else Err ((out-TypedExpr body).span, TypeMismatch)

-- a condition is a scalar bool; it has its own place
abbrev pub bool_condition : Option TypedExpr → Result (Option TypedExpr) CheckMisfit
bool_condition None = Ok None
bool_condition (Some c) =
    if is_scalar_bool (kind_of c) then Ok (Some c) else Err ((out-TypedExpr c).span, TypeMismatch)

abbrev pub axes_of_set_type : SetType → ℕ
axes_of_set_type of = length of.bounds.items

-- an array whose cells the type stores
abbrev pub is_stored : SetType → Kind → Bool
is_stored of (kinds.Array cell axes) = stores cell of.cell
is_stored of other = false

-- the body of an insert, and of an update without axes, has as many axes as the type
abbrev pub whole_body : SetType → TypedExpr → Result TypedExpr CheckMisfit
whole_body of body =
    placed_at (out-TypedExpr body).span (by_rules (is_stored of (kind_of body)) (axes_of_kind (kind_of body) == axes_of_set_type of) true body)

-- whether the body of an update with axes has the region's domain is seen later, with its shape
abbrev pub written_body : Option (List TypedAxis) → SetType → TypedExpr → Result TypedExpr CheckMisfit
written_body None of body = whole_body of body
written_body (Some axes) of body = placed_at (out-TypedExpr body).span (by_rules (is_stored of (kind_of body)) true true body)

-- the target has as many axes as the type; its positions and bounds are static
abbrev pub written_axes : Span → SetType → Option (List TypedAxis) → Result (Option (List TypedAxis)) CheckMisfit
written_axes target of None = Ok None
written_axes target of (Some axes) =
    placed_at target (by_rules (are_numbers (tree_of_axes axes)) (count_of (tree_of_axes axes) == axes_of_set_type of) (all_are_static (tree_of_axes axes)) (Some axes))

-- ---- statements

abbrev pub checked_form : Catalog → ℕ → StatementForm → Result CheckedForm CheckMisfit
checked_form catalog size (Select body sources cond) = do
  from ← known_sources catalog sources
  names ← once_each [] (map iterator_of sources)
  e ← checked_expr body (scope_of from)
  c ← checked_condition cond (scope_of from)
  result ← result_body e
  test ← bool_condition c
  Ok (checked.Select result from test)
checked_form catalog size (Insert into body) = do
  of ← known_collection catalog into
  e ← checked_expr body (scope_of [])
  whole ← whole_body of e
  Ok (checked.Insert into.name of whole)
checked_form catalog size (Delete source cond) = do
  from ← known_source catalog source
  c ← checked_condition cond (scope_of (from ∷ []))
  test ← bool_condition c
  Ok (checked.Delete from test)
checked_form catalog size (Update source set axes target body cond) = do
  from ← known_source catalog source
  name ← same_iterator set from.iterator
  xs ← checked_target axes (scope_of (from ∷ []))
  e ← checked_expr body (scope_of (from ∷ []))
  c ← checked_condition cond (scope_of (from ∷ []))
  region ← written_axes target from.of xs
  written ← written_body xs from.of e
  test ← bool_condition c
  Ok (checked.Update from region target written test)
checked_form catalog size (Create name of) = do
  new ← new_collection catalog name
  place ← known_type catalog of
  Ok (checked.Create new place)
checked_form catalog size (Drop name) = do
  of ← known_collection catalog name
  Ok (checked.Drop name.name)
-- a session word is no data statement
checked_form catalog size (Word word) = Err (record { from = 0; to = size }, TypeMismatch)

abbrev pub checked_statement : Catalog → Statement → Result Checked CheckMisfit
checked_statement catalog statement = do
  form ← checked_form catalog statement.length statement.form
  Ok (record { form = form; length = statement.length })
