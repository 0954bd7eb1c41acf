-- Checked statements as the definitions see them.
use Rattle.std.specs.Prelude.{ℕ, List, map, Option}
use Rattle.std.specs.Option.{option_map}
use Rattle.ras_syntax.specs.declared.span.Span.{Span}
use Rattle.ras_syntax.specs.declared.types.SetType.{SetType}
use Rattle.ras_syntax.specs.declared.typed.TypedAxis.{TypedAxis, fold-TypedAxis}
use Rattle.ras_syntax.specs.declared.typed.CheckedSource.{CheckedSource}
use Rattle.ras_syntax.specs.declared.typed.Checked.{Checked}
use Rattle.ras_syntax.specs.declared.typed.CheckedForm.{CheckedForm}
use Rattle.ras_syntax.specs.declared.typed.CheckedForm.TheVariants.{Select, Insert, Delete, Update, Create, Drop}
use Rattle.spec_expressions.specs.Tree.{NameOf, Tree, Form, Axes, Domain, Condition, condition_of, tree_of, axes_of, axis_tree_step, domain_tree_step, form_tree_step, expr_tree_step}

pub data Request : Type 0 where
  -- body, sources, condition
  select : Tree → List CheckedSource → Condition → Request
  -- collection, its set type, body
  insert : NameOf → SetType → Tree → Request
  delete : CheckedSource → Condition → Request
  -- source, the target's axes if it has some, the target's place in the text, body, condition
  update : CheckedSource → Option Axes → Span → Tree → Condition → Request
  -- the place of the set type among the types
  create : NameOf → ℕ → Request
  drop : NameOf → Request

-- a statement, with the length of its text
pub record StatementTree : Type 0 where
  pub request : Request
  pub length : ℕ

-- ---- the tree of a checked statement

abbrev pub axis_of : TypedAxis → Axes → Axes
axis_of = fold-TypedAxis (Axes → Axes) Domain Form Tree axis_tree_step domain_tree_step form_tree_step expr_tree_step

abbrev pub target_axes : List TypedAxis → Axes
target_axes axes = axes_of (map axis_of axes)

abbrev pub request_of : CheckedForm → Request
request_of (Select body sources cond) = select (tree_of body) sources (condition_of (option_map tree_of cond))
request_of (Insert into of body) = insert into of (tree_of body)
request_of (Delete source cond) = delete source (condition_of (option_map tree_of cond))
request_of (Update source axes target body cond) =
    update source (option_map target_axes axes) target (tree_of body) (condition_of (option_map tree_of cond))
request_of (Create name of) = create name of
request_of (Drop name) = drop name

abbrev pub statement_tree_of : Checked → StatementTree
statement_tree_of checked = record { request = request_of checked.form; length = checked.length }
