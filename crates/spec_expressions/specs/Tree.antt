-- Checked expressions as the definitions see them: one constructor for each form of the language.
use Rattle.std.specs.Prelude.{ℕ, ℤ, pos, Bool, List, [], ◌∷◌, Option, Some, None, ◌==◌, if◌then◌else◌, codes}
use Rattle.std.specs.Cmp.Lexicographic.{pointwise}
use Rattle.ras_cells.specs.declared.atom.Atom.{Atom}
use Rattle.ras_cells.specs.declared.numbers.Op1.{Op1}
use Rattle.ras_cells.specs.declared.numbers.Op2.{Op2}
use Rattle.ras_syntax.specs.declared.span.Span.{Span}
use Rattle.ras_syntax.specs.declared.expr.Part.{Part}
use Rattle.ras_syntax.specs.declared.expr.Part.TheVariants as parts
use Rattle.ras_syntax.specs.declared.expr.FoldOp.{FoldOp}
use Rattle.ras_syntax.specs.declared.expr.CellsFold.{CellsFold}
use Rattle.ras_syntax.specs.declared.typed.Kind.{Kind}
use Rattle.ras_syntax.specs.declared.typed.TypedExpr.{TypedExpr, fold-TypedExpr}
use Rattle.ras_syntax.specs.declared.typed.TypedAxis.TheOpen.{TypedExpr-F, TypedForm-F, TypedAxis-F, TypedDomain-F}

-- a name is its bytes
abbrev pub NameOf : Type 0
NameOf = List ℕ

-- names are compared byte by byte
abbrev pub is_same_name : NameOf → NameOf → Bool
is_same_name = pointwise ◌==◌

-- which bound of an interval
pub data Side : Type 0 where
  lower : Side
  upper : Side

mutual
  pub data Tree : Type 0 where
    node : Span → Kind → Form → Tree

  pub data Form : Type 0 where
    truth : Bool → Form
    number : ℤ → Atom → Form
    -- an iterator, by its place among the statement's sources
    iterator : ℕ → Form
    -- the point that a variable stands for
    variable : NameOf → Form
    -- x[k] of a variable
    coordinate : NameOf → ℤ → Form
    unary : Op1 → Tree → Form
    cast : Atom → Tree → Form
    binary : Op2 → Tree → Tree → Form
    -- e[axes]
    index : Tree → Axes → Form
    -- e[x] of a variable
    at_point : Tree → NameOf → Form
    -- e.k
    component : Tree → ℤ → Form
    -- case
    choice : Pairs → Tree → Form
    -- {e, ..}
    composite : Trees → Form
    marray : NameOf → Domain → Tree → Form
    condense : FoldOp → NameOf → Domain → Condition → Tree → Form
    -- add_cells and its like
    folded : CellsFold → Tree → Form
    shift : Tree → Trees → Form
    extend : Tree → Domain → Form
    concat : Trees → ℤ → Form
    -- sdom(e)
    domain_of : Tree → Form
    -- sdom(e)[k], which stands before .lo and .hi alone
    interval_of : Tree → ℤ → Form
    -- sdom(e)[k].lo and sdom(e)[k].hi
    bound_of : Side → Tree → ℤ → Form
    oid : NameOf → Form

  pub data Trees : Type 0 where
    no_trees : Trees
    trees : Tree → Trees → Trees

  -- a condition and its value, or a lower and an upper bound
  pub data Pairs : Type 0 where
    no_pairs : Pairs
    pairs : Tree → Tree → Pairs → Pairs

  pub data Axes : Type 0 where
    no_axes : Axes
    position : Tree → Axes → Axes
    trim : Edge → Edge → Axes → Axes

  -- * or a bound
  pub data Edge : Type 0 where
    own : Edge
    edge : Tree → Edge

  pub data Domain : Type 0 where
    bounds : Pairs → Domain
    domain_like : Tree → Domain

  pub data Condition : Type 0 where
    always : Condition
    only_where : Tree → Condition

-- ---- the tree of a checked expression

abbrev pub trees_of : List Tree → Trees
trees_of [] = no_trees
trees_of (t ∷ ts) = trees t (trees_of ts)

abbrev pub pairs_of : List (Tree × Tree) → Pairs
pairs_of [] = no_pairs
pairs_of (p ∷ ps) = pairs p.0 p.1 (pairs_of ps)

-- an axis is seen as what it does to the axes after it
abbrev pub axes_of : List (Axes → Axes) → Axes
axes_of [] = no_axes
axes_of (axis ∷ axes) = axis (axes_of axes)

abbrev pub edge_of : Option Tree → Edge
edge_of None = own
edge_of (Some t) = edge t

abbrev pub condition_of : Option Tree → Condition
condition_of None = always
condition_of (Some t) = only_where t

-- an index of a variable, of a domain, by a variable, and any other
abbrev pub index_form : Tree → Axes → Form
index_form (node s k (variable x)) (position (node t l (number n atom)) no_axes) = coordinate x n
index_form (node s k (domain_of e)) (position (node t l (number n atom)) no_axes) = interval_of e n
index_form e (position (node t l (variable x)) no_axes) = at_point e x
index_form e axes = index e axes

-- the names of the two bounds; a checked tree has no other names
abbrev pub bound_named : Tree → ℤ → NameOf → Form
bound_named e n name = if is_same_name name (codes "lo") then bound_of lower e n else bound_of upper e n

abbrev pub part_form : Tree → Part → Form
part_form (node s k (interval_of e n)) (parts.Named name) = bound_named e n name
part_form e (parts.Named name) = component e (pos 0)
part_form e (parts.Numbered n) = component e n

abbrev pub axis_tree_step : TypedAxis-F (Axes → Axes) Domain Form Tree → Axes → Axes
axis_tree_step (TypedAxis-F.At t) = position t
axis_tree_step (TypedAxis-F.Trim a b) = trim (edge_of a) (edge_of b)

abbrev pub domain_tree_step : TypedDomain-F (Axes → Axes) Domain Form Tree → Domain
domain_tree_step (TypedDomain-F.Literal ps) = bounds (pairs_of ps)
domain_tree_step (TypedDomain-F.«TypedDomain::Sdom» t) = domain_like t

abbrev pub form_tree_step : TypedForm-F (Axes → Axes) Domain Form Tree → Form
form_tree_step (TypedForm-F.Bool b) = truth b
form_tree_step (TypedForm-F.Number value atom) = number value atom
form_tree_step (TypedForm-F.Iterator name place) = iterator place
form_tree_step (TypedForm-F.Variable name) = variable name
form_tree_step (TypedForm-F.Unary op e) = unary op e
form_tree_step (TypedForm-F.Cast to e) = cast to e
form_tree_step (TypedForm-F.Binary op a b) = binary op a b
form_tree_step (TypedForm-F.Index e axes) = index_form e (axes_of axes)
form_tree_step (TypedForm-F.Part e part) = part_form e part
form_tree_step (TypedForm-F.Case arms other) = choice (pairs_of arms) other
form_tree_step (TypedForm-F.Build es) = composite (trees_of es)
form_tree_step (TypedForm-F.Marray x domain e) = marray x.name domain e
form_tree_step (TypedForm-F.Condense op x domain cond e) = condense op x.name domain (condition_of cond) e
form_tree_step (TypedForm-F.Cells f e) = folded f e
form_tree_step (TypedForm-F.Shift e offsets) = shift e (trees_of offsets)
form_tree_step (TypedForm-F.Extend e domain) = extend e domain
form_tree_step (TypedForm-F.Concat parts along) = concat (trees_of parts) along
form_tree_step (TypedForm-F.«TypedForm::Sdom» e) = domain_of e
form_tree_step (TypedForm-F.Oid a) = oid a.name

abbrev pub expr_tree_step : TypedExpr-F (Axes → Axes) Domain Form Tree → Tree
expr_tree_step e = node e.span e.kind e.form

abbrev pub tree_of : TypedExpr → Tree
tree_of = fold-TypedExpr (Axes → Axes) Domain Form Tree axis_tree_step domain_tree_step form_tree_step expr_tree_step
