-- When a tree keeps the rules of the check: each of its expressions has the kind that the rule of its form gives.
use Rattle.std.specs.Prelude.{◌≡◌, ℕ, ◌≤◌, Bool, true, ◌&&◌, List, [], ◌∷◌, ◌++◌, Some, Ok, slice_get, IsTrue}
use Rattle.std.specs.Map.{lookup}
use Rattle.ras_cells.specs.Atoms.{IsInRange}
use Rattle.ras_cells.specs.declared.cell.CellType.{CellType}
use Rattle.ras_cells.specs.declared.cell.CellType.TheVariants as types
use Rattle.ras_domain.specs.declared.TheConstants.{MAX_AXES}
use Rattle.ras_syntax.specs.declared.typed.Kind.{Kind}
use Rattle.ras_syntax.specs.declared.typed.Kind.TheVariants.{Scalar, Array, Domain as DomainKind, Point}
use Rattle.ras_syntax.specs.declared.typed.CheckedSource.{CheckedSource}
use Rattle.spec_expressions.specs.Tree.{is_same_name, NameOf, Tree, Form, Trees, Pairs, Axes, Edge, Domain, Condition, node, truth, number, iterator, variable, coordinate, unary, cast, binary, index, at_point, component, choice, composite, marray, condense, folded, shift, extend, concat, domain_of, interval_of, bound_of, oid, no_trees, trees, no_pairs, pairs, no_axes, position, trim, own, edge, bounds, domain_like, always, only_where}
use Rattle.spec_expressions.specs.Kinds.{wide_type, bool_type, on_cells, on_scalar, is_scalar_bool, axes_of_kind, unary_kind, cast_kind, binary_kind, composite_kind, folded_kind, fold_type}
use Rattle.spec_expressions.specs.Names.{source_from}
use Rattle.spec_expressions.specs.Check.{iterator_kind, is_number_tree, cut_kind, is_axis, component_type, with_cell, choice_kind, concat_kind}
use Rattle.spec_expressions.specs.Shape.{is_static}

-- the variables in scope with their numbers of axes, innermost first
abbrev pub Variables : Type 0
Variables = List (NameOf × ℕ)

abbrev pub kind_in : Tree → Kind
kind_in (node span kind form) = kind

abbrev pub kinds_in : Trees → List Kind
kinds_in no_trees = []
kinds_in (trees e es) = kind_in e ∷ kinds_in es

-- of each pair the first, and the second
abbrev pub firsts_in : Pairs → List Kind
firsts_in no_pairs = []
firsts_in (pairs a b ps) = kind_in a ∷ firsts_in ps

abbrev pub seconds_in : Pairs → List Kind
seconds_in no_pairs = []
seconds_in (pairs a b ps) = kind_in b ∷ seconds_in ps

abbrev pub count_trees : Trees → ℕ
count_trees no_trees = 0
count_trees (trees e es) = ℕ.suc (count_trees es)

abbrev pub count_pairs : Pairs → ℕ
count_pairs no_pairs = 0
count_pairs (pairs a b ps) = ℕ.suc (count_pairs ps)

abbrev pub all_trees : (Tree → Bool) → Trees → Bool
all_trees holds no_trees = true
all_trees holds (trees e es) = holds e && all_trees holds es

abbrev pub all_pairs : (Tree → Bool) → Pairs → Bool
all_pairs holds no_pairs = true
all_pairs holds (pairs a b ps) = holds a && (holds b && all_pairs holds ps)

abbrev pub axes_of_domain : Domain → ℕ
axes_of_domain (bounds ps) = count_pairs ps
axes_of_domain (domain_like e) = axes_of_kind (kind_in e)

-- the variable is in scope, with so many axes
abbrev pub IsVariable : Variables → NameOf → ℕ → Type 0
IsVariable variables x axes = lookup (is_same_name x) variables ≡ Some axes

abbrev mutual
  pub IsWellTyped : List CheckedSource → Variables → Tree → Type 0
  IsWellTyped sources variables (node span kind form) = HasKind sources variables kind form

  -- the form, whose parts are well typed, is of this kind
  pub HasKind : List CheckedSource → Variables → Kind → Form → Type 0
  HasKind sources variables kind (truth b) = kind ≡ Scalar bool_type
  HasKind sources variables kind (number z atom) = IsInRange atom z × (kind ≡ Scalar (types.Atom atom))
  HasKind sources variables kind (iterator place) =
      (source : CheckedSource) × (slice_get sources place ≡ Some source) × (kind ≡ iterator_kind source)
  HasKind sources variables kind (variable x) = (axes : ℕ) × IsVariable variables x axes × (kind ≡ Point axes)
  HasKind sources variables kind (coordinate x k) =
      (axes : ℕ) × IsVariable variables x axes × IsTrue (is_axis k axes) × (kind ≡ Scalar wide_type)
  HasKind sources variables kind (unary op e) = IsWellTyped sources variables e × (unary_kind op (kind_in e) ≡ Ok kind)
  HasKind sources variables kind (cast atom e) = IsWellTyped sources variables e × (cast_kind atom (kind_in e) ≡ Ok kind)
  HasKind sources variables kind (binary op a b) =
      IsWellTyped sources variables a × IsWellTyped sources variables b × (binary_kind op (kind_in a) (kind_in b) ≡ Ok kind)
  HasKind sources variables kind (index e axes) =
      (cell : CellType) × (n : ℕ) × IsWellTyped sources variables e × AreWellTypedAxes sources variables axes
      × (kind_in e ≡ Array cell n) × (cut_kind cell n axes ≡ Ok kind)
  HasKind sources variables kind (at_point e x) =
      (cell : CellType) × (n : ℕ) × IsWellTyped sources variables e × IsVariable variables x n
      × (kind_in e ≡ Array cell n) × (kind ≡ Scalar cell)
  HasKind sources variables kind (component e k) =
      (cell : CellType) × IsWellTyped sources variables e × (on_cells (component_type k) (kind_in e) ≡ Some cell)
      × (kind ≡ with_cell cell (kind_in e))
  HasKind sources variables kind (choice arms other) =
      AreWellTypedPairs sources variables arms × IsWellTyped sources variables other
      × (choice_kind (firsts_in arms) (seconds_in arms ++ kind_in other ∷ []) ≡ Ok kind)
  HasKind sources variables kind (composite es) = AreWellTyped sources variables es × (composite_kind (kinds_in es) ≡ Ok kind)
  HasKind sources variables kind (marray x domain e) =
      (cell : CellType) × IsWellTypedDomain sources variables domain
      × IsWellTyped sources ((x, axes_of_domain domain) ∷ variables) e
      × (kind_in e ≡ Scalar cell) × (axes_of_domain domain ≤ MAX_AXES) × (kind ≡ Array cell (axes_of_domain domain))
  HasKind sources variables kind (condense op x domain condition e) =
      (cell : CellType) × IsWellTypedDomain sources variables domain
      × IsWellTypedCondition sources ((x, axes_of_domain domain) ∷ variables) condition
      × IsWellTyped sources ((x, axes_of_domain domain) ∷ variables) e
      × (on_scalar (fold_type op) (kind_in e) ≡ Some cell) × (axes_of_domain domain ≤ MAX_AXES) × (kind ≡ Scalar cell)
  HasKind sources variables kind (folded f e) = IsWellTyped sources variables e × (folded_kind f (kind_in e) ≡ Ok kind)
  HasKind sources variables kind (shift e offsets) =
      (cell : CellType) × (n : ℕ) × IsWellTyped sources variables e × AreWellTyped sources variables offsets
      × (kind_in e ≡ Array cell n) × (count_trees offsets ≡ n)
      × IsTrue (all_trees is_number_tree offsets) × IsTrue (all_trees is_static offsets) × (kind ≡ Array cell n)
  HasKind sources variables kind (extend e domain) =
      (cell : CellType) × (n : ℕ) × IsWellTyped sources variables e × IsWellTypedDomain sources variables domain
      × (kind_in e ≡ Array cell n) × (axes_of_domain domain ≡ n) × (n ≤ MAX_AXES) × (kind ≡ Array cell n)
  HasKind sources variables kind (concat parts along) =
      AreWellTyped sources variables parts × (concat_kind along (kinds_in parts) ≡ Ok kind)
  HasKind sources variables kind (domain_of e) =
      (cell : CellType) × (n : ℕ) × IsWellTyped sources variables e × (kind_in e ≡ Array cell n) × (kind ≡ DomainKind n)
  HasKind sources variables kind (interval_of e k) =
      (cell : CellType) × (n : ℕ) × IsWellTyped sources variables e × (kind_in e ≡ Array cell n) × IsTrue (is_axis k n)
      × (kind ≡ DomainKind 1)
  HasKind sources variables kind (bound_of side e k) =
      (cell : CellType) × (n : ℕ) × IsWellTyped sources variables e × (kind_in e ≡ Array cell n) × IsTrue (is_axis k n)
      × (kind ≡ Scalar wide_type)
  HasKind sources variables kind (oid a) =
      (found : ℕ × CheckedSource) × (source_from 0 a sources ≡ Some found) × (kind ≡ Scalar wide_type)

  pub AreWellTyped : List CheckedSource → Variables → Trees → Type 0
  AreWellTyped sources variables no_trees = Unit {0}
  AreWellTyped sources variables (trees e es) = IsWellTyped sources variables e × AreWellTyped sources variables es

  pub AreWellTypedPairs : List CheckedSource → Variables → Pairs → Type 0
  AreWellTypedPairs sources variables no_pairs = Unit {0}
  AreWellTypedPairs sources variables (pairs a b ps) =
      IsWellTyped sources variables a × IsWellTyped sources variables b × AreWellTypedPairs sources variables ps

  pub AreWellTypedAxes : List CheckedSource → Variables → Axes → Type 0
  AreWellTypedAxes sources variables no_axes = Unit {0}
  AreWellTypedAxes sources variables (position e axes) =
      IsWellTyped sources variables e × AreWellTypedAxes sources variables axes
  AreWellTypedAxes sources variables (trim a b axes) =
      IsWellTypedEdge sources variables a × IsWellTypedEdge sources variables b × AreWellTypedAxes sources variables axes

  pub IsWellTypedEdge : List CheckedSource → Variables → Edge → Type 0
  IsWellTypedEdge sources variables own = Unit {0}
  IsWellTypedEdge sources variables (edge e) = IsWellTyped sources variables e

  -- the bounds of a domain are static scalar numbers; what is like an expression is like one that is a domain
  pub IsWellTypedDomain : List CheckedSource → Variables → Domain → Type 0
  IsWellTypedDomain sources variables (bounds ps) =
      AreWellTypedPairs sources variables ps × IsTrue (all_pairs is_number_tree ps) × IsTrue (all_pairs is_static ps)
  IsWellTypedDomain sources variables (domain_like e) =
      (n : ℕ) × IsWellTyped sources variables e × (kind_in e ≡ DomainKind n)

  pub IsWellTypedCondition : List CheckedSource → Variables → Condition → Type 0
  IsWellTypedCondition sources variables always = Unit {0}
  IsWellTypedCondition sources variables (only_where c) =
      IsWellTyped sources variables c × IsTrue (is_scalar_bool (kind_in c))
