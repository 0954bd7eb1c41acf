-- Kinds: what an expression stands for, and the kind of what is made of others. A kind that isn't to be had is a mismatch
-- of types.
use Rattle.std.specs.Prelude.{ℕ, ◌==◌, Bool, true, false, not, ◌&&◌, if◌then◌else◌, List, [], ◌∷◌, Option, Some, None, Result, Ok, Err}
use Rattle.std.specs.List.{list_all}
use Rattle.std.specs.Cmp.Lexicographic.{pointwise}
use Rattle.ras_cells.specs.declared.atom.Atom.{Atom}
use Rattle.ras_cells.specs.declared.atom.Atom.TheVariants.{Bool as BoolAtom, Octet, Char, Short, Ushort, Long, Ulong, Wide}
use Rattle.ras_cells.specs.declared.cell.CellType.{CellType}
use Rattle.ras_cells.specs.declared.cell.CellType.TheVariants as types
use Rattle.ras_cells.specs.declared.numbers.Op1.{Op1}
use Rattle.ras_cells.specs.declared.numbers.Op1.TheVariants.{Neg, Abs, Not}
use Rattle.ras_cells.specs.declared.numbers.Op2.{Op2}
use Rattle.ras_cells.specs.declared.numbers.Op2.TheVariants.{Add, Sub, Mul, Div, Mod, Eq, Ne, Lt, Le, Gt, Ge, And, Or, Xor, Bit, Overlay}
use Rattle.ras_syntax.specs.declared.expr.FoldOp.{FoldOp}
use Rattle.ras_syntax.specs.declared.expr.FoldOp.TheVariants as folds
use Rattle.ras_syntax.specs.declared.expr.CellsFold.{CellsFold}
use Rattle.ras_syntax.specs.declared.expr.CellsFold.TheVariants as cells
use Rattle.ras_syntax.specs.declared.faults.CheckFault.{CheckFault}
use Rattle.ras_syntax.specs.declared.faults.CheckFault.TheVariants.{TypeMismatch, DimensionMismatch, VariableDomain}
use Rattle.ras_syntax.specs.declared.typed.Kind.{Kind}
use Rattle.ras_syntax.specs.declared.typed.Kind.TheVariants.{Scalar, Array, Domain, Point}

-- ---- cell types

abbrev pub is_same_atom : Atom → Atom → Bool
is_same_atom BoolAtom BoolAtom = true
is_same_atom Octet Octet = true
is_same_atom Char Char = true
is_same_atom Short Short = true
is_same_atom Ushort Ushort = true
is_same_atom Long Long = true
is_same_atom Ulong Ulong = true
is_same_atom Wide Wide = true
is_same_atom a b = false

-- composite types are equal where their atoms are equal in order; a composite type of one atom equals no atom
abbrev pub is_same_type : CellType → CellType → Bool
is_same_type (types.Atom a) (types.Atom b) = is_same_atom a b
is_same_type (types.Composite as_) (types.Composite bs) = pointwise is_same_atom as_.items bs.items
is_same_type a b = false

abbrev pub wide_type : CellType
wide_type = types.Atom Wide

abbrev pub bool_type : CellType
bool_type = types.Atom BoolAtom

-- a number is a value of any atom but bool
abbrev pub is_number_atom : Atom → Bool
is_number_atom BoolAtom = false
is_number_atom atom = true

abbrev pub is_number : CellType → Bool
is_number (types.Atom atom) = is_number_atom atom
is_number (types.Composite atoms) = false

abbrev pub is_bool : CellType → Bool
is_bool (types.Atom atom) = not (is_number_atom atom)
is_bool (types.Composite atoms) = false

abbrev pub some_where : Bool → CellType → Option CellType
some_where holds cell = if holds then Some cell else None

-- the common type of two: the type itself where they are equal, wide where both are numbers
abbrev pub join_of : CellType → CellType → Option CellType
join_of a b = if is_same_type a b then Some a else some_where (is_number a && is_number b) wide_type

-- a cell of the first atom is stored into the second: a number into a number, a bool into a bool
abbrev pub atom_stores : Atom → Atom → Bool
atom_stores BoolAtom to = not (is_number_atom to)
atom_stores from to = is_number_atom to

-- the same of types, composites component by component
abbrev pub stores : CellType → CellType → Bool
stores (types.Atom from) (types.Atom to) = atom_stores from to
stores (types.Composite from) (types.Composite to) = pointwise atom_stores from.items to.items
stores from to = false

-- ---- the cell types that operations give

abbrev pub type1_of : Op1 → CellType → Option CellType
type1_of Neg a = some_where (is_number a) wide_type
type1_of Abs a = some_where (is_number a) wide_type
type1_of Not a = some_where (is_bool a) bool_type

abbrev pub both_numbers : CellType → CellType → CellType → Option CellType
both_numbers a b result = some_where (is_number a && is_number b) result

abbrev pub both_bools : CellType → CellType → Option CellType
both_bools a b = some_where (is_bool a && is_bool b) bool_type

-- numbers are compared with numbers, and equal or not also bools with bools
abbrev pub comparison_type : CellType → CellType → Option CellType
comparison_type a b = if is_bool a then both_bools a b else both_numbers a b bool_type

abbrev pub type2_of : Op2 → CellType → CellType → Option CellType
type2_of Add a b = both_numbers a b wide_type
type2_of Sub a b = both_numbers a b wide_type
type2_of Mul a b = both_numbers a b wide_type
type2_of Div a b = both_numbers a b wide_type
type2_of Mod a b = both_numbers a b wide_type
type2_of Eq a b = comparison_type a b
type2_of Ne a b = comparison_type a b
type2_of Lt a b = both_numbers a b bool_type
type2_of Le a b = both_numbers a b bool_type
type2_of Gt a b = both_numbers a b bool_type
type2_of Ge a b = both_numbers a b bool_type
type2_of And a b = both_bools a b
type2_of Or a b = both_bools a b
type2_of Xor a b = both_bools a b
type2_of Bit a b = both_numbers a b bool_type
type2_of Overlay a b = join_of a b

-- every atom casts to every atom, and composite cells to none
abbrev pub cast_type : Atom → CellType → Option CellType
cast_type to (types.Atom atom) = Some (types.Atom to)
cast_type to (types.Composite atoms) = None

-- sums and products are exact and so wide; the extremes keep their operand's type
abbrev pub fold_type : FoldOp → CellType → Option CellType
fold_type folds.Plus a = some_where (is_number a) wide_type
fold_type folds.Times a = some_where (is_number a) wide_type
fold_type folds.Min a = some_where (is_number a) a
fold_type folds.Max a = some_where (is_number a) a
fold_type folds.And a = some_where (is_bool a) bool_type
fold_type folds.Or a = some_where (is_bool a) bool_type

abbrev pub cells_type : CellsFold → CellType → Option CellType
cells_type cells.Add a = some_where (is_number a) wide_type
cells_type cells.Min a = some_where (is_number a) a
cells_type cells.Max a = some_where (is_number a) a
cells_type cells.Count a = some_where (is_bool a) wide_type
cells_type cells.AnyTrue a = some_where (is_bool a) bool_type
cells_type cells.AllTrue a = some_where (is_bool a) bool_type

-- ---- kinds

-- what is asked of the cell type of a scalar or an array; a domain and a point have no cells
abbrev pub on_cells : (CellType → Option CellType) → Kind → Option CellType
on_cells f (Scalar cell) = f cell
on_cells f (Array cell axes) = f cell
on_cells f other = None

abbrev pub on_scalar : (CellType → Option CellType) → Kind → Option CellType
on_scalar f (Scalar cell) = f cell
on_scalar f other = None

abbrev pub on_array : (CellType → Option CellType) → Kind → Option CellType
on_array f (Array cell axes) = f cell
on_array f other = None

abbrev pub cell_type_in : Kind → Option CellType
cell_type_in = on_cells Some

abbrev pub scalar_cell : Kind → Option CellType
scalar_cell = on_scalar Some

abbrev pub array_cell : Kind → Option CellType
array_cell = on_array Some

abbrev pub is_given : Option CellType → Bool
is_given None = false
is_given (Some cell) = true

abbrev pub is_scalar_number : Kind → Bool
is_scalar_number (Scalar cell) = is_number cell
is_scalar_number other = false

abbrev pub is_scalar_bool : Kind → Bool
is_scalar_bool (Scalar cell) = is_bool cell
is_scalar_bool other = false

-- how many axes an expression has, none for a scalar
abbrev pub axes_of_kind : Kind → ℕ
axes_of_kind (Scalar cell) = 0
axes_of_kind (Array cell axes) = axes
axes_of_kind (Domain axes) = axes
axes_of_kind (Point axes) = axes

abbrev pub all_equal : List ℕ → Bool
all_equal [] = true
all_equal (n ∷ ns) = list_all (λ m. m == n) ns

-- the numbers of axes of the arrays among operands
abbrev pub axes_of_arrays : List Kind → List ℕ
axes_of_arrays [] = []
axes_of_arrays (Array cell axes ∷ kinds) = axes ∷ axes_of_arrays kinds
axes_of_arrays (other ∷ kinds) = axes_of_arrays kinds

-- ---- rules

-- of several faults of one rule, types come first, then numbers of axes, then bounds that vary
abbrev pub by_rules : {A : Type 0} → Bool → Bool → Bool → A → Result A CheckFault
by_rules types_fit axes_fit is_fixed a =
    if not types_fit then Err TypeMismatch else
    if not axes_fit then Err DimensionMismatch else
    if not is_fixed then Err VariableDomain else Ok a

abbrev pub scalar_kind : Option CellType → Result Kind CheckFault
scalar_kind None = Err TypeMismatch
scalar_kind (Some cell) = Ok (Scalar cell)

-- an array where an operand is one; a scalar is paired with each cell
abbrev pub operands_kind : CellType → List ℕ → Kind
operands_kind cell [] = Scalar cell
operands_kind cell (n ∷ ns) = Array cell n

-- of operands of these kinds, whose cells together give this type; the arrays among them have equally many axes
abbrev pub common_kind : Option CellType → List Kind → Result Kind CheckFault
common_kind None kinds = Err TypeMismatch
common_kind (Some cell) kinds = by_rules true (all_equal (axes_of_arrays kinds)) true (operands_kind cell (axes_of_arrays kinds))

abbrev pub unary_kind : Op1 → Kind → Result Kind CheckFault
unary_kind op a = common_kind (on_cells (type1_of op) a) (a ∷ [])

abbrev pub cast_kind : Atom → Kind → Result Kind CheckFault
cast_kind to a = common_kind (on_cells (cast_type to) a) (a ∷ [])

abbrev pub on_both : (CellType → CellType → Option CellType) → Kind → Kind → Option CellType
on_both f a b = on_cells (λ x. on_cells (f x) b) a

-- an overlay takes two arrays, every other operator scalars too
abbrev pub type_of_both : Op2 → Kind → Kind → Option CellType
type_of_both Overlay a b = on_array (λ x. on_array (join_of x) b) a
type_of_both op a b = on_both (type2_of op) a b

abbrev pub binary_kind : Op2 → Kind → Kind → Result Kind CheckFault
binary_kind op a b = common_kind (type_of_both op a b) (a ∷ b ∷ [])

-- the common type of a cell type and the cells of further operands
abbrev pub join_after : Option CellType → List Kind → Option CellType
join_after None kinds = None
join_after (Some cell) [] = Some cell
join_after (Some cell) (kind ∷ kinds) = join_after (on_cells (join_of cell) kind) kinds

abbrev pub join_of_all : List Kind → Option CellType
join_of_all [] = None
join_of_all (kind ∷ kinds) = join_after (cell_type_in kind) kinds

abbrev pub is_condition : Kind → Bool
is_condition (Scalar cell) = is_bool cell
is_condition (Array cell axes) = is_bool cell
is_condition other = false

-- the type of a case: its branches' common type, where each condition is a bool
abbrev pub choice_type : List Kind → List Kind → Option CellType
choice_type conditions branches = if list_all is_condition conditions then join_of_all branches else None

-- the atoms of operands that have one atom each
abbrev pub with_atom : Option CellType → Option (List Atom) → Option (List Atom)
with_atom (Some (types.Atom atom)) (Some atoms) = Some (atom ∷ atoms)
with_atom cell atoms = None

abbrev pub atoms_of_all : List Kind → Option (List Atom)
atoms_of_all [] = Some []
atoms_of_all (kind ∷ kinds) = with_atom (cell_type_in kind) (atoms_of_all kinds)

abbrev pub composite_type : Option (List Atom) → Option CellType
composite_type None = None
composite_type (Some atoms) = Some (types.Composite (record { items = atoms }))

abbrev pub composite_kind : List Kind → Result Kind CheckFault
composite_kind kinds = common_kind (composite_type (atoms_of_all kinds)) kinds

-- a fold over all cells of an array
abbrev pub folded_kind : CellsFold → Kind → Result Kind CheckFault
folded_kind f a = scalar_kind (on_array (cells_type f) a)
