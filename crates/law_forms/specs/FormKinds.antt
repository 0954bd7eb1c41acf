-- What the kind of a form says of the kinds of its parts. Of the forms that aren't here `IsWellTyped` says it itself: it computes to
-- what holds of the parts, that they are well typed, of which kinds they are, and that each name is in scope.
use Rattle.std.specs.Prelude.{◌≡◌, ◌≢◌, ◌⊎◌, ℕ, ℤ, pos, ◌≤ℤ◌, unsigned_abs, List, [], ◌∷◌, ◌++◌, Some, slice_get, IsTrue}
use Rattle.std.specs.List.{AllByRecursion, AllZip}
use Rattle.arrayvec.specs.ArrayVec.{ArrayVec}
use Rattle.ras_cells.specs.declared.atom.Atom.{Atom}
use Rattle.ras_cells.specs.declared.cell.CellType.{CellType}
use Rattle.ras_cells.specs.declared.cell.CellType.TheVariants as types
use Rattle.ras_cells.specs.declared.numbers.Op1.{Op1}
use Rattle.ras_cells.specs.declared.numbers.Op2.{Op2}
use Rattle.ras_cells.specs.declared.numbers.Op2.TheVariants.{Overlay}
use Rattle.ras_syntax.specs.declared.expr.CellsFold.{CellsFold}
use Rattle.ras_syntax.specs.declared.expr.FoldOp.{FoldOp}
use Rattle.ras_syntax.specs.declared.typed.Kind.{Kind}
use Rattle.ras_syntax.specs.declared.typed.Kind.TheVariants.{Scalar, Array, Domain, Point}
use Rattle.spec_expressions.specs.Tree.{Tree, Form, Trees, Pairs, Axes, unary, cast, binary, index, component, choice, composite, condense, folded, concat}
use Rattle.spec_expressions.specs.Kinds.{wide_type, is_number, type1_of, type2_of, fold_type, cells_type, join_of_all, is_condition, axes_of_arrays, operands_kind}
use Rattle.spec_expressions.specs.Check.{are_numbers, array_or_scalar_kind, bounds_are_static, count_of, is_axis, kept_of, with_cell}
use Rattle.spec_expressions.specs.WellTyped.{kind_in, kinds_in, firsts_in, seconds_in}

-- a scalar or an array, with cells of this type
abbrev pub HasCellType : CellType → Kind → Type 0
HasCellType cell (Scalar of) = of ≡ cell
HasCellType cell (Array of n) = of ≡ cell
HasCellType cell (Domain n) = ⊥
HasCellType cell (Point n) = ⊥

-- an array with so many axes
abbrev pub IsArrayWith : ℕ → Kind → Type 0
IsArrayWith n kind = (cell : CellType) × (kind ≡ Array cell n)

-- what stands as an operand in what is of the first kind: a scalar, or an array that has as many axes
abbrev pub IsOperandOf : Kind → Kind → Type 0
IsOperandOf (Scalar cell) (Scalar of) = Unit {0}
IsOperandOf (Array cell n) (Scalar of) = Unit {0}
IsOperandOf (Array cell n) (Array of m) = m ≡ n
IsOperandOf whole part = ⊥

-- cells of the second type are cells of the first too: the types are the same, or the first is wide and the second a number
abbrev pub IsJoinedInto : CellType → CellType → Type 0
IsJoinedInto cell of = (of ≡ cell) ⊎ (IsTrue (is_number of) × (cell ≡ wide_type))

abbrev pub JoinsInto : CellType → Kind → Type 0
JoinsInto cell part = (of : CellType) × HasCellType of part × IsJoinedInto cell of

-- ---- the forms

pub record UnaryKinds (op : Op1) (part kind : Kind) : Type 0 where
  pub from : CellType
  pub cell : CellType
  pub part_type : HasCellType from part
  pub rule : type1_of op from ≡ Some cell
  pub kind_is : kind ≡ with_cell cell part

pub record CastKinds (to : Atom) (part kind : Kind) : Type 0 where
  pub from : Atom
  pub part_type : HasCellType (types.Atom from) part
  pub kind_is : kind ≡ with_cell (types.Atom to) part

-- an overlay has two arrays
abbrev pub AreArraysWhere : Op2 → Kind → Kind → Type 0
AreArraysWhere Overlay kind part = (n : ℕ) × IsArrayWith n kind × IsArrayWith n part
AreArraysWhere op kind part = Unit {0}

pub record BinaryKinds (op : Op2) (a b kind : Kind) : Type 0 where
  pub left : CellType
  pub right : CellType
  pub cell : CellType
  pub left_type : HasCellType left a
  pub right_type : HasCellType right b
  pub rule : type2_of op left right ≡ Some cell
  pub left_axes : IsOperandOf kind a
  pub right_axes : IsOperandOf kind b
  pub kind_is : kind ≡ operands_kind cell (axes_of_arrays (a ∷ b ∷ []))
  pub overlaid : AreArraysWhere op a b

pub record IndexKinds (part : Kind) (axes : Axes) (kind : Kind) : Type 0 where
  pub cell : CellType
  pub n : ℕ
  pub part_is : part ≡ Array cell n
  pub count : count_of axes ≡ n
  pub numbers : IsTrue (are_numbers axes)
  pub static : IsTrue (bounds_are_static axes)
  pub kind_is : kind ≡ array_or_scalar_kind cell (kept_of axes)

pub record ComponentKinds (part : Kind) (k : ℤ) (kind : Kind) : Type 0 where
  pub atoms : ArrayVec Atom
  pub atom : Atom
  pub part_type : HasCellType (types.Composite atoms) part
  pub not_negative : pos 0 ≤ℤ k
  pub found : slice_get atoms.items (unsigned_abs k) ≡ Some atom
  pub kind_is : kind ≡ with_cell (types.Atom atom) part

pub record ChoiceKinds (arms : Pairs) (other : Tree) (kind : Kind) : Type 0 where
  pub cell : CellType
  pub conditions : AllByRecursion (λ part. IsTrue (is_condition part)) (firsts_in arms)
  pub joined : join_of_all (seconds_in arms ++ kind_in other ∷ []) ≡ Some cell
  pub value_types : AllByRecursion (JoinsInto cell) (seconds_in arms)
  pub other_type : JoinsInto cell (kind_in other)
  pub condition_axes : AllByRecursion (IsOperandOf kind) (firsts_in arms)
  pub value_axes : AllByRecursion (IsOperandOf kind) (seconds_in arms)
  pub other_axes : IsOperandOf kind (kind_in other)
  pub kind_is : kind ≡ operands_kind cell (axes_of_arrays (firsts_in arms ++ (seconds_in arms ++ kind_in other ∷ [])))

-- each component has one atom
pub record CompositeKinds (es : Trees) (kind : Kind) : Type 0 where
  pub atoms : List Atom
  pub part_types : AllZip (λ part atom. HasCellType (types.Atom atom) part) (kinds_in es) atoms
  pub part_axes : AllByRecursion (IsOperandOf kind) (kinds_in es)
  pub kind_is : kind ≡ operands_kind (types.Composite (record { items = atoms })) (axes_of_arrays (kinds_in es))

pub record CondenseKinds (op : FoldOp) (part kind : Kind) : Type 0 where
  pub from : CellType
  pub cell : CellType
  pub part_is : part ≡ Scalar from
  pub rule : fold_type op from ≡ Some cell
  pub kind_is : kind ≡ Scalar cell

pub record FoldedKinds (f : CellsFold) (part kind : Kind) : Type 0 where
  pub from : CellType
  pub n : ℕ
  pub cell : CellType
  pub part_is : part ≡ Array from n
  pub rule : cells_type f from ≡ Some cell
  pub kind_is : kind ≡ Scalar cell

pub record ConcatKinds (es : Trees) (along : ℤ) (kind : Kind) : Type 0 where
  pub cell : CellType
  pub n : ℕ
  pub some : kinds_in es ≢ []
  pub arrays : AllByRecursion (IsArrayWith n) (kinds_in es)
  pub joined : join_of_all (kinds_in es) ≡ Some cell
  pub part_types : AllByRecursion (JoinsInto cell) (kinds_in es)
  pub on_axis : IsTrue (is_axis along n)
  pub kind_is : kind ≡ Array cell n

-- what the kind says of the kinds of the parts
abbrev pub HasPartKinds : Kind → Form → Type 0
HasPartKinds kind (unary op e) = UnaryKinds op (kind_in e) kind
HasPartKinds kind (cast to e) = CastKinds to (kind_in e) kind
HasPartKinds kind (binary op a b) = BinaryKinds op (kind_in a) (kind_in b) kind
HasPartKinds kind (index e axes) = IndexKinds (kind_in e) axes kind
HasPartKinds kind (component e k) = ComponentKinds (kind_in e) k kind
HasPartKinds kind (choice arms other) = ChoiceKinds arms other kind
HasPartKinds kind (composite es) = CompositeKinds es kind
HasPartKinds kind (condense op x domain condition e) = CondenseKinds op (kind_in e) kind
HasPartKinds kind (folded f e) = FoldedKinds f (kind_in e) kind
HasPartKinds kind (concat es along) = ConcatKinds es along kind
HasPartKinds kind other = Unit {0}
