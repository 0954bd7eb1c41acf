-- What a kind that a rule gave says of the kinds that it was made of.
use Rattle.std.proofs.Common.{◌≡◌, ℕ, suc, ◌≤◌, Bool, true, false, Ok, Option, Some, None, List, [], ◌∷◌, length, refl, sym, ap, subst, arith}
use Rattle.std.specs.Prelude.{◌&&◌, ◌==◌, if◌then◌else◌}
use Rattle.std.specs.List.{list_all, AllByRecursion}
use Rattle.std.specs.Cmp.Lexicographic.{pointwise}
use Rattle.std.proofs.lemmas.Bool.{eqb-true, and_parts}
use Rattle.ras_cells.specs.declared.atom.Atom.{Atom}
use Rattle.ras_cells.specs.declared.cell.CellType.{CellType}
use Rattle.ras_cells.specs.declared.cell.CellType.TheVariants as types
use Rattle.ras_cells.specs.declared.numbers.Op1.{Op1}
use Rattle.ras_cells.specs.declared.numbers.Op1.TheVariants.{Neg, Abs, Not}
use Rattle.ras_cells.specs.declared.numbers.Op2.{Op2}
use Rattle.ras_cells.specs.declared.numbers.Op2.TheVariants.{Add, Sub, Mul, Div, Mod, Eq, Ne, And, Or, Xor, Overlay}
use Rattle.ras_cells.specs.Stored.{atoms_of}
use Rattle.ras_syntax.specs.declared.typed.Kind.{Kind}
use Rattle.ras_syntax.specs.declared.typed.Kind.TheVariants.{Scalar, Array, Domain, Point}
use Rattle.spec_expressions.specs.Kinds.{is_same_atom, is_same_type, wide_type, bool_type, is_number, is_bool, some_where, join_of, type1_of, type2_of, both_numbers, both_bools, cast_type, on_cells, on_array, on_both, type_of_both, cell_type_in, all_equal, axes_of_arrays, by_rules, operands_kind, common_kind, join_after, join_of_all, is_condition, choice_type, with_atom, atoms_of_all, composite_type}
use Rattle.law_shapes.proofs.Outcomes.{same_ok}
use Rattle.law_lists.proofs.Each.{each_passes, each_weaker}

-- ---- rules

-- a rule that gives a kind holds in each of its parts, and one over operands
pub ruled-ok : {A : Type 0} (types_fit axes_fit is_fixed : Bool) (a b : A) → by_rules types_fit axes_fit is_fixed a ≡ Ok b → (types_fit ≡ true) × (axes_fit ≡ true)
    × (is_fixed ≡ true) × (a ≡ b)
ruled-ok true true true a b is = (refl, refl, refl, same_ok a b is)
ruled-ok true true false a b is = absurd cc
ruled-ok true false fixed a b is = absurd cc
ruled-ok false axes fixed a b is = absurd cc

pub induced-ok : (o : Option CellType) (kinds : List Kind) (kind : Kind) → common_kind o kinds ≡ Ok kind
    → (cell : CellType) × (o ≡ Some cell) × (all_equal (axes_of_arrays kinds) ≡ true) × (operands_kind cell (axes_of_arrays kinds) ≡ kind)
induced-ok None kinds kind is = absurd cc
induced-ok (Some cell) kinds kind is =
    let both = ruled-ok true (all_equal (axes_of_arrays kinds)) true (operands_kind cell (axes_of_arrays kinds)) kind is in (cell, refl, both.1, both.3)

-- the numbers are all the first of them
pub all_equal-first : (n : ℕ) (ns : List ℕ) → all_equal (n ∷ ns) ≡ true → AllByRecursion (λ m. m ≡ n) (n ∷ ns)
all_equal-first n ns is = (refl, each_weaker (λ m. (m == n) ≡ true) (λ m. m ≡ n) (λ m. eqb-true m n) ns (each_passes (λ m. m == n) ns is))

-- ---- widths

-- a cell of the first type has at most as many numbers as one of the second
abbrev pub FitsIn : CellType → CellType → Type 0
FitsIn cell a = length (atoms_of cell) ≤ length (atoms_of a)

-- a scalar, or an array whose cells have at least so many numbers
abbrev pub HasCells : ℕ → Kind → Type 0
HasCells w (Scalar cell) = Unit {0}
HasCells w (Array cell n) = w ≤ length (atoms_of cell)
HasCells w (Domain n) = ⊥
HasCells w (Point n) = ⊥

-- of a kind with this cell type
abbrev pub IsOf : CellType → Kind → Type 0
IsOf x (Scalar cell) = cell ≡ x
IsOf x (Array cell n) = cell ≡ x
IsOf x (Domain n) = ⊥
IsOf x (Point n) = ⊥

-- cells of a wide enough type
pub cells-of : (w : ℕ) (x : CellType) (kind : Kind) → IsOf x kind → w ≤ length (atoms_of x) → HasCells w kind
cells-of w x (Scalar cell) is few = tt
cells-of w x (Array cell n) is few = subst (λ y. w ≤ length (atoms_of y)) (sym is) few
cells-of w x (Domain n) is few = absurd is
cells-of w x (Point n) is few = absurd is

-- what is asked of the cell type
pub on_cells-ok : (f : CellType → Option CellType) (kind : Kind) (cell : CellType) → on_cells f kind ≡ Some cell → (x : CellType) × (f x ≡ Some cell) × IsOf x kind
on_cells-ok f (Scalar x) cell is = (x, is, refl)
on_cells-ok f (Array x n) cell is = (x, is, refl)
on_cells-ok f (Domain n) cell is = absurd cc
on_cells-ok f (Point n) cell is = absurd cc

on_array-ok : (f : CellType → Option CellType) (kind : Kind) (cell : CellType) → on_array f kind ≡ Some cell → (x : CellType) × (f x ≡ Some cell) × IsOf x kind
on_array-ok f (Scalar x) cell is = absurd cc
on_array-ok f (Array x n) cell is = (x, is, refl)
on_array-ok f (Domain n) cell is = absurd cc
on_array-ok f (Point n) cell is = absurd cc

-- a type that is given under a condition
pub some_where-ok : (b : Bool) (result cell : CellType) → some_where b result ≡ Some cell → (b ≡ true) × (result ≡ cell)
some_where-ok true result cell is = (refl, cc)
some_where-ok false result cell is = absurd cc

-- numbers and bools are of one atom
one-number : (a : CellType) → is_number a ≡ true → 1 ≤ length (atoms_of a)
one-number (types.Atom atom) is = omega arith
one-number (types.Composite atoms) is = absurd cc

one-bool : (a : CellType) → is_bool a ≡ true → 1 ≤ length (atoms_of a)
one-bool (types.Atom atom) is = omega arith
one-bool (types.Composite atoms) is = absurd cc

-- a result of one atom
one-fits : (atom : Atom) (cell a : CellType) → types.Atom atom ≡ cell → 1 ≤ length (atoms_of a) → FitsIn cell a
one-fits atom cell a is some = subst (λ c. FitsIn c a) is some

-- a result of one atom, of a number and of a bool
number-fits : (atom : Atom) (cell a : CellType) → some_where (is_number a) (types.Atom atom) ≡ Some cell → FitsIn cell a
number-fits atom cell a is =
    let both = some_where-ok (is_number a) (types.Atom atom) cell is in one-fits atom cell a both.1 (one-number a both.0)

bool-fits : (atom : Atom) (cell a : CellType) → some_where (is_bool a) (types.Atom atom) ≡ Some cell → FitsIn cell a
bool-fits atom cell a is =
    let both = some_where-ok (is_bool a) (types.Atom atom) cell is in one-fits atom cell a both.1 (one-bool a both.0)

-- operations of one operand
type1-fits : (op : Op1) (a cell : CellType) → type1_of op a ≡ Some cell → FitsIn cell a
type1-fits Neg a cell is = number-fits _ cell a is
type1-fits Abs a cell is = number-fits _ cell a is
type1-fits Not a cell is = bool-fits _ cell a is

pub unary-cells : (op : Op1) (kind : Kind) (cell : CellType) → on_cells (type1_of op) kind ≡ Some cell → HasCells (length (atoms_of cell)) kind
unary-cells op kind cell is =
    let x = on_cells-ok (type1_of op) kind cell is in
    cells-of (length (atoms_of cell)) x.0 kind x.2 (type1-fits op x.0 cell x.1)

cast-fits : (to : Atom) (a cell : CellType) → cast_type to a ≡ Some cell → FitsIn cell a
cast-fits to (types.Atom atom) cell is = one-fits to cell (types.Atom atom) (cc) (omega arith)
cast-fits to (types.Composite atoms) cell is = absurd cc

pub cast-cells : (to : Atom) (kind : Kind) (cell : CellType) → on_cells (cast_type to) kind ≡ Some cell → HasCells (length (atoms_of cell)) kind
cast-cells to kind cell is =
    let x = on_cells-ok (cast_type to) kind cell is in
    cells-of (length (atoms_of cell)) x.0 kind x.2 (cast-fits to x.0 cell x.1)

-- ---- two operands

-- a result of one atom, of two numbers and of two bools
numbers-fit : (atom : Atom) (a b cell : CellType) → both_numbers a b (types.Atom atom) ≡ Some cell → FitsIn cell a × FitsIn cell b
numbers-fit atom a b cell is =
    let both = some_where-ok (is_number a && is_number b) (types.Atom atom) cell is in
    let each = and_parts (is_number a) (is_number b) both.0 in
    (one-fits atom cell a both.1 (one-number a each.0), one-fits atom cell b both.1 (one-number b each.1))

bools-fit : (a b cell : CellType) → both_bools a b ≡ Some cell → FitsIn cell a × FitsIn cell b
bools-fit a b cell is =
    let both = some_where-ok (is_bool a && is_bool b) bool_type cell is in
    let each = and_parts (is_bool a) (is_bool b) both.0 in
    (one-fits _ cell a both.1 (one-bool a each.0), one-fits _ cell b both.1 (one-bool b each.1))

compared-fit : (t : Bool) (a b cell : CellType) → (if t then both_bools a b else both_numbers a b bool_type) ≡ Some cell → FitsIn cell a × FitsIn cell b
compared-fit true a b cell is = bools-fit a b cell is
compared-fit false a b cell is = numbers-fit _ a b cell is

-- equal types have equally many atoms
length-pointwise : (cs ds : List Atom) → pointwise is_same_atom cs ds ≡ true → length cs ≡ length ds
length-pointwise [] [] is = refl
length-pointwise [] (d ∷ ds) is = absurd cc
length-pointwise (c ∷ cs) [] is = absurd cc
length-pointwise (c ∷ cs) (d ∷ ds) is =
    ap suc (length-pointwise cs ds (and_parts (is_same_atom c d) (pointwise is_same_atom cs ds) is).1)

same-fit : (a b : CellType) → is_same_type a b ≡ true → FitsIn a b
same-fit (types.Atom a) (types.Atom b) is = omega arith
same-fit (types.Atom a) (types.Composite ds) is = absurd cc
same-fit (types.Composite cs) (types.Atom b) is = absurd cc
same-fit (types.Composite cs) (types.Composite ds) is = omega (arith, length-pointwise cs.items ds.items is)

-- a common type has as many atoms as each of the two
join-cases : (t : Bool) (a b cell : CellType) → is_same_type a b ≡ t → (if t then Some a else both_numbers a b wide_type) ≡ Some cell → FitsIn cell a × FitsIn cell b
join-cases true a b cell same is =
    let e : a ≡ cell = cc in
    (subst (λ c. FitsIn c a) e (omega arith), subst (λ c. FitsIn c b) e (same-fit a b same))
join-cases false a b cell same is = numbers-fit _ a b cell is

join-fit : (a b cell : CellType) → join_of a b ≡ Some cell → FitsIn cell a × FitsIn cell b
join-fit a b cell is = join-cases (is_same_type a b) a b cell refl is

-- operations of two operands
type2-fit : (op : Op2) (a b cell : CellType) → type2_of op a b ≡ Some cell → FitsIn cell a × FitsIn cell b
type2-fit Add a b cell is = numbers-fit _ a b cell is
type2-fit Sub a b cell is = numbers-fit _ a b cell is
type2-fit Mul a b cell is = numbers-fit _ a b cell is
type2-fit Div a b cell is = numbers-fit _ a b cell is
type2-fit Mod a b cell is = numbers-fit _ a b cell is
type2-fit Eq a b cell is = compared-fit (is_bool a) a b cell is
type2-fit Ne a b cell is = compared-fit (is_bool a) a b cell is
type2-fit And a b cell is = bools-fit a b cell is
type2-fit Or a b cell is = bools-fit a b cell is
type2-fit Xor a b cell is = bools-fit a b cell is
type2-fit Overlay a b cell is = join-fit a b cell is
type2-fit op a b cell is = numbers-fit _ a b cell is

both-cells : (f : CellType → CellType → Option CellType) (a b : Kind) (cell : CellType) → ((x y : CellType) → f x y ≡ Some cell → FitsIn cell x × FitsIn cell y) → on_both f a b ≡ Some cell
    → HasCells (length (atoms_of cell)) a × HasCells (length (atoms_of cell)) b
both-cells f a b cell fit is =
    let x = on_cells-ok (λ x. on_cells (f x) b) a cell is in
    let y = on_cells-ok (f x.0) b cell x.1 in
    let both = fit x.0 y.0 y.1 in
    (cells-of (length (atoms_of cell)) x.0 a x.2 both.0, cells-of (length (atoms_of cell)) y.0 b y.2 both.1)

pub binary-cells : (op : Op2) (a b : Kind) (cell : CellType) → type_of_both op a b ≡ Some cell → HasCells (length (atoms_of cell)) a × HasCells (length (atoms_of cell)) b
binary-cells Overlay a b cell is =
    let x = on_array-ok (λ x. on_array (join_of x) b) a cell is in
    let y = on_array-ok (join_of x.0) b cell x.1 in
    let both = join-fit x.0 y.0 cell y.1 in
    (cells-of (length (atoms_of cell)) x.0 a x.2 both.0, cells-of (length (atoms_of cell)) y.0 b y.2 both.1)
binary-cells op a b cell is = both-cells (type2_of op) a b cell (λ x y. type2-fit op x y cell) is

-- ---- several operands

-- types that have a common type are types of cells
join_after-cells : (o : Option CellType) (kinds : List Kind) (cell : CellType) → join_after o kinds ≡ Some cell → (x : CellType) × (o ≡ Some x) × AllByRecursion (HasCells 0) kinds
join_after-cells None kinds cell is = absurd cc
join_after-cells (Some x) [] cell is = (x, refl, tt)
join_after-cells (Some x) (kind ∷ kinds) cell is =
    let more = join_after-cells (on_cells (join_of x) kind) kinds cell is in
    let here = on_cells-ok (join_of x) kind more.0 more.1 in
    (x, refl, (cells-of 0 here.0 kind here.2 (omega arith), more.2))

join_of_all-cells : (kinds : List Kind) (cell : CellType) → join_of_all kinds ≡ Some cell → AllByRecursion (HasCells 0) kinds
join_of_all-cells [] cell is = absurd cc
join_of_all-cells (kind ∷ kinds) cell is =
    let more = join_after-cells (cell_type_in kind) kinds cell is in
    let here = on_cells-ok Some kind more.0 more.1 in
    (cells-of 0 here.0 kind here.2 (omega arith), more.2)

-- conditions have cells
condition-cells : (kind : Kind) → is_condition kind ≡ true → HasCells 0 kind
condition-cells (Scalar cell) is = tt
condition-cells (Array cell n) is = omega arith
condition-cells (Domain n) is = absurd cc
condition-cells (Point n) is = absurd cc

-- so the conditions and the branches of a case have cells
choice-cases : (t : Bool) (conditions branches : List Kind) (cell : CellType) → list_all is_condition conditions ≡ t → (if t then join_of_all branches else None) ≡ Some cell
    → AllByRecursion (HasCells 0) conditions × AllByRecursion (HasCells 0) branches
choice-cases true conditions branches cell all is =
    (each_weaker (λ kind. is_condition kind ≡ true) (HasCells 0) condition-cells conditions (each_passes is_condition conditions all), join_of_all-cells branches cell is)
choice-cases false conditions branches cell all is = absurd cc

pub choice-cells : (conditions branches : List Kind) (cell : CellType) → choice_type conditions branches ≡ Some cell → AllByRecursion (HasCells 0) conditions
    × AllByRecursion (HasCells 0) branches
choice-cells conditions branches cell is = choice-cases (list_all is_condition conditions) conditions branches cell refl is

-- and so have the components of a composite cell
pub with_atom-ok : (o : Option CellType) (more : Option (List Atom)) (atoms : List Atom) → with_atom o more ≡ Some atoms → (atom : Atom) × (rest : List Atom)
    × (o ≡ Some (types.Atom atom)) × (more ≡ Some rest) × (atom ∷ rest ≡ atoms)
with_atom-ok (Some (types.Atom atom)) (Some rest) atoms h = (atom, rest, refl, refl, cc)
with_atom-ok (Some (types.Atom atom)) None atoms h = absurd cc
with_atom-ok (Some (types.Composite as_)) more atoms h = absurd cc
with_atom-ok None more atoms h = absurd cc

atoms_of_all-cells : (kinds : List Kind) (atoms : List Atom) → atoms_of_all kinds ≡ Some atoms → AllByRecursion (HasCells 0) kinds
atoms_of_all-cells [] atoms is = tt
atoms_of_all-cells (kind ∷ kinds) atoms is =
    let both = with_atom-ok (cell_type_in kind) (atoms_of_all kinds) atoms is in
    let here = on_cells-ok Some kind (types.Atom both.0) both.2 in
    (cells-of 0 here.0 kind here.2 (omega arith), atoms_of_all-cells kinds both.1 both.3)

pub composite-given : (more : Option (List Atom)) (t : CellType) → composite_type more ≡ Some t → (atoms : List Atom) × (more ≡ Some atoms) × (atoms ≡ atoms_of t)
composite-given None t h = absurd cc
composite-given (Some atoms) t h =
    let made : CellType = types.Composite (record { items = atoms }) in
    let e : made ≡ t = cc in
    (atoms, refl, subst (λ u. atoms ≡ atoms_of u) e refl)

pub composite-cells : (kinds : List Kind) (cell : CellType) → composite_type (atoms_of_all kinds) ≡ Some cell → AllByRecursion (HasCells 0) kinds
composite-cells kinds cell is = let some = composite-given (atoms_of_all kinds) cell is in atoms_of_all-cells kinds some.0 some.1
