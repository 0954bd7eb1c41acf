-- A small database and expressions over it, whose values are worked out by hand. The laws of worked expressions speak of
-- them.
use Rattle.std.specs.Prelude.{ℕ, ℤ, pos, false, ◌+ℤ◌, ◌*ℤ◌, List, [], ◌∷◌, map, codes}
use Rattle.ras_cells.specs.declared.atom.Atom.TheVariants as atoms
use Rattle.ras_cells.specs.declared.cell.Cell.{Cell}
use Rattle.ras_cells.specs.declared.cell.Cell.TheVariants.{Value}
use Rattle.ras_cells.specs.declared.cell.CellType.{CellType}
use Rattle.ras_cells.specs.declared.cell.CellType.TheVariants as types
use Rattle.ras_cells.specs.declared.numbers.Op1.TheVariants as one
use Rattle.ras_cells.specs.declared.numbers.Op2.{Op2}
use Rattle.ras_domain.specs.declared.region.Interval.{Interval}
use Rattle.ras_domain.specs.Region.{points_of}
use Rattle.ras_syntax.specs.declared.span.Span.{Span}
use Rattle.ras_syntax.specs.declared.types.SetType.{SetType}
use Rattle.ras_syntax.specs.declared.typed.Kind.{Kind}
use Rattle.ras_syntax.specs.declared.typed.Kind.TheVariants as kinds
use Rattle.spec_expressions.specs.Database.{Array}
use Rattle.spec_expressions.specs.Eval.{Environment}
use Rattle.ras_syntax.specs.declared.expr.FoldOp.TheVariants as folds
use Rattle.spec_expressions.specs.Tree.{Tree, Form, Domain, node, truth, number, iterator, coordinate, unary, binary, composite, condense, index, trim, no_axes, edge, pairs, no_pairs, trees, no_trees, bounds, only_where}
use Rattle.ras_syntax.specs.declared.typed.CheckedSource.{CheckedSource}

-- ---- arrays

abbrev pub axis : ℤ → ℤ → Interval
axis lo hi = record { lo = lo; hi = hi }

-- 4 times the first coordinate and the second
abbrev pub four_and : List ℤ → ℤ
four_and [] = pos 0
four_and (i ∷ []) = pos 4 *ℤ i
four_and (i ∷ j ∷ rest) = (pos 4 *ℤ i) +ℤ j

abbrev pub first_coordinate : List ℤ → ℤ
first_coordinate [] = pos 0
first_coordinate (i ∷ rest) = i

-- the box from 0 to 3 on two axes, and on one
abbrev pub square : List Interval
square = axis (pos 0) (pos 3) ∷ axis (pos 0) (pos 3) ∷ []

abbrev pub line_box : List Interval
line_box = axis (pos 0) (pos 3) ∷ []

abbrev pub worked_array : List Interval → (List ℤ → List ℤ) → Array
worked_array domain cells = record { domain = domain; stored = map (λ p. (p, cells p)) (points_of domain) }

abbrev pub set_type_of : CellType → List (ℤ × ℤ) → SetType
set_type_of cell nulls = record {
  name = [];
  cell = cell;
  names = [];
  bounds = record { items = [] };
  extents = record { items = [] };
  nulls = record { items = nulls };
}

abbrev pub char : CellType
char = types.Atom atoms.Char

abbrev pub short : CellType
short = types.Atom atoms.Short

abbrev pub rgb : CellType
rgb = types.Composite (record { items = atoms.Char ∷ atoms.Char ∷ atoms.Char ∷ [] })

-- a scope with one iterator a
abbrev pub one_array : SetType → Array → Environment
one_array of array =
    record { row = record { iterator = codes "a"; oid = 1; of = of; array = array } ∷ []; variables = [] }

-- G: 0 to 15 on a square. N: zeros that read as null. R: red, green and blue
abbrev pub over_G : Environment
over_G = one_array (set_type_of char []) (worked_array square (λ p. four_and p ∷ []))

abbrev pub over_N : Environment
over_N = one_array (set_type_of char ((pos 0, pos 0) ∷ [])) (worked_array line_box (λ p. pos 0 ∷ []))

abbrev pub over_R : Environment
over_R = one_array (set_type_of rgb []) (worked_array (axis (pos 0) (pos 1) ∷ []) (λ p. first_coordinate p ∷ pos 10 ∷ pos 20 ∷ []))

-- ---- expressions; where no rule looks at a span or a kind, they are these

abbrev pub somewhere : Span
somewhere = record { from = 0; to = 0 }

abbrev pub wide_kind : Kind
wide_kind = kinds.Scalar (types.Atom atoms.Wide)

abbrev pub term : Form → Tree
term form = node somewhere wide_kind form

abbrev pub a : Tree
a = term (iterator 0)

abbrev pub n : ℕ → Tree
n k = term (number (pos k) atoms.Wide)

abbrev pub minus : Tree → Tree
minus x = term (unary one.Neg x)

abbrev pub op : Op2 → Tree → Tree → Tree
op o x y = term (binary o x y)

-- coordinate k of the variable p
abbrev pub p : ℕ → Tree
p k = term (coordinate (codes "p") (pos k))

-- a[lo:hi,lo:hi]
abbrev pub trimmed : ℕ → ℕ → ℕ → ℕ → Tree
trimmed l0 h0 l1 h1 = term (index a (trim (edge (n l0)) (edge (n h0)) (trim (edge (n l1)) (edge (n h1)) no_axes)))

-- [lo:hi]
abbrev pub from_to : ℕ → ℕ → Domain
from_to lo hi = bounds (pairs (n lo) (n hi) no_pairs)

-- a scalar that is null: the greatest of no numbers
abbrev pub nothing : Tree
nothing = term (condense folds.Max (codes "q") (from_to 0 0) (only_where (term (truth false))) (n 1))

-- the box from 1 to k on one axis
abbrev pub line_of : ℕ → List Interval
line_of k = axis (pos 1) (pos k) ∷ []

-- the kind of arrays whose cells are two chars, and a scalar of two components
abbrev pub pair_of_chars : ℕ → Kind
pair_of_chars axes = kinds.Array (types.Composite (record { items = atoms.Char ∷ atoms.Char ∷ [] })) axes

abbrev pub rgb_line : Kind
rgb_line = kinds.Array rgb 1

abbrev pub one_and_two : Tree
one_and_two = term (composite (trees (n 1) (trees (n 2) no_trees)))

-- the points [i,j] with i and j between these
abbrev pub box_of_points : ℕ → ℕ → ℕ → ℕ → List Interval
box_of_points l0 h0 l1 h1 = axis (pos l0) (pos h0) ∷ axis (pos l1) (pos h1) ∷ []

-- the box of the variable p
abbrev pub with_p : List Interval → List (List ℕ × List Interval)
with_p box = (codes "p", box) ∷ []

-- ---- answers

abbrev pub numbers : List ℤ → List Cell
numbers = map (λ z. Value (record { items = z ∷ [] }))

abbrev pub naturals : List ℕ → List Cell
naturals ks = numbers (map pos ks)

abbrev pub a_ : List ℕ
a_ = codes "a"

abbrev pub R_ : List ℕ
R_ = codes "R"

abbrev pub any_bound : Interval
any_bound = record { lo = ℤ.negsuc 2147483647; hi = pos 2147483647 }

abbrev pub set_type_named : List ℕ → CellType → List (List ℕ) → List Interval → SetType
set_type_named called cell names within =
    record { name = called; cell = cell; names = names; bounds = record { items = within }; extents = record { items = [] }; nulls = record { items = [] } }

abbrev pub rgb_names : List (List ℕ)
rgb_names = codes "red" ∷ codes "green" ∷ codes "blue" ∷ []

abbrev pub rgb_set : SetType
rgb_set = set_type_named (codes "RgbSet") rgb rgb_names (any_bound ∷ [])

abbrev pub rgb_source : CheckedSource
rgb_source = record { collection = R_; iterator = a_; of = rgb_set }
