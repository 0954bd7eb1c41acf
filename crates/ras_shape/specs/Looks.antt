-- What the walk knows of an expression.
use Rattle.std.specs.Prelude.{◌≡◌, ℤ, Bool, true, false, ◌&&◌, List, Result, Ok, Err}
use Rattle.ras_cells.specs.declared.atom.Atom.{Atom}
use Rattle.ras_cells.specs.declared.atom.Atom.TheVariants as atoms
use Rattle.ras_cells.specs.declared.cell.CellFault.TheVariants.{Overflow}
use Rattle.ras_cells.specs.declared.numbers.Op1.{Op1}
use Rattle.ras_cells.specs.declared.numbers.Op1.TheVariants as one
use Rattle.ras_cells.specs.declared.numbers.Op2.{Op2}
use Rattle.ras_cells.specs.declared.numbers.Op2.TheVariants as two
use Rattle.ras_cells.specs.Outcomes.{◌>>=◌}
use Rattle.ras_cells.specs.Numbers.{of_number, of_numbers}
use Rattle.spec_expressions.specs.Tree.{Tree}
use Rattle.spec_expressions.specs.Shape.{Box, shape_of, is_static, static_of, Bound}
use Rattle.ras_shape.specs.declared.form.Form.{Form}
use Rattle.ras_shape.specs.declared.form.Form.TheVariants as forms
use Rattle.ras_shape.specs.declared.form.ShapeError.{ShapeError}
use Rattle.ras_shape.specs.declared.look.Look.{Look}
use Rattle.ras_shape.specs.Gives.{shape_of_form, StopsAs}

pub record IsLook (domains : List Box) (tree : Tree) (look : Look) : Type 0 where
  pub shape : shape_of domains tree ≡ Ok (shape_of_form look.form)
  pub fixed : is_static tree ≡ look.fixed
  pub value : static_of domains tree ≡ look.value

-- the shape, whether the expression is static and its value, or the first fault
abbrev pub Sees : List Box → Tree → Result Look ShapeError → Type 0
Sees domains tree (Ok look) = IsLook domains tree look
Sees domains tree (Err error) = StopsAs (shape_of domains tree) error

-- ---- looks made of others

-- of an expression that isn't static
abbrev pub plain_look : Result Form ShapeError → Result Look ShapeError
plain_look (Ok form) = Ok (record { form = form; fixed = false; value = Err Overflow })
plain_look (Err error) = Err error

abbrev pub form_seen : Result Look ShapeError → Result Form ShapeError
form_seen (Ok look) = Ok look.form
form_seen (Err error) = Err error

abbrev pub is_wide_atom : Atom → Bool
is_wide_atom atoms.Wide = true
is_wide_atom other = false

abbrev pub is_minus : Op1 → Bool
is_minus one.Neg = true
is_minus other = false

abbrev pub is_sum_or_product : Op2 → Bool
is_sum_or_product two.Add = true
is_sum_or_product two.Sub = true
is_sum_or_product two.Mul = true
is_sum_or_product other = false

abbrev pub number_look : ℤ → Atom → Look
number_look z atom = record { form = forms.Scalar; fixed = is_wide_atom atom; value = Ok z }

abbrev pub one_value : Op1 → Bound → Bound
one_value op a = a >>= of_number op

abbrev pub unary_look : Op1 → Result Look ShapeError → Result Look ShapeError
unary_look op (Ok e) = Ok (record { form = e.form; fixed = is_minus op && e.fixed; value = one_value op e.value })
unary_look op (Err error) = Err error

abbrev pub both_values : Op2 → Bound → Bound → Bound
both_values op a b = do
  x ← a
  y ← b
  of_numbers op x y

-- of an operation on two operands
abbrev pub IsBinaryLook : Op2 → Result Look ShapeError → Result Look ShapeError → Result Look ShapeError → Type 0
IsBinaryLook op (Ok a) (Ok b) (Ok look) =
    (look.fixed ≡ (is_sum_or_product op && (a.fixed && b.fixed))) × (look.value ≡ both_values op a.value b.value)
IsBinaryLook op a b look = Unit {0}
