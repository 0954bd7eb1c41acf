-- Expressions that stand for one cell, and arrays, by their kinds.
use Rattle.std.proofs.Common.{◌≡◌, ℕ, true, [], length, Ok, refl, subst}
use Rattle.std.specs.Prelude.{Option, Some}
use Rattle.ras_cells.specs.declared.cell.CellType.{CellType}
use Rattle.ras_syntax.specs.declared.typed.Kind.{Kind}
use Rattle.ras_syntax.specs.declared.typed.Kind.TheVariants as kinds
use Rattle.spec_expressions.specs.Check.{is_number_tree}
use Rattle.spec_expressions.specs.Eval.{cell_at}
use Rattle.spec_expressions.specs.Fits.{IsShapeOf}
use Rattle.spec_expressions.specs.Kinds.{is_scalar_bool, is_scalar_number, on_scalar}
use Rattle.spec_expressions.specs.Reach.{reach_of}
use Rattle.spec_expressions.specs.Shape.{Box, Shape, scalar, array, box, shape_of}
use Rattle.spec_expressions.specs.Tree.{Tree, node}
use Rattle.spec_expressions.specs.WellTyped.{IsWellTyped, kind_in}
use Rattle.law_reach.specs.Alike.{StoreSame}
use Rattle.law_reach.proofs.Fitting.{shape-fits}
use Rattle.law_reach.proofs.Settings.{around_same, Setting, domains_of, first_of, second_of, IsSame}

-- ---- kinds

pub number_kind : (e : Tree) → is_number_tree e ≡ true → is_scalar_number (kind_in e) ≡ true
number_kind (node span kind form) is = is

pub scalar_from_number : (kind : Kind) → is_scalar_number kind ≡ true → (of : CellType) × (kind ≡ kinds.Scalar of)
scalar_from_number (kinds.Scalar of) is = (of, refl)
scalar_from_number (kinds.Array of n) is = absurd cc
scalar_from_number (kinds.Domain n) is = absurd cc
scalar_from_number (kinds.Point n) is = absurd cc

pub scalar_from_bool : (kind : Kind) → is_scalar_bool kind ≡ true → (of : CellType) × (kind ≡ kinds.Scalar of)
scalar_from_bool (kinds.Scalar of) is = (of, refl)
scalar_from_bool (kinds.Array of n) is = absurd cc
scalar_from_bool (kinds.Domain n) is = absurd cc
scalar_from_bool (kinds.Point n) is = absurd cc

pub scalar_from_type : (f : CellType → Option CellType) (kind : Kind) (cell : CellType) → on_scalar f kind ≡ Some cell → (of : CellType) × (kind ≡ kinds.Scalar of)
scalar_from_type f (kinds.Scalar of) cell is = (of, refl)
scalar_from_type f (kinds.Array of n) cell is = absurd cc
scalar_from_type f (kinds.Domain n) cell is = absurd cc
scalar_from_type f (kinds.Point n) cell is = absurd cc

-- ---- shapes

of_scalar : (cell : CellType) (x : Shape) → IsShapeOf (kinds.Scalar cell) x → x ≡ scalar
of_scalar cell scalar fits = refl
of_scalar cell (array axes) fits = absurd fits
of_scalar cell (box axes) fits = absurd fits

of_array : (cell : CellType) (n : ℕ) (x : Shape) → IsShapeOf (kinds.Array cell n) x → (axes : Box) × (x ≡ array axes) × (length axes ≡ n)
of_array cell n scalar fits = absurd fits
of_array cell n (array axes) fits = (axes, refl, fits.0)
of_array cell n (box axes) fits = absurd fits

pub scalar_shape : (kind : Kind) (cell : CellType) (x : Shape) → kind ≡ kinds.Scalar cell → IsShapeOf kind x → x ≡ scalar
scalar_shape kind cell x is fits = of_scalar cell x (subst (λ k. IsShapeOf k x) is fits)

pub array_shape : (kind : Kind) (cell : CellType) (n : ℕ) (x : Shape) → kind ≡ kinds.Array cell n → IsShapeOf kind x → (axes : Box) × (x ≡ array axes) × (length axes ≡ n)
array_shape kind cell n x is fits = of_array cell n x (subst (λ k. IsShapeOf k x) is fits)

-- ---- cells

-- a scalar is looked at anywhere
pub scalar_same : (at : Setting) (e : Tree) (cell : CellType) (x : Shape) → IsWellTyped at.sources at.variables e → kind_in e ≡ kinds.Scalar cell → IsSame at e
    → shape_of (domains_of at) e ≡ Ok x → StoreSame at.one at.other (reach_of (domains_of at) at.boxes e []) → cell_at (first_of at) e [] ≡ cell_at (second_of at) e []
scalar_same at e cell x typed is same shaped store =
    let is_scalar = scalar_shape (kind_in e) cell x is (shape-fits at.sources at.variables (first_of at) e x typed at.members shaped).0 in
    same x [] [] shaped (around_same x scalar [] is_scalar tt) store tt
