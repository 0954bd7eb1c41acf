-- Shapes that fit the kinds of operands, and the shape that they have together.
use Rattle.std.proofs.Common.{◌≡◌, ℕ, ◌*◌, ◌≤◌, true, Ok, List, [], ◌∷◌, length, map, refl, subst, ◌∙◌, arith}
use Rattle.std.specs.List.{list_all, AllByRecursion, AllZip}
use Rattle.std.proofs.Math.Nat.{mul-le-mul_left}
use Rattle.ras_cells.specs.declared.cell.CellType.{CellType}
use Rattle.ras_cells.specs.Stored.{atoms_of}
use Rattle.ras_domain.specs.declared.TheConstants.{MAX_POINTS}
use Rattle.ras_syntax.specs.declared.span.Span.{Span}
use Rattle.ras_syntax.specs.declared.typed.Kind.{Kind}
use Rattle.ras_syntax.specs.declared.typed.Kind.TheVariants.{Scalar, Array, Domain, Point}
use Rattle.spec_expressions.specs.Kinds.{axes_of_arrays, all_equal, operands_kind}
use Rattle.spec_expressions.specs.Check.{is_array}
use Rattle.spec_expressions.specs.Shape.{Box, Shape, scalar, array, box, box_of, both_shapes, common_shape, width_of_kind}
use Rattle.ras_domain.specs.Region.{volume_of}
use Rattle.ras_domain.specs.Boxes.{is_same_box}
use Rattle.spec_expressions.specs.Fits.{IsShapeOf}
use Rattle.law_shapes.proofs.Outcomes.{bind_ok, same_ok, where_ok}
use Rattle.law_shapes.proofs.Operands.{HasSizeOf, holds-common_shape}
use Rattle.law_shapes.proofs.Rules.{HasCells, all_equal-first}

-- each shape fits its kind
abbrev pub AreOfKinds : List Kind → List Shape → Type 0
AreOfKinds = AllZip IsShapeOf

-- the axes of an array among operands, whose arrays have these numbers of axes; a scalar where there is no array
abbrev pub HasAxes : List ℕ → Shape → Type 0
HasAxes [] scalar = Unit {0}
HasAxes (n ∷ ns) (array axes) = length axes ≡ n
HasAxes ns shape = ⊥

-- an array of so many numbers a cell is stored as at most 2^24 numbers
abbrev pub HasNumbers : ℕ → Shape → Type 0
HasNumbers w (array axes) = volume_of axes * w ≤ MAX_POINTS
HasNumbers w other = Unit {0}

pub numbers-size : (w : ℕ) (x : Shape) → HasSizeOf w x → HasNumbers w x
numbers-size w scalar size = tt
numbers-size w (box axes) size = tt
numbers-size w (array axes) size = size.1

-- the kind that an operation spreads over the arrays among its operands
pub fits-spread : (cell : CellType) (ns : List ℕ) (x : Shape) → HasAxes ns x → HasNumbers (length (atoms_of cell)) x → IsShapeOf (operands_kind cell ns) x
fits-spread cell [] scalar axes numbers = tt
fits-spread cell [] (array a) axes numbers = absurd axes
fits-spread cell [] (box a) axes numbers = absurd axes
fits-spread cell (n ∷ ns) scalar axes numbers = absurd axes
fits-spread cell (n ∷ ns) (array a) axes numbers = (axes, numbers)
fits-spread cell (n ∷ ns) (box a) axes numbers = absurd axes

pub width-spread : (cell : CellType) (ns : List ℕ) → width_of_kind (operands_kind cell ns) ≡ length (atoms_of cell)
width-spread cell [] = refl
width-spread cell (n ∷ ns) = refl

-- ---- one operand

-- cells of fewer numbers
numbers-fewer : (v w n : ℕ) → w ≤ n → v * n ≤ MAX_POINTS → v * w ≤ MAX_POINTS
numbers-fewer v w n few is = omega (arith, mul-le-mul_left v few)

pub numbers-one : (w : ℕ) (kind : Kind) (x : Shape) → HasCells w kind → IsShapeOf kind x → HasNumbers w x
numbers-one w kind scalar cells fits = tt
numbers-one w kind (box a) cells fits = tt
numbers-one w (Scalar cell) (array a) cells fits = absurd fits
numbers-one w (Array cell n) (array a) cells fits = numbers-fewer (volume_of a) w (length (atoms_of cell)) cells fits.1
numbers-one w (Domain n) (array a) cells fits = absurd fits
numbers-one w (Point n) (array a) cells fits = absurd fits

-- the axes of a single operand
pub axes-one : (w : ℕ) (kind : Kind) (x : Shape) → HasCells w kind → IsShapeOf kind x → HasAxes (axes_of_arrays (kind ∷ [])) x
axes-one w (Scalar cell) scalar cells fits = tt
axes-one w (Scalar cell) (array a) cells fits = absurd fits
axes-one w (Scalar cell) (box a) cells fits = absurd fits
axes-one w (Array cell n) scalar cells fits = absurd fits
axes-one w (Array cell n) (array a) cells fits = fits.0
axes-one w (Array cell n) (box a) cells fits = absurd fits
axes-one w (Domain n) x cells fits = absurd cells
axes-one w (Point n) x cells fits = absurd cells

-- ---- several operands

-- the common shape of operands is stored as few numbers as they are
numbers-each : (w : ℕ) (kinds : List Kind) (xs : List Shape) → AllByRecursion (HasCells w) kinds → AreOfKinds kinds xs → AllByRecursion (HasNumbers w) xs
numbers-each w [] [] cells fit = tt
numbers-each w [] (x ∷ xs) cells fit = absurd fit
numbers-each w (kind ∷ kinds) [] cells fit = absurd fit
numbers-each w (kind ∷ kinds) (x ∷ xs) cells fit = (numbers-one w kind x cells.0 fit.0, numbers-each w kinds xs cells.1 fit.1)

pub numbers-common : (w : ℕ) (span : Span) (kinds : List Kind) (xs : List Shape) (whole : Shape) → AllByRecursion (HasCells w) kinds → AreOfKinds kinds xs
    → common_shape span xs ≡ Ok whole → HasNumbers w whole
numbers-common w span kinds xs whole cells fit is = holds-common_shape (HasNumbers w) span xs whole tt (numbers-each w kinds xs cells fit) is

-- the first array gives the box
both-array : (span : Span) (a : Box) (y whole : Shape) → both_shapes span (array a) y ≡ Ok whole → array a ≡ whole
both-array span a (array b) whole is = same_ok (array a) whole (where_ok (is_same_box a b) _ _ whole is).1
both-array span a scalar whole is = same_ok (array a) whole is
both-array span a (box b) whole is = same_ok (array a) whole is

-- and has the axes of the first array among them
axes-both : (w : ℕ) (span : Span) (kind : Kind) (kinds : List Kind) (x y whole : Shape) → HasCells w kind → IsShapeOf kind x → HasAxes (axes_of_arrays kinds) y
    → both_shapes span x y ≡ Ok whole
    → HasAxes (axes_of_arrays (kind ∷ kinds)) whole
axes-both w span (Scalar cell) kinds scalar y whole cells fits rest is = subst (HasAxes (axes_of_arrays kinds)) (same_ok y whole is) rest
axes-both w span (Scalar cell) kinds (array a) y whole cells fits rest is = absurd fits
axes-both w span (Scalar cell) kinds (box a) y whole cells fits rest is = absurd fits
axes-both w span (Array cell n) kinds scalar y whole cells fits rest is = absurd fits
axes-both w span (Array cell n) kinds (array a) y whole cells fits rest is =
    subst (HasAxes (n ∷ axes_of_arrays kinds)) (both-array span a y whole is) fits.0
axes-both w span (Array cell n) kinds (box a) y whole cells fits rest is = absurd fits
axes-both w span (Domain n) kinds x y whole cells fits rest is = absurd cells
axes-both w span (Point n) kinds x y whole cells fits rest is = absurd cells

pub axes-common : (w : ℕ) (span : Span) (kinds : List Kind) (xs : List Shape) (whole : Shape) → AllByRecursion (HasCells w) kinds → AreOfKinds kinds xs
    → common_shape span xs ≡ Ok whole → HasAxes (axes_of_arrays kinds) whole
axes-common w span [] [] whole cells fit is = subst (HasAxes []) (same_ok scalar whole is) tt
axes-common w span [] (x ∷ xs) whole cells fit is = absurd fit
axes-common w span (kind ∷ kinds) [] whole cells fit is = absurd fit
axes-common w span (kind ∷ kinds) (x ∷ xs) whole cells fit is =
    let rest = bind_ok (common_shape span xs) (λ others. both_shapes span x others) whole is in
    axes-both w span kind kinds x rest.0 whole cells.0 fit.0 (axes-common w span kinds xs rest.0 cells.1 fit.1 rest.1) rest.2

-- ---- the same operands in another order

-- what holds of the number of axes of an array
abbrev OnAxes : (ℕ → Type 0) → Kind → Type 0
OnAxes P (Array cell n) = P n
OnAxes P other = Unit {0}

-- of the kinds, and of the numbers of axes
from_kinds : (P : ℕ → Type 0) (kinds : List Kind) → AllByRecursion (OnAxes P) kinds → AllByRecursion P (axes_of_arrays kinds)
from_kinds P [] all = tt
from_kinds P (Scalar cell ∷ kinds) all = from_kinds P kinds all.1
from_kinds P (Array cell n ∷ kinds) all = (all.0, from_kinds P kinds all.1)
from_kinds P (Domain n ∷ kinds) all = from_kinds P kinds all.1
from_kinds P (Point n ∷ kinds) all = from_kinds P kinds all.1

to_kinds : (P : ℕ → Type 0) (kinds : List Kind) → AllByRecursion P (axes_of_arrays kinds) → AllByRecursion (OnAxes P) kinds
to_kinds P [] all = tt
to_kinds P (Scalar cell ∷ kinds) all = (tt, to_kinds P kinds all)
to_kinds P (Array cell n ∷ kinds) all = (all.0, to_kinds P kinds all.1)
to_kinds P (Domain n ∷ kinds) all = (tt, to_kinds P kinds all)
to_kinds P (Point n ∷ kinds) all = (tt, to_kinds P kinds all)

-- operands that have among them the same kinds
abbrev pub AreSame : List Kind → List Kind → Type 1
AreSame a b = (P : Kind → Type 0) → AllByRecursion P a → AllByRecursion P b

-- so the common shape has the axes of the first array in either order, where all have equally many
axes-reordered : (ms ns : List ℕ) (x : Shape) → ((P : ℕ → Type 0) → AllByRecursion P ms → AllByRecursion P ns)
    → ((P : ℕ → Type 0) → AllByRecursion P ns → AllByRecursion P ms) → all_equal ns ≡ true
    → HasAxes ms x → HasAxes ns x
axes-reordered [] [] x there back equal axes = axes
axes-reordered [] (n ∷ ns) x there back equal axes = absurd (there (λ m. ⊥) tt).0
axes-reordered (m ∷ ms) [] x there back equal axes = absurd (back (λ n. ⊥) tt).0
axes-reordered (m ∷ ms) (n ∷ ns) scalar there back equal axes = absurd axes
axes-reordered (m ∷ ms) (n ∷ ns) (box a) there back equal axes = absurd axes
axes-reordered (m ∷ ms) (n ∷ ns) (array a) there back equal axes = axes ∙ (back (λ k. k ≡ n) (all_equal-first n ns equal)).0

pub axes-same : (a b : List Kind) (x : Shape) → AreSame a b → AreSame b a → all_equal (axes_of_arrays b) ≡ true → HasAxes (axes_of_arrays a) x → HasAxes (axes_of_arrays b) x
axes-same a b x there back equal axes =
    axes-reordered (axes_of_arrays a) (axes_of_arrays b) x
    (λ P all. from_kinds P b (there (OnAxes P) (to_kinds P a all))) (λ P all. from_kinds P a (back (OnAxes P) (to_kinds P b all))) equal axes

-- ---- arrays

-- the boxes of arrays that have equally many axes
pub length-arrays : (n : ℕ) (kinds : List Kind) (xs : List Shape) → list_all is_array kinds ≡ true → AllByRecursion (λ m. m ≡ n) (axes_of_arrays kinds)
    → AreOfKinds kinds xs → AllByRecursion (λ b. length b ≡ n) (map box_of xs)
length-arrays n [] [] arrays same fit = tt
length-arrays n [] (x ∷ xs) arrays same fit = absurd fit
length-arrays n (kind ∷ kinds) [] arrays same fit = absurd fit
length-arrays n (Array cell m ∷ kinds) (scalar ∷ xs) arrays same fit = absurd fit.0
length-arrays n (Array cell m ∷ kinds) (box a ∷ xs) arrays same fit = absurd fit.0
length-arrays n (Array cell m ∷ kinds) (array a ∷ xs) arrays same fit = (fit.0.0 ∙ same.0, length-arrays n kinds xs arrays same.1 fit.1)
length-arrays n (Scalar cell ∷ kinds) (x ∷ xs) arrays same fit = absurd cc
length-arrays n (Domain m ∷ kinds) (x ∷ xs) arrays same fit = absurd cc
length-arrays n (Point m ∷ kinds) (x ∷ xs) arrays same fit = absurd cc
