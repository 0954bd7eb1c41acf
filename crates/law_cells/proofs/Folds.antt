-- Folds give cells of their types.
use Rattle.std.proofs.Common.{◌≡◌, ℤ, pos, ◌≤ℤ◌, List, [], ◌∷◌, map, refl, subst, arith}
use Rattle.std.specs.Prelude.{◌+ℤ◌, ◌*ℤ◌, Some, Ok, count_by}
use Rattle.std.specs.Int.{int_min, int_max}
use Rattle.std.specs.List.{fold, list_all, list_any, AllByRecursion}
use Rattle.std.proofs.lemmas.Int.{ints, clamps}
use Rattle.ras_cells.specs.declared.atom.Atom.{Atom}
use Rattle.ras_cells.specs.declared.cell.Cell.{Cell}
use Rattle.ras_cells.specs.declared.cell.Cell.TheVariants.{Null, Value}
use Rattle.ras_cells.specs.declared.cell.CellType.{CellType}
use Rattle.ras_cells.specs.declared.cell.CellType.TheVariants as types
use Rattle.ras_cells.specs.Atoms.{range_of, IsInRange}
use Rattle.ras_cells.specs.Cells.{single}
use Rattle.ras_cells.specs.Laws.{IsCellOf, IsOfAtom}
use Rattle.ras_cells.specs.Numbers.{is_true}
use Rattle.ras_cells.specs.Outcomes.{◌>>=◌}
use Rattle.ras_cells.specs.Stored.{atoms_of}
use Rattle.ras_domain.specs.Region.{IsIn, points_of}
use Rattle.ras_syntax.specs.declared.expr.FoldOp.{FoldOp}
use Rattle.ras_syntax.specs.declared.expr.FoldOp.TheVariants as folds
use Rattle.ras_syntax.specs.declared.expr.CellsFold.{CellsFold}
use Rattle.ras_syntax.specs.declared.expr.CellsFold.TheVariants as cells
use Rattle.spec_expressions.specs.Kinds.{is_number, is_bool, wide_type, bool_type, fold_type, cells_type}
use Rattle.spec_expressions.specs.Shape.{Box}
use Rattle.spec_expressions.specs.Fold.{number_before, numbers_in, folded_of, fold_of, cells_folded_of, cells_fold_of}
use Rattle.spec_expressions.specs.Eval.{CellOutcome}
use Rattle.law_shapes.proofs.Outcomes.{bind_ok, same_ok}
use Rattle.law_shapes.proofs.Rules.{some_where-ok}
use Rattle.ras_domain.proofs.BoxTests.{each_point}
use Rattle.law_cells.proofs.Types.{into_same, truth-typed, wide-typed}
use Rattle.ras_cells.proofs.Results.{in_range-only}

-- ---- the numbers that a fold has

abbrev AreOfAtom : Atom → List ℤ → Type 0
AreOfAtom atom [] = Unit {0}
AreOfAtom atom (z ∷ zs) = IsInRange atom z × AreOfAtom atom zs

-- each outcome that is a cell is one of the atom
abbrev GiveCellsOf : Atom → List CellOutcome → Type 0
GiveCellsOf atom [] = Unit {0}
GiveCellsOf atom (outcome ∷ outcomes) = ((c : Cell) → outcome ≡ Ok c → IsOfAtom atom c) × GiveCellsOf atom outcomes

with_number-typed : (atom : Atom) (c : Cell) (zs : List ℤ) → IsOfAtom atom c → AreOfAtom atom zs → AreOfAtom atom (number_before c zs)
with_number-typed atom Null zs g h = h
with_number-typed atom (Value numbers) zs g h = (in_range-only atom numbers.items g, h)

numbers_in-typed : (atom : Atom) (outcomes : List CellOutcome) (zs : List ℤ) → GiveCellsOf atom outcomes → numbers_in outcomes ≡ Ok zs → AreOfAtom atom zs
numbers_in-typed atom [] zs each is = subst (AreOfAtom atom) (same_ok [] zs is) tt
numbers_in-typed atom (outcome ∷ outcomes) zs each is =
    let first = bind_ok outcome (λ cell. numbers_in outcomes >>= λ others. Ok (number_before cell others)) zs is in
    let rest = bind_ok (numbers_in outcomes) (λ others. Ok (number_before first.0 others)) zs first.2 in
    subst (AreOfAtom atom) (same_ok (number_before first.0 rest.0) zs rest.2)
    (with_number-typed atom first.0 rest.0 (each.0 first.0 first.1) (numbers_in-typed atom outcomes rest.0 each.1 rest.1))

-- outcomes at points that have a property
give_cells : (atom : Atom) (P : List ℤ → Type 0) (f : List ℤ → CellOutcome) → ((p : List ℤ) (c : Cell) → P p → f p ≡ Ok c → IsOfAtom atom c) → (ps : List (List ℤ))
    → AllByRecursion P ps → GiveCellsOf atom (map f ps)
give_cells atom P f each [] all = tt
give_cells atom P f each (p ∷ ps) all = (λ c is. each p c all.0 is, give_cells atom P f each ps all.1)

-- the outcomes at all points of a box
give_cells_in : (atom : Atom) (axes : Box) (f : List ℤ → CellOutcome) → ((p : List ℤ) (c : Cell) → IsIn p axes → f p ≡ Ok c → IsOfAtom atom c) → GiveCellsOf atom (map f (points_of axes))
give_cells_in atom axes f each = give_cells atom (λ p. IsIn p axes) f each (points_of axes) (each_point axes)

-- ---- folds

lesser : (lo hi x y : ℤ) → (lo ≤ℤ x) × (x ≤ℤ hi) → (lo ≤ℤ y) × (y ≤ℤ hi) → (lo ≤ℤ int_min x y) × (int_min x y ≤ℤ hi)
lesser lo hi x y g h = (omega (arith, ints, clamps, g.0, h.0), omega (arith, ints, clamps, g.1, h.1))

greater : (lo hi x y : ℤ) → (lo ≤ℤ x) × (x ≤ℤ hi) → (lo ≤ℤ y) × (y ≤ℤ hi) → (lo ≤ℤ int_max x y) × (int_max x y ≤ℤ hi)
greater lo hi x y g h = (omega (arith, ints, clamps, g.0, h.0), omega (arith, ints, clamps, g.1, h.1))

least-in_range : (atom : Atom) (z : ℤ) (zs : List ℤ) → IsInRange atom z → AreOfAtom atom zs → IsInRange atom (fold int_min z zs)
least-in_range atom z [] h all = h
least-in_range atom z (x ∷ xs) h all =
    least-in_range atom (int_min z x) xs (lesser (range_of atom).0 (range_of atom).1 z x h all.0) all.1

greatest-in_range : (atom : Atom) (z : ℤ) (zs : List ℤ) → IsInRange atom z → AreOfAtom atom zs → IsInRange atom (fold int_max z zs)
greatest-in_range atom z [] h all = h
greatest-in_range atom z (x ∷ xs) h all =
    greatest-in_range atom (int_max z x) xs (greater (range_of atom).0 (range_of atom).1 z x h all.0) all.1

given : (t : CellType) (x c : Cell) → (let r : CellOutcome = Ok x in r ≡ Ok c) → IsCellOf (atoms_of t) x → IsCellOf (atoms_of t) c
given t x c is h = subst (λ r. IsCellOf (atoms_of t) r) (same_ok x c is) h

-- a sum or a product is of 64 bits, and the extremes are of their operand's atom
folded-typed : (op : FoldOp) (atom : Atom) (t : CellType) (zs : List ℤ) (c : Cell) → fold_type op (types.Atom atom) ≡ Some t → AreOfAtom atom zs
    → folded_of op zs ≡ Ok c → IsCellOf (atoms_of t) c
folded-typed folds.Plus atom t zs c h all is =
    into_same wide_type t (some_where-ok (is_number (types.Atom atom)) wide_type t h).1 c (wide-typed (fold (λ x y. x +ℤ y) (pos 0) zs) c is)
folded-typed folds.Times atom t zs c h all is =
    into_same wide_type t (some_where-ok (is_number (types.Atom atom)) wide_type t h).1 c (wide-typed (fold (λ x y. x *ℤ y) (pos 1) zs) c is)
folded-typed folds.Min atom t [] c h all is = given t Null c is tt
folded-typed folds.Min atom t (z ∷ zs) c h all is =
    into_same (types.Atom atom) t (some_where-ok (is_number (types.Atom atom)) (types.Atom atom) t h).1 c
    (given (types.Atom atom) (single (fold int_min z zs)) c is (least-in_range atom z zs all.0 all.1, tt))
folded-typed folds.Max atom t [] c h all is = given t Null c is tt
folded-typed folds.Max atom t (z ∷ zs) c h all is =
    into_same (types.Atom atom) t (some_where-ok (is_number (types.Atom atom)) (types.Atom atom) t h).1 c
    (given (types.Atom atom) (single (fold int_max z zs)) c is (greatest-in_range atom z zs all.0 all.1, tt))
folded-typed folds.And atom t zs c h all is =
    into_same bool_type t (some_where-ok (is_bool (types.Atom atom)) bool_type t h).1 c (truth-typed (list_all is_true zs) c is)
folded-typed folds.Or atom t zs c h all is =
    into_same bool_type t (some_where-ok (is_bool (types.Atom atom)) bool_type t h).1 c (truth-typed (list_any is_true zs) c is)

-- the same of the folds of all cells of an array
cells_folded-typed : (f : CellsFold) (atom : Atom) (t : CellType) (zs : List ℤ) (c : Cell) → cells_type f (types.Atom atom) ≡ Some t → AreOfAtom atom zs
    → cells_folded_of f zs ≡ Ok c → IsCellOf (atoms_of t) c
cells_folded-typed cells.Add atom t zs c h all is = folded-typed folds.Plus atom t zs c h all is
cells_folded-typed cells.Min atom t zs c h all is = folded-typed folds.Min atom t zs c h all is
cells_folded-typed cells.Max atom t zs c h all is = folded-typed folds.Max atom t zs c h all is
cells_folded-typed cells.Count atom t zs c h all is =
    into_same wide_type t (some_where-ok (is_bool (types.Atom atom)) wide_type t h).1 c (wide-typed (pos (count_by is_true zs)) c is)
cells_folded-typed cells.AnyTrue atom t zs c h all is = folded-typed folds.Or atom t zs c h all is
cells_folded-typed cells.AllTrue atom t zs c h all is = folded-typed folds.And atom t zs c h all is

-- only cells of one atom are folded
fold_type-atom : (op : FoldOp) (s t : CellType) → fold_type op s ≡ Some t → (atom : Atom) × (s ≡ types.Atom atom)
fold_type-atom op (types.Atom atom) t h = (atom, refl)
fold_type-atom folds.Plus (types.Composite as_) t h = absurd cc
fold_type-atom folds.Times (types.Composite as_) t h = absurd cc
fold_type-atom folds.Min (types.Composite as_) t h = absurd cc
fold_type-atom folds.Max (types.Composite as_) t h = absurd cc
fold_type-atom folds.And (types.Composite as_) t h = absurd cc
fold_type-atom folds.Or (types.Composite as_) t h = absurd cc

cells_type-atom : (f : CellsFold) (s t : CellType) → cells_type f s ≡ Some t → (atom : Atom) × (s ≡ types.Atom atom)
cells_type-atom f (types.Atom atom) t h = (atom, refl)
cells_type-atom cells.Add (types.Composite as_) t h = absurd cc
cells_type-atom cells.Min (types.Composite as_) t h = absurd cc
cells_type-atom cells.Max (types.Composite as_) t h = absurd cc
cells_type-atom cells.Count (types.Composite as_) t h = absurd cc
cells_type-atom cells.AnyTrue (types.Composite as_) t h = absurd cc
cells_type-atom cells.AllTrue (types.Composite as_) t h = absurd cc

-- a fold of outcomes at the points of a box whose cells are of a type
pub fold_of-typed : (op : FoldOp) (s t : CellType) (axes : Box) (f : List ℤ → CellOutcome) (c : Cell) → fold_type op s ≡ Some t
    → ((p : List ℤ) (c : Cell) → IsIn p axes → f p ≡ Ok c → IsCellOf (atoms_of s) c) → fold_of op (map f (points_of axes)) ≡ Ok c → IsCellOf (atoms_of t) c
fold_of-typed op s t axes f c h each is =
    let one = fold_type-atom op s t h in
    let numbers = bind_ok (numbers_in (map f (points_of axes))) (folded_of op) c is in
    folded-typed op one.0 t numbers.0 c (subst (λ u. fold_type op u ≡ Some t) one.1 h)
    (numbers_in-typed one.0 (map f (points_of axes)) numbers.0
    (give_cells_in one.0 axes f (λ p d at gives. into_same s (types.Atom one.0) one.1 d (each p d at gives))) numbers.1)
    numbers.2

pub cells_fold_of-typed : (op : CellsFold) (s t : CellType) (axes : Box) (f : List ℤ → CellOutcome) (c : Cell) → cells_type op s ≡ Some t
    → ((p : List ℤ) (c : Cell) → IsIn p axes → f p ≡ Ok c → IsCellOf (atoms_of s) c) → cells_fold_of op (map f (points_of axes)) ≡ Ok c → IsCellOf (atoms_of t) c
cells_fold_of-typed op s t axes f c h each is =
    let one = cells_type-atom op s t h in
    let numbers = bind_ok (numbers_in (map f (points_of axes))) (cells_folded_of op) c is in
    cells_folded-typed op one.0 t numbers.0 c (subst (λ u. cells_type op u ≡ Some t) one.1 h)
    (numbers_in-typed one.0 (map f (points_of axes)) numbers.0
    (give_cells_in one.0 axes f (λ p d at gives. into_same s (types.Atom one.0) one.1 d (each p d at gives))) numbers.1)
    numbers.2
