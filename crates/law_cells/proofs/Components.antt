-- Composites, components, cases and stored numbers give cells of their types.
use Rattle.std.proofs.Common.{◌≡◌, ℕ, zero, suc, ℤ, pos, Bool, true, false, List, [], ◌∷◌, ◌++◌, length, refl, subst}
use Rattle.std.specs.Prelude.{Option, Some, None, Ok, slice_get, unsigned_abs, int_lt, if◌then◌else◌}
use Rattle.std.specs.List.{list_all}
use Rattle.std.proofs.lemmas.List.Elements.{All-nil}
use Rattle.ras_cells.specs.declared.atom.Atom.{Atom}
use Rattle.ras_cells.specs.declared.cell.Cell.{Cell}
use Rattle.ras_cells.specs.declared.cell.Cell.TheVariants.{Null, Value}
use Rattle.ras_cells.specs.declared.cell.CellType.{CellType}
use Rattle.ras_cells.specs.declared.cell.CellType.TheVariants as types
use Rattle.ras_cells.specs.Atoms.{IsInRange, AreInRange}
use Rattle.ras_cells.specs.Cells.{single}
use Rattle.ras_cells.specs.Laws.{IsCellOf, IsOfAtom}
use Rattle.ras_cells.specs.Stored.{IsNullSetOf, NullSet, Numbers, atoms_of, read_of, reads_as_null}
use Rattle.ras_cells.proofs.Storing.{AreInRange-default_of}
use Rattle.ras_syntax.specs.declared.typed.Kind.{Kind}
use Rattle.ras_syntax.specs.declared.typed.Kind.TheVariants as kinds
use Rattle.spec_expressions.specs.Kinds.{on_cells, join_of, join_after, join_of_all, cell_type_in, is_condition, choice_type, atoms_of_all, composite_type}
use Rattle.spec_expressions.specs.Check.{component_type, with_cell}
use Rattle.spec_expressions.specs.Eval.{optional_number, component_of, with_component, composite_of, zeros, stored_cell}
use Rattle.spec_expressions.specs.Fits.{IsCellOfKind}
use Rattle.law_shapes.proofs.Outcomes.{same_ok}
use Rattle.law_shapes.proofs.FittingForms.{atom-given}
use Rattle.law_shapes.proofs.Rules.{with_atom-ok, composite-given}
use Rattle.law_cells.proofs.Types.{Into, TakesCells, into_same, join-into, kind-cells, some_same}

-- ---- common types

-- the cells of each kind are cells of the type
abbrev pub GoInto : CellType → List Kind → Type 0
GoInto t [] = Unit {0}
GoInto t (kind ∷ kinds) = ((c : Cell) → IsCellOfKind kind c → IsCellOf (atoms_of t) c) × GoInto t kinds

join_after-into : (o : Option CellType) (operands : List Kind) (t : CellType) → join_after o operands ≡ Some t → (s : CellType) × (o ≡ Some s) × Into s t × GoInto t operands
join_after-into None operands t h = absurd cc
join_after-into (Some s) [] t h = (s, refl, into_same s t (some_same s t h), tt)
join_after-into (Some s) (kind ∷ operands) t h =
    let rest = join_after-into (on_cells (join_of s) kind) operands t h in
    let here = kind-cells (join_of s) kind rest.0 rest.1 in
    let both = join-into s here.0 rest.0 here.1 in
    (s, refl, λ c g. rest.2 c (both.0 c g), (λ c g. rest.2 c (both.1 c (here.2 c g)), rest.3))

-- the cells of operands are cells of their common type
pub join_of_all-into : (operands : List Kind) (t : CellType) → join_of_all operands ≡ Some t → GoInto t operands
join_of_all-into [] t h = tt
join_of_all-into (kind ∷ operands) t h =
    let all = join_after-into (cell_type_in kind) operands t h in
    let here = kind-cells Some kind all.0 all.1 in
    (λ c g. all.2 c (into_same here.0 all.0 (some_same here.0 all.0 here.1) c (here.2 c g)), all.3)

choice-tested : (fits : Bool) (branches : List Kind) (t : CellType) → (if fits then join_of_all branches else None) ≡ Some t → join_of_all branches ≡ Some t
choice-tested true branches t h = h
choice-tested false branches t h = absurd cc

-- the cells of a case's branches are cells of its type
pub choice-into : (conditions branches : List Kind) (t : CellType) → choice_type conditions branches ≡ Some t → GoInto t branches
choice-into conditions branches t h = join_of_all-into branches t (choice-tested (list_all is_condition conditions) branches t h)

-- ---- composites

-- there is a cell of each kind
abbrev pub AreCellsOf : List Kind → List Cell → Type 0
AreCellsOf [] [] = Unit {0}
AreCellsOf (kind ∷ kinds) (cell ∷ cells) = IsCellOfKind kind cell × AreCellsOf kinds cells
AreCellsOf [] (cell ∷ cells) = ⊥
AreCellsOf (kind ∷ kinds) [] = ⊥

joined-in_range : (atom : Atom) (rest : List Atom) (zs others : List ℤ) → AreInRange (atom ∷ []) zs → AreInRange rest others → AreInRange (atom ∷ rest) (zs ++ others)
joined-in_range atom rest [] others g h = absurd g
joined-in_range atom rest (z ∷ []) others g h = (g.0, h)
joined-in_range atom rest (z ∷ (y ∷ zs)) others g h = absurd g.1

with_component-typed : (atom : Atom) (rest : List Atom) (cell others : Cell) → IsOfAtom atom cell → IsCellOf rest others → IsCellOf (atom ∷ rest) (with_component cell others)
with_component-typed atom rest Null others g h = tt
with_component-typed atom rest (Value numbers) Null g h = tt
with_component-typed atom rest (Value numbers) (Value others) g h = joined-in_range atom rest numbers.items others.items g h

composite_of-typed : (operands : List Kind) (cells : List Cell) (atoms : List Atom) → atoms_of_all operands ≡ Some atoms → AreCellsOf operands cells → IsCellOf atoms (composite_of cells)
composite_of-typed [] [] atoms h each =
    let e : [] ≡ atoms = some_same [] atoms h in
    subst (λ as_. IsCellOf as_ (composite_of [])) e tt
composite_of-typed [] (cell ∷ cells) atoms h each = absurd each
composite_of-typed (kind ∷ operands) [] atoms h each = absurd each
composite_of-typed (kind ∷ operands) (cell ∷ cells) atoms h each =
    let is = with_atom-ok (cell_type_in kind) (atoms_of_all operands) atoms h in
    let here = kind-cells Some kind (types.Atom is.0) is.2 in
    subst (λ as_. IsCellOf as_ (composite_of (cell ∷ cells))) is.4
    (with_component-typed is.0 is.1 cell (composite_of cells)
    (into_same here.0 (types.Atom is.0) (some_same here.0 (types.Atom is.0) here.1) cell (here.2 cell each.0))
    (composite_of-typed operands cells is.1 is.3 each.1))

-- the components side by side are a cell of the composite type
pub composite-typed : (operands : List Kind) (cells : List Cell) (t : CellType) → composite_type (atoms_of_all operands) ≡ Some t → AreCellsOf operands cells
    → IsCellOf (atoms_of t) (composite_of cells)
composite-typed operands cells t h each =
    let is = composite-given (atoms_of_all operands) t h in
    subst (λ as_. IsCellOf as_ (composite_of cells)) is.2 (composite_of-typed operands cells is.0 is.1 each)

-- ---- components

pub optional-typed : (t : CellType) (o : Option ℤ) (c : Cell) → ((z : ℤ) → o ≡ Some z → IsCellOf (atoms_of t) (single z)) → optional_number o ≡ Ok c → IsCellOf (atoms_of t) c
optional-typed t None c each is = subst (λ r. IsCellOf (atoms_of t) r) (same_ok Null c is) tt
optional-typed t (Some z) c each is = subst (λ r. IsCellOf (atoms_of t) r) (same_ok (single z) c is) (each z refl)

number-in_range : (as_ : List Atom) (zs : List ℤ) (k : ℕ) (atom : Atom) (z : ℤ) → AreInRange as_ zs → slice_get as_ k ≡ Some atom → slice_get zs k ≡ Some z → IsInRange atom z
number-in_range [] zs k atom z h at is = absurd cc
number-in_range (a ∷ as_) [] k atom z h at is = absurd h
number-in_range (a ∷ as_) (y ∷ zs) zero atom z h at is =
    let same : a ≡ atom = some_same a atom at in
    let here : y ≡ z = some_same y z is in
    subst (λ b. IsInRange b z) same (subst (IsInRange a) here h.0)
number-in_range (a ∷ as_) (y ∷ zs) (suc k) atom z h at is = number-in_range as_ zs k atom z h.1 at is

not_negative : (negative : Bool) (o : Option Atom) (atom : Atom) → (if negative then None else o) ≡ Some atom → o ≡ Some atom
not_negative true o atom h = absurd cc
not_negative false o atom h = h

-- a component's number is a cell of the component's type
pub component-typed : (k : ℤ) (s t : CellType) (x c : Cell) → component_type k s ≡ Some t → IsCellOf (atoms_of s) x → component_of x k ≡ Ok c → IsCellOf (atoms_of t) c
component-typed k s t Null c h g is = subst (λ r. IsCellOf (atoms_of t) r) (same_ok Null c is) tt
component-typed k (types.Atom atom) t (Value numbers) c h g is = absurd cc
component-typed k (types.Composite as_) t (Value numbers) c h g is =
    let one = atom-given (if int_lt k (pos 0) then None else slice_get as_.items (unsigned_abs k)) t h in
    let at = not_negative (int_lt k (pos 0)) (slice_get as_.items (unsigned_abs k)) one.0 one.1 in
    into_same (types.Atom one.0) t one.2 c
    (optional-typed (types.Atom one.0) (slice_get numbers.items (unsigned_abs k)) c
    (λ z there. (number-in_range as_.items numbers.items (unsigned_abs k) one.0 z g at there, tt)) is)

pub with_cell-takes : (t : CellType) (kind : Kind) → TakesCells t (with_cell t kind)
with_cell-takes t (kinds.Scalar s) c h = h
with_cell-takes t (kinds.Array s n) c h = h
with_cell-takes t (kinds.Domain n) c h = h
with_cell-takes t (kinds.Point n) c h = h

-- ---- stored numbers

read-typed : (t : CellType) (is_null : Bool) (numbers : Numbers) → AreInRange (atoms_of t) numbers.items → IsCellOf (atoms_of t) (if is_null then Null else Value numbers)
read-typed t true numbers h = tt
read-typed t false numbers h = h

-- stored numbers are read as null or as themselves
pub stored_cell-typed : (t : CellType) (nulls : NullSet) (o : Option (List ℤ)) (c : Cell) → ((zs : List ℤ) → o ≡ Some zs → AreInRange (atoms_of t) zs)
    → stored_cell nulls o ≡ Ok c → IsCellOf (atoms_of t) c
stored_cell-typed t nulls None c each is = absurd cc
stored_cell-typed t nulls (Some zs) c each is =
    subst (λ r. IsCellOf (atoms_of t) r) (same_ok (read_of (record { items = zs }) nulls) c is)
    (read-typed t (reads_as_null zs nulls.items) (record { items = zs }) (each zs refl))

no_nulls : (t : CellType) → IsNullSetOf t []
no_nulls (types.Atom atom) = All-nil _
no_nulls (types.Composite as_) = refl

-- zeros lie in every range
pub zeros-typed : (t : CellType) → IsCellOf (atoms_of t) (zeros (length (atoms_of t)))
zeros-typed t = AreInRange-default_of t (record { items = [] }) (no_nulls t)
