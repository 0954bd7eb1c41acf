-- Storing and reading back.
use Rattle.std.proofs.Common.{◌≡◌, ℤ, pos, Bool, true, false, List, [], ◌∷◌, length, replicate, refl, subst, arith, ◌&&◌, ◌==◌}
use Rattle.std.specs.Prelude.{Ok, ◌≤ℤ◌, int_le, unwrap_or}
use Rattle.std.proofs.lemmas.Int.{ints}
use Rattle.ras_cells.specs.declared.atom.Atom.{Atom}
use Rattle.ras_cells.specs.declared.atom.Atom.TheVariants as atoms
use Rattle.ras_cells.specs.declared.cell.Cell.{Cell}
use Rattle.ras_cells.specs.declared.cell.Cell.TheVariants.{Null, Value}
use Rattle.ras_cells.specs.declared.cell.CellType.{CellType}
use Rattle.ras_cells.specs.declared.cell.CellType.TheVariants as types
use Rattle.ras_cells.specs.declared.cell.CellFault.TheVariants.{CastRange}
use Rattle.ras_cells.specs.Atoms.{IsInRange, AreInRange, are_in_range}
use Rattle.ras_cells.specs.Stored.{Numbers, NullSet, IsNullSetOf, atoms_of, filled_with, first_null, null_stored, read_of, stored_of, default_of, reads_as_null, is_null_number}
use Rattle.ras_cells.proofs.Ranges.{AreInRange-are_in_range}
use Rattle.ras_cells.proofs.Results.{kept}

-- zeros are in every range
zero_in_range : (atom : Atom) → IsInRange atom (pos 0)
zero_in_range atoms.Bool = (omega (arith, ints), omega (arith, ints))
zero_in_range atoms.Octet = (omega (arith, ints), omega (arith, ints))
zero_in_range atoms.Char = (omega (arith, ints), omega (arith, ints))
zero_in_range atoms.Short = (omega (arith, ints), omega (arith, ints))
zero_in_range atoms.Ushort = (omega (arith, ints), omega (arith, ints))
zero_in_range atoms.Long = (omega (arith, ints), omega (arith, ints))
zero_in_range atoms.Ulong = (omega (arith, ints), omega (arith, ints))
zero_in_range atoms.Wide = (omega (arith, ints), omega (arith, ints))

zeros_in_range : (atoms : List Atom) → AreInRange atoms (replicate (length atoms) (pos 0))
zeros_in_range [] = tt
zeros_in_range (atom ∷ atoms) = (zero_in_range atom, zeros_in_range atoms)

-- the first null value of a type's null set
first_in_range : (atom : Atom) (ends : ℤ × ℤ) (others : List (ℤ × ℤ)) → IsNullSetOf (types.Atom atom) (ends ∷ others) → IsInRange atom ends.0
first_in_range atom ends others h = (h 0 ends (omega arith)).0

passes : (x y : ℤ) → x ≤ℤ y → int_le x y ≡ true
passes x y h = grind (arith, ints)

first_is_null : (atom : Atom) (ends : ℤ × ℤ) (others : List (ℤ × ℤ)) → IsNullSetOf (types.Atom atom) (ends ∷ others) → is_null_number (ends ∷ others) ends.0 ≡ true
first_is_null atom ends others h =
    let same : ends.0 ≤ℤ ends.0 = omega (arith, ints) in
    rw (passes ends.0 ends.0 same, passes ends.0 ends.1 (h 0 ends (omega arith)).2) refl

default_in_range : (of : CellType) (nulls : List (ℤ × ℤ)) → IsNullSetOf of nulls → AreInRange (atoms_of of) (filled_with of (unwrap_or (first_null nulls) (pos 0))).items
default_in_range (types.Atom atom) [] h = (zero_in_range atom, tt)
default_in_range (types.Atom atom) (ends ∷ others) h = (first_in_range atom ends others h, tt)
default_in_range (types.Composite atoms) [] h = zeros_in_range atoms.items
default_in_range (types.Composite atoms) (ends ∷ others) h = absurd cc

pub AreInRange-default_of : (of : CellType) (nulls : NullSet) → IsNullSetOf of nulls.items → AreInRange (atoms_of of) (default_of of nulls).items
AreInRange-default_of of nulls h = default_in_range of nulls.items h

null_in_range : (of : CellType) (nulls : List (ℤ × ℤ)) (numbers : Numbers) → IsNullSetOf of nulls → null_stored of (first_null nulls) ≡ Ok numbers → AreInRange (atoms_of of) numbers.items
null_in_range of [] numbers h is = absurd cc
null_in_range (types.Atom atom) (ends ∷ others) numbers h is =
    let e : filled_with (types.Atom atom) ends.0 ≡ numbers = cc in
    let P : Numbers → Type 0 = λ n. AreInRange (atom ∷ []) n.items in subst P e (first_in_range atom ends others h, tt)
null_in_range (types.Composite atoms) (ends ∷ others) numbers h is = absurd cc

pub AreInRange-stored_of : (a : Cell) (of : CellType) (nulls : NullSet) (numbers : Numbers) → IsNullSetOf of nulls.items → stored_of a of nulls ≡ Ok numbers
    → AreInRange (atoms_of of) numbers.items
AreInRange-stored_of Null of nulls numbers h is = null_in_range of nulls.items numbers h is
AreInRange-stored_of (Value cell) of nulls numbers h is =
    let k = kept (are_in_range (atoms_of of) cell.items) cell numbers CastRange is in
    let P : Numbers → Type 0 = λ n. AreInRange (atoms_of of) n.items in
    subst P k.1 ((AreInRange-are_in_range (atoms_of of) cell.items).0 k.0)

null_is_null : (of : CellType) (nulls : List (ℤ × ℤ)) (numbers : Numbers) → IsNullSetOf of nulls → null_stored of (first_null nulls) ≡ Ok numbers → reads_as_null numbers.items nulls ≡ true
null_is_null of [] numbers h is = absurd cc
null_is_null (types.Atom atom) (ends ∷ others) numbers h is =
    let e : filled_with (types.Atom atom) ends.0 ≡ numbers = cc in
    let P : Numbers → Type 0 = λ n. reads_as_null n.items (ends ∷ others) ≡ true in subst P e (first_is_null atom ends others h)
null_is_null (types.Composite atoms) (ends ∷ others) numbers h is = absurd cc

pub read_of-null : (of : CellType) (nulls : NullSet) (numbers : Numbers) → IsNullSetOf of nulls.items → stored_of Null of nulls ≡ Ok numbers → read_of numbers nulls ≡ Null
read_of-null of nulls numbers h is = rw (null_is_null of nulls.items numbers h is) refl

never : (b : Bool) → (b && false) ≡ false
never true = refl
never false = refl

default_is_stored : (of : CellType) (nulls : List (ℤ × ℤ)) → IsNullSetOf of nulls
    → let set : NullSet = record { items = nulls } in stored_of (read_of (default_of of set) set) of set ≡ Ok (default_of of set)
default_is_stored (types.Atom atom) [] h =
    rw ((AreInRange-are_in_range (atom ∷ []) (pos 0 ∷ [])).1 (zero_in_range atom, tt)) refl
default_is_stored (types.Atom atom) (ends ∷ others) h = rw (first_is_null atom ends others h) refl
default_is_stored (types.Composite atoms) [] h =
    rw (never (length (replicate (length atoms.items) (pos 0)) == 1), (AreInRange-are_in_range atoms.items (replicate (length atoms.items) (pos 0))).1 (zeros_in_range atoms.items)) refl
default_is_stored (types.Composite atoms) (ends ∷ others) h = absurd cc

pub stored_of-default : (of : CellType) (nulls : NullSet) → IsNullSetOf of nulls.items → stored_of (read_of (default_of of nulls) nulls) of nulls ≡ Ok (default_of of nulls)
stored_of-default of nulls h = default_is_stored of nulls.items h
