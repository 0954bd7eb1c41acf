-- What the operations give: a number in the range of the result's atom, or a fault of their own.
use Rattle.std.proofs.Common.{◌≡◌, subst, zero, suc, ℤ, pos, negsuc, ◌<◌, ◌^◌, Bool, true, false, IsTrue, List, [], ◌∷◌, refl, arith, ◌⊎◌, inl, inr, ◌+ℤ◌, ◌-ℤ◌, ◌*ℤ◌, ◌&&◌, ◌||◌, not}
use Rattle.std.specs.Prelude.{Result, Ok, Err, unsigned_abs, int_div, int_rem, int_le, int_lt, if◌then◌else◌}
use Rattle.std.specs.Bool.{beq}
use Rattle.std.specs.Ordering.{int_eq}
use Rattle.std.specs.Int.{int_rem_euclid, int_div_euclid}
use Rattle.std.proofs.lemmas.Int.{ints, rem_below}
use Rattle.ras_cells.specs.declared.atom.Atom.{Atom}
use Rattle.ras_cells.specs.declared.atom.Atom.TheVariants as atoms
use Rattle.ras_cells.specs.declared.cell.Cell.{Cell}
use Rattle.ras_cells.specs.declared.cell.Cell.TheVariants.{Null, Value}
use Rattle.ras_cells.specs.declared.cell.CellFault.{CellFault}
use Rattle.ras_cells.specs.declared.cell.CellFault.TheVariants.{Overflow, DivideByZero, CastRange, IndexOut}
use Rattle.ras_cells.specs.declared.numbers.Op2.{Op2}
use Rattle.ras_cells.specs.declared.numbers.Op2.TheVariants.{Add, Sub, Mul, Div, Mod, Eq, Ne, Lt, Le, Gt, Ge, And, Or, Xor, Bit, Overlay}
use Rattle.ras_cells.specs.Atoms.{IsInRange, is_in_range, AreInRange}
use Rattle.ras_cells.specs.Numbers.{as_wide, truth_number, is_zero, is_true, bit_of, quotient, remainder, bit, of_numbers, cast_number}
use Rattle.ras_cells.specs.Cells.{single, only, on_number, on_numbers, overlay_of, applied2, cast_to}
use Rattle.ras_cells.specs.Outcomes.{◌>>=◌}
use Rattle.std.specs.List.{list_all}
use Rattle.ras_cells.specs.Laws.{IsCellOf, IsOfAtom, result2_of, MayGive2}
use Rattle.ras_cells.proofs.Ranges.{IsInRange-is_in_range, IsInRange-Wide}

-- a number that was kept by a test, or a fault that it gave
pub kept : {T : Type 0} (b : Bool) (x z : T) (fault : CellFault) → (if b then Ok x else Err fault) ≡ Ok z → IsTrue b × (x ≡ z)
kept true x z fault is = (refl, cc)
kept false x z fault is = absurd cc

given : (b : Bool) (x : ℤ) (fault other : CellFault) → (if b then Ok x else Err fault) ≡ Err other → other ≡ fault
given true x fault other is = absurd cc
given false x fault other is = cc

pub in_range-cast : (atom : Atom) (x z : ℤ) → cast_number atom x ≡ Ok z → IsInRange atom z
in_range-cast atom x z is =
    let k = kept (is_in_range atom x) x z CastRange is in
    let P : ℤ → Type 0 = IsInRange atom in subst P k.1 ((IsInRange-is_in_range atom x).0 k.0)

in_range-wide : (x z : ℤ) → as_wide x ≡ Ok z → IsInRange atoms.Wide z
in_range-wide x z is =
    let k = kept (is_in_range atoms.Wide x) x z Overflow is in
    let P : ℤ → Type 0 = IsInRange atoms.Wide in subst P k.1 ((IsInRange-is_in_range atoms.Wide x).0 k.0)

in_range-truth : (b : Bool) (z : ℤ) → truth_number b ≡ Ok z → IsInRange atoms.Bool z
in_range-truth true z is =
    let e : pos 1 ≡ z = cc in
    let P : ℤ → Type 0 = IsInRange atoms.Bool in subst P e (omega (arith, ints), omega (arith, ints))
in_range-truth false z is =
    let e : pos 0 ≡ z = cc in
    let P : ℤ → Type 0 = IsInRange atoms.Bool in subst P e (omega (arith, ints), omega (arith, ints))

-- a number whose size has 63 bits
in_range-small : (z : ℤ) → unsigned_abs z < 2 ^ 63 → IsInRange atoms.Wide z
in_range-small (pos n) h = (omega (arith, ints), omega (arith, ints))
in_range-small (negsuc n) h = (omega (arith, ints), omega (arith, ints))

otherwise : {P : Type 0} (b : Bool) (r : Result ℤ CellFault) (z : ℤ) (fault : CellFault) → (if b then Err fault else r) ≡ Ok z → (b ≡ false → r ≡ Ok z → P) → P
otherwise true r z fault is next = absurd cc
otherwise false r z fault is next = next refl is

in_range-quotient : (x y z : ℤ) → quotient x y ≡ Ok z → IsInRange atoms.Wide z
in_range-quotient x y z is = otherwise (is_zero y) (as_wide (int_div x y)) z DivideByZero is (λ _. in_range-wide (int_div x y) z)

not_zero : (y : ℤ) → is_zero y ≡ false → 0 < unsigned_abs y
not_zero (pos zero) h = absurd cc
not_zero (pos (suc n)) h = omega arith
not_zero (negsuc n) h = omega arith

in_range-remainder : (x y z : ℤ) → IsInRange atoms.Wide y → remainder x y ≡ Ok z → IsInRange atoms.Wide z
in_range-remainder x y z h is =
    otherwise (is_zero y) (Ok (int_rem x y)) z DivideByZero is
    (λ some e. let same : int_rem x y ≡ z = cc in let P : ℤ → Type 0 = IsInRange atoms.Wide in subst P same
    (in_range-small (int_rem x y) (omega (arith, ints, h.0, h.1, rem_below x y (not_zero y some)))))

in_range-parity : (d : ℤ) → IsInRange atoms.Bool (int_rem_euclid d (pos 2))
in_range-parity (pos n) = (omega (arith, ints), omega (arith, ints))
in_range-parity (negsuc n) = (omega (arith, ints), omega (arith, ints))

in_range-bit : (x i z : ℤ) → bit x i ≡ Ok z → IsInRange atoms.Bool z
in_range-bit x i z is =
    let k = kept (int_le (pos 0) i && int_lt i (pos 64)) (bit_of x (unsigned_abs i)) z IndexOut is in
    let P : ℤ → Type 0 = IsInRange atoms.Bool in subst P k.1 (in_range-parity (int_div_euclid x (pos (2 ^ unsigned_abs i))))

chosen : (atom : Atom) (b : Bool) (x y z : ℤ) → IsInRange atom x → IsInRange atom y → (if b then x else y) ≡ z → IsInRange atom z
chosen atom true x y z g h is = let P : ℤ → Type 0 = IsInRange atom in subst P is g
chosen atom false x y z g h is = let P : ℤ → Type 0 = IsInRange atom in subst P is h

pub in_range-of_numbers : (op : Op2) (atom : Atom) (x y z : ℤ) → IsInRange atom x → IsInRange atom y → of_numbers op x y ≡ Ok z → IsInRange (result2_of op atom) z
in_range-of_numbers Add atom x y z g h is = in_range-wide (x +ℤ y) z is
in_range-of_numbers Sub atom x y z g h is = in_range-wide (x -ℤ y) z is
in_range-of_numbers Mul atom x y z g h is = in_range-wide (x *ℤ y) z is
in_range-of_numbers Div atom x y z g h is = in_range-quotient x y z is
in_range-of_numbers Mod atom x y z g h is = in_range-remainder x y z (IsInRange-Wide atom y h) is
in_range-of_numbers Eq atom x y z g h is = in_range-truth (int_eq x y) z is
in_range-of_numbers Ne atom x y z g h is = in_range-truth (not (int_eq x y)) z is
in_range-of_numbers Lt atom x y z g h is = in_range-truth (int_lt x y) z is
in_range-of_numbers Le atom x y z g h is = in_range-truth (int_le x y) z is
in_range-of_numbers Gt atom x y z g h is = in_range-truth (int_lt y x) z is
in_range-of_numbers Ge atom x y z g h is = in_range-truth (int_le y x) z is
in_range-of_numbers And atom x y z g h is = in_range-truth (is_true x && is_true y) z is
in_range-of_numbers Or atom x y z g h is = in_range-truth (is_true x || is_true y) z is
in_range-of_numbers Xor atom x y z g h is = in_range-truth (not (beq (is_true x) (is_true y))) z is
in_range-of_numbers Bit atom x y z g h is = in_range-bit x y z is
in_range-of_numbers Overlay atom x y z g h is = let e : (if is_zero y then x else y) ≡ z = cc in chosen atom (is_zero y) x y z g h e

either : (b : Bool) (r : Result ℤ CellFault) (fault other : CellFault) → (if b then Err fault else r) ≡ Err other → (other ≡ fault) ⊎ (r ≡ Err other)
either true r fault other is = inl cc
either false r fault other is = inr is

-- the faults
pub MayGive2-of_numbers : (op : Op2) (x y : ℤ) (fault : CellFault) → of_numbers op x y ≡ Err fault → MayGive2 op fault
MayGive2-of_numbers Add x y fault is = given (is_in_range atoms.Wide (x +ℤ y)) (x +ℤ y) Overflow fault is
MayGive2-of_numbers Sub x y fault is = given (is_in_range atoms.Wide (x -ℤ y)) (x -ℤ y) Overflow fault is
MayGive2-of_numbers Mul x y fault is = given (is_in_range atoms.Wide (x *ℤ y)) (x *ℤ y) Overflow fault is
MayGive2-of_numbers Div x y fault is =
    elim (either (is_zero y) (as_wide (int_div x y)) DivideByZero fault is) [
      | inl zero_divisor ↦ inl zero_divisor
      | inr too_large ↦ inr (given (is_in_range atoms.Wide (int_div x y)) (int_div x y) Overflow fault too_large)
    ]
MayGive2-of_numbers Mod x y fault is =
    elim (either (is_zero y) (Ok (int_rem x y)) DivideByZero fault is) [ inl zero_divisor ↦ zero_divisor | inr is_none ↦ absurd cc ]
MayGive2-of_numbers Bit x y fault is = given (int_le (pos 0) y && int_lt y (pos 64)) (bit_of x (unsigned_abs y)) IndexOut fault is
MayGive2-of_numbers Eq x y fault is = absurd cc
MayGive2-of_numbers Ne x y fault is = absurd cc
MayGive2-of_numbers Lt x y fault is = absurd cc
MayGive2-of_numbers Le x y fault is = absurd cc
MayGive2-of_numbers Gt x y fault is = absurd cc
MayGive2-of_numbers Ge x y fault is = absurd cc
MayGive2-of_numbers And x y fault is = absurd cc
MayGive2-of_numbers Or x y fault is = absurd cc
MayGive2-of_numbers Xor x y fault is = absurd cc
MayGive2-of_numbers Overlay x y fault is = absurd cc

-- ---- of cells

-- the number in the cell of an outcome, and its fault
lifted : (r : Result ℤ CellFault) (c : Cell) → (r >>= λ z. Ok (single z)) ≡ Ok c → (z : ℤ) × (r ≡ Ok z) × (single z ≡ c)
lifted (Ok z) c is = (z, refl, cc)
lifted (Err fault) c is = absurd cc

lifted_fault : (r : Result ℤ CellFault) (fault : CellFault) → (r >>= λ z. Ok (single z)) ≡ Err fault → r ≡ Err fault
lifted_fault (Ok z) fault is = absurd cc
lifted_fault (Err other) fault is = cc

-- the one number of a cell of an atom is in the atom's range
pub in_range-only : (atom : Atom) (zs : List ℤ) → AreInRange (atom ∷ []) zs → IsInRange atom (only zs)
in_range-only atom [] h = absurd h
in_range-only atom (z ∷ zs) h = h.0

IsOfAtom-null : (atom : Atom) (c : Cell) → (let r : Result Cell CellFault = Ok Null in r ≡ Ok c) → IsOfAtom atom c
IsOfAtom-null atom c is = let P : Cell → Type 0 = IsOfAtom atom in let e : Null ≡ c = cc in subst P e tt

IsOfAtom-single : (atom : Atom) (z : ℤ) (c : Cell) → single z ≡ c → IsInRange atom z → IsOfAtom atom c
IsOfAtom-single atom z c is h = let P : Cell → Type 0 = IsOfAtom atom in subst P is (h, tt)

IsOfAtom-on_number : (f : ℤ → Result ℤ CellFault) (atom : Atom) (a c : Cell) → ((x z : ℤ) → f x ≡ Ok z → IsInRange atom z) → on_number f a ≡ Ok c → IsOfAtom atom c
IsOfAtom-on_number f atom Null c each is = IsOfAtom-null atom c is
IsOfAtom-on_number f atom (Value a) c each is =
    let l = lifted (f (only a.items)) c is in
    IsOfAtom-single atom l.0 c l.2 (each (only a.items) l.0 l.1)

IsOfAtom-on_numbers : (f : ℤ → ℤ → Result ℤ CellFault) (from to : Atom) (a b c : Cell)
    → ((x y z : ℤ) → IsInRange from x → IsInRange from y → f x y ≡ Ok z → IsInRange to z) → IsOfAtom from a → IsOfAtom from b → on_numbers f a b ≡ Ok c → IsOfAtom to c
IsOfAtom-on_numbers f from to Null b c each g h is = IsOfAtom-null to c is
IsOfAtom-on_numbers f from to (Value a) Null c each g h is = IsOfAtom-null to c is
IsOfAtom-on_numbers f from to (Value a) (Value b) c each g h is =
    let l = lifted (f (only a.items) (only b.items)) c is in
    IsOfAtom-single to l.0 c l.2 (each (only a.items) (only b.items) l.0 (in_range-only from a.items g) (in_range-only from b.items h) l.1)

pub IsOfAtom-cast_to : (atom : Atom) (a c : Cell) → cast_to atom a ≡ Ok c → IsOfAtom atom c
IsOfAtom-cast_to atom a c is = IsOfAtom-on_number (cast_number atom) atom a c (in_range-cast atom) is

fault-on_numbers : (f : ℤ → ℤ → Result ℤ CellFault) (P : CellFault → Type 0) (a b : Cell) (fault : CellFault) → ((x y : ℤ) → f x y ≡ Err fault → P fault)
    → on_numbers f a b ≡ Err fault → P fault
fault-on_numbers f P Null b fault each is = absurd cc
fault-on_numbers f P (Value a) Null fault each is = absurd cc
fault-on_numbers f P (Value a) (Value b) fault each is =
    each (only a.items) (only b.items) (lifted_fault (f (only a.items) (only b.items)) fault is)

lower_or_upper : (atoms : List Atom) (t : Bool) (a b : Cell) → IsCellOf atoms a → IsCellOf atoms b → IsCellOf atoms (if t then a else b)
lower_or_upper atoms true a b g h = g
lower_or_upper atoms false a b g h = h

pub IsCellOf-overlaid : (atoms : List Atom) (a b : Cell) → IsCellOf atoms a → IsCellOf atoms b → IsCellOf atoms (overlay_of a b)
IsCellOf-overlaid atoms a Null g h = g
IsCellOf-overlaid atoms a (Value b) g h = lower_or_upper atoms (list_all is_zero b.items) a (Value b) g h

pub IsOfAtom-applied2 : (op : Op2) (atom : Atom) (a b c : Cell) → IsOfAtom atom a → IsOfAtom atom b → applied2 op a b ≡ Ok c → IsOfAtom (result2_of op atom) c
IsOfAtom-applied2 Add atom a b c g h is = IsOfAtom-on_numbers (of_numbers Add) atom (result2_of Add atom) a b c (in_range-of_numbers Add atom) g h is
IsOfAtom-applied2 Sub atom a b c g h is = IsOfAtom-on_numbers (of_numbers Sub) atom (result2_of Sub atom) a b c (in_range-of_numbers Sub atom) g h is
IsOfAtom-applied2 Mul atom a b c g h is = IsOfAtom-on_numbers (of_numbers Mul) atom (result2_of Mul atom) a b c (in_range-of_numbers Mul atom) g h is
IsOfAtom-applied2 Div atom a b c g h is = IsOfAtom-on_numbers (of_numbers Div) atom (result2_of Div atom) a b c (in_range-of_numbers Div atom) g h is
IsOfAtom-applied2 Mod atom a b c g h is = IsOfAtom-on_numbers (of_numbers Mod) atom (result2_of Mod atom) a b c (in_range-of_numbers Mod atom) g h is
IsOfAtom-applied2 Eq atom a b c g h is = IsOfAtom-on_numbers (of_numbers Eq) atom (result2_of Eq atom) a b c (in_range-of_numbers Eq atom) g h is
IsOfAtom-applied2 Ne atom a b c g h is = IsOfAtom-on_numbers (of_numbers Ne) atom (result2_of Ne atom) a b c (in_range-of_numbers Ne atom) g h is
IsOfAtom-applied2 Lt atom a b c g h is = IsOfAtom-on_numbers (of_numbers Lt) atom (result2_of Lt atom) a b c (in_range-of_numbers Lt atom) g h is
IsOfAtom-applied2 Le atom a b c g h is = IsOfAtom-on_numbers (of_numbers Le) atom (result2_of Le atom) a b c (in_range-of_numbers Le atom) g h is
IsOfAtom-applied2 Gt atom a b c g h is = IsOfAtom-on_numbers (of_numbers Gt) atom (result2_of Gt atom) a b c (in_range-of_numbers Gt atom) g h is
IsOfAtom-applied2 Ge atom a b c g h is = IsOfAtom-on_numbers (of_numbers Ge) atom (result2_of Ge atom) a b c (in_range-of_numbers Ge atom) g h is
IsOfAtom-applied2 And atom a b c g h is = IsOfAtom-on_numbers (of_numbers And) atom (result2_of And atom) a b c (in_range-of_numbers And atom) g h is
IsOfAtom-applied2 Or atom a b c g h is = IsOfAtom-on_numbers (of_numbers Or) atom (result2_of Or atom) a b c (in_range-of_numbers Or atom) g h is
IsOfAtom-applied2 Xor atom a b c g h is = IsOfAtom-on_numbers (of_numbers Xor) atom (result2_of Xor atom) a b c (in_range-of_numbers Xor atom) g h is
IsOfAtom-applied2 Bit atom a b c g h is = IsOfAtom-on_numbers (of_numbers Bit) atom (result2_of Bit atom) a b c (in_range-of_numbers Bit atom) g h is
IsOfAtom-applied2 Overlay atom a b c g h is =
    let P : Cell → Type 0 = IsOfAtom atom in let e : overlay_of a b ≡ c = cc in subst P e (IsCellOf-overlaid (atom ∷ []) a b g h)

pub MayGive2-applied2 : (op : Op2) (a b : Cell) (fault : CellFault) → applied2 op a b ≡ Err fault → MayGive2 op fault
MayGive2-applied2 Add a b fault is = fault-on_numbers (of_numbers Add) (MayGive2 Add) a b fault (λ x y. MayGive2-of_numbers Add x y fault) is
MayGive2-applied2 Sub a b fault is = fault-on_numbers (of_numbers Sub) (MayGive2 Sub) a b fault (λ x y. MayGive2-of_numbers Sub x y fault) is
MayGive2-applied2 Mul a b fault is = fault-on_numbers (of_numbers Mul) (MayGive2 Mul) a b fault (λ x y. MayGive2-of_numbers Mul x y fault) is
MayGive2-applied2 Div a b fault is = fault-on_numbers (of_numbers Div) (MayGive2 Div) a b fault (λ x y. MayGive2-of_numbers Div x y fault) is
MayGive2-applied2 Mod a b fault is = fault-on_numbers (of_numbers Mod) (MayGive2 Mod) a b fault (λ x y. MayGive2-of_numbers Mod x y fault) is
MayGive2-applied2 Eq a b fault is = fault-on_numbers (of_numbers Eq) (MayGive2 Eq) a b fault (λ x y. MayGive2-of_numbers Eq x y fault) is
MayGive2-applied2 Ne a b fault is = fault-on_numbers (of_numbers Ne) (MayGive2 Ne) a b fault (λ x y. MayGive2-of_numbers Ne x y fault) is
MayGive2-applied2 Lt a b fault is = fault-on_numbers (of_numbers Lt) (MayGive2 Lt) a b fault (λ x y. MayGive2-of_numbers Lt x y fault) is
MayGive2-applied2 Le a b fault is = fault-on_numbers (of_numbers Le) (MayGive2 Le) a b fault (λ x y. MayGive2-of_numbers Le x y fault) is
MayGive2-applied2 Gt a b fault is = fault-on_numbers (of_numbers Gt) (MayGive2 Gt) a b fault (λ x y. MayGive2-of_numbers Gt x y fault) is
MayGive2-applied2 Ge a b fault is = fault-on_numbers (of_numbers Ge) (MayGive2 Ge) a b fault (λ x y. MayGive2-of_numbers Ge x y fault) is
MayGive2-applied2 And a b fault is = fault-on_numbers (of_numbers And) (MayGive2 And) a b fault (λ x y. MayGive2-of_numbers And x y fault) is
MayGive2-applied2 Or a b fault is = fault-on_numbers (of_numbers Or) (MayGive2 Or) a b fault (λ x y. MayGive2-of_numbers Or x y fault) is
MayGive2-applied2 Xor a b fault is = fault-on_numbers (of_numbers Xor) (MayGive2 Xor) a b fault (λ x y. MayGive2-of_numbers Xor x y fault) is
MayGive2-applied2 Bit a b fault is = fault-on_numbers (of_numbers Bit) (MayGive2 Bit) a b fault (λ x y. MayGive2-of_numbers Bit x y fault) is
MayGive2-applied2 Overlay a b fault is = absurd cc
