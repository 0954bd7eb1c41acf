-- Cells of one type are cells of others: those of an operand, of the operation's result.
use Rattle.std.proofs.Common.{◌≡◌, ℕ, ℤ, pos, Bool, true, false, List, [], ◌∷◌, refl, sym, subst, arith}
use Rattle.std.proofs.lemmas.Int.{ints}
use Rattle.std.specs.Int.{from_bool}
use Rattle.std.specs.Prelude.{neg_ℤ, unsigned_abs, Option, Some, Result, Ok, ◌&&◌, not, if◌then◌else◌}
use Rattle.std.specs.Cmp.Lexicographic.{pointwise}
use Rattle.std.proofs.lemmas.Bool.{and_parts}
use Rattle.ras_cells.specs.declared.atom.Atom.{Atom}
use Rattle.ras_cells.specs.declared.atom.Atom.TheVariants as atoms
use Rattle.ras_cells.specs.declared.cell.Cell.{Cell}
use Rattle.ras_cells.specs.declared.cell.Cell.TheVariants.{Null, Value}
use Rattle.ras_cells.specs.declared.cell.CellType.{CellType}
use Rattle.ras_cells.specs.declared.cell.CellType.TheVariants as types
use Rattle.ras_cells.specs.declared.numbers.Op1.{Op1}
use Rattle.ras_cells.specs.declared.numbers.Op1.TheVariants.{Neg, Abs, Not}
use Rattle.ras_cells.specs.declared.numbers.Op2.{Op2}
use Rattle.ras_cells.specs.declared.numbers.Op2.TheVariants.{Eq, Ne, And, Or, Xor, Overlay}
use Rattle.ras_cells.specs.Laws.{IsCellOf, IsOfAtom, result1_of, result2_of}
use Rattle.ras_cells.specs.declared.cell.CellFault.{CellFault}
use Rattle.ras_cells.specs.declared.cell.CellFault.TheVariants.{Overflow}
use Rattle.ras_cells.specs.Atoms.{is_in_range}
use Rattle.ras_cells.specs.Numbers.{as_wide, is_true}
use Rattle.ras_cells.specs.Outcomes.{◌>>=◌}
use Rattle.ras_cells.specs.Cells.{applied1, applied2, overlay_of, single, only}
use Rattle.ras_cells.specs.Stored.{atoms_of}
use Rattle.ras_cells.proofs.Ranges.{IsInRange-Wide, IsInRange-is_in_range}
use Rattle.ras_cells.proofs.Results.{IsOfAtom-applied2, IsCellOf-overlaid, kept}
use Rattle.ras_syntax.specs.declared.typed.Kind.{Kind}
use Rattle.ras_syntax.specs.declared.typed.Kind.TheVariants as kinds
use Rattle.spec_expressions.specs.Kinds.{is_same_atom, is_same_type, is_number, is_bool, wide_type, bool_type, some_where, join_of, both_numbers, both_bools, type1_of, type2_of, on_cells, on_array, type_of_both, on_both, axes_of_arrays, operands_kind, common_kind}
use Rattle.spec_expressions.specs.Fits.{IsCellOfKind}
use Rattle.law_shapes.proofs.Outcomes.{bind_ok, same_ok}
use Rattle.law_shapes.proofs.Rules.{induced-ok, some_where-ok}

-- each cell of the first type is one of the second
abbrev pub Into : CellType → CellType → Type 0
Into s t = (c : Cell) → IsCellOf (atoms_of s) c → IsCellOf (atoms_of t) c

pub into_same : (s t : CellType) → s ≡ t → Into s t
into_same s t same c h = let P : CellType → Type 0 = λ u. IsCellOf (atoms_of u) c in subst P same h

-- ---- tests of types

pub some_same : {A : Type 0} (a b : A) → Some a ≡ Some b → a ≡ b
some_same a b is = cc

same_atom : (a b : Atom) → is_same_atom a b ≡ true → a ≡ b
same_atom atoms.Bool atoms.Bool is = refl
same_atom atoms.Octet atoms.Octet is = refl
same_atom atoms.Char atoms.Char is = refl
same_atom atoms.Short atoms.Short is = refl
same_atom atoms.Ushort atoms.Ushort is = refl
same_atom atoms.Long atoms.Long is = refl
same_atom atoms.Ulong atoms.Ulong is = refl
same_atom atoms.Wide atoms.Wide is = refl
same_atom a b is = absurd cc

same_atoms : (as_ bs : List Atom) → pointwise is_same_atom as_ bs ≡ true → as_ ≡ bs
same_atoms [] [] is = refl
same_atoms [] (b ∷ bs) is = absurd cc
same_atoms (a ∷ as_) [] is = absurd cc
same_atoms (a ∷ as_) (b ∷ bs) is =
    let both = and_parts (is_same_atom a b) (pointwise is_same_atom as_ bs) is in
    let here = same_atom a b both.0 in
    let rest = same_atoms as_ bs both.1 in
    cc

-- types that are the same have the same atoms
same_type : (a b : CellType) → is_same_type a b ≡ true → atoms_of a ≡ atoms_of b
same_type (types.Atom a) (types.Atom b) is = let e = same_atom a b is in cc e
same_type (types.Composite as_) (types.Composite bs) is = same_atoms as_.items bs.items is
same_type (types.Atom a) (types.Composite bs) is = absurd cc
same_type (types.Composite as_) (types.Atom b) is = absurd cc

-- ---- cells of one atom

wide-atom : (atom : Atom) (c : Cell) → IsOfAtom atom c → IsOfAtom atoms.Wide c
wide-atom atom Null h = tt
wide-atom atom (Value numbers) h = in_wide atom numbers.items h where
  in_wide : (atom : Atom) (zs : List ℤ) → IsOfAtom atom (Value (record { items = zs })) → IsOfAtom atoms.Wide (Value (record { items = zs }))
  in_wide atom [] h = absurd h
  in_wide atom (z ∷ zs) h = (IsInRange-Wide atom z h.0, h.1)

-- a cell of a number type, or of the truth values, is one of 64 bits
wide-number : (s : CellType) → is_number s ≡ true → Into s wide_type
wide-number (types.Atom atom) number c h = wide-atom atom c h
wide-number (types.Composite atoms) number c h = absurd cc

wide-bool : (s : CellType) → is_bool s ≡ true → Into s wide_type
wide-bool (types.Atom atom) truth c h = wide-atom atom c h
wide-bool (types.Composite atoms) truth c h = absurd cc

-- ---- the common type

join-tested : (same : Bool) (numbers : Bool) (a b t : CellType) → is_same_type a b ≡ same → (is_number a && is_number b) ≡ numbers
    → (if same then Some a else some_where numbers wide_type) ≡ Some t → Into a t × Into b t
join-tested true numbers a b t same is h =
    let e : a ≡ t = cc in
    (into_same a t e, λ c g. into_same a t e c (subst (λ atoms. IsCellOf atoms c) (sym (same_type a b same)) g))
join-tested false true a b t same is h =
    let both = and_parts (is_number a) (is_number b) is in
    let e : wide_type ≡ t = cc in
    (λ c g. into_same wide_type t e c (wide-number a both.0 c g), λ c g. into_same wide_type t e c (wide-number b both.1 c g))
join-tested false false a b t same is h = absurd cc

-- the cells of two types are cells of their common type
pub join-into : (a b t : CellType) → join_of a b ≡ Some t → Into a t × Into b t
join-into a b t h = join-tested (is_same_type a b) (is_number a && is_number b) a b t refl refl h

-- ---- kinds

-- the cell type of a kind that has cells
pub kind-cells : (f : CellType → Option CellType) (kind : Kind) (t : CellType) → on_cells f kind ≡ Some t → (s : CellType) × (f s ≡ Some t)
    × ((c : Cell) → IsCellOfKind kind c → IsCellOf (atoms_of s) c)
kind-cells f (kinds.Scalar s) t h = (s, h, λ c g. g)
kind-cells f (kinds.Array s n) t h = (s, h, λ c g. g)
kind-cells f (kinds.Domain n) t h = absurd cc
kind-cells f (kinds.Point n) t h = absurd cc

pub array-cells : (f : CellType → Option CellType) (kind : Kind) (t : CellType) → on_array f kind ≡ Some t → on_cells f kind ≡ Some t
array-cells f (kinds.Scalar s) t h = absurd cc
array-cells f (kinds.Array s n) t h = h
array-cells f (kinds.Domain n) t h = absurd cc
array-cells f (kinds.Point n) t h = absurd cc

-- ---- operations

pub wide-typed : (z : ℤ) (c : Cell) → (as_wide z >>= λ n. Ok (single n)) ≡ Ok c → IsOfAtom atoms.Wide c
wide-typed z c is =
    let is_wide = bind_ok (as_wide z) (λ n. Ok (single n)) c is in
    let tested = kept (is_in_range atoms.Wide z) z is_wide.0 Overflow is_wide.1 in
    subst (λ n. IsOfAtom atoms.Wide n) (same_ok (single is_wide.0) c is_wide.2)
    (subst (λ n. IsOfAtom atoms.Wide (single n)) tested.1 ((IsInRange-is_in_range atoms.Wide z).0 tested.0, tt))

truth-in_range : (b : Bool) → IsOfAtom atoms.Bool (single (pos (from_bool b)))
truth-in_range true = ((omega (arith, ints), omega (arith, ints)), tt)
truth-in_range false = ((omega (arith, ints), omega (arith, ints)), tt)

pub truth-typed : (b : Bool) (c : Cell) → (let r : Result Cell CellFault = Ok (single (pos (from_bool b))) in r ≡ Ok c) → IsOfAtom atoms.Bool c
truth-typed b c is = subst (λ r. IsOfAtom atoms.Bool r) (same_ok (single (pos (from_bool b))) c is) (truth-in_range b)

IsOfAtom-applied1 : (op : Op1) (a c : Cell) → applied1 op a ≡ Ok c → IsOfAtom (result1_of op) c
IsOfAtom-applied1 op Null c is = subst (λ r. IsOfAtom (result1_of op) r) (same_ok Null c is) tt
IsOfAtom-applied1 Neg (Value a) c is = wide-typed (neg_ℤ (only a.items)) c is
IsOfAtom-applied1 Abs (Value a) c is = wide-typed (pos (unsigned_abs (only a.items))) c is
IsOfAtom-applied1 Not (Value a) c is = truth-typed (not (is_true (only a.items))) c is

type1-typed : (op : Op1) (s t : CellType) → type1_of op s ≡ Some t → types.Atom (result1_of op) ≡ t
type1-typed Neg s t h = (some_where-ok (is_number s) wide_type t h).1
type1-typed Abs s t h = (some_where-ok (is_number s) wide_type t h).1
type1-typed Not s t h = (some_where-ok (is_bool s) bool_type t h).1

pub applied1-typed : (op : Op1) (s t : CellType) (a c : Cell) → type1_of op s ≡ Some t → applied1 op a ≡ Ok c → IsCellOf (atoms_of t) c
applied1-typed op s t a c h is = into_same (types.Atom (result1_of op)) t (type1-typed op s t h) c (IsOfAtom-applied1 op a c is)

-- operands that are both numbers, or both truth values, are ones of 64 bits
of_numbers : (a b r t : CellType) (x y : Cell) → both_numbers a b r ≡ Some t → IsCellOf (atoms_of a) x → IsCellOf (atoms_of b) y → IsOfAtom atoms.Wide x × IsOfAtom atoms.Wide y × Into r t
of_numbers a b r t x y h g k =
    let is = some_where-ok (is_number a && is_number b) r t h in
    let both = and_parts (is_number a) (is_number b) is.0 in
    (wide-number a both.0 x g, wide-number b both.1 y k, into_same r t is.1)

of_bools : (a b t : CellType) (x y : Cell) → both_bools a b ≡ Some t → IsCellOf (atoms_of a) x → IsCellOf (atoms_of b) y → IsOfAtom atoms.Wide x × IsOfAtom atoms.Wide y × Into bool_type t
of_bools a b t x y h g k =
    let is = some_where-ok (is_bool a && is_bool b) bool_type t h in
    let both = and_parts (is_bool a) (is_bool b) is.0 in
    (wide-bool a both.0 x g, wide-bool b both.1 y k, into_same bool_type t is.1)

of_compared : (truths : Bool) (a b t : CellType) (x y : Cell) → (if truths then both_bools a b else both_numbers a b bool_type) ≡ Some t → IsCellOf (atoms_of a) x
    → IsCellOf (atoms_of b) y → IsOfAtom atoms.Wide x × IsOfAtom atoms.Wide y × Into bool_type t
of_compared true a b t x y h g k = of_bools a b t x y h g k
of_compared false a b t x y h g k = of_numbers a b bool_type t x y h g k

-- the operands are of 64 bits, and each cell of the operation's own atom is one of the type; an overlay takes other cells too
abbrev AreWideOperands : Op2 → CellType → Cell → Cell → Type 0
AreWideOperands Overlay t x y = Unit {0}
AreWideOperands op t x y = IsOfAtom atoms.Wide x × IsOfAtom atoms.Wide y × Into (types.Atom (result2_of op atoms.Wide)) t

wide_operands : (op : Op2) (a b t : CellType) (x y : Cell) → type2_of op a b ≡ Some t → IsCellOf (atoms_of a) x → IsCellOf (atoms_of b) y → AreWideOperands op t x y
wide_operands Overlay a b t x y h g k = tt
wide_operands Eq a b t x y h g k = of_compared (is_bool a) a b t x y h g k
wide_operands Ne a b t x y h g k = of_compared (is_bool a) a b t x y h g k
wide_operands And a b t x y h g k = of_bools a b t x y h g k
wide_operands Or a b t x y h g k = of_bools a b t x y h g k
wide_operands Xor a b t x y h g k = of_bools a b t x y h g k
wide_operands op a b t x y h g k = of_numbers a b (types.Atom (result2_of op atoms.Wide)) t x y h g k

-- the result of an operation on cells of two types
applied2-typed : (op : Op2) (a b t : CellType) (x y c : Cell) → type2_of op a b ≡ Some t → IsCellOf (atoms_of a) x → IsCellOf (atoms_of b) y → applied2 op x y ≡ Ok c
    → IsCellOf (atoms_of t) c
applied2-typed Overlay a b t x y c h g k is =
    let into = join-into a b t h in
    subst (λ r. IsCellOf (atoms_of t) r) (same_ok (overlay_of x y) c is) (IsCellOf-overlaid (atoms_of t) x y (into.0 x g) (into.1 y k))
applied2-typed op a b t x y c h g k is =
    let exact = wide_operands op a b t x y h g k in exact.2 c (IsOfAtom-applied2 op atoms.Wide x y c exact.0 exact.1 is)

-- the types of both operands
both-cells : (op : Op2) (a b : Kind) (t : CellType) → type_of_both op a b ≡ Some t → on_both (type2_of op) a b ≡ Some t
both-cells Overlay (kinds.Array s n) b t h = array-cells (join_of s) b t h
both-cells Overlay (kinds.Scalar s) b t h = absurd cc
both-cells Overlay (kinds.Domain n) b t h = absurd cc
both-cells Overlay (kinds.Point n) b t h = absurd cc
both-cells op a b t h = h

pub binary-typed : (op : Op2) (a b : Kind) (t : CellType) (x y c : Cell) → type_of_both op a b ≡ Some t → IsCellOfKind a x → IsCellOfKind b y → applied2 op x y ≡ Ok c
    → IsCellOf (atoms_of t) c
binary-typed op a b t x y c h g k is =
    let first = kind-cells (λ s. on_cells (type2_of op s) b) a t (both-cells op a b t h) in
    let second = kind-cells (type2_of op first.0) b t first.1 in
    applied2-typed op first.0 second.0 t x y c second.1 (first.2 x g) (second.2 y k) is

-- a kind whose cells are those of a type
abbrev pub TakesCells : CellType → Kind → Type 0
TakesCells t kind = (c : Cell) → IsCellOf (atoms_of t) c → IsCellOfKind kind c

takes-spread : (t : CellType) (ns : List ℕ) → TakesCells t (operands_kind t ns)
takes-spread t [] c h = h
takes-spread t (n ∷ ns) c h = h

pub takes-kind : (t : CellType) (a b : Kind) → a ≡ b → TakesCells t a → TakesCells t b
takes-kind t a b same takes c h = subst (λ kind. IsCellOfKind kind c) same (takes c h)

-- the kind that operands give, and the type of its cells
pub induced-takes : (o : Option CellType) (operands : List Kind) (kind : Kind) → common_kind o operands ≡ Ok kind → (t : CellType) × (o ≡ Some t) × TakesCells t kind
induced-takes o operands kind h =
    let is = induced-ok o operands kind h in
    (is.0, is.1, takes-kind is.0 (operands_kind is.0 (axes_of_arrays operands)) kind is.3 (takes-spread is.0 (axes_of_arrays operands)))
