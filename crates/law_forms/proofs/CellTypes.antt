-- What rules of kinds say of the types of the cells, and of the numbers of axes.
use Rattle.std.proofs.Common.{◌≡◌, ℕ, Bool, true, false, Option, Some, None, List, [], ◌∷◌, inl, inr, refl, sym, ap, subst, ◌∙◌, arith}
use Rattle.std.specs.Prelude.{◌&&◌, Ok, if◌then◌else◌}
use Rattle.std.specs.List.{AllByRecursion, AllZip}
use Rattle.std.specs.Cmp.Lexicographic.{pointwise}
use Rattle.std.proofs.lemmas.Bool.{and_parts}
use Rattle.ras_cells.specs.declared.atom.Atom.{Atom}
use Rattle.ras_cells.specs.declared.atom.Atom.TheVariants as atoms
use Rattle.ras_cells.specs.declared.cell.CellType.{CellType}
use Rattle.ras_cells.specs.declared.cell.CellType.TheVariants as types
use Rattle.ras_syntax.specs.declared.typed.Kind.{Kind}
use Rattle.ras_syntax.specs.declared.typed.Kind.TheVariants.{Scalar, Array, Domain, Point}
use Rattle.spec_expressions.specs.Kinds.{is_same_atom, is_same_type, wide_type, is_number, some_where, join_of, on_cells, cell_type_in, axes_of_arrays, all_equal, operands_kind, common_kind, join_after, join_of_all, atoms_of_all}
use Rattle.spec_expressions.specs.Check.{with_cell}
use Rattle.law_shapes.proofs.Rules.{HasCells, IsOf, on_cells-ok, induced-ok, all_equal-first, with_atom-ok}
use Rattle.law_forms.specs.FormKinds.{HasCellType, IsJoinedInto, IsOperandOf, JoinsInto}

pub some_is : {A : Type 0} (a b : A) → Some a ≡ Some b → a ≡ b
some_is a b is = cc

-- ---- types

pub has_type : (of : CellType) (kind : Kind) → IsOf of kind → HasCellType of kind
has_type of (Scalar cell) is = is
has_type of (Array cell n) is = is
has_type of (Domain n) is = absurd is
has_type of (Point n) is = absurd is

pub has_cells : (of : CellType) (kind : Kind) → HasCellType of kind → HasCells 0 kind
has_cells of (Scalar cell) is = tt
has_cells of (Array cell n) is = omega arith
has_cells of (Domain n) is = absurd is
has_cells of (Point n) is = absurd is

-- the cell type that is asked of
pub asked : (f : CellType → Option CellType) (kind : Kind) (cell : CellType) → on_cells f kind ≡ Some cell → (of : CellType) × (f of ≡ Some cell) × HasCellType of kind
asked f kind cell is = let one = on_cells-ok f kind cell is in (one.0, one.1, has_type one.0 kind one.2)

-- ---- one operand

-- the kind of an operation on one operand
pub spread_one : (cell of : CellType) (part : Kind) → HasCellType of part → operands_kind cell (axes_of_arrays (part ∷ [])) ≡ with_cell cell part
spread_one cell of (Scalar c) is = refl
spread_one cell of (Array c n) is = refl
spread_one cell of (Domain n) is = absurd is
spread_one cell of (Point n) is = absurd is

-- ---- several operands

-- without an array each operand is a scalar
no_arrays : (cell : CellType) (parts : List Kind) → AllByRecursion (HasCells 0) parts → axes_of_arrays parts ≡ [] → AllByRecursion (IsOperandOf (Scalar cell)) parts
no_arrays cell [] cells is = tt
no_arrays cell (Scalar c ∷ parts) cells is = (tt, no_arrays cell parts cells.1 is)
no_arrays cell (Array c n ∷ parts) cells is = absurd cc
no_arrays cell (Domain n ∷ parts) cells is = absurd cells.0
no_arrays cell (Point n ∷ parts) cells is = absurd cells.0

-- with arrays that have equally many axes each operand has as many or is a scalar
equal_arrays : (cell : CellType) (n : ℕ) (parts : List Kind) → AllByRecursion (HasCells 0) parts → AllByRecursion (λ m. m ≡ n) (axes_of_arrays parts)
    → AllByRecursion (IsOperandOf (Array cell n)) parts
equal_arrays cell n [] cells equal = tt
equal_arrays cell n (Scalar c ∷ parts) cells equal = (tt, equal_arrays cell n parts cells.1 equal)
equal_arrays cell n (Array c m ∷ parts) cells equal = (equal.0, equal_arrays cell n parts cells.1 equal.1)
equal_arrays cell n (Domain m ∷ parts) cells equal = absurd cells.0
equal_arrays cell n (Point m ∷ parts) cells equal = absurd cells.0

operands-of : (cell : CellType) (parts : List Kind) (ns : List ℕ) → AllByRecursion (HasCells 0) parts → axes_of_arrays parts ≡ ns → all_equal ns ≡ true
    → AllByRecursion (IsOperandOf (operands_kind cell ns)) parts
operands-of cell parts [] cells is equal = no_arrays cell parts cells is
operands-of cell parts (n ∷ ns) cells is equal =
    equal_arrays cell n parts cells (subst (AllByRecursion (λ m. m ≡ n)) (sym is) (all_equal-first n ns equal))

-- operands of what they are spread over
pub record Spread (given : Option CellType) (parts : List Kind) (kind : Kind) : Type 0 where
  pub cell : CellType
  pub given_is : given ≡ Some cell
  pub part_axes : AllByRecursion (IsOperandOf kind) parts
  pub kind_is : kind ≡ operands_kind cell (axes_of_arrays parts)

pub spread : (given : Option CellType) (parts : List Kind) (kind : Kind) → common_kind given parts ≡ Ok kind
    → ((cell : CellType) → given ≡ Some cell → AllByRecursion (HasCells 0) parts) → Spread given parts kind
spread given parts kind is cells =
    let rule = induced-ok given parts kind is in
    record {
      cell = rule.0;
      given_is = rule.1;
      part_axes = subst (λ k. AllByRecursion (IsOperandOf k) parts) rule.3 (operands-of rule.0 parts (axes_of_arrays parts) (cells rule.0 rule.1) refl rule.2);
      kind_is = sym rule.3;
    }

-- ---- the common type

same_atom : (a b : Atom) → is_same_atom a b ≡ true → a ≡ b
same_atom atoms.Bool atoms.Bool is = refl
same_atom atoms.Octet atoms.Octet is = refl
same_atom atoms.Char atoms.Char is = refl
same_atom atoms.Short atoms.Short is = refl
same_atom atoms.Ushort atoms.Ushort is = refl
same_atom atoms.Long atoms.Long is = refl
same_atom atoms.Ulong atoms.Ulong is = refl
same_atom atoms.Wide atoms.Wide is = refl
same_atom a b is = absurd cc

same_atoms : (as_ bs : List Atom) → pointwise is_same_atom as_ bs ≡ true → as_ ≡ bs
same_atoms [] [] is = refl
same_atoms [] (b ∷ bs) is = absurd cc
same_atoms (a ∷ as_) [] is = absurd cc
same_atoms (a ∷ as_) (b ∷ bs) is =
    let both = and_parts (is_same_atom a b) (pointwise is_same_atom as_ bs) is in
    let here = same_atom a b both.0 in
    let rest = same_atoms as_ bs both.1 in
    cc

same_type : (a b : CellType) → is_same_type a b ≡ true → a ≡ b
same_type (types.Atom a) (types.Atom b) is = ap types.Atom (same_atom a b is)
same_type (types.Composite as_) (types.Composite bs) is = ap (λ items. types.Composite (record { items = items })) (same_atoms as_.items bs.items is)
same_type (types.Atom a) (types.Composite bs) is = absurd cc
same_type (types.Composite as_) (types.Atom b) is = absurd cc

-- what joins into a type that joins into another
joined-through : (a s t : CellType) → IsJoinedInto s a → IsJoinedInto t s → IsJoinedInto t a
joined-through a s t (inl same) (inl further) = inl (same ∙ further)
joined-through a s t (inl same) (inr wide) = inr (ap is_number same ∙ wide.0, wide.1)
joined-through a s t (inr wide) (inl same) = inr (wide.0, sym same ∙ wide.1)
joined-through a s t (inr wide) (inr more) = inr (wide.0, more.1)

join-cases : (same numbers : Bool) (a b t : CellType) → is_same_type a b ≡ same → (is_number a && is_number b) ≡ numbers
    → (if same then Some a else some_where numbers wide_type) ≡ Some t → IsJoinedInto t a × IsJoinedInto t b
join-cases true numbers a b t same is given =
    let left : a ≡ t = some_is a t given in (inl left, inl (sym (same_type a b same) ∙ left))
join-cases false true a b t same is given =
    let both = and_parts (is_number a) (is_number b) is in
    let wide : t ≡ wide_type = sym (some_is wide_type t given) in
    (inr (both.0, wide), inr (both.1, wide))
join-cases false false a b t same is given = absurd cc

join_after-joined : (o : Option CellType) (parts : List Kind) (t : CellType) → join_after o parts ≡ Some t
    → (s : CellType) × (o ≡ Some s) × IsJoinedInto t s × AllByRecursion (JoinsInto t) parts
join_after-joined None parts t is = absurd cc
join_after-joined (Some s) [] t is = (s, refl, inl (some_is s t is), tt)
join_after-joined (Some s) (kind ∷ parts) t is =
    let rest = join_after-joined (on_cells (join_of s) kind) parts t is in
    let here = asked (join_of s) kind rest.0 rest.1 in
    let both = join-cases (is_same_type s here.0) (is_number s && is_number here.0) s here.0 rest.0 refl refl here.1 in
    (s, refl, joined-through s rest.0 t both.0 rest.2, ((here.0, here.2, joined-through here.0 rest.0 t both.1 rest.2), rest.3))

-- the cells of operands join into those of their common type
pub joined-each : (parts : List Kind) (t : CellType) → join_of_all parts ≡ Some t → AllByRecursion (JoinsInto t) parts
joined-each [] t is = absurd cc
joined-each (kind ∷ parts) t is =
    let all = join_after-joined (cell_type_in kind) parts t is in
    let here = asked Some kind all.0 all.1 in
    ((here.0, here.2, joined-through here.0 all.0 t (inl (some_is here.0 all.0 here.1)) all.2), all.3)

-- ---- one atom each

pub atoms-each : (parts : List Kind) (atoms : List Atom) → atoms_of_all parts ≡ Some atoms → AllZip (λ part atom. HasCellType (types.Atom atom) part) parts atoms
atoms-each [] atoms is = let e = some_is [] atoms is in subst (AllZip (λ part atom. HasCellType (types.Atom atom) part) []) e tt
atoms-each (kind ∷ parts) atoms is =
    let one = with_atom-ok (cell_type_in kind) (atoms_of_all parts) atoms is in
    let here = asked Some kind (types.Atom one.0) one.2 in
    subst (AllZip (λ part atom. HasCellType (types.Atom atom) part) (kind ∷ parts)) one.4
    (subst (λ of. HasCellType of kind) (some_is here.0 (types.Atom one.0) here.1) here.2, atoms-each parts one.1 one.3)
