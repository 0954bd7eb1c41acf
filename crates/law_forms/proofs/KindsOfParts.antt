-- The kind of a form, and the kinds of its parts: one lemma for each form whose rule doesn't compute to it.
use Rattle.std.proofs.Common.{◌≡◌, ℕ, ℤ, pos, ◌≤ℤ◌, Bool, true, false, Option, Some, None, List, [], ◌∷◌, ◌++◌, refl, sym, ap, subst, ◌∙◌, arith}
use Rattle.std.proofs.lemmas.Int.{ints}
use Rattle.std.specs.Prelude.{◌==◌, ◌&&◌, Ok, int_lt, slice_get, unsigned_abs, if◌then◌else◌}
use Rattle.std.specs.List.{list_all, AllByRecursion}
use Rattle.std.proofs.lemmas.Bool.{and_parts, eqb-true, false≢true}
use Rattle.ras_cells.specs.declared.atom.Atom.{Atom}
use Rattle.ras_cells.specs.declared.cell.CellType.{CellType}
use Rattle.ras_cells.specs.declared.cell.CellType.TheVariants as types
use Rattle.ras_cells.specs.declared.numbers.Op1.{Op1}
use Rattle.ras_cells.specs.declared.numbers.Op2.{Op2}
use Rattle.ras_cells.specs.declared.numbers.Op2.TheVariants.{Overlay}
use Rattle.ras_syntax.specs.declared.expr.CellsFold.{CellsFold}
use Rattle.ras_syntax.specs.declared.expr.FoldOp.{FoldOp}
use Rattle.ras_syntax.specs.declared.typed.Kind.{Kind}
use Rattle.ras_syntax.specs.declared.typed.Kind.TheVariants.{Scalar, Array, Domain, Point}
use Rattle.ras_syntax.specs.declared.typed.CheckedSource.{CheckedSource}
use Rattle.spec_expressions.specs.Tree.{Tree, Form, Trees, Pairs, Axes, unary, cast, binary, index, component, choice, composite, condense, folded, concat}
use Rattle.spec_expressions.specs.Kinds.{type1_of, type2_of, cast_type, fold_type, cells_type, join_of, join_of_all, on_cells, on_array, on_scalar, type_of_both, is_condition, choice_type, all_equal, axes_of_arrays, operands_kind, unary_kind, cast_kind, binary_kind, composite_type, composite_kind, atoms_of_all, folded_kind, scalar_kind}
use Rattle.spec_expressions.specs.Check.{are_numbers, array_or_scalar_kind, bounds_are_static, choice_kind, component_type, concat_kind, count_of, cut_kind, is_array, is_axis, joined_arrays, kept_of, with_cell}
use Rattle.spec_expressions.specs.WellTyped.{Variables, HasKind, kind_in, kinds_in, firsts_in, seconds_in}
use Rattle.law_lists.proofs.Each.{append_all, each_passes, split_all}
use Rattle.law_shapes.proofs.FittingForms.{atom-given}
use Rattle.law_shapes.proofs.Outcomes.{same_ok, where_ok}
use Rattle.law_shapes.proofs.Rules.{HasCells, all_equal-first, ruled-ok, choice-cells, composite-cells}
use Rattle.law_forms.specs.FormKinds.{HasCellType, IsArrayWith, IsOperandOf, JoinsInto, UnaryKinds, CastKinds, AreArraysWhere, BinaryKinds, IndexKinds, ComponentKinds, ChoiceKinds, CompositeKinds, CondenseKinds, FoldedKinds, ConcatKinds, HasPartKinds}
use Rattle.law_forms.proofs.CellTypes.{some_is, has_cells, asked, spread_one, spread, joined-each, atoms-each}

-- ---- one operand

pub unary-kinds : (op : Op1) (part kind : Kind) → unary_kind op part ≡ Ok kind → UnaryKinds op part kind
unary-kinds op part kind is =
    let given : Option CellType = on_cells (type1_of op) part in
    let all = spread given (part ∷ []) kind is (λ cell e. let one = asked (type1_of op) part cell e in (has_cells one.0 part one.2, tt)) in
    let one = asked (type1_of op) part all.cell all.given_is in
    record { from = one.0; cell = all.cell; part_type = one.2; rule = one.1; kind_is = all.kind_is ∙ spread_one all.cell one.0 part one.2 }

cast-from : (to : Atom) (from cell : CellType) → cast_type to from ≡ Some cell → (atom : Atom) × (from ≡ types.Atom atom) × (cell ≡ types.Atom to)
cast-from to (types.Atom atom) cell is = (atom, refl, sym (some_is (types.Atom to) cell is))
cast-from to (types.Composite atoms) cell is = absurd cc

pub cast-kinds : (to : Atom) (part kind : Kind) → cast_kind to part ≡ Ok kind → CastKinds to part kind
cast-kinds to part kind is =
    let given : Option CellType = on_cells (cast_type to) part in
    let all = spread given (part ∷ []) kind is (λ cell e. let one = asked (cast_type to) part cell e in (has_cells one.0 part one.2, tt)) in
    let one = asked (cast_type to) part all.cell all.given_is in
    let from = cast-from to one.0 all.cell one.1 in
    record {
      from = from.0;
      part_type = subst (λ of. HasCellType of part) from.1 one.2;
      kind_is = all.kind_is ∙ spread_one all.cell one.0 part one.2 ∙ ap (λ of. with_cell of part) from.2;
    }

-- ---- two operands

-- the types of two operands
record Pair (op : Op2) (a b : Kind) (cell : CellType) : Type 0 where
  left : CellType
  right : CellType
  left_type : HasCellType left a
  right_type : HasCellType right b
  rule : type2_of op left right ≡ Some cell

array-on : (f : CellType → Option CellType) (kind : Kind) (cell : CellType) → on_array f kind ≡ Some cell → (of : CellType) × (n : ℕ) × (kind ≡ Array of n) × (f of ≡ Some cell)
array-on f (Scalar of) cell is = absurd cc
array-on f (Array of n) cell is = (of, n, refl, is)
array-on f (Domain n) cell is = absurd cc
array-on f (Point n) cell is = absurd cc

array-type : (of : CellType) (n : ℕ) (kind : Kind) → kind ≡ Array of n → HasCellType of kind
array-type of n kind is = subst (HasCellType of) (sym is) refl

-- two arrays that stand as operands have equally many axes
equal-axes : (whole a b : Kind) (x y : CellType) (m n : ℕ) → a ≡ Array x m → b ≡ Array y n → IsOperandOf whole a → IsOperandOf whole b → IsArrayWith m a × IsArrayWith m b
equal-axes (Scalar cell) a b x y m n a_is b_is left right = absurd (subst (IsOperandOf (Scalar cell)) a_is left)
equal-axes (Array cell k) a b x y m n a_is b_is left right =
    let p : m ≡ k = subst (IsOperandOf (Array cell k)) a_is left in
    let q : n ≡ k = subst (IsOperandOf (Array cell k)) b_is right in
    ((x, a_is), (y, b_is ∙ ap (Array y) (q ∙ sym p)))
equal-axes (Domain k) a b x y m n a_is b_is left right = absurd (subst (IsOperandOf (Domain k)) a_is left)
equal-axes (Point k) a b x y m n a_is b_is left right = absurd (subst (IsOperandOf (Point k)) a_is left)

-- the types of the operands, and an overlay's arrays
pair-types : (op : Op2) (a b : Kind) (cell : CellType) → type_of_both op a b ≡ Some cell → Pair op a b cell
pair-types Overlay a b cell is =
    let x = array-on (λ x. on_array (join_of x) b) a cell is in
    let y = array-on (join_of x.0) b cell x.3 in
    record { left = x.0; right = y.0; left_type = array-type x.0 x.1 a x.2; right_type = array-type y.0 y.1 b y.2; rule = y.3 }
pair-types op a b cell is =
    let x = asked (λ x. on_cells (type2_of op x) b) a cell is in
    let y = asked (type2_of op x.0) b cell x.1 in
    record { left = x.0; right = y.0; left_type = x.2; right_type = y.2; rule = y.1 }

pair-arrays : (op : Op2) (a b kind : Kind) (cell : CellType) → type_of_both op a b ≡ Some cell → IsOperandOf kind a → IsOperandOf kind b → AreArraysWhere op a b
pair-arrays Overlay a b kind cell is left right =
    let x = array-on (λ x. on_array (join_of x) b) a cell is in
    let y = array-on (join_of x.0) b cell x.3 in
    let both = equal-axes kind a b x.0 y.0 x.1 y.1 x.2 y.2 left right in
    (x.1, both.0, both.1)
pair-arrays op a b kind cell is left right = tt

pub binary-kinds : (op : Op2) (a b kind : Kind) → binary_kind op a b ≡ Ok kind → BinaryKinds op a b kind
binary-kinds op a b kind is =
    let all = spread (type_of_both op a b) (a ∷ b ∷ []) kind is (λ cell e. let pair = pair-types op a b cell e in
    (has_cells pair.left a pair.left_type, (has_cells pair.right b pair.right_type, tt))) in
    let pair = pair-types op a b all.cell all.given_is in
    record {
      left = pair.left;
      right = pair.right;
      cell = all.cell;
      left_type = pair.left_type;
      right_type = pair.right_type;
      rule = pair.rule;
      left_axes = all.part_axes.0;
      right_axes = all.part_axes.1.0;
      kind_is = all.kind_is;
      overlaid = pair-arrays op a b kind all.cell all.given_is all.part_axes.0 all.part_axes.1.0;
    }

-- ---- indexes and components

pub index-kinds : (part : Kind) (cell : CellType) (n : ℕ) (axes : Axes) (kind : Kind) → part ≡ Array cell n → cut_kind cell n axes ≡ Ok kind → IndexKinds part axes kind
index-kinds part cell n axes kind part_is is =
    let rule = ruled-ok (are_numbers axes) (count_of axes == n) (bounds_are_static axes) (array_or_scalar_kind cell (kept_of axes)) kind is in
    record { cell = cell; n = n; part_is = part_is; count = eqb-true (count_of axes) n rule.1; numbers = rule.0; static = rule.2; kind_is = sym rule.3 }

-- a component that was found
not_before : (negative : Bool) (found : Option Atom) (atom : Atom) → (if negative then None else found) ≡ Some atom → (negative ≡ false) × (found ≡ Some atom)
not_before true found atom is = absurd cc
not_before false found atom is = (refl, is)

not_negative : (k : ℤ) → int_lt k (pos 0) ≡ false → pos 0 ≤ℤ k
not_negative k is = grind (arith, ints)

component-at : (part : Kind) (k : ℤ) (of cell : CellType) (kind : Kind) → HasCellType of part → component_type k of ≡ Some cell → kind ≡ with_cell cell part → ComponentKinds part k kind
component-at part k (types.Atom atom) cell kind type is kind_is = absurd cc
component-at part k (types.Composite atoms) cell kind type is kind_is =
    let one = atom-given (if int_lt k (pos 0) then None else slice_get atoms.items (unsigned_abs k)) cell is in
    let at = not_before (int_lt k (pos 0)) (slice_get atoms.items (unsigned_abs k)) one.0 one.1 in
    record {
      atoms = atoms;
      atom = one.0;
      part_type = type;
      not_negative = not_negative k at.0;
      found = at.1;
      kind_is = kind_is ∙ ap (λ t. with_cell t part) (sym one.2);
    }

pub component-kinds : (part : Kind) (k : ℤ) (cell : CellType) (kind : Kind) → on_cells (component_type k) part ≡ Some cell → kind ≡ with_cell cell part → ComponentKinds part k kind
component-kinds part k cell kind is kind_is =
    let one = asked (component_type k) part cell is in component-at part k one.0 cell kind one.2 one.1 kind_is

-- ---- cases and composite cells

chosen : (fits : Bool) (branches : List Kind) (cell : CellType) → (if fits then join_of_all branches else None) ≡ Some cell → (fits ≡ true) × (join_of_all branches ≡ Some cell)
chosen true branches cell is = (refl, is)
chosen false branches cell is = absurd cc

pub choice-kinds : (arms : Pairs) (other : Tree) (kind : Kind) → choice_kind (firsts_in arms) (seconds_in arms ++ kind_in other ∷ []) ≡ Ok kind → ChoiceKinds arms other kind
choice-kinds arms other kind is =
    let conditions : List Kind = firsts_in arms in
    let values : List Kind = seconds_in arms in
    let branches : List Kind = values ++ kind_in other ∷ [] in
    let all = spread (choice_type conditions branches) (conditions ++ branches) kind is
    (λ cell e. let cells = choice-cells conditions branches cell e in append_all (HasCells 0) conditions branches cells.0 cells.1) in
    let rule = chosen (list_all is_condition conditions) branches all.cell all.given_is in
    let types_are = split_all (JoinsInto all.cell) values (kind_in other ∷ []) (joined-each branches all.cell rule.1) in
    let axes = split_all (IsOperandOf kind) conditions branches all.part_axes in
    let branch_axes = split_all (IsOperandOf kind) values (kind_in other ∷ []) axes.1 in
    record {
      cell = all.cell;
      conditions = each_passes is_condition conditions rule.0;
      joined = rule.1;
      value_types = types_are.0;
      other_type = types_are.1.0;
      condition_axes = axes.0;
      value_axes = branch_axes.0;
      other_axes = branch_axes.1.0;
      kind_is = all.kind_is;
    }

pub composite-kinds : (es : Trees) (kind : Kind) → composite_kind (kinds_in es) ≡ Ok kind → CompositeKinds es kind
composite-kinds es kind is =
    let all = spread (composite_type (atoms_of_all (kinds_in es))) (kinds_in es) kind is (composite-cells (kinds_in es)) in
    composite-of es kind (atoms_of_all (kinds_in es)) all.cell refl all.given_is all.part_axes all.kind_is where
      composite-of : (es : Trees) (kind : Kind) (o : Option (List Atom)) (cell : CellType) → atoms_of_all (kinds_in es) ≡ o → composite_type o ≡ Some cell
          → AllByRecursion (IsOperandOf kind) (kinds_in es) → kind ≡ operands_kind cell (axes_of_arrays (kinds_in es)) → CompositeKinds es kind
      composite-of es kind None cell given is axes kind_is = absurd cc
      composite-of es kind (Some atoms) cell given is axes kind_is = record {
        atoms = atoms;
        part_types = atoms-each (kinds_in es) atoms given;
        part_axes = axes;
        kind_is = kind_is ∙ ap (λ of. operands_kind of (axes_of_arrays (kinds_in es))) (sym (some_is (types.Composite (record { items = atoms })) cell is));
      }

-- ---- folds and concats

scalar-on : (f : CellType → Option CellType) (kind : Kind) (cell : CellType) → on_scalar f kind ≡ Some cell → (of : CellType) × (kind ≡ Scalar of) × (f of ≡ Some cell)
scalar-on f (Scalar of) cell is = (of, refl, is)
scalar-on f (Array of n) cell is = absurd cc
scalar-on f (Domain n) cell is = absurd cc
scalar-on f (Point n) cell is = absurd cc

pub condense-kinds : (op : FoldOp) (part : Kind) (cell : CellType) (kind : Kind) → on_scalar (fold_type op) part ≡ Some cell → kind ≡ Scalar cell → CondenseKinds op part kind
condense-kinds op part cell kind is kind_is =
    let one = scalar-on (fold_type op) part cell is in record { from = one.0; cell = cell; part_is = one.1; rule = one.2; kind_is = kind_is }

scalar-given : (o : Option CellType) (kind : Kind) → scalar_kind o ≡ Ok kind → (cell : CellType) × (o ≡ Some cell) × (kind ≡ Scalar cell)
scalar-given None kind is = absurd cc
scalar-given (Some cell) kind is = (cell, refl, sym (same_ok (Scalar cell) kind is))

pub folded-kinds : (f : CellsFold) (part kind : Kind) → folded_kind f part ≡ Ok kind → FoldedKinds f part kind
folded-kinds f part kind is =
    let given = scalar-given (on_array (cells_type f) part) kind is in
    let one = array-on (cells_type f) part given.0 given.1 in
    record { from = one.0; n = one.1; cell = given.0; part_is = one.2; rule = one.3; kind_is = given.2 }

-- arrays of which the first has n axes, as all others have
arrays-of : (n : ℕ) (parts : List Kind) → AllByRecursion (λ part. is_array part ≡ true) parts → AllByRecursion (λ m. m ≡ n) (axes_of_arrays parts) → AllByRecursion (IsArrayWith n) parts
arrays-of n [] arrays equal = tt
arrays-of n (Scalar cell ∷ parts) arrays equal = absurd (false≢true arrays.0)
arrays-of n (Array cell m ∷ parts) arrays equal = ((cell, ap (Array cell) equal.0), arrays-of n parts arrays.1 equal.1)
arrays-of n (Domain m ∷ parts) arrays equal = absurd (false≢true arrays.0)
arrays-of n (Point m ∷ parts) arrays equal = absurd (false≢true arrays.0)

no_first : (n : ℕ) (ns : List ℕ) → [] ≡ n ∷ ns → ⊥
no_first n ns is = cc

concat-cases : (es : Trees) (along : ℤ) (kind : Kind) (ns : List ℕ) (o : Option CellType) → axes_of_arrays (kinds_in es) ≡ ns → join_of_all (kinds_in es) ≡ o
    → AllByRecursion (λ part. is_array part ≡ true) (kinds_in es) → joined_arrays along ns o ≡ Ok kind → ConcatKinds es along kind
concat-cases es along kind [] o axes_are joined arrays is = absurd cc
concat-cases es along kind (n ∷ ns) None axes_are joined arrays is = absurd cc
concat-cases es along kind (n ∷ ns) (Some cell) axes_are joined arrays is =
    let rule = ruled-ok true (all_equal (n ∷ ns) && is_axis along n) true (Array cell n) kind is in
    let both = and_parts (all_equal (n ∷ ns)) (is_axis along n) rule.1 in
    record {
      cell = cell;
      n = n;
      some = λ none. no_first n ns (sym (ap axes_of_arrays none) ∙ axes_are);
      arrays = arrays-of n (kinds_in es) arrays (subst (AllByRecursion (λ m. m ≡ n)) (sym axes_are) (all_equal-first n ns both.0));
      joined = joined;
      part_types = joined-each (kinds_in es) cell joined;
      on_axis = both.1;
      kind_is = sym rule.3;
    }

pub concat-kinds : (es : Trees) (along : ℤ) (kind : Kind) → concat_kind along (kinds_in es) ≡ Ok kind → ConcatKinds es along kind
concat-kinds es along kind is =
    let all = where_ok (list_all is_array (kinds_in es)) _ (joined_arrays along (axes_of_arrays (kinds_in es)) (join_of_all (kinds_in es))) kind is in
    concat-cases es along kind (axes_of_arrays (kinds_in es)) (join_of_all (kinds_in es)) refl refl (each_passes is_array (kinds_in es) all.0) all.1

-- ---- all forms

pub part-kinds : (sources : List CheckedSource) (variables : Variables) (kind : Kind) (form : Form) → HasKind sources variables kind form → HasPartKinds kind form
part-kinds sources variables kind (unary op e) typed = unary-kinds op (kind_in e) kind typed.1
part-kinds sources variables kind (cast to e) typed = cast-kinds to (kind_in e) kind typed.1
part-kinds sources variables kind (binary op a b) typed = binary-kinds op (kind_in a) (kind_in b) kind typed.2
part-kinds sources variables kind (index e axes) typed = index-kinds (kind_in e) typed.0 typed.1 axes kind typed.4 typed.5
part-kinds sources variables kind (component e k) typed = component-kinds (kind_in e) k typed.0 kind typed.2 typed.3
part-kinds sources variables kind (choice arms other) typed = choice-kinds arms other kind typed.2
part-kinds sources variables kind (composite es) typed = composite-kinds es kind typed.1
part-kinds sources variables kind (condense op x domain condition e) typed = condense-kinds op (kind_in e) typed.0 kind typed.4 typed.6
part-kinds sources variables kind (folded f e) typed = folded-kinds f (kind_in e) kind typed.1
part-kinds sources variables kind (concat es along) typed = concat-kinds es along kind typed.1
part-kinds sources variables kind other typed = tt
