-- The kinds that the rules of the check give: a cell has a number at least, where those of its parts have. Braces hold a part at
-- least, and a declared type has an atom.
use Rattle.std.proofs.Common.{◌≡◌, ℕ, ◌≤◌, ℤ, Bool, true, false, ◌&&◌, ◌==◌, if◌then◌else◌, List, [], ◌∷◌, ◌++◌, length, Option, Some, None, Ok, refl, subst, ◌∙◌, arith}
use Rattle.std.specs.Prelude.{slice_get, unsigned_abs, int_lt, pos}
use Rattle.std.specs.List.{AllByRecursion, list_all}
use Rattle.ras_cells.specs.declared.atom.Atom.{Atom}
use Rattle.ras_cells.specs.declared.cell.CellType.{CellType}
use Rattle.ras_cells.specs.declared.cell.CellType.TheVariants as types
use Rattle.ras_cells.specs.declared.numbers.Op1.{Op1}
use Rattle.ras_cells.specs.declared.numbers.Op1.TheVariants as one
use Rattle.ras_cells.specs.declared.numbers.Op2.{Op2}
use Rattle.ras_cells.specs.declared.numbers.Op2.TheVariants as two
use Rattle.ras_cells.specs.Stored.{atoms_of}
use Rattle.ras_syntax.specs.declared.expr.CellsFold.{CellsFold}
use Rattle.ras_syntax.specs.declared.expr.CellsFold.TheVariants as cells
use Rattle.ras_syntax.specs.declared.expr.FoldOp.{FoldOp}
use Rattle.ras_syntax.specs.declared.expr.FoldOp.TheVariants as folds
use Rattle.ras_syntax.specs.declared.expr.Part.{Part}
use Rattle.ras_syntax.specs.declared.expr.Part.TheVariants as components
use Rattle.ras_syntax.specs.declared.typed.CheckedSource.{CheckedSource}
use Rattle.ras_syntax.specs.declared.typed.Kind.{Kind}
use Rattle.ras_syntax.specs.declared.typed.Kind.TheVariants as kinds
use Rattle.ras_syntax.specs.declared.typed.TypedExpr.{TypedExpr}
use Rattle.spec_expressions.specs.Check.{CheckedDomain, array_over, atom_type, choice_kind, component_kind, component_type, concat_kind, condense_kind, cut_kind, element_kind, extend_kind, index_kind, is_array, is_axis, is_test, joined_arrays, kept_of, named_part, numbered_part, oid_kind, on_axis, part_kind, scalar_over, sdom_kind, shift_kind, with_cell}
use Rattle.spec_expressions.specs.Kinds.{all_equal, array_cell, atoms_of_all, axes_of_arrays, binary_kind, bool_type, both_bools, both_numbers, cast_kind, cast_type, cell_type_in, cells_type, choice_type, common_kind, composite_kind, composite_type, fold_type, folded_kind, is_bool, is_condition, is_number, is_same_type, join_after, join_of, join_of_all, on_array, on_both, on_cells, on_scalar, operands_kind, scalar_kind, some_where, type1_of, type2_of, type_of_both, unary_kind, wide_type}
use Rattle.spec_expressions.specs.Names.{names_of, place_among}
use Rattle.spec_expressions.specs.Tree.{Axes, Tree, domain_of, interval_of, no_axes, node, number, position}
use Rattle.spec_expressions.specs.WellTyped.{kind_in}
use Rattle.law_shapes.proofs.Outcomes.{same_ok, where_ok}
use Rattle.law_shapes.proofs.Rules.{composite-given, induced-ok, ruled-ok, some_where-ok, with_atom-ok}

-- ---- types and kinds

abbrev pub IsWide : CellType → Type 0
IsWide type = 1 ≤ length (atoms_of type)

abbrev pub IsWideKind : Kind → Type 0
IsWideKind (kinds.Scalar type) = IsWide type
IsWideKind (kinds.Array type n) = IsWide type
IsWideKind (kinds.Domain n) = Unit {0}
IsWideKind (kinds.Point n) = Unit {0}

pub some_same : {A : Type 0} {x y : A} → Some x ≡ Some y → x ≡ y
some_same is = cc

atom-wide : (atom : Atom) (type : CellType) → types.Atom atom ≡ type → IsWide type
atom-wide atom type is = subst IsWide is (omega arith)

given-wide : (test : Bool) (atom : Atom) (type : CellType) → some_where test (types.Atom atom) ≡ Some type → IsWide type
given-wide test atom type is = atom-wide atom type (some_where-ok test (types.Atom atom) type is).1

number-wide : (type : CellType) → is_number type ≡ true → IsWide type
number-wide (types.Atom atom) is = omega arith
number-wide (types.Composite atoms) is = absurd cc

bool-wide : (type : CellType) → is_bool type ≡ true → IsWide type
bool-wide (types.Atom atom) is = omega arith
bool-wide (types.Composite atoms) is = absurd cc

-- a number's own type
kept-wide : (a type : CellType) → some_where (is_number a) a ≡ Some type → IsWide type
kept-wide a type is = let both = some_where-ok (is_number a) a type is in subst IsWide both.1 (number-wide a both.0)

type1-wide : (op : Op1) (a type : CellType) → type1_of op a ≡ Some type → IsWide type
type1-wide one.Neg a type is = given-wide (is_number a) _ type is
type1-wide one.Abs a type is = given-wide (is_number a) _ type is
type1-wide one.Not a type is = given-wide (is_bool a) _ type is

join-wide : (a b type : CellType) → join_of a b ≡ Some type → IsWide a → IsWide type
join-wide a b type is wide = at (is_same_type a b) is
  where
    at : (same : Bool) → (if same then Some a else some_where (is_number a && is_number b) wide_type) ≡ Some type → IsWide type
    at true is = subst IsWide (some_same is) wide
    at false is = given-wide (is_number a && is_number b) _ type is

compared-wide : (t : Bool) (a b type : CellType) → (if t then both_bools a b else both_numbers a b bool_type) ≡ Some type → IsWide type
compared-wide true a b type is = given-wide (is_bool a && is_bool b) _ type is
compared-wide false a b type is = given-wide (is_number a && is_number b) _ type is

type2-wide : (op : Op2) (a b type : CellType) → type2_of op a b ≡ Some type → IsWide a → IsWide type
type2-wide two.Add a b type is wide = given-wide (is_number a && is_number b) _ type is
type2-wide two.Sub a b type is wide = given-wide (is_number a && is_number b) _ type is
type2-wide two.Mul a b type is wide = given-wide (is_number a && is_number b) _ type is
type2-wide two.Div a b type is wide = given-wide (is_number a && is_number b) _ type is
type2-wide two.Mod a b type is wide = given-wide (is_number a && is_number b) _ type is
type2-wide two.Eq a b type is wide = compared-wide (is_bool a) a b type is
type2-wide two.Ne a b type is wide = compared-wide (is_bool a) a b type is
type2-wide two.And a b type is wide = given-wide (is_bool a && is_bool b) _ type is
type2-wide two.Or a b type is wide = given-wide (is_bool a && is_bool b) _ type is
type2-wide two.Xor a b type is wide = given-wide (is_bool a && is_bool b) _ type is
type2-wide two.Overlay a b type is wide = join-wide a b type is wide
type2-wide op a b type is wide = given-wide (is_number a && is_number b) _ type is

cast-wide : (to : Atom) (a type : CellType) → cast_type to a ≡ Some type → IsWide type
cast-wide to (types.Atom atom) type is = atom-wide to type (some_same is)
cast-wide to (types.Composite atoms) type is = absurd cc

fold-wide : (op : FoldOp) (a type : CellType) → fold_type op a ≡ Some type → IsWide type
fold-wide folds.Plus a type is = given-wide (is_number a) _ type is
fold-wide folds.Times a type is = given-wide (is_number a) _ type is
fold-wide folds.Min a type is = kept-wide a type is
fold-wide folds.Max a type is = kept-wide a type is
fold-wide folds.And a type is = given-wide (is_bool a) _ type is
fold-wide folds.Or a type is = given-wide (is_bool a) _ type is

cells-wide : (f : CellsFold) (a type : CellType) → cells_type f a ≡ Some type → IsWide type
cells-wide cells.Add a type is = given-wide (is_number a) _ type is
cells-wide cells.Min a type is = kept-wide a type is
cells-wide cells.Max a type is = kept-wide a type is
cells-wide cells.Count a type is = given-wide (is_bool a) _ type is
cells-wide cells.AnyTrue a type is = given-wide (is_bool a) _ type is
cells-wide cells.AllTrue a type is = given-wide (is_bool a) _ type is

-- what is asked of the cells of a kind
on_cells-wide : (f : CellType → Option CellType) (kind : Kind) (type : CellType) → on_cells f kind ≡ Some type → IsWideKind kind
    → ((a : CellType) → f a ≡ Some type → IsWide a → IsWide type) → IsWide type
on_cells-wide f (kinds.Scalar a) type is wide gives = gives a is wide
on_cells-wide f (kinds.Array a n) type is wide gives = gives a is wide
on_cells-wide f (kinds.Domain n) type is wide gives = absurd cc
on_cells-wide f (kinds.Point n) type is wide gives = absurd cc

on_any-wide : (f : CellType → Option CellType) (kind : Kind) (type : CellType) → on_cells f kind ≡ Some type → ((a : CellType) → f a ≡ Some type → IsWide type) → IsWide type
on_any-wide f (kinds.Scalar a) type is gives = gives a is
on_any-wide f (kinds.Array a n) type is gives = gives a is
on_any-wide f (kinds.Domain n) type is gives = absurd cc
on_any-wide f (kinds.Point n) type is gives = absurd cc

on_array-wide : (f : CellType → Option CellType) (kind : Kind) (type : CellType) → on_array f kind ≡ Some type → IsWideKind kind
    → ((a : CellType) → f a ≡ Some type → IsWide a → IsWide type) → IsWide type
on_array-wide f (kinds.Scalar a) type is wide gives = absurd cc
on_array-wide f (kinds.Array a n) type is wide gives = gives a is wide
on_array-wide f (kinds.Domain n) type is wide gives = absurd cc
on_array-wide f (kinds.Point n) type is wide gives = absurd cc

pub on_scalar-wide : (f : CellType → Option CellType) (kind : Kind) (type : CellType) → on_scalar f kind ≡ Some type → IsWideKind kind
    → ((a : CellType) → f a ≡ Some type → IsWide a → IsWide type) → IsWide type
on_scalar-wide f (kinds.Scalar a) type is wide gives = gives a is wide
on_scalar-wide f (kinds.Array a n) type is wide gives = absurd cc
on_scalar-wide f (kinds.Domain n) type is wide gives = absurd cc
on_scalar-wide f (kinds.Point n) type is wide gives = absurd cc

pub itself-wide : (a type : CellType) → Some a ≡ Some type → IsWide a → IsWide type
itself-wide a type is wide = subst IsWide (some_same is) wide

-- ---- rules

operands-wide : (type : CellType) (ns : List ℕ) → IsWide type → IsWideKind (operands_kind type ns)
operands-wide type [] wide = wide
operands-wide type (n ∷ ns) wide = wide

common-wide : (given : Option CellType) (operands : List Kind) (kind : Kind) → common_kind given operands ≡ Ok kind
    → ((type : CellType) → given ≡ Some type → IsWide type) → IsWideKind kind
common-wide given operands kind is gives =
    let rule = induced-ok given operands kind is in subst IsWideKind rule.3 (operands-wide rule.0 (axes_of_arrays operands) (gives rule.0 rule.1))

pub unary-wide : (op : Op1) (a kind : Kind) → unary_kind op a ≡ Ok kind → IsWideKind kind
unary-wide op a kind is =
    common-wide (on_cells (type1_of op) a) (a ∷ []) kind is (λ type given. on_any-wide (type1_of op) a type given (λ x found. type1-wide op x type found))

pub casted-wide : (to : Atom) (a kind : Kind) → cast_kind to a ≡ Ok kind → IsWideKind kind
casted-wide to a kind is =
    common-wide (on_cells (cast_type to) a) (a ∷ []) kind is (λ type given. on_any-wide (cast_type to) a type given (λ x found. cast-wide to x type found))

both-wide : (f : CellType → CellType → Option CellType) (a b : Kind) (type : CellType) → ((x y : CellType) → f x y ≡ Some type → IsWide x → IsWide type)
    → on_both f a b ≡ Some type → IsWideKind a → IsWide type
both-wide f a b type gives is wide =
    on_cells-wide (λ x. on_cells (f x) b) a type is wide (λ x found some. on_any-wide (f x) b type found (λ y last. gives x y last some))

operator-wide : (op : Op2) (a b : Kind) (type : CellType) → type_of_both op a b ≡ Some type → IsWideKind a → IsWide type
operator-wide two.Overlay a b type is wide =
    on_array-wide (λ x. on_array (join_of x) b) a type is wide (λ x found some. overlaid x found some)
  where
    overlaid : (x : CellType) → on_array (join_of x) b ≡ Some type → IsWide x → IsWide type
    overlaid x found some = at b found
      where
        at : (b : Kind) → on_array (join_of x) b ≡ Some type → IsWide type
        at (kinds.Scalar y) found = absurd cc
        at (kinds.Array y n) found = join-wide x y type found some
        at (kinds.Domain n) found = absurd cc
        at (kinds.Point n) found = absurd cc
operator-wide op a b type is wide = both-wide (type2_of op) a b type (λ x y found some. type2-wide op x y type found some) is wide

pub binary-wide : (op : Op2) (a b kind : Kind) → binary_kind op a b ≡ Ok kind → IsWideKind a → IsWideKind kind
binary-wide op a b kind is wide = common-wide (type_of_both op a b) (a ∷ b ∷ []) kind is (λ type given. operator-wide op a b type given wide)

join_after-wide : (given : Option CellType) (operands : List Kind) (type : CellType) → join_after given operands ≡ Some type
    → ((a : CellType) → given ≡ Some a → IsWide a) → IsWide type
join_after-wide None operands type is wide = absurd cc
join_after-wide (Some a) [] type is wide = itself-wide a type is (wide a refl)
join_after-wide (Some a) (kind ∷ operands) type is wide =
    join_after-wide (on_cells (join_of a) kind) operands type is (λ b found. on_any-wide (join_of a) kind b found (λ c joined. join-wide a c b joined (wide a refl)))

join_of_all-wide : (operands : List Kind) (type : CellType) → join_of_all operands ≡ Some type → AllByRecursion IsWideKind operands → IsWide type
join_of_all-wide [] type is wide = absurd cc
join_of_all-wide (kind ∷ operands) type is wide =
    join_after-wide (cell_type_in kind) operands type is (λ a found. on_cells-wide Some kind a found wide.0 (λ b same. itself-wide b a same))

pub choice-wide : (conditions branches : List Kind) (kind : Kind) → choice_kind conditions branches ≡ Ok kind → AllByRecursion IsWideKind branches → IsWideKind kind
choice-wide conditions branches kind is wide =
    common-wide (choice_type conditions branches) (conditions ++ branches) kind is (λ type given. at (list_all is_condition conditions) type given)
  where
    at : (b : Bool) (type : CellType) → (if b then join_of_all branches else None) ≡ Some type → IsWide type
    at true type given = join_of_all-wide branches type given wide
    at false type given = absurd cc

pub composite-wide : (first : Kind) (operands : List Kind) (kind : Kind) → composite_kind (first ∷ operands) ≡ Ok kind → IsWideKind kind
composite-wide first operands kind is =
    common-wide (composite_type (atoms_of_all (first ∷ operands))) (first ∷ operands) kind is (λ type given.
    let made = composite-given (atoms_of_all (first ∷ operands)) type given in
    let parts = with_atom-ok (cell_type_in first) (atoms_of_all operands) made.0 made.1 in
    subst (λ atoms. 1 ≤ length atoms) (parts.4 ∙ made.2) (omega arith))

pub folded-wide : (f : CellsFold) (a kind : Kind) → folded_kind f a ≡ Ok kind → IsWideKind kind
folded-wide f a kind is = at (on_array (cells_type f) a) refl is
  where
    from : (a : Kind) (type : CellType) → on_array (cells_type f) a ≡ Some type → IsWide type
    from (kinds.Scalar x) type found = absurd cc
    from (kinds.Array x n) type found = cells-wide f x type found
    from (kinds.Domain n) type found = absurd cc
    from (kinds.Point n) type found = absurd cc

    at : (given : Option CellType) → on_array (cells_type f) a ≡ given → scalar_kind given ≡ Ok kind → IsWideKind kind
    at None found is = absurd cc
    at (Some type) found is = subst IsWideKind (same_ok (kinds.Scalar type) kind is) (from a type found)

-- ---- indexes, parts and domains

chosen-wide : (flat : Bool) (type : CellType) (n : ℕ) → IsWide type → IsWideKind (if flat then kinds.Scalar type else kinds.Array type n)
chosen-wide true type n wide = wide
chosen-wide false type n wide = wide

cut-wide : (type : CellType) (n : ℕ) (axes : Axes) (kind : Kind) → cut_kind type n axes ≡ Ok kind → IsWide type → IsWideKind kind
cut-wide type n axes kind is wide = subst IsWideKind (ruled-ok _ _ _ _ _ is).3 (chosen-wide (kept_of axes == 0) type (kept_of axes) wide)

element-wide : (type : CellType) (n : ℕ) (axes : Axes) (kind : Kind) → element_kind type n axes ≡ Ok kind → IsWide type → IsWideKind kind
element-wide type n (position (node span (kinds.Point m) form) no_axes) kind is wide = subst IsWideKind (ruled-ok true (m == n) true (kinds.Scalar type) kind is).3 wide
element-wide type n axes kind is wide = cut-wide type n axes kind is wide

axis-wide : (named : Kind) (n : ℕ) (axes : Axes) (kind : Kind) → on_axis named n axes ≡ Ok kind → IsWideKind named → IsWideKind kind
axis-wide named n (position (node s k (number z atom)) no_axes) kind is wide = subst IsWideKind (ruled-ok true _ true named kind is).3 wide
axis-wide named n other kind is wide = absurd cc

pub index-wide : (e : Tree) (axes : Axes) (kind : Kind) → index_kind e axes ≡ Ok kind → IsWideKind (kind_in e) → IsWideKind kind
index-wide (node s (kinds.Point n) form) axes kind is wide = axis-wide (kinds.Scalar wide_type) n axes kind is (omega arith)
index-wide (node s (kinds.Domain n) (domain_of e)) axes kind is wide = axis-wide (kinds.Domain 1) n axes kind is tt
index-wide (node s (kinds.Array type n) form) axes kind is wide = element-wide type n axes kind is wide
index-wide e axes kind is wide = absurd cc

with_cell-wide : (type : CellType) (kind : Kind) → IsWide type → IsWideKind (with_cell type kind)
with_cell-wide type (kinds.Scalar old) wide = wide
with_cell-wide type (kinds.Array old n) wide = wide
with_cell-wide type (kinds.Domain n) wide = wide
with_cell-wide type (kinds.Point n) wide = wide

component-wide : (k : ℤ) (a type : CellType) → component_type k a ≡ Some type → IsWide type
component-wide k (types.Atom atom) type is = absurd cc
component-wide k (types.Composite atoms) type is = at (if int_lt k (pos 0) then None else slice_get atoms.items (unsigned_abs k)) is
  where
    at : (found : Option Atom) → atom_type found ≡ Some type → IsWide type
    at None is = absurd cc
    at (Some atom) is = atom-wide atom type (some_same is)

numbered-wide : (kind : Kind) (k : ℤ) (found : Kind × Part) → numbered_part kind k ≡ Ok found → IsWideKind found.0
numbered-wide kind k found is = at (on_cells (component_type k) kind) refl is
  where
    at : (given : Option CellType) → on_cells (component_type k) kind ≡ given → component_kind kind k given ≡ Ok found → IsWideKind found.0
    at None of is = absurd cc
    at (Some type) of is =
        subst (λ (p : Kind × Part). IsWideKind p.0) (same_ok (with_cell type kind, components.Numbered k) found is)
        (with_cell-wide type kind (on_any-wide (component_type k) kind type of (λ a given. component-wide k a type given)))

named-wide : (kind : Kind) (place : Option ℕ) (found : Kind × Part) → named_part kind place ≡ Ok found → IsWideKind found.0
named-wide kind None found is = absurd cc
named-wide kind (Some place) found is = numbered-wide kind (pos place) found is

pub part-wide : (sources : List CheckedSource) (e : Tree) (part : Part) (found : Kind × Part) → part_kind sources e part ≡ Ok found → IsWideKind found.0
part-wide sources (node s kind (interval_of e k)) (components.Named name) found is =
    let known = where_ok _ _ (Ok (kinds.Scalar wide_type, components.Named name)) found is in
    subst (λ (p : Kind × Part). IsWideKind p.0) (same_ok (kinds.Scalar wide_type, components.Named name) found known.1) (omega arith)
part-wide sources (node s kind (interval_of e k)) (components.Numbered z) found is = numbered-wide kind z found is
part-wide sources (node s kind form) (components.Named name) found is = named-wide kind (place_among name (names_of sources (node s kind form))) found is
part-wide sources (node s kind form) (components.Numbered z) found is = numbered-wide kind z found is

pub over-wide : (domain : CheckedDomain) (axes_fit : Bool) (given : Option CellType) (kind : Kind) → array_over domain axes_fit given ≡ Ok kind
    → ((type : CellType) → given ≡ Some type → IsWide type) → IsWideKind kind
over-wide domain axes_fit None kind is wide = absurd cc
over-wide domain axes_fit (Some type) kind is wide = subst IsWideKind (ruled-ok _ _ _ _ _ is).3 (wide type refl)

scalar-wide : (domain : CheckedDomain) (given : Option CellType) (kind : Kind) → scalar_over domain given ≡ Ok kind
    → ((type : CellType) → given ≡ Some type → IsWide type) → IsWideKind kind
scalar-wide domain None kind is wide = absurd cc
scalar-wide domain (Some type) kind is wide = subst IsWideKind (ruled-ok _ _ _ _ _ is).3 (wide type refl)

on_scalar-any : (f : CellType → Option CellType) (kind : Kind) (type : CellType) → on_scalar f kind ≡ Some type → ((a : CellType) → f a ≡ Some type → IsWide type) → IsWide type
on_scalar-any f (kinds.Scalar a) type is gives = gives a is
on_scalar-any f (kinds.Array a n) type is gives = absurd cc
on_scalar-any f (kinds.Domain n) type is gives = absurd cc
on_scalar-any f (kinds.Point n) type is gives = absurd cc

pub condense-wide : (op : FoldOp) (domain : CheckedDomain) (condition : Option TypedExpr) (e kind : Kind) → condense_kind op domain condition e ≡ Ok kind → IsWideKind kind
condense-wide op domain condition e kind is =
    scalar-wide domain (on_scalar (fold_type op) e) kind (where_ok (is_test condition) _ _ kind is).1
    (λ type found. on_scalar-any (fold_type op) e type found (λ a given. fold-wide op a type given))

pub shift-wide : (e : Kind) (offsets : List TypedExpr) (kind : Kind) → shift_kind e offsets ≡ Ok kind → IsWideKind e → IsWideKind kind
shift-wide (kinds.Array type n) offsets kind is wide = subst IsWideKind (ruled-ok _ _ _ _ _ is).3 wide
shift-wide (kinds.Scalar type) offsets kind is wide = absurd cc
shift-wide (kinds.Domain n) offsets kind is wide = absurd cc
shift-wide (kinds.Point n) offsets kind is wide = absurd cc

pub extend-wide : (e : Kind) (domain : CheckedDomain) (kind : Kind) → extend_kind e domain ≡ Ok kind → IsWideKind e → IsWideKind kind
extend-wide e domain kind is wide =
    over-wide domain _ (array_cell e) kind is (λ type found. on_array-wide Some e type found wide (λ a same. itself-wide a type same))

pub concat-wide : (along : ℤ) (parts : List Kind) (kind : Kind) → concat_kind along parts ≡ Ok kind → AllByRecursion IsWideKind parts → IsWideKind kind
concat-wide along parts kind is wide = joined (axes_of_arrays parts) (join_of_all parts) refl (where_ok (list_all is_array parts) _ _ kind is).1
  where
    joined : (ns : List ℕ) (given : Option CellType) → join_of_all parts ≡ given → joined_arrays along ns given ≡ Ok kind → IsWideKind kind
    joined [] given of is = absurd cc
    joined (n ∷ ns) None of is = absurd cc
    joined (n ∷ ns) (Some type) of is = subst IsWideKind (ruled-ok true (all_equal (n ∷ ns) && is_axis along n) true (kinds.Array type n) kind is).3 (join_of_all-wide parts type of wide)

pub sdom-wide : (e kind : Kind) → sdom_kind e ≡ Ok kind → IsWideKind kind
sdom-wide (kinds.Array type n) kind is = subst IsWideKind (same_ok (kinds.Domain n) kind is) tt
sdom-wide (kinds.Scalar type) kind is = absurd cc
sdom-wide (kinds.Domain n) kind is = absurd cc
sdom-wide (kinds.Point n) kind is = absurd cc

pub oid-wide : (variable : Option ℕ) (found : Option (ℕ × CheckedSource)) (kind : Kind) → oid_kind variable found ≡ Ok kind → IsWideKind kind
oid-wide None (Some found) kind is = subst IsWideKind (same_ok (kinds.Scalar wide_type) kind is) (omega arith)
oid-wide None None kind is = absurd cc
oid-wide (Some n) found kind is = absurd cc
