-- The cells of each form are of its kind, where those of its parts are of theirs.
use Rattle.std.proofs.Common.{◌≡◌, ℕ, ℤ, Bool, true, false, List, [], ◌∷◌, ◌++◌, sym, ap, subst}
use Rattle.std.specs.Prelude.{◌==◌, Option, Some, None, Ok, if◌then◌else◌}
use Rattle.ras_cells.specs.declared.atom.Atom.{Atom}
use Rattle.ras_cells.specs.declared.cell.Cell.{Cell}
use Rattle.ras_cells.specs.declared.cell.Cell.TheVariants.{Null}
use Rattle.ras_cells.specs.declared.cell.CellType.{CellType}
use Rattle.ras_cells.specs.declared.cell.CellType.TheVariants as types
use Rattle.ras_cells.specs.declared.cell.CellFault.TheVariants.{IndexOut}
use Rattle.ras_cells.specs.declared.numbers.Op1.{Op1}
use Rattle.ras_cells.specs.declared.numbers.Op2.{Op2}
use Rattle.ras_cells.specs.Cells.{applied1, applied2, cast_to}
use Rattle.ras_cells.specs.Laws.{IsCellOf}
use Rattle.ras_cells.specs.Outcomes.{◌>>=◌}
use Rattle.ras_cells.specs.Stored.{atoms_of}
use Rattle.ras_cells.proofs.Results.{IsOfAtom-cast_to}
use Rattle.ras_syntax.specs.declared.span.Span.{Span}
use Rattle.ras_syntax.specs.declared.typed.Kind.{Kind}
use Rattle.ras_syntax.specs.declared.typed.Kind.TheVariants as kinds
use Rattle.spec_expressions.specs.Tree.{NameOf, Tree, Trees, Pairs, Axes, node, unary, cast, binary, index, at_point, component, choice, composite, no_trees, trees, no_pairs, pairs}
use Rattle.spec_expressions.specs.WellTyped.{kind_in, kinds_in, firsts_in, seconds_in}
use Rattle.spec_expressions.specs.Kinds.{on_cells, type1_of, cast_type, type_of_both, unary_kind, cast_kind, binary_kind, choice_type, composite_type, atoms_of_all, composite_kind}
use Rattle.spec_expressions.specs.Check.{are_numbers, array_or_scalar_kind, bounds_are_static, choice_kind, component_type, count_of, cut_kind, kept_of, with_cell}
use Rattle.spec_expressions.specs.Shape.{Box, Shape, scalar, array, box, box_of, shape_of}
use Rattle.spec_expressions.specs.Eval.{CellOutcome, Environment, cell_at, cell_in, cells_at, chosen_cell, component_of, composite_of, domains_in, box_in, holds, point_of, positions_at}
use Rattle.ras_domain.specs.Region.{is_in, IsIn}
use Rattle.spec_expressions.specs.Fits.{IsCellOfKind, IsPointOf}
use Rattle.law_shapes.proofs.Outcomes.{bind_ok, same_ok, where_ok}
use Rattle.ras_domain.proofs.BoxTests.{IsIn-is_in}
use Rattle.law_shapes.proofs.Operands.{IsPointOf-part}
use Rattle.law_shapes.proofs.Parts.{AreParts, ArePairParts, at_point-parts, binary-parts, choice-parts, composite-parts}
use Rattle.law_shapes.proofs.Rules.{ruled-ok}
use Rattle.law_shapes.proofs.ArrayParts.{index-parts}
use Rattle.law_cells.proofs.Types.{TakesCells, takes-kind, induced-takes, kind-cells, applied1-typed, binary-typed, some_same, into_same}
use Rattle.law_cells.proofs.Components.{AreCellsOf, GoInto, choice-into, component-typed, composite-typed, with_cell-takes}
use Rattle.law_cells.proofs.Scopes.{either_branch}

-- each cell that the expression has is of its kind
abbrev pub IsTyped : Environment → Tree → Type 0
IsTyped scope e =
    (shape : Shape) (p : List ℤ) (c : Cell) → shape_of (domains_in scope) e ≡ Ok shape → IsPointOf shape p → cell_at scope e p ≡ Ok c → IsCellOfKind (kind_in e) c

-- ---- kinds and points

pub to_scalar : (t : CellType) (kind : Kind) (c : Cell) → kind ≡ kinds.Scalar t → IsCellOf (atoms_of t) c → IsCellOfKind kind c
to_scalar t kind c same h = subst (λ k. IsCellOfKind k c) (sym same) h

pub to_array : (t : CellType) (n : ℕ) (kind : Kind) (c : Cell) → kind ≡ kinds.Array t n → IsCellOf (atoms_of t) c → IsCellOfKind kind c
to_array t n kind c same h = subst (λ k. IsCellOfKind k c) (sym same) h

pub from_scalar : (t : CellType) (kind : Kind) (c : Cell) → kind ≡ kinds.Scalar t → IsCellOfKind kind c → IsCellOf (atoms_of t) c
from_scalar t kind c same h = subst (λ k. IsCellOfKind k c) same h

pub from_array : (t : CellType) (n : ℕ) (kind : Kind) (c : Cell) → kind ≡ kinds.Array t n → IsCellOfKind kind c → IsCellOf (atoms_of t) c
from_array t n kind c same h = subst (λ k. IsCellOfKind k c) same h

-- a point of the box is a point of the shape
pub point_in : (s : Shape) (p : List ℤ) → IsIn p (box_of s) → IsPointOf s p
point_in scalar p within = tt
point_in (array axes) p within = within
point_in (box axes) p within = tt

-- ---- operations

pub unary-typed : (scope : Environment) (span : Span) (kind : Kind) (op : Op1) (e : Tree) → unary_kind op (kind_in e) ≡ Ok kind → IsTyped scope (node span kind (unary op e))
unary-typed scope span kind op e rule shape p c shaped at is =
    let t = induced-takes (on_cells (type1_of op) (kind_in e)) (kind_in e ∷ []) kind rule in
    let s = kind-cells (type1_of op) (kind_in e) t.0 t.1 in
    let x = bind_ok (cell_at scope e p) (applied1 op) c is in
    t.2 c (applied1-typed op s.0 t.0 x.0 c s.1 x.2)

cast-is : (atom : Atom) (s t : CellType) → cast_type atom s ≡ Some t → types.Atom atom ≡ t
cast-is atom (types.Atom from) t h = some_same (types.Atom atom) t h
cast-is atom (types.Composite as_) t h = absurd cc

pub cast-typed : (scope : Environment) (span : Span) (kind : Kind) (atom : Atom) (e : Tree) → cast_kind atom (kind_in e) ≡ Ok kind → IsTyped scope (node span kind (cast atom e))
cast-typed scope span kind atom e rule shape p c shaped at is =
    let t = induced-takes (on_cells (cast_type atom) (kind_in e)) (kind_in e ∷ []) kind rule in
    let s = kind-cells (cast_type atom) (kind_in e) t.0 t.1 in
    let x = bind_ok (cell_at scope e p) (cast_to atom) c is in
    t.2 c (into_same (types.Atom atom) t.0 (cast-is atom s.0 t.0 s.1) c (IsOfAtom-cast_to atom x.0 c x.2))

pub binary_cells-typed : (scope : Environment) (span : Span) (kind : Kind) (op : Op2) (a b : Tree) → IsTyped scope a → IsTyped scope b
    → binary_kind op (kind_in a) (kind_in b) ≡ Ok kind → IsTyped scope (node span kind (binary op a b))
binary_cells-typed scope span kind op a b left right rule shape p c shaped at is =
    let parts = binary-parts (domains_in scope) span kind op a b shape shaped in
    let t = induced-takes (type_of_both op (kind_in a) (kind_in b)) (kind_in a ∷ kind_in b ∷ []) kind rule in
    let x = bind_ok (cell_at scope a p) (λ x. cell_at scope b p >>= λ y. applied2 op x y) c is in
    let y = bind_ok (cell_at scope b p) (λ y. applied2 op x.0 y) c x.2 in
    t.2 c (binary-typed op (kind_in a) (kind_in b) t.0 x.0 y.0 c t.1
    (left parts.left p x.0 parts.left_is (IsPointOf-part parts.left shape p parts.left_part at) x.1)
    (right parts.right p y.0 parts.right_is (IsPointOf-part parts.right shape p parts.right_part at) y.1) y.2)

-- ---- looking at an array's cell

cell_in-typed : (scope : Environment) (e : Tree) (t : CellType) (n : ℕ) (whole : Shape) (q : Option (List ℤ)) (c : Cell) → IsTyped scope e → kind_in e ≡ kinds.Array t n
    → shape_of (domains_in scope) e ≡ Ok whole → cell_in (box_in (shape_of (domains_in scope) e)) (cell_at scope e) q ≡ Ok c → IsCellOf (atoms_of t) c
cell_in-typed scope e t n whole None c each kind_is whole_is is = subst (λ r. IsCellOf (atoms_of t) r) (same_ok Null c is) tt
cell_in-typed scope e t n whole (Some q) c each kind_is whole_is is =
    let axes : Box = box_in (shape_of (domains_in scope) e) in
    let found = where_ok (is_in q axes) IndexOut (cell_at scope e q) c is in
    let same : axes ≡ box_of whole = ap box_in whole_is in
    from_array t n (kind_in e) c kind_is
    (each whole q c whole_is (point_in whole q (subst (IsIn q) same ((IsIn-is_in q axes).0 found.0))) found.1)

array_or_scalar-takes : (t : CellType) (n : ℕ) (none : Bool) → TakesCells t (if none then kinds.Scalar t else kinds.Array t n)
array_or_scalar-takes t n true c h = h
array_or_scalar-takes t n false c h = h

pub index-typed : (scope : Environment) (span : Span) (kind : Kind) (e : Tree) (axes : Axes) (t : CellType) (n : ℕ) → IsTyped scope e → kind_in e ≡ kinds.Array t n
    → cut_kind t n axes ≡ Ok kind → IsTyped scope (node span kind (index e axes))
index-typed scope span kind e axes t n each kind_is rule shape p c shaped at is =
    let parts = index-parts (domains_in scope) span kind e axes shape shaped in
    let q = bind_ok (positions_at scope axes p) (cell_in (box_in (shape_of (domains_in scope) e)) (cell_at scope e)) c is in
    takes-kind t (array_or_scalar_kind t (kept_of axes)) kind
    (ruled-ok (are_numbers axes) (count_of axes == n) (bounds_are_static axes) (array_or_scalar_kind t (kept_of axes)) kind rule).3
    (array_or_scalar-takes t (kept_of axes) (kept_of axes == 0)) c
    (cell_in-typed scope e t n parts.whole q.0 c each kind_is parts.whole_is q.2)

pub at_point-typed : (scope : Environment) (span : Span) (kind : Kind) (e : Tree) (x : NameOf) (t : CellType) (n : ℕ) → IsTyped scope e → kind_in e ≡ kinds.Array t n
    → kind ≡ kinds.Scalar t → IsTyped scope (node span kind (at_point e x))
at_point-typed scope span kind e x t n each kind_is rule shape p c shaped at is =
    let parts = at_point-parts (domains_in scope) span kind e x shape shaped in
    to_scalar t kind c rule (cell_in-typed scope e t n parts.0.0 (point_of scope x) c each kind_is parts.0.1 is)

-- ---- components and composites

pub component_cells-typed : (scope : Environment) (span : Span) (kind : Kind) (e : Tree) (k : ℤ) (t : CellType) → IsTyped scope e
    → on_cells (component_type k) (kind_in e) ≡ Some t → kind ≡ with_cell t (kind_in e) → IsTyped scope (node span kind (component e k))
component_cells-typed scope span kind e k t each found rule shape p c shaped at is =
    let s = kind-cells (component_type k) (kind_in e) t found in
    let x = bind_ok (cell_at scope e p) (λ x. component_of x k) c is in
    takes-kind t (with_cell t (kind_in e)) kind (sym rule) (with_cell-takes t (kind_in e)) c
    (component-typed k s.0 t x.0 c s.1 (s.2 x.0 (each shape p x.0 shaped at x.1)) x.2)

-- each of the expressions
abbrev pub AreTyped : Environment → Trees → Type 0
AreTyped scope no_trees = Unit {0}
AreTyped scope (trees e es) = IsTyped scope e × AreTyped scope es

cells-typed : (scope : Environment) (es : Trees) (whole : Shape) (p : List ℤ) (cells : List Cell) → AreTyped scope es → AreParts (domains_in scope) whole es
    → IsPointOf whole p → cells_at scope es p ≡ Ok cells → AreCellsOf (kinds_in es) cells
cells-typed scope no_trees whole p cells each parts at is = subst (AreCellsOf []) (same_ok [] cells is) tt
cells-typed scope (trees e es) whole p cells each parts at is =
    let x = bind_ok (cell_at scope e p) (λ x. cells_at scope es p >>= λ xs. Ok (x ∷ xs)) cells is in
    let xs = bind_ok (cells_at scope es p) (λ xs. Ok (x.0 ∷ xs)) cells x.2 in
    subst (AreCellsOf (kinds_in (trees e es))) (same_ok (x.0 ∷ xs.0) cells xs.2) (
      each.0 parts.0.0 p x.0 parts.0.1 (IsPointOf-part parts.0.0 whole p parts.0.2 at) x.1,
      cells-typed scope es whole p xs.0 each.1 parts.1 at xs.1,
    )

pub composite_cells-typed : (scope : Environment) (span : Span) (kind : Kind) (es : Trees) → AreTyped scope es → composite_kind (kinds_in es) ≡ Ok kind
    → IsTyped scope (node span kind (composite es))
composite_cells-typed scope span kind es each rule shape p c shaped at is =
    let parts = composite-parts (domains_in scope) span kind es shape shaped in
    let t = induced-takes (composite_type (atoms_of_all (kinds_in es))) (kinds_in es) kind rule in
    let cells = bind_ok (cells_at scope es p) (λ cells. Ok (composite_of cells)) c is in
    t.2 c (subst (λ r. IsCellOf (atoms_of t.0) r) (same_ok (composite_of cells.0) c cells.2)
    (composite-typed (kinds_in es) cells.0 t.0 t.1 (cells-typed scope es shape p cells.0 each parts.parts at cells.1)))

-- ---- cases

-- each of the branches
abbrev pub AreBranchesTyped : Environment → Pairs → Type 0
AreBranchesTyped scope no_pairs = Unit {0}
AreBranchesTyped scope (pairs a b ps) = IsTyped scope b × AreBranchesTyped scope ps

chosen-typed : (scope : Environment) (t : CellType) (whole : Shape) (p : List ℤ) (arms : Pairs) (other : CellOutcome) (last : Kind) (c : Cell)
    → AreBranchesTyped scope arms → ArePairParts (domains_in scope) whole arms → IsPointOf whole p → GoInto t (seconds_in arms ++ last ∷ [])
    → (other ≡ Ok c → IsCellOfKind last c) → chosen_cell scope arms p other ≡ Ok c → IsCellOf (atoms_of t) c
chosen-typed scope t whole p no_pairs other last c each parts at into otherwise is = into.0 c (otherwise is)
chosen-typed scope t whole p (pairs a b ps) other last c each parts at into otherwise is =
    let x = bind_ok (cell_at scope a p) (λ x. if holds x then cell_at scope b p else chosen_cell scope ps p other) c is in
    either_branch (holds x.0) (cell_at scope b p) (chosen_cell scope ps p other) (Ok c) x.2
    (λ here. into.0 c (each.0 parts.1.0 p c parts.1.1 (IsPointOf-part parts.1.0 whole p parts.1.2 at) here))
    (λ later. chosen-typed scope t whole p ps other last c each.1 parts.2 at into.1 otherwise later)

pub choice-typed : (scope : Environment) (span : Span) (kind : Kind) (arms : Pairs) (other : Tree) → AreBranchesTyped scope arms → IsTyped scope other
    → choice_kind (firsts_in arms) (seconds_in arms ++ kind_in other ∷ []) ≡ Ok kind → IsTyped scope (node span kind (choice arms other))
choice-typed scope span kind arms other each last rule shape p c shaped at is =
    let parts = choice-parts (domains_in scope) span kind arms other shape shaped in
    let branches : List Kind = seconds_in arms ++ kind_in other ∷ [] in
    let t = induced-takes (choice_type (firsts_in arms) branches) (firsts_in arms ++ branches) kind rule in
    t.2 c (chosen-typed scope t.0 shape p arms (cell_at scope other p) (kind_in other) c each parts.arms_parts at
    (choice-into (firsts_in arms) branches t.0 t.1)
    (λ gives. last parts.last p c parts.last_is (IsPointOf-part parts.last shape p parts.last_part at) gives) is)
