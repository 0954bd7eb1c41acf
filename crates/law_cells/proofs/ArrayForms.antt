-- The cells of forms that make, fold or move arrays are of their kind, where those of their parts are of theirs.
use Rattle.std.proofs.Common.{◌≡◌, ℕ, ℤ, Bool, true, false, List, [], ◌∷◌, map, length, All, refl, sym, ap, subst}
use Rattle.std.specs.Prelude.{neg_ℤ, Option, Some, Ok, unsigned_abs, if◌then◌else◌}
use Rattle.std.specs.List.{list_all}
use Rattle.ras_cells.specs.declared.atom.Atom.TheVariants as atoms
use Rattle.ras_cells.specs.declared.cell.Cell.{Cell}
use Rattle.ras_cells.specs.declared.cell.Cell.TheVariants.{Null}
use Rattle.ras_cells.specs.declared.cell.CellType.{CellType}
use Rattle.ras_cells.specs.Atoms.{IsInRange}
use Rattle.ras_cells.specs.Cells.{single}
use Rattle.ras_cells.specs.Laws.{IsCellOf, IsOfAtom}
use Rattle.ras_cells.specs.Stored.{atoms_of}
use Rattle.ras_cells.proofs.Ranges.{IsInRange-Wide}
use Rattle.ras_domain.specs.Region.{HasSmallBounds, IsIn, points_of, is_in}
use Rattle.ras_domain.specs.Boxes.{moved_by, shifted_by}
use Rattle.ras_syntax.specs.declared.expr.FoldOp.{FoldOp}
use Rattle.ras_syntax.specs.declared.expr.CellsFold.{CellsFold}
use Rattle.ras_syntax.specs.declared.span.Span.{Span}
use Rattle.ras_syntax.specs.declared.faults.CheckFault.TheVariants.{TypeMismatch}
use Rattle.ras_syntax.specs.declared.typed.Kind.{Kind}
use Rattle.ras_syntax.specs.declared.typed.Kind.TheVariants as kinds
use Rattle.spec_expressions.specs.Tree.{NameOf, Side, Tree, Trees, Domain, Condition, node, marray, condense, folded, shift, extend, concat, bound_of, no_trees, trees, bounds, domain_like, always, only_where}
use Rattle.spec_expressions.specs.WellTyped.{kind_in, kinds_in}
use Rattle.spec_expressions.specs.Kinds.{axes_of_arrays, cells_type, fold_type, folded_kind, join_of_all, on_array, on_scalar, wide_type}
use Rattle.spec_expressions.specs.Check.{concat_kind, is_array, joined_arrays}
use Rattle.spec_expressions.specs.Shape.{Box, Shape, scalar, array, box, box_of, placed_parts, shape_of, static_form, width_of_kind}
use Rattle.spec_expressions.specs.Fold.{cells_fold_of, fold_of}
use Rattle.spec_expressions.specs.Eval.{CellOutcome, Environment, box_in, cell_at, domains_in, holds, moved_between, part_cell, where_true, with_point, zeros}
use Rattle.spec_expressions.specs.Fits.{IsPointOf, IsShapeOf, IsSound}
use Rattle.law_shapes.proofs.Outcomes.{bind_ok, same_ok, where_ok}
use Rattle.ras_domain.proofs.BoxTests.{IsIn-is_in}
use Rattle.law_shapes.proofs.SmallBounds.{Long-IsIn}
use Rattle.law_shapes.proofs.Cuts.{IsBoxOf}
use Rattle.law_shapes.proofs.Fitting.{AreOfKinds}
use Rattle.law_shapes.proofs.FittingArrays.{concat-kinds, concat-lengths, one_cell-ok, joined-ok}
use Rattle.law_shapes.proofs.Moves.{LeadTo, LeadTo-placed_parts}
use Rattle.law_shapes.proofs.Parts.{AreShapesOf, folded-parts}
use Rattle.law_shapes.proofs.Sound.{bound_of-small, shape-sound}
use Rattle.law_shapes.proofs.SoundBoxes.{firm-intervals}
use Rattle.law_shapes.proofs.ArrayParts.{concat-parts, condense-parts, extend-parts, marray-parts, shift-parts}
use Rattle.law_cells.proofs.Types.{array-cells, kind-cells}
use Rattle.law_cells.proofs.Folds.{cells_fold_of-typed, fold_of-typed}
use Rattle.law_cells.proofs.Components.{GoInto, join_of_all-into, zeros-typed}
use Rattle.law_cells.proofs.Scopes.{either_branch}
use Rattle.law_cells.proofs.Forms.{AreTyped, IsTyped, from_array, from_scalar, point_in, to_array, to_scalar}

-- ---- arrays and folds over a variable

-- what is a scalar has the empty point
scalar_point : (kind : Kind) (t : CellType) (s : Shape) → kind ≡ kinds.Scalar t → IsShapeOf kind s → IsPointOf s []
scalar_point kind t s same fits = of_scalar t s (subst (λ k. IsShapeOf k s) same fits) where
  of_scalar : (t : CellType) (s : Shape) → IsShapeOf (kinds.Scalar t) s → IsPointOf s []
  of_scalar t scalar fits = tt
  of_scalar t (array axes) fits = absurd fits
  of_scalar t (box axes) fits = absurd fits

-- the body for each point with coordinates of 32 bits
abbrev pub IsBodyTyped : Environment → NameOf → Tree → Type 0
IsBodyTyped scope x e = (p : List ℤ) → All (IsInRange atoms.Long) p → IsTyped (with_point x p scope) e

-- the shapes of an expression fit its kind
abbrev pub AreOfKind : Environment → Tree → Type 0
AreOfKind scope e = (s : Shape) → shape_of (domains_in scope) e ≡ Ok s → IsShapeOf (kind_in e) s

-- the written box has bounds of 32 bits
abbrev pub HasSmallBox : Environment → Domain → Type 0
HasSmallBox scope domain = (axes : Box) → IsBoxOf (domains_in scope) domain axes → All HasSmallBounds axes

pub marray-typed : (scope : Environment) (span : Span) (kind : Kind) (x : NameOf) (domain : Domain) (e : Tree) (t : CellType) (n : ℕ) → HasSmallBox scope domain
    → AreOfKind scope e → IsBodyTyped scope x e → kind_in e ≡ kinds.Scalar t → kind ≡ kinds.Array t n → IsTyped scope (node span kind (marray x domain e))
marray-typed scope span kind x domain e t n small of_kind body kind_is rule shape p c shaped at is =
    let parts = marray-parts (domains_in scope) span kind x domain e shape shaped in
    let within : IsIn p parts.axes = subst (λ s. IsPointOf s p) parts.shape_is at in
    let inner = parts.body in
    to_array t n kind c rule (from_scalar t (kind_in e) c kind_is
    (body p (Long-IsIn p parts.axes within (small parts.axes parts.domain_parts.is_box)) inner.0 [] c inner.1
    (scalar_point (kind_in e) t inner.0 kind_is (of_kind inner.0 inner.1)) is))

scalar-fold : (f : CellType → Option CellType) (kind : Kind) (t : CellType) → on_scalar f kind ≡ Some t → (s : CellType) × (f s ≡ Some t) × (kind ≡ kinds.Scalar s)
scalar-fold f (kinds.Scalar s) t h = (s, h, refl)
scalar-fold f (kinds.Array s n) t h = absurd cc
scalar-fold f (kinds.Domain n) t h = absurd cc
scalar-fold f (kinds.Point n) t h = absurd cc

-- where the condition isn't true, the outcome is null
where_true-typed : (scope : Environment) (t : CellType) (condition : Condition) (outcome : CellOutcome) (c : Cell) → (outcome ≡ Ok c → IsCellOf (atoms_of t) c)
    → where_true scope condition outcome ≡ Ok c → IsCellOf (atoms_of t) c
where_true-typed scope t always outcome c each is = each is
where_true-typed scope t (only_where test) outcome c each is =
    let x = bind_ok (cell_at scope test []) (λ x. if holds x then outcome else Ok Null) c is in
    either_branch (holds x.0) outcome (Ok Null) (Ok c) x.2 each (λ null. subst (λ r. IsCellOf (atoms_of t) r) (same_ok Null c null) tt)

pub condense-typed : (scope : Environment) (span : Span) (kind : Kind) (op : FoldOp) (x : NameOf) (domain : Domain) (condition : Condition) (e : Tree) (t : CellType)
    → HasSmallBox scope domain → AreOfKind scope e → IsBodyTyped scope x e → on_scalar (fold_type op) (kind_in e) ≡ Some t → kind ≡ kinds.Scalar t
    → IsTyped scope (node span kind (condense op x domain condition e))
condense-typed scope span kind op x domain condition e t small of_kind body fold_is rule shape p c shaped at is =
    let parts = condense-parts (domains_in scope) span kind op x domain condition e shape shaped in
    let s = scalar-fold (fold_type op) (kind_in e) t fold_is in
    let inner = parts.body in
    let outcome : List ℤ → CellOutcome = λ q. where_true (with_point x q scope) condition (cell_at (with_point x q scope) e []) in
    let over : fold_of op (map outcome (points_of parts.axes)) ≡ Ok c =
    subst (λ axes. fold_of op (map outcome (points_of axes)) ≡ Ok c) parts.domain_parts.axes_is is in
    to_scalar t kind c rule
    (fold_of-typed op s.0 t parts.axes outcome c s.1
    (λ q d within gives. where_true-typed (with_point x q scope) s.0 condition (cell_at (with_point x q scope) e []) d
    (λ here. from_scalar s.0 (kind_in e) d s.2
    (body q (Long-IsIn q parts.axes within (small parts.axes parts.domain_parts.is_box)) inner.0 [] d inner.1
    (scalar_point (kind_in e) s.0 inner.0 s.2 (of_kind inner.0 inner.1)) here)) gives)
    over)

pub folded_cells-typed : (scope : Environment) (span : Span) (kind : Kind) (f : CellsFold) (e : Tree) → IsTyped scope e → folded_kind f (kind_in e) ≡ Ok kind
    → IsTyped scope (node span kind (folded f e))
folded_cells-typed scope span kind f e each rule shape p c shaped at is =
    let parts = folded-parts (domains_in scope) span kind f e shape shaped in
    let inner = parts.0 in
    let t = one_cell-ok (on_array (cells_type f) (kind_in e)) kind rule in
    let s = kind-cells (cells_type f) (kind_in e) t.0 (array-cells (cells_type f) (kind_in e) t.0 t.1) in
    let over : cells_fold_of f (map (cell_at scope e) (points_of (box_of inner.0))) ≡ Ok c =
    subst (λ axes. cells_fold_of f (map (cell_at scope e) (points_of axes)) ≡ Ok c) (ap box_in inner.1) is in
    to_scalar t.0 kind c t.2
    (cells_fold_of-typed f s.0 t.0 (box_of inner.0) (cell_at scope e) c s.1
    (λ q d within gives. s.2 d (each inner.0 q d inner.1 (point_in inner.0 q within) gives)) over)

-- ---- arrays that are moved

pub shift-typed : (scope : Environment) (span : Span) (kind : Kind) (e : Tree) (offsets : Trees) (t : CellType) (n : ℕ) → IsTyped scope e → kind_in e ≡ kinds.Array t n
    → kind ≡ kinds.Array t n → IsTyped scope (node span kind (shift e offsets))
shift-typed scope span kind e offsets t n each kind_is rule shape p c shaped at is =
    let parts = shift-parts (domains_in scope) span kind e offsets shape shaped in
    let within : IsIn p (shifted_by parts.by (box_of parts.inner)) = subst (λ s. IsPointOf s p) parts.shape_is at in
    let here : cell_at scope e (moved_by (map neg_ℤ parts.by) p) ≡ Ok c =
    subst (λ by. cell_at scope e (moved_by (map neg_ℤ by) p) ≡ Ok c) parts.offsets_are is in
    to_array t n kind c rule (from_array t n (kind_in e) c kind_is
    (each parts.inner (moved_by (map neg_ℤ parts.by) p) c parts.inner_is (point_in parts.inner (moved_by (map neg_ℤ parts.by) p) (parts.moves p within)) here))

-- within the box the cell, and zeros around it
in_or_out : (scope : Environment) (e : Tree) (kind : Kind) (t : CellType) (n : ℕ) (inner : Shape) (p : List ℤ) (c : Cell) (inside : Bool) → IsTyped scope e
    → kind_in e ≡ kinds.Array t n → kind ≡ kinds.Array t n → shape_of (domains_in scope) e ≡ Ok inner → is_in p (box_of inner) ≡ inside
    → (if inside then cell_at scope e p else Ok (zeros (width_of_kind kind))) ≡ Ok c → IsCellOf (atoms_of t) c
in_or_out scope e kind t n inner p c true each kind_is rule inner_is found is =
    from_array t n (kind_in e) c kind_is (each inner p c inner_is (point_in inner p ((IsIn-is_in p (box_of inner)).0 found)) is)
in_or_out scope e kind t n inner p c false each kind_is rule inner_is found is =
    let filled : zeros (length (atoms_of t)) ≡ c = subst (λ k. zeros (width_of_kind k) ≡ c) rule (same_ok (zeros (width_of_kind kind)) c is) in
    subst (λ r. IsCellOf (atoms_of t) r) filled (zeros-typed t)

pub extend-typed : (scope : Environment) (span : Span) (kind : Kind) (e : Tree) (domain : Domain) (t : CellType) (n : ℕ) → IsTyped scope e → kind_in e ≡ kinds.Array t n
    → kind ≡ kinds.Array t n → IsTyped scope (node span kind (extend e domain))
extend-typed scope span kind e domain t n each kind_is rule shape p c shaped at is =
    let parts = extend-parts (domains_in scope) span kind e domain shape shaped in
    let tested : (if is_in p (box_of parts.inner) then cell_at scope e p else Ok (zeros (width_of_kind kind))) ≡ Ok c =
    subst (λ axes. (if is_in p axes then cell_at scope e p else Ok (zeros (width_of_kind kind))) ≡ Ok c) (ap box_in parts.inner_is) is in
    to_array t n kind c rule
    (in_or_out scope e kind t n parts.inner p c (is_in p (box_of parts.inner)) each kind_is rule parts.inner_is refl tested)

-- ---- concat

-- the parts' cells are cells of their common type
concat-into : (along : ℤ) (operands : List Kind) (kind : Kind) → concat_kind along operands ≡ Ok kind → (t : CellType) × (n : ℕ) × GoInto t operands × (kind ≡ kinds.Array t n)
concat-into along operands kind h =
    let tested = where_ok (list_all is_array operands) TypeMismatch (joined_arrays along (axes_of_arrays operands) (join_of_all operands)) kind h in
    let is = joined-ok along (axes_of_arrays operands) (join_of_all operands) kind tested.1 in
    (is.0, is.1, join_of_all-into operands is.0 is.2, is.3)

part_cell-typed : (scope : Environment) (t : CellType) (parts : Trees) (shapes : List Shape) (places : List Box) (p : List ℤ) (c : Cell) → AreTyped scope parts
    → AreShapesOf (domains_in scope) parts shapes → LeadTo (map box_of shapes) places → GoInto t (kinds_in parts)
    → part_cell scope parts (map box_of shapes) places p ≡ Ok c → IsCellOf (atoms_of t) c
part_cell-typed scope t no_trees shapes places p c each shaped lead into is = absurd cc
part_cell-typed scope t (trees e es) [] places p c each shaped lead into is = absurd shaped
part_cell-typed scope t (trees e es) (s ∷ shapes) [] p c each shaped lead into is = absurd lead
part_cell-typed scope t (trees e es) (s ∷ shapes) (place ∷ places) p c each shaped lead into is =
    tested (is_in p place) refl is
    (λ found gives. into.0 c (each.0 s (moved_between place (box_of s) p) c shaped.0 (point_in s (moved_between place (box_of s) p) (lead.0 p ((IsIn-is_in p place).0 found))) gives))
    (λ later. part_cell-typed scope t es shapes places p c each.1 shaped.1 lead.1 into.1 later) where
      tested : (inside : Bool) → is_in p place ≡ inside → (if inside then cell_at scope e (moved_between place (box_of s) p) else part_cell scope es (map box_of shapes)
          places p) ≡ Ok c → (is_in p place ≡ true → cell_at scope e (moved_between place (box_of s) p) ≡ Ok c → IsCellOf (atoms_of t) c)
          → (part_cell scope es (map box_of shapes) places p ≡ Ok c → IsCellOf (atoms_of t) c) → IsCellOf (atoms_of t) c
      tested true found is here later = here found is
      tested false found is here later = later is

pub concat-typed : (scope : Environment) (span : Span) (kind : Kind) (parts : Trees) (along : ℤ) → AreTyped scope parts
    → ((xs : List Shape) → AreShapesOf (domains_in scope) parts xs → AreOfKinds (kinds_in parts) xs) → concat_kind along (kinds_in parts) ≡ Ok kind
    → IsTyped scope (node span kind (concat parts along))
concat-typed scope span kind parts along each of_kind rule shape p c shaped at is =
    let n : ℕ = unsigned_abs along in
    let found = concat-parts (domains_in scope) span kind parts along shape shaped in
    let like = concat-kinds along (kinds_in parts) kind rule in
    let lead = LeadTo-placed_parts n like.axes (map box_of found.shapes) (concat-lengths along (kinds_in parts) kind found.shapes like (of_kind found.shapes found.each)) in
    let t = concat-into along (kinds_in parts) kind rule in
    let here : part_cell scope parts (map box_of found.shapes) (placed_parts n (map box_of found.shapes)) p ≡ Ok c =
    subst (λ owns. part_cell scope parts owns (placed_parts n owns) p ≡ Ok c) found.owns_are is in
    to_array t.0 t.1 kind c t.3
    (part_cell-typed scope t.0 parts found.shapes (placed_parts n (map box_of found.shapes)) p c each found.each lead t.2 here)

-- ---- bounds and written boxes

pub bound_of-typed : (scope : Environment) (span : Span) (kind : Kind) (side : Side) (e : Tree) (k : ℤ) → All IsSound (domains_in scope) → kind ≡ kinds.Scalar wide_type
    → IsTyped scope (node span kind (bound_of side e k))
bound_of-typed scope span kind side e k sound rule shape p c shaped at is =
    let z = bind_ok (static_form (domains_in scope) (bound_of side e k)) (λ z. Ok (single z)) c is in
    to_scalar wide_type kind c rule
    (subst (IsOfAtom atoms.Wide) (same_ok (single z.0) c z.2)
    (IsInRange-Wide atoms.Long z.0 (bound_of-small (domains_in scope) side e k z.0 sound z.1), tt))

pub small-box : (scope : Environment) (domain : Domain) → All IsSound (domains_in scope) → HasSmallBox scope domain
small-box scope (bounds ps) sound axes is = (firm-intervals (domains_in scope) ps axes is).small_bounds
small-box scope (domain_like e) sound axes is =
    subst (All HasSmallBounds) (sym is.2) (shape-sound (domains_in scope) e is.0 sound is.1).small_bounds
