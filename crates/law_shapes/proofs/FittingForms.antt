-- Each form's shape fits its kind where the shapes of its parts fit theirs.
use Rattle.std.proofs.Common.{◌≡◌, ℕ, zero, suc, ◌*◌, ◌≤◌, ℤ, pos, Bool, true, false, Ok, Option, Some, None, List, [], ◌∷◌, ◌++◌, length, All, refl, sym, ap, subst, ◌∙◌, arith}
use Rattle.std.specs.Prelude.{slice_get, unsigned_abs, if◌then◌else◌, ◌==◌, int_lt}
use Rattle.std.specs.List.{AllByRecursion}
use Rattle.std.proofs.Math.Nat.{mul-le-mul_left, mul-le-mul_right}
use Rattle.std.proofs.lemmas.Bool.{eqb-true}
use Rattle.std.proofs.lemmas.Bool.Decides.{nat_tests}
use Rattle.std.proofs.lemmas.List.Elements.{All-nil, All-cons}
use Rattle.ras_cells.specs.declared.atom.Atom.{Atom}
use Rattle.ras_cells.specs.declared.cell.CellType.{CellType}
use Rattle.ras_cells.specs.declared.cell.CellType.TheVariants as types
use Rattle.ras_cells.specs.declared.numbers.Op2.{Op2}
use Rattle.ras_cells.specs.Stored.{atoms_of}
use Rattle.ras_domain.specs.declared.TheConstants.{MAX_POINTS}
use Rattle.ras_domain.specs.Region.{IsRegion, volume_of}
use Rattle.ras_syntax.specs.declared.span.Span.{Span}
use Rattle.ras_syntax.specs.declared.typed.CheckedSource.{CheckedSource}
use Rattle.ras_syntax.specs.declared.typed.Kind.{Kind}
use Rattle.ras_syntax.specs.declared.typed.Kind.TheVariants.{Scalar, Array, Domain, Point}
use Rattle.spec_expressions.specs.Tree.{Tree, Trees, Pairs, Axes, no_pairs, pairs, no_axes, position, trim}
use Rattle.spec_expressions.specs.Kinds.{on_cells, axes_of_arrays, operands_kind, common_kind, type_of_both, binary_kind, choice_type, composite_kind, composite_type, atoms_of_all}
use Rattle.spec_expressions.specs.Check.{iterator_kind, count_of, kept_of, cut_kind, are_numbers, bounds_are_static, array_or_scalar_kind as kind_of_kept, choice_kind, component_type, atom_type, with_cell}
use Rattle.spec_expressions.specs.WellTyped.{kind_in, kinds_in, firsts_in, seconds_in}
use Rattle.spec_expressions.specs.Shape.{Box, Shape, scalar, array, box, box_of, iterator_shape, width_of_kind, array_or_scalar_shape}
use Rattle.spec_expressions.specs.Fits.{IsSound, AreDomainsOf, IsShapeOf}
use Rattle.ras_domain.proofs.BoxTests.{volume_of-points}
use Rattle.law_shapes.proofs.Cuts.{AreCut}
use Rattle.law_shapes.proofs.Parts.{BinaryParts, ChoiceParts, CompositeParts}
use Rattle.law_shapes.proofs.Rules.{ruled-ok, induced-ok, HasCells, binary-cells, choice-cells, composite-cells}
use Rattle.law_shapes.proofs.Fitting.{AreOfKinds, HasAxes, HasNumbers, AreSame, numbers-size, fits-spread, width-spread, numbers-one, axes-one, numbers-common, axes-common, axes-same}
use Rattle.law_shapes.proofs.SoundBoxes.{volume-cut}
use Rattle.law_lists.proofs.Each.{append_all, split_all}
use Rattle.law_shapes.proofs.ArrayParts.{IndexParts}

-- an equal shape fits an equal kind
pub fits-as : (kind other : Kind) (x y : Shape) → kind ≡ other → x ≡ y → IsShapeOf other y → IsShapeOf kind x
fits-as kind other x y same is fits = subst (λ k. IsShapeOf k x) (sym same) (subst (IsShapeOf other) (sym is) fits)

-- ---- arrays of the database

-- a region is sound
sound-region : (axes : Box) → IsRegion axes → IsSound axes
sound-region axes region = record { small_bounds = region.small_bounds; ordered = region.ordered; few_points = omega (arith, region.few_points, volume_of-points axes) }

-- the domains that sources go over are sound
pub sound-domains : (sources : List CheckedSource) (domains : List Box) → AreDomainsOf sources domains → All IsSound domains
sound-domains [] [] fits = All-nil IsSound
sound-domains [] (domain ∷ domains) fits = absurd fits
sound-domains (source ∷ sources) [] fits = absurd fits
sound-domains (source ∷ sources) (domain ∷ domains) fits =
    All-cons IsSound domain domains (sound-region domain fits.0) (sound-domains sources domains fits.3)

-- an iterator is an array of its source's type
pub fits-iterator : (sources : List CheckedSource) (domains : List Box) (place : ℕ) (source : CheckedSource) → AreDomainsOf sources domains
    → slice_get sources place ≡ Some source → IsShapeOf (iterator_kind source) (iterator_shape (slice_get domains place))
fits-iterator [] domains place source fits at = absurd cc
fits-iterator (s ∷ sources) [] place source fits at = absurd fits
fits-iterator (s ∷ sources) (domain ∷ domains) zero source fits at =
    let same : s ≡ source = cc in
    subst (λ t. IsShapeOf (iterator_kind t) (array domain)) same (fits.1, fits.2)
fits-iterator (s ∷ sources) (domain ∷ domains) (suc place) source fits at = fits-iterator sources domains place source fits.3 at

-- ---- operands

-- one operand, and two
pub fits-induced_one : (o : Option CellType) (kind whole : Kind) (x : Shape) → common_kind o (kind ∷ []) ≡ Ok whole
    → ((cell : CellType) → o ≡ Some cell → HasCells (length (atoms_of cell)) kind) → IsShapeOf kind x → IsShapeOf whole x
fits-induced_one o kind whole x is cells fits =
    let rule = induced-ok o (kind ∷ []) whole is in
    let here = cells rule.0 rule.1 in
    let w : ℕ = length (atoms_of rule.0) in
    subst (λ k. IsShapeOf k x) rule.3 (fits-spread rule.0 (axes_of_arrays (kind ∷ [])) x (axes-one w kind x here fits) (numbers-one w kind x here fits))

pub fits-binary : (domains : List Box) (span : Span) (op : Op2) (a b : Tree) (kind : Kind) (shape : Shape) → binary_kind op (kind_in a) (kind_in b) ≡ Ok kind
    → (parts : BinaryParts domains span a b shape)
    → IsShapeOf (kind_in a) parts.left → IsShapeOf (kind_in b) parts.right → IsShapeOf kind shape
fits-binary domains span op a b kind shape is parts left right =
    let operands : List Kind = kind_in a ∷ kind_in b ∷ [] in
    let shapes : List Shape = parts.left ∷ parts.right ∷ [] in
    let rule = induced-ok (type_of_both op (kind_in a) (kind_in b)) operands kind is in
    let w : ℕ = length (atoms_of rule.0) in
    let each = binary-cells op (kind_in a) (kind_in b) rule.0 rule.1 in
    let cells : AllByRecursion (HasCells w) operands = (each.0, (each.1, tt)) in
    let fit : AreOfKinds operands shapes = (left, (right, tt)) in
    subst (λ k. IsShapeOf k shape) rule.3
    (fits-spread rule.0 (axes_of_arrays operands) shape (axes-common w span operands shapes shape cells fit parts.common)
    (numbers-common w span operands shapes shape cells fit parts.common))

-- of a whole whose size was tested
fits-sized : (cell : CellType) (ns : List ℕ) (kind : Kind) (x : Shape) → operands_kind cell ns ≡ kind → HasAxes ns x → HasNumbers (width_of_kind kind) x → IsShapeOf kind x
fits-sized cell ns kind x is axes numbers =
    let width : width_of_kind kind ≡ length (atoms_of cell) = ap width_of_kind (sym is) ∙ width-spread cell ns in
    subst (λ k. IsShapeOf k x) is (fits-spread cell ns x axes (subst (λ w. HasNumbers w x) width numbers))

-- the components of a composite cell
pub fits-composite : (domains : List Box) (span : Span) (kind : Kind) (es : Trees) (shape : Shape) → composite_kind (kinds_in es) ≡ Ok kind
    → (parts : CompositeParts domains span (width_of_kind kind) es shape)
    → AreOfKinds (kinds_in es) parts.shapes → IsShapeOf kind shape
fits-composite domains span kind es shape is parts fit =
    let rule = induced-ok (composite_type (atoms_of_all (kinds_in es))) (kinds_in es) kind is in
    fits-sized rule.0 (axes_of_arrays (kinds_in es)) kind shape rule.3
    (axes-common 0 span (kinds_in es) parts.shapes shape (composite-cells (kinds_in es) rule.0 rule.1) fit parts.common)
    (numbers-size (width_of_kind kind) shape parts.size)

-- ---- a case

-- the kinds of a case's conditions and values, as they stand in the text
abbrev pub pair_kinds : Pairs → List Kind
pair_kinds no_pairs = []
pair_kinds (pairs a b ps) = kind_in a ∷ kind_in b ∷ pair_kinds ps

-- what holds of all conditions and all branches holds of all in the text, and the way back
to_pairs : (P : Kind → Type 0) (ps : Pairs) → AllByRecursion P (firsts_in ps) → AllByRecursion P (seconds_in ps) → AllByRecursion P (pair_kinds ps)
to_pairs P no_pairs firsts seconds = tt
to_pairs P (pairs a b ps) firsts seconds = (firsts.0, (seconds.0, to_pairs P ps firsts.1 seconds.1))

from_pairs : (P : Kind → Type 0) (ps : Pairs) → AllByRecursion P (pair_kinds ps) → AllByRecursion P (firsts_in ps) × AllByRecursion P (seconds_in ps)
from_pairs P no_pairs all = (tt, tt)
from_pairs P (pairs a b ps) all = let rest = from_pairs P ps all.1.1 in ((all.0, rest.0), (all.1.0, rest.1))

-- the conditions and then the branches are the same operands
same-pairs : (ps : Pairs) (last : Kind) → AreSame (firsts_in ps ++ (seconds_in ps ++ last ∷ [])) (pair_kinds ps ++ last ∷ [])
same-pairs ps last P all =
    let one = split_all P (firsts_in ps) (seconds_in ps ++ last ∷ []) all in
    let two = split_all P (seconds_in ps) (last ∷ []) one.1 in
    append_all P (pair_kinds ps) (last ∷ []) (to_pairs P ps one.0 two.0) two.1

pairs-same : (ps : Pairs) (last : Kind) → AreSame (pair_kinds ps ++ last ∷ []) (firsts_in ps ++ (seconds_in ps ++ last ∷ []))
pairs-same ps last P all =
    let one = split_all P (pair_kinds ps) (last ∷ []) all in
    let two = from_pairs P ps one.0 in
    append_all P (firsts_in ps) (seconds_in ps ++ last ∷ []) two.0 (append_all P (seconds_in ps) (last ∷ []) two.1 one.1)

-- one more shape that fits its kind
append_kinds : (kinds : List Kind) (xs : List Shape) (kind : Kind) (x : Shape) → AreOfKinds kinds xs → IsShapeOf kind x → AreOfKinds (kinds ++ kind ∷ []) (xs ++ x ∷ [])
append_kinds [] [] kind x fit last = (last, tt)
append_kinds [] (y ∷ xs) kind x fit last = absurd fit
append_kinds (k ∷ kinds) [] kind x fit last = absurd fit
append_kinds (k ∷ kinds) (y ∷ xs) kind x fit last = (fit.0, append_kinds kinds xs kind x fit.1 last)

-- a case is an array where a condition or a branch is one
pub fits-choice : (domains : List Box) (span : Span) (kind : Kind) (arms : Pairs) (other : Tree) (shape : Shape)
    → choice_kind (firsts_in arms) (seconds_in arms ++ kind_in other ∷ []) ≡ Ok kind
    → (parts : ChoiceParts domains span (width_of_kind kind) arms other shape) → AreOfKinds (pair_kinds arms) parts.arms_shapes → IsShapeOf (kind_in other) parts.last → IsShapeOf kind shape
fits-choice domains span kind arms other shape is parts fit last =
    let branches : List Kind = seconds_in arms ++ kind_in other ∷ [] in
    let in_text : List Kind = pair_kinds arms ++ kind_in other ∷ [] in
    let in_rule : List Kind = firsts_in arms ++ branches in
    let rule = induced-ok (choice_type (firsts_in arms) branches) in_rule kind is in
    let each = choice-cells (firsts_in arms) branches rule.0 rule.1 in
    let cells : AllByRecursion (HasCells 0) in_text = same-pairs arms (kind_in other) (HasCells 0) (append_all (HasCells 0) (firsts_in arms) branches each.0 each.1) in
    let axes = axes-common 0 span in_text (parts.arms_shapes ++ parts.last ∷ []) shape cells
    (append_kinds (pair_kinds arms) parts.arms_shapes (kind_in other) parts.last fit last) parts.common in
    fits-sized rule.0 (axes_of_arrays in_rule) kind shape rule.3
    (axes-same in_text in_rule shape (pairs-same arms (kind_in other)) (same-pairs arms (kind_in other)) rule.2 axes)
    (numbers-size (width_of_kind kind) shape parts.size)

-- ---- an index

-- as many axes are kept as there are trims
length-cut : (domains : List Box) (axes : Axes) (rest kept : Box) → AreCut domains axes rest kept → count_of axes ≡ length rest → length kept ≡ kept_of axes
length-cut domains no_axes rest kept cut same = ap length cut
length-cut domains (position e axes) [] kept cut same = absurd (omega arith)
length-cut domains (trim a b axes) [] kept cut same = absurd (omega arith)
length-cut domains (position e axes) (axis ∷ rest) kept cut same = length-cut domains axes rest kept cut.2 (omega arith)
length-cut domains (trim a b axes) (axis ∷ rest) [] cut same = absurd cut
length-cut domains (trim a b axes) (axis ∷ rest) (x ∷ kept) cut same = ap suc (length-cut domains axes rest kept cut.3 (omega arith))

-- what is kept of the axes is an array, and a scalar where none is
kind-kept : (cell : CellType) (n : ℕ) → kind_of_kept cell (suc n) ≡ Array cell (suc n)
kind-kept cell n = let some : (suc n == 0) ≡ false = grind (arith, nat_tests) in ap (λ t. if t then Scalar cell else Array cell (suc n)) some

fits-kept : (cell : CellType) (n : ℕ) (kept : Box) → length kept ≡ n → volume_of kept * length (atoms_of cell) ≤ MAX_POINTS → IsShapeOf (kind_of_kept cell n) (array_or_scalar_shape kept)
fits-kept cell zero [] same few = tt
fits-kept cell (suc n) [] same few = absurd (omega arith)
fits-kept cell zero (axis ∷ kept) same few = absurd (omega arith)
fits-kept cell (suc n) (axis ∷ kept) same few =
    fits-as (kind_of_kept cell (suc n)) (Array cell (suc n)) (array (axis ∷ kept)) (array (axis ∷ kept)) (kind-kept cell n) refl (same, few)

fits-cut : (domains : List Box) (axes : Axes) (cell : CellType) (n : ℕ) (whole : Shape) (kept : Box) → AreCut domains axes (box_of whole) kept → count_of axes ≡ n
    → IsShapeOf (Array cell n) whole → IsSound (box_of whole)
    → IsShapeOf (kind_of_kept cell (kept_of axes)) (array_or_scalar_shape kept)
fits-cut domains axes cell n scalar kept cut same fits sound = absurd fits
fits-cut domains axes cell n (box a) kept cut same fits sound = absurd fits
fits-cut domains axes cell n (array a) kept cut same fits sound =
    fits-kept cell (kept_of axes) kept (length-cut domains axes a kept cut (same ∙ sym fits.0))
    (omega (arith, fits.1, mul-le-mul_right (length (atoms_of cell)) (volume-cut domains axes a kept cut sound.ordered)))

-- an index has the axes that its trims keep
pub fits-index : (domains : List Box) (e : Tree) (axes : Axes) (cell : CellType) (n : ℕ) (kind : Kind) (shape : Shape) → cut_kind cell n axes ≡ Ok kind
    → (parts : IndexParts domains e axes shape)
    → IsShapeOf (Array cell n) parts.whole → IsSound (box_of parts.whole) → IsShapeOf kind shape
fits-index domains e axes cell n kind shape is parts fits sound =
    let rule = ruled-ok (are_numbers axes) (count_of axes == n) (bounds_are_static axes) (kind_of_kept cell (kept_of axes)) kind is in
    let same : count_of axes ≡ n = eqb-true (count_of axes) n rule.1 in
    fits-as kind (kind_of_kept cell (kept_of axes)) shape (array_or_scalar_shape parts.kept) (sym rule.3) parts.shape_is
    (fits-cut domains axes cell n parts.whole parts.kept parts.cut same fits sound)

-- ---- components

-- a component of a cell is there, so a cell has a number at least
pub atom-given : (o : Option Atom) (cell : CellType) → atom_type o ≡ Some cell → (atom : Atom) × (o ≡ Some atom) × (types.Atom atom ≡ cell)
atom-given None cell is = absurd cc
atom-given (Some atom) cell is = (atom, refl, cc)

has-some : (t : Bool) (items : List Atom) (k : ℕ) (atom : Atom) → (if t then None else slice_get items k) ≡ Some atom → 1 ≤ length items
has-some true items k atom is = absurd cc
has-some false [] k atom is = absurd cc
has-some false (item ∷ items) k atom is = omega arith

component-width : (k : ℤ) (from cell : CellType) → component_type k from ≡ Some cell → length (atoms_of cell) ≤ length (atoms_of from)
component-width k (types.Atom atom) cell is = absurd cc
component-width k (types.Composite atoms) cell is =
    let one = atom-given (if int_lt k (pos 0) then None else slice_get atoms.items (unsigned_abs k)) cell is in
    subst (λ c. length (atoms_of c) ≤ length atoms.items) one.2 (has-some (int_lt k (pos 0)) atoms.items (unsigned_abs k) one.0 one.1)

-- components are stored as few numbers as the cells are
fits-with_cell : (k : ℤ) (from : Kind) (cell : CellType) (x : Shape) → on_cells (component_type k) from ≡ Some cell → IsShapeOf from x → IsShapeOf (with_cell cell from) x
fits-with_cell k (Scalar c) cell scalar is fits = tt
fits-with_cell k (Scalar c) cell (array a) is fits = absurd fits
fits-with_cell k (Scalar c) cell (box a) is fits = absurd fits
fits-with_cell k (Array c n) cell scalar is fits = absurd fits
fits-with_cell k (Array c n) cell (array a) is fits = (fits.0, omega (arith, fits.1, mul-le-mul_left (volume_of a) (component-width k c cell is)))
fits-with_cell k (Array c n) cell (box a) is fits = absurd fits
fits-with_cell k (Domain n) cell x is fits = absurd cc
fits-with_cell k (Point n) cell x is fits = absurd cc

pub fits-component : (k : ℤ) (from : Kind) (cell : CellType) (kind : Kind) (x : Shape) → on_cells (component_type k) from ≡ Some cell → kind ≡ with_cell cell from
    → IsShapeOf from x → IsShapeOf kind x
fits-component k from cell kind x is same fits = fits-as kind (with_cell cell from) x x same refl (fits-with_cell k from cell x is fits)
