-- The same of what is made on a domain, of shift and concat, and of domains of arrays.
use Rattle.std.proofs.Common.{◌≡◌, ℕ, zero, suc, ◌*◌, ◌≤◌, ◌<◌, ℤ, pos, negsuc, true, Ok, Option, Some, None, List, [], ◌∷◌, length, map, refl, sym, ap, subst, ◌∙◌, arith}
use Rattle.std.specs.Prelude.{slice_get, unsigned_abs, ◌&&◌, int_le, int_lt, IsTrue}
use Rattle.std.specs.List.{fold, zip, list_all, AllByRecursion}
use Rattle.std.proofs.lemmas.Bool.{ltb-true, and_parts}
use Rattle.std.proofs.lemmas.List.{length-map}
use Rattle.std.proofs.lemmas.Slice.Zip.{length-zip}
use Rattle.ras_cells.specs.declared.cell.CellType.{CellType}
use Rattle.ras_cells.specs.Stored.{atoms_of}
use Rattle.ras_domain.specs.declared.TheConstants.{MAX_POINTS}
use Rattle.ras_domain.specs.Boxes.{hull_of, hull_of_axis}
use Rattle.ras_domain.proofs.PointSets.{length-shifted_by}
use Rattle.ras_syntax.specs.declared.typed.Kind.{Kind}
use Rattle.ras_syntax.specs.declared.typed.Kind.TheVariants.{Scalar, Array, Domain}
use Rattle.spec_expressions.specs.Tree.{Tree, Trees, Pairs, no_pairs, pairs}
use Rattle.spec_expressions.specs.Kinds.{axes_of_arrays, all_equal, join_of_all, axes_of_kind, scalar_kind}
use Rattle.spec_expressions.specs.Check.{is_axis, is_array, concat_kind, joined_arrays}
use Rattle.spec_expressions.specs.WellTyped.{kinds_in, count_pairs}
use Rattle.spec_expressions.specs.Shape.{Box, Shape, scalar, array, box, box_of, width_of_kind, interval_at, interval_list, moved_after, placed_after, placed_parts, joined_parts}
use Rattle.ras_domain.specs.Region.{volume_of}
use Rattle.spec_expressions.specs.Fits.{IsShapeOf}
use Rattle.law_shapes.proofs.Outcomes.{same_ok, where_ok}
use Rattle.law_shapes.proofs.Cuts.{AreIntervalsOf}
use Rattle.law_shapes.proofs.Moves.{length-moved_after}
use Rattle.law_shapes.proofs.Rules.{ruled-ok, all_equal-first}
use Rattle.law_shapes.proofs.Fitting.{AreOfKinds, length-arrays}
use Rattle.law_shapes.proofs.SoundBoxes.{volume_of-shifted_by}
use Rattle.law_shapes.proofs.FittingForms.{fits-as}
use Rattle.law_shapes.proofs.ArrayParts.{ShiftParts, ConcatParts}

-- ---- what is made on a domain

-- an array of this size
pub array-fit : (cell : CellType) (n : ℕ) (kind : Kind) (axes : Box) (shape : Shape) → kind ≡ Array cell n → shape ≡ array axes → length axes ≡ n
    → volume_of axes * width_of_kind kind ≤ MAX_POINTS → IsShapeOf kind shape
array-fit cell n kind axes shape same is long few =
    fits-as kind (Array cell n) shape (array axes) same is (long, subst (λ k. volume_of axes * width_of_kind k ≤ MAX_POINTS) same few)

-- a written domain has an axis for each pair of bounds, and one like a domain has that domain's axes
pub length-intervals : (domains : List Box) (ps : Pairs) (axes : Box) → AreIntervalsOf domains ps axes → length axes ≡ count_pairs ps
length-intervals domains no_pairs [] is = refl
length-intervals domains no_pairs (axis ∷ axes) is = absurd is
length-intervals domains (pairs a b ps) [] is = absurd is
length-intervals domains (pairs a b ps) (axis ∷ axes) is = ap suc (length-intervals domains ps axes is.6)

length-box : (n : ℕ) (x : Shape) → IsShapeOf (Domain n) x → length (box_of x) ≡ n
length-box n scalar fits = absurd fits
length-box n (array a) fits = absurd fits
length-box n (box a) fits = fits

pub length-domain_like : (n : ℕ) (kind : Kind) (x : Shape) (axes : Box) → kind ≡ Domain n → axes ≡ box_of x → IsShapeOf kind x → length axes ≡ axes_of_kind kind
length-domain_like n kind x axes same is fits =
    ap length is ∙ length-box n x (subst (λ k. IsShapeOf k x) same fits) ∙ sym (ap axes_of_kind same)

-- a fold is a scalar
pub one_cell-ok : (o : Option CellType) (kind : Kind) → scalar_kind o ≡ Ok kind → (cell : CellType) × (o ≡ Some cell) × (kind ≡ Scalar cell)
one_cell-ok None kind is = absurd cc
one_cell-ok (Some cell) kind is = (cell, refl, sym (same_ok (Scalar cell) kind is))

pub fits-folded : (o : Option CellType) (kind : Kind) (shape : Shape) → scalar_kind o ≡ Ok kind → shape ≡ scalar → IsShapeOf kind shape
fits-folded o kind shape is same = let cell = one_cell-ok o kind is in fits-as kind (Scalar cell.0) shape scalar cell.2 same tt

-- ---- shift and concat

-- what fits an array's kind
array-of : (cell : CellType) (n : ℕ) (x : Shape) → IsShapeOf (Array cell n) x → (length (box_of x) ≡ n) × (volume_of (box_of x) * length (atoms_of cell) ≤ MAX_POINTS)
array-of cell n scalar fits = absurd fits
array-of cell n (array a) fits = (fits.0, fits.1)
array-of cell n (box a) fits = absurd fits

-- a shifted array has the axes and the size of the array
pub fits-shift : (domains : List Box) (e : Tree) (offsets : Trees) (cell : CellType) (n : ℕ) (kind : Kind) (shape : Shape) (parts : ShiftParts domains e offsets shape)
    → kind ≡ Array cell n → IsShapeOf (Array cell n) parts.inner → IsShapeOf kind shape
fits-shift domains e offsets cell n kind shape parts same fits =
    let inner = array-of cell n parts.inner fits in
    fits-as kind (Array cell n) shape _ same parts.shape_is
    (length-shifted_by parts.by (box_of parts.inner) ∙ inner.0, subst (λ v. v * length (atoms_of cell) ≤ MAX_POINTS) (sym (volume_of-shifted_by parts.by (box_of parts.inner))) inner.1)

-- the hull of boxes of so many axes, and the places of parts of so many axes
length-hull : (n : ℕ) (a b : Box) → length a ≡ n → length b ≡ n → length (hull_of a b) ≡ n
length-hull n a b p q = omega (arith, length-map (zip a b) (λ x. hull_of_axis x.0 x.1), length-zip a b)

length-fold : (n : ℕ) (first : Box) (others : List Box) → length first ≡ n → AllByRecursion (λ b. length b ≡ n) others → length (fold hull_of first others) ≡ n
length-fold n first [] p all = p
length-fold n first (b ∷ others) p all = length-fold n (hull_of first b) others (length-hull n first b p all.0) all.1

length-placed : (m n : ℕ) (first before : Box) (others : List Box) → length first ≡ n → length before ≡ n → AllByRecursion (λ b. length b ≡ n) others
    → AllByRecursion (λ b. length b ≡ n) (placed_after m first before others)
length-placed m n first before [] p q all = tt
length-placed m n first before (b ∷ others) p q all =
    let next : length (moved_after m first before b) ≡ n = length-moved_after m first before b (p ∙ sym all.0) (q ∙ sym all.0) ∙ all.0 in
    (next, length-placed m n first (moved_after m first before b) others p next all.1)

pub length-placed_parts : (m n : ℕ) (parts : List Box) → AllByRecursion (λ b. length b ≡ n) parts → AllByRecursion (λ b. length b ≡ n) (placed_parts m parts)
length-placed_parts m n [] all = tt
length-placed_parts m n (first ∷ others) all = (all.0, length-placed m n first first others all.0 all.0 all.1)

-- parts of one number of axes are joined to an array of so many
length-joined_parts : (m n : ℕ) (first : Box) (others : List Box) → AllByRecursion (λ b. length b ≡ n) (first ∷ others) → length (joined_parts (placed_parts m (first ∷ others))) ≡ n
length-joined_parts m n first others all =
    length-fold n first (placed_after m first first others) all.0 (length-placed m n first first others all.0 all.0 all.1)

-- the rule of a concat
pub joined-ok : (along : ℤ) (ns : List ℕ) (o : Option CellType) (kind : Kind) → joined_arrays along ns o ≡ Ok kind
    → (cell : CellType) × (n : ℕ) × (o ≡ Some cell) × (kind ≡ Array cell n) × AllByRecursion (λ m. m ≡ n) ns × (1 ≤ length ns) × (is_axis along n ≡ true)
joined-ok along [] o kind is = absurd cc
joined-ok along (n ∷ ns) None kind is = absurd cc
joined-ok along (n ∷ ns) (Some cell) kind is =
    let rule = ruled-ok true (all_equal (n ∷ ns) && is_axis along n) true (Array cell n) kind is in
    let both = and_parts (all_equal (n ∷ ns)) (is_axis along n) rule.1 in
    (cell, n, refl, sym rule.3, all_equal-first n ns both.0, omega arith, both.1)

-- the parts of a concat are arrays with as many axes as the whole
pub record ConcatKinds (along : ℤ) (kinds : List Kind) (kind : Kind) : Type 0 where
  pub cell : CellType
  pub axes : ℕ
  pub kind_is : kind ≡ Array cell axes
  pub are_arrays : list_all is_array kinds ≡ true
  pub same_axes : AllByRecursion (λ m. m ≡ axes) (axes_of_arrays kinds)
  pub some_arrays : 1 ≤ length (axes_of_arrays kinds)
  pub along_axis : is_axis along axes ≡ true

pub concat-kinds : (along : ℤ) (kinds : List Kind) (kind : Kind) → concat_kind along kinds ≡ Ok kind → ConcatKinds along kinds kind
concat-kinds along kinds kind is =
    let arrays = where_ok (list_all is_array kinds) _ _ kind is in
    let joined = joined-ok along (axes_of_arrays kinds) (join_of_all kinds) kind arrays.1 in
    record { cell = joined.0; axes = joined.1; kind_is = joined.3; are_arrays = arrays.0; same_axes = joined.4; some_arrays = joined.5; along_axis = joined.6 }

-- so the boxes of the parts have so many axes, and so has their join
pub concat-lengths : (along : ℤ) (kinds : List Kind) (kind : Kind) (xs : List Shape) (rule : ConcatKinds along kinds kind) → AreOfKinds kinds xs
    → AllByRecursion (λ b. length b ≡ rule.axes) (map box_of xs)
concat-lengths along kinds kind xs rule fit = length-arrays rule.axes kinds xs rule.are_arrays rule.same_axes fit

length-concat : (m n : ℕ) (kinds : List Kind) (xs : List Shape) → AreOfKinds kinds xs → 1 ≤ length (axes_of_arrays kinds)
    → AllByRecursion (λ b. length b ≡ n) (map box_of xs) → length (joined_parts (placed_parts m (map box_of xs))) ≡ n
length-concat m n [] xs fit some all = absurd (omega arith)
length-concat m n (kind ∷ kinds) [] fit some all = absurd fit
length-concat m n (kind ∷ kinds) (x ∷ xs) fit some all = length-joined_parts m n (box_of x) (map box_of xs) all

pub fits-concat : (domains : List Box) (kind : Kind) (es : Trees) (along : ℤ) (shape : Shape) → concat_kind along (kinds_in es) ≡ Ok kind
    → (parts : ConcatParts domains (width_of_kind kind) es along shape) → AreOfKinds (kinds_in es) parts.shapes
    → IsShapeOf kind shape
fits-concat domains kind es along shape is parts fit =
    let rule = concat-kinds along (kinds_in es) kind is in
    array-fit rule.cell rule.axes kind (joined_parts (placed_parts (unsigned_abs along) (map box_of parts.shapes))) shape rule.kind_is parts.shape_is
    (length-concat (unsigned_abs along) rule.axes (kinds_in es) parts.shapes fit rule.some_arrays (concat-lengths along (kinds_in es) kind parts.shapes rule fit)) parts.size.1

-- ---- domains of arrays

-- the domain of an array has its axes
pub fits-domain_of : (cell : CellType) (n : ℕ) (kind : Kind) (x shape : Shape) → kind ≡ Domain n → shape ≡ box (box_of x) → IsShapeOf (Array cell n) x → IsShapeOf kind shape
fits-domain_of cell n kind x shape same is fits = fits-as kind (Domain n) shape (box (box_of x)) same is (array-of cell n x fits).0

-- an axis that there is gives a domain of one axis
axis-below : (k : ℤ) (n : ℕ) → is_axis k n ≡ true → unsigned_abs k < n
axis-below (pos a) n is = ltb-true a n (and_parts (int_le (pos 0) (pos a)) (int_lt (pos a) (pos n)) is).1
axis-below (negsuc a) n is = absurd cc

length-interval_list : (axes : Box) (k : ℕ) → k < length axes → length (interval_list (slice_get axes k)) ≡ 1
length-interval_list [] k below = absurd (omega arith)
length-interval_list (axis ∷ axes) zero below = refl
length-interval_list (axis ∷ axes) (suc k) below = length-interval_list axes k (omega arith)

pub fits-interval_of : (cell : CellType) (n : ℕ) (k : ℤ) (kind : Kind) (x shape : Shape) → kind ≡ Domain 1 → IsTrue (is_axis k n)
    → shape ≡ box (interval_list (interval_at (box_of x) k)) → IsShapeOf (Array cell n) x → IsShapeOf kind shape
fits-interval_of cell n k kind x shape same axis is fits =
    fits-as kind (Domain 1) shape (box (interval_list (interval_at (box_of x) k))) same is
    (length-interval_list (box_of x) (unsigned_abs k) (subst (λ m. unsigned_abs k < m) (sym (array-of cell n x fits).0) (axis-below k n axis)))
