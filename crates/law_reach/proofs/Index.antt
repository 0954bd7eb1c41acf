-- Index: the point that it looks at lies in its box.
use Rattle.std.proofs.Common.{◌≡◌, ℕ, ℤ, ◌≤ℤ◌, true, ◌==◌, List, [], ◌∷◌, Ok, refl, sym, ap, subst, ◌∙◌, arith}
use Rattle.std.specs.Prelude.{Option, Some, None}
use Rattle.std.proofs.lemmas.Bool.Decides.{Decides-eqb}
use Rattle.std.proofs.lemmas.Int.{ints}
use Rattle.std.proofs.lemmas.Bool.{and_parts}
use Rattle.arrayvec.specs.ArrayVec.{ArrayVec}
use Rattle.ras_cells.specs.declared.cell.Cell.{Cell}
use Rattle.ras_cells.specs.declared.cell.Cell.TheVariants.{Null, Value}
use Rattle.ras_cells.specs.declared.cell.CellType.{CellType}
use Rattle.ras_cells.specs.Cells.{only}
use Rattle.ras_domain.specs.declared.region.Interval.{Interval}
use Rattle.ras_domain.specs.Boxes.{Covers, meet_of_axis}
use Rattle.ras_domain.specs.Region.{IsIn}
use Rattle.ras_syntax.specs.declared.span.Span.{Span}
use Rattle.ras_syntax.specs.declared.typed.Kind.{Kind}
use Rattle.ras_syntax.specs.declared.typed.Kind.TheVariants as kinds
use Rattle.spec_expressions.specs.Check.{is_number_tree, are_numbers, bounds_are_static, count_of, cut_kind, kept_of, array_or_scalar_kind as kind_of_cut}
use Rattle.spec_expressions.specs.Eval.{box_in, cell_at, position_in, positions_at, with_position}
use Rattle.spec_expressions.specs.Fits.{IsAround, IsBoundedBy, IsPointOf}
use Rattle.spec_expressions.specs.Kinds.{is_scalar_number}
use Rattle.spec_expressions.specs.Reach.{index_box, met_with, number_bound, positions_reach, reach_of, reached_within, with_axis}
use Rattle.spec_expressions.specs.Shape.{Box, Shape, array, array_or_scalar_shape, box_of, shape_of}
use Rattle.spec_expressions.specs.Tree.{Tree, Axes, node, index, no_axes, position, trim}
use Rattle.spec_expressions.specs.WellTyped.{AreWellTypedAxes, IsWellTyped, kind_in}
use Rattle.law_shapes.proofs.Cuts.{AreCut, IsTrimOf}
use Rattle.law_shapes.proofs.Outcomes.{bind_ok, same_ok}
use Rattle.law_shapes.proofs.Rules.{ruled-ok}
use Rattle.law_shapes.proofs.ArrayParts.{index-parts}
use Rattle.law_reach.specs.Alike.{StoreSame}
use Rattle.law_cells.proofs.Types.{some_same}
use Rattle.law_cells.proofs.Bounds.{number-bounded}
use Rattle.law_reach.proofs.Fitting.{shape-fits}
use Rattle.law_reach.proofs.Moved.{cell_in_same}
use Rattle.law_reach.proofs.Moves.{within_meet}
use Rattle.law_reach.proofs.Outcomes.{bind_same}
use Rattle.law_reach.proofs.Positions.{AreOn, after_position, after_trim, positions_same}
use Rattle.law_reach.proofs.Scalars.{array_shape, number_kind, scalar_from_number, scalar_shape}
use Rattle.law_reach.proofs.Settings.{around_same, Setting, first_of, second_of, domains_of, domains_same, IsSame, ArePositionsSame, store_left, store_right, store_within}

-- ---- the box that is kept

around_kept : (axes around : Box) → Covers axes around → IsAround (array_or_scalar_shape axes) around
around_kept [] around covers = tt
around_kept (axis ∷ axes) around covers = covers

-- each number of the second interval is in the first
abbrev IsWide : Interval → Interval → Type 0
IsWide axis first = (c : ℤ) → first.lo ≤ℤ c → c ≤ℤ first.hi → (axis.lo ≤ℤ c) × (c ≤ℤ axis.hi)

-- what lies within what a trim keeps lies within its axis
wide_from_trim : (axis x first : Interval) (kept around : Box) (p : List ℤ) → IsTrimOf axis x → Covers (x ∷ kept) (first ∷ around) → IsIn p around → IsWide axis first
wide_from_trim axis x first kept around p trimmed covers within c low high =
    let at = covers (c ∷ p) (low, high, within) in
    (omega (arith, ints, at.0, trimmed.low), omega (arith, ints, at.1, trimmed.high))

-- ---- the point that is looked at

-- the point is in the box that is looked at, which lies within the array's
abbrev IsLookedAt : Option Box → Box → List ℤ → Type 0
IsLookedAt None rest q = ⊥
IsLookedAt (Some axes) rest q = IsIn q axes × Covers rest axes

-- one axis more, with a position within its bound, or with a trim
looked_at_position : (axis : Interval) (rest : Box) (bound : Option Interval) (found : Option Box) (z : ℤ) (q : List ℤ) → IsBoundedBy bound z
    → IsIn (z ∷ q) (axis ∷ rest) → IsLookedAt found rest q → IsLookedAt (with_axis (met_with axis bound) found) (axis ∷ rest) (z ∷ q)
looked_at_position axis rest None found z q bounded within looked = absurd bounded
looked_at_position axis rest (Some other) None z q bounded within looked = absurd looked
looked_at_position axis rest (Some other) (Some axes) z q bounded within looked =
    let here = (within_meet axis other z).1 ((within.0, within.1, tt), (bounded.0, bounded.1, tt)) in
    ((here.0, here.1, looked.0), covers)
  where
    covers : Covers (axis ∷ rest) (meet_of_axis axis other ∷ axes)
    covers [] inside = absurd inside
    covers (d ∷ r) inside = let first = ((within_meet axis other d).0 (inside.0, inside.1, tt)).0 in (first.0, first.1, looked.1 r inside.2)

looked_at_trim : (axis kept : Interval) (rest : Box) (found : Option Box) (z : ℤ) (q : List ℤ) → IsWide axis kept → kept.lo ≤ℤ z → z ≤ℤ kept.hi
    → IsLookedAt found rest q → IsLookedAt (with_axis (Some kept) found) (axis ∷ rest) (z ∷ q)
looked_at_trim axis kept rest None z q wide low high looked = absurd looked
looked_at_trim axis kept rest (Some axes) z q wide low high looked = ((low, high, looked.0), covers)
  where
    covers : Covers (axis ∷ rest) (kept ∷ axes)
    covers [] inside = absurd inside
    covers (d ∷ r) inside = let first = wide d inside.0 inside.1 in (first.0, first.1, looked.1 r inside.2)

-- what positions that have a number say of it
with_position_some : (o : Option ℤ) (r : Option (List ℤ)) (z : ℤ) (q : List ℤ) → with_position o r ≡ Some (z ∷ q) → (o ≡ Some z) × (r ≡ Some q)
with_position_some None r z q is = absurd cc
with_position_some (Some y) None z q is = absurd cc
with_position_some (Some y) (Some zs) z q is = let e : y ∷ zs ≡ z ∷ q = cc in (cc, cc)

position_value : (x : Cell) (z : ℤ) → position_in x ≡ Some z → (numbers : ArrayVec ℤ) × (x ≡ Value numbers) × (only numbers.items ≡ z)
position_value Null z is = absurd cc
position_value (Value numbers) z is = (numbers, refl, cc)

-- the number of a position is within its bound
position_bounded : (at : Setting) (e : Tree) (shape : Shape) (x : Cell) (z : ℤ) → IsWellTyped at.sources at.variables e → is_scalar_number (kind_in e) ≡ true
    → shape_of (domains_of at) e ≡ Ok shape → cell_at (first_of at) e [] ≡ Ok x → position_in x ≡ Some z → IsBoundedBy (number_bound (domains_of at) at.boxes e) z
position_bounded at e shape x z typed number shaped cell is =
    let of = scalar_from_number (kind_in e) number in
    let is_scalar = scalar_shape (kind_in e) of.0 shape of.1 (shape-fits at.sources at.variables (first_of at) e shape typed at.members shaped).0 in
    let value = position_value x z is in
    subst (IsBoundedBy (number_bound (domains_of at) at.boxes e)) value.2
    (number-bounded at.sources at.variables at.boxes (first_of at) e shape [] value.0 typed at.members at.within shaped
    (subst (λ s. IsPointOf s []) (sym is_scalar) tt) number (cell ∙ ap (λ c. Ok c) value.1))

-- the point of an index, if it has one within the array, is in the box that it looks at
looked_at : (axes : Axes) (at : Setting) (rest kept around : Box) (p q : List ℤ) → AreOn at axes rest kept → IsIn p around
    → IsAround (array_or_scalar_shape kept) around → positions_at (first_of at) axes p ≡ Ok (Some q) → IsIn q rest → IsLookedAt (index_box (domains_of at) at.boxes axes rest around) rest q
looked_at no_axes at [] kept around p q on within lies is inside = (inside, λ r h. h)
looked_at no_axes at (axis ∷ rest) kept around p q on within lies is inside = absurd (let h = on.count in omega arith)
looked_at (position e axes) at [] kept around p q on within lies is inside = absurd (let h = on.count in omega arith)
looked_at (position e axes) at (axis ∷ rest) kept around p [] on within lies is inside = absurd inside
looked_at (position e axes) at (axis ∷ rest) kept around p (z ∷ q) on within lies is inside =
    let x = bind_ok (cell_at (first_of at) e []) _ (Some (z ∷ q)) is in
    let r = bind_ok (positions_at (first_of at) axes p) _ (Some (z ∷ q)) x.2 in
    let both = with_position_some (position_in x.0) r.0 z q (same_ok _ _ r.2) in
    let number = and_parts (is_number_tree e) (are_numbers axes) on.numbers in
    looked_at_position axis rest (number_bound (domains_of at) at.boxes e) (index_box (domains_of at) at.boxes axes rest around) z q
    (position_bounded at e on.cut.0.0 x.0 z on.typed.0 (number_kind e number.0) on.cut.0.1 x.1 both.0) inside
    (looked_at axes at rest kept around p q (after_position at e axes axis rest kept on) within lies (r.1 ∙ ap (λ c. Ok c) both.1) inside.2)
looked_at (trim a b axes) at [] kept around p q on within lies is inside = absurd (let h = on.count in omega arith)
looked_at (trim a b axes) at (axis ∷ rest) [] around p q on within lies is inside = absurd on.cut
looked_at (trim a b axes) at (axis ∷ rest) (x ∷ kept) around [] q on within lies is inside =
    let e : [] ≡ q = some_same _ _ (same_ok _ _ is) in absurd (subst (λ r. IsIn r (axis ∷ rest)) (sym e) inside)
looked_at (trim a b axes) at (axis ∷ rest) (x ∷ kept) [] (c ∷ p) q on within lies is inside = absurd within
looked_at (trim a b axes) at (axis ∷ rest) (x ∷ kept) (first ∷ around) (c ∷ p) [] on within lies is inside = absurd inside
looked_at (trim a b axes) at (axis ∷ rest) (x ∷ kept) (first ∷ around) (c ∷ p) (z ∷ q) on within lies is inside =
    let r = bind_ok (positions_at (first_of at) axes p) _ (Some (z ∷ q)) is in
    let both = with_position_some (Some c) r.0 z q (same_ok _ _ r.2) in
    let same : c ≡ z = some_same _ _ both.0 in
    looked_at_trim axis first rest (index_box (domains_of at) at.boxes axes rest around) z q
    (wide_from_trim axis x first kept around p on.cut.2 lies within.2)
    (subst (λ d. first.lo ≤ℤ d) same within.0) (subst (λ d. d ≤ℤ first.hi) same within.1)
    (looked_at axes at rest kept around p q (after_trim at a b axes axis x rest kept on) within.2
    (around_kept kept around (λ d in_rest. (lies (c ∷ d) (within.0, within.1, in_rest)).2)) (r.1 ∙ ap (λ c. Ok c) both.1) inside.2)

-- ---- the cell

looked_same : (found : Option Box) (at : Setting) (e : Tree) (rest : Box) (q : List ℤ) → IsSame at e → shape_of (domains_of at) e ≡ Ok (array rest)
    → IsLookedAt found rest q → StoreSame at.one at.other (reached_within found (reach_of (domains_of at) at.boxes e)) → cell_at (first_of at) e q ≡ cell_at (second_of at) e q
looked_same None at e rest q same shaped looked store = absurd looked
looked_same (Some axes) at e rest q same shaped looked store =
    same (array rest) axes q shaped looked.1 (store_within at.one at.other axes q (reach_of (domains_of at) at.boxes e) looked.0 store) looked.0

index_cells : (at : Setting) (span : Span) (kind : Kind) (e : Tree) (axes : Axes) (rest kept around : Box) (p : List ℤ) → IsSame at e → ArePositionsSame at axes
    → AreOn at axes rest kept → shape_of (domains_of at) e ≡ Ok (array rest) → IsAround (array_or_scalar_shape kept) around
    → StoreSame at.one at.other (reach_of (domains_of at) at.boxes (node span kind (index e axes)) around) → IsIn p around
    → cell_at (first_of at) (node span kind (index e axes)) p ≡ cell_at (second_of at) (node span kind (index e axes)) p
index_cells at span kind e axes rest kept around p same positions on shaped lies store within =
    let inner = box_in (shape_of (domains_of at) e) in
    let is : inner ≡ rest = ap box_in shaped in
    let found = index_box (domains_of at) at.boxes axes inner around in
    let here = reached_within found (reach_of (domains_of at) at.boxes e) in
    let more = positions_reach (domains_of at) at.boxes axes in
    bind_same (positions_at (first_of at) axes p) (positions_at (second_of at) axes p) _ _
    (positions_same axes at rest kept p positions on (store_right at.one at.other here more store))
    (λ q positioned. cell_in_same inner _ (cell_at (first_of at) e) (cell_at (second_of at) e) q
    (ap (λ domains. box_in (shape_of domains e)) (sym (domains_same at)))
    (λ r is_point inside. looked_same found at e rest r same shaped
    (subst (λ b. IsLookedAt (index_box (domains_of at) at.boxes axes b around) rest r) (sym is)
    (looked_at axes at rest kept around p r on within lies (positioned ∙ ap (λ o. Ok o) is_point) (subst (IsIn r) is inside)))
    (store_left at.one at.other here more store)))

pub index_same : (at : Setting) (span : Span) (kind : Kind) (e : Tree) (axes : Axes) (cell : CellType) (n : ℕ) → IsWellTyped at.sources at.variables e
    → AreWellTypedAxes at.sources at.variables axes → kind_in e ≡ kinds.Array cell n → cut_kind cell n axes ≡ Ok kind → IsSame at e → ArePositionsSame at axes
    → IsSame at (node span kind (index e axes))
index_same at span kind e axes cell n typed typed_axes is_array cut same positions shape around p shaped lies store within =
    let parts = index-parts (domains_of at) span kind e axes shape shaped in
    let rest = array_shape (kind_in e) cell n parts.whole is_array (shape-fits at.sources at.variables (first_of at) e parts.whole typed at.members parts.whole_is).0 in
    let rules = ruled-ok (are_numbers axes) (count_of axes == n) (bounds_are_static axes) (kind_of_cut cell (kept_of axes)) kind cut in
    let on : AreOn at axes rest.0 parts.kept = record {
      typed = typed_axes;
      numbers = rules.0;
      count = (Decides-eqb (count_of axes) n).0 rules.1 ∙ sym rest.2;
      cut = subst (λ x. AreCut (domains_of at) axes (box_of x) parts.kept) rest.1 parts.cut;
    } in
    index_cells at span kind e axes rest.0 parts.kept around p same positions on (parts.whole_is ∙ ap (λ s. Ok s) rest.1)
    (around_same (array_or_scalar_shape parts.kept) shape around (sym parts.shape_is) lies) store within
