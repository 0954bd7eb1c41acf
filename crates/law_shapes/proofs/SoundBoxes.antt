-- Boxes that are made of sound ones are sound, where their sizes are.
use Rattle.std.proofs.Common.{◌≡◌, ℕ, zero, suc, ◌≤◌, ℤ, pos, ◌+ℤ◌, false, List, [], ◌∷◌, map, Option, Some, None, All, refl, sym, ap, subst, ◌∙◌, arith}
use Rattle.std.specs.Prelude.{slice_get, ◌&&◌}
use Rattle.std.proofs.lemmas.Bool.{not-false, and_parts}
use Rattle.std.specs.List.{fold, zip, list_any, AllByRecursion}
use Rattle.std.proofs.lemmas.Int.{ints}
use Rattle.std.proofs.lemmas.List.Elements.{All-nil, All-cons, All-head, All-tail}
use Rattle.std.proofs.lemmas.Option.{slice_get_within, get_or_from_slice_get}
use Rattle.std.proofs.Math.Nat.{mul-le-mul_left, mul-le-mul_right, le-mul_of_pos_right}
use Rattle.ras_domain.specs.declared.TheConstants.{MAX_POINTS}
use Rattle.ras_domain.specs.declared.region.Interval.{Interval}
use Rattle.ras_domain.specs.Boxes.{hull_of, shifted_by}
use Rattle.ras_domain.specs.Region.{HasSmallBounds, IsOrdered, extent_of, volume_of}
use Rattle.ras_domain.proofs.Points.{int_gap_is, one-le-extent_of, one-le-length-points_of}
use Rattle.ras_domain.proofs.PointSets.{IsIn-lows, IsOrdered-from_IsIn, IsShifted-shifted_by, length-points_of-shifted_by, HasSmallBounds-hull_of, IsOrdered-hull_of}
use Rattle.spec_expressions.specs.Tree.{Pairs, Axes, no_pairs, pairs, no_axes, position, trim}
use Rattle.spec_expressions.specs.Shape.{Box, is_small, has_large_bound, interval_from, interval_after, moved_after, placed_after, placed_parts, joined_parts, interval_list, array_or_scalar_shape, box_of}
use Rattle.spec_expressions.specs.Fits.{IsSound}
use Rattle.ras_domain.proofs.BoxTests.{volume_of-points}
use Rattle.law_shapes.proofs.SmallBounds.{IsInRange-is_small, HasSmallBounds-Long}
use Rattle.law_shapes.proofs.Cuts.{IsTrimOf, AreCut, AreIntervalsOf}
use Rattle.law_lists.proofs.Each.{none_passes}

-- a box whose intervals have numbers, with bounds of 32 bits
pub record IsFirm (axes : Box) : Type 0 where
  pub small_bounds : All HasSmallBounds axes
  pub ordered : All IsOrdered axes

-- a firm box of few points is sound
pub sound-firm : (axes : Box) → IsFirm axes → volume_of axes ≤ MAX_POINTS → IsSound axes
sound-firm axes firm few = record { small_bounds = firm.small_bounds; ordered = firm.ordered; few_points = few }

pub firm-sound : (axes : Box) → IsSound axes → IsFirm axes
firm-sound axes sound = record { small_bounds = sound.small_bounds; ordered = sound.ordered }

-- the box without axes, and one with an axis more
firm-nil : IsFirm []
firm-nil = record { small_bounds = All-nil HasSmallBounds; ordered = All-nil IsOrdered }

firm-cons : (axis : Interval) (axes : Box) → HasSmallBounds axis → IsOrdered axis → IsFirm axes → IsFirm (axis ∷ axes)
firm-cons axis axes small ordered firm = record {
  small_bounds = All-cons HasSmallBounds axis axes small firm.small_bounds;
  ordered = All-cons IsOrdered axis axes ordered firm.ordered;
}

pub sound-nil : IsSound []
sound-nil = sound-firm [] firm-nil (omega arith)

-- a box of ordered intervals has a point
pub one-le-volume_of : (axes : Box) → All IsOrdered axes → 1 ≤ volume_of axes
one-le-volume_of axes ordered = omega (arith, volume_of-points axes, one-le-length-points_of axes ordered)

-- ---- a box at a place of a list, an interval at a place of a box

-- an interval has at most as many numbers as the box has points
extent-le-volume_of : (axes : Box) (place : ℕ) (axis : Interval) → All IsOrdered axes → slice_get axes place ≡ Some axis → extent_of axis ≤ volume_of axes
extent-le-volume_of [] place axis ordered at = absurd cc
extent-le-volume_of (x ∷ axes) zero axis ordered at =
    let same : x ≡ axis = cc in
    let one : 1 ≤ volume_of axes = one-le-volume_of axes (All-tail IsOrdered x axes ordered) in
    omega (arith, ap extent_of same, le-mul_of_pos_right (extent_of x) one)
extent-le-volume_of (x ∷ axes) (suc place) axis ordered at =
    let rest : extent_of axis ≤ volume_of axes = extent-le-volume_of axes place axis (All-tail IsOrdered x axes ordered) at in
    let one : 1 ≤ extent_of x = one-le-extent_of x (All-head IsOrdered x axes ordered) in
    omega (arith, mul-le-mul_right (volume_of axes) one)

-- the bounds of an interval of a sound box, and the box of that interval alone
pub small-at : (axes : Box) (place : ℕ) (axis : Interval) → IsSound axes → slice_get axes place ≡ Some axis → HasSmallBounds axis
small-at axes place axis sound at =
    subst HasSmallBounds (get_or_from_slice_get axes place axis axis at) (sound.small_bounds place axis (slice_get_within axes place axis at))

pub sound-interval_list : (axes : Box) (place : ℕ) (o : Option Interval) → IsSound axes → slice_get axes place ≡ o → IsSound (interval_list o)
sound-interval_list axes place None sound at = sound-nil
sound-interval_list axes place (Some axis) sound at =
    let ordered : IsOrdered axis = subst IsOrdered (get_or_from_slice_get axes place axis axis at) (sound.ordered place axis (slice_get_within axes place axis at)) in
    sound-firm (axis ∷ []) (firm-cons axis [] (small-at axes place axis sound at) ordered firm-nil)
    (omega (arith, sound.few_points, extent-le-volume_of axes place axis sound.ordered at))

-- ---- what is kept of a box

-- a cut box has at most as many points
extent-trim : (axis kept : Interval) → IsTrimOf axis kept → extent_of kept ≤ extent_of axis
extent-trim axis kept trimmed =
    omega (arith, ints, trimmed.low, trimmed.high, int_gap_is axis.lo (axis.hi +ℤ pos 1), int_gap_is kept.lo (kept.hi +ℤ pos 1))

volume-nil : (rest kept : Box) → All IsOrdered rest → kept ≡ [] → volume_of kept ≤ volume_of rest
volume-nil rest kept ordered is = omega (arith, ap volume_of is, one-le-volume_of rest ordered)

pub volume-cut : (domains : List Box) (axes : Axes) (rest kept : Box) → AreCut domains axes rest kept → All IsOrdered rest → volume_of kept ≤ volume_of rest
volume-cut domains no_axes rest kept cut ordered = volume-nil rest kept ordered cut
volume-cut domains (position e axes) [] kept cut ordered = volume-nil [] kept ordered cut
volume-cut domains (trim a b axes) [] kept cut ordered = volume-nil [] kept ordered cut
volume-cut domains (position e axes) (axis ∷ rest) kept cut ordered =
    let more : volume_of kept ≤ volume_of rest = volume-cut domains axes rest kept cut.2 (All-tail IsOrdered axis rest ordered) in
    let one : 1 ≤ extent_of axis = one-le-extent_of axis (All-head IsOrdered axis rest ordered) in
    omega (arith, mul-le-mul_right (volume_of rest) one)
volume-cut domains (trim a b axes) (axis ∷ rest) [] cut ordered = absurd cut
volume-cut domains (trim a b axes) (axis ∷ rest) (x ∷ kept) cut ordered =
    let more : volume_of kept ≤ volume_of rest = volume-cut domains axes rest kept cut.3 (All-tail IsOrdered axis rest ordered) in
    omega (arith, mul-le-mul_left (extent_of x) more, mul-le-mul_right (volume_of rest) (extent-trim axis x cut.2))

-- and is firm
firm-cut : (domains : List Box) (axes : Axes) (rest kept : Box) → AreCut domains axes rest kept → IsFirm kept
firm-cut domains no_axes rest kept cut = subst IsFirm (sym cut) firm-nil
firm-cut domains (position e axes) [] kept cut = subst IsFirm (sym cut) firm-nil
firm-cut domains (trim a b axes) [] kept cut = subst IsFirm (sym cut) firm-nil
firm-cut domains (position e axes) (axis ∷ rest) kept cut = firm-cut domains axes rest kept cut.2
firm-cut domains (trim a b axes) (axis ∷ rest) [] cut = absurd cut
firm-cut domains (trim a b axes) (axis ∷ rest) (x ∷ kept) cut = firm-cons x kept cut.2.small cut.2.ordered (firm-cut domains axes rest kept cut.3)

pub sound-cut : (domains : List Box) (axes : Axes) (rest kept : Box) → AreCut domains axes rest kept → IsSound rest → IsSound kept
sound-cut domains axes rest kept cut sound =
    sound-firm kept (firm-cut domains axes rest kept cut) (omega (arith, sound.few_points, volume-cut domains axes rest kept cut sound.ordered))

pub box_of-array_or_scalar : (axes : Box) → box_of (array_or_scalar_shape axes) ≡ axes
box_of-array_or_scalar [] = refl
box_of-array_or_scalar (axis ∷ axes) = refl

-- written bounds
pub firm-intervals : (domains : List Box) (ps : Pairs) (axes : Box) → AreIntervalsOf domains ps axes → IsFirm axes
firm-intervals domains no_pairs [] is = firm-nil
firm-intervals domains no_pairs (axis ∷ axes) is = absurd is
firm-intervals domains (pairs a b ps) [] is = absurd is
firm-intervals domains (pairs a b ps) (axis ∷ axes) is = firm-cons axis axes is.4 is.5 (firm-intervals domains ps axes is.6)

-- ---- boxes that move

-- no bound is large
small_interval : (axis : Interval) → has_large_bound axis ≡ false → HasSmallBounds axis
small_interval axis is =
    let both = and_parts (is_small axis.lo) (is_small axis.hi) (not-false (is_small axis.lo && is_small axis.hi) is) in
    HasSmallBounds-Long axis ((IsInRange-is_small axis.lo).0 both.0) ((IsInRange-is_small axis.hi).0 both.1)

small_intervals : (axes : Box) → AllByRecursion (λ axis. has_large_bound axis ≡ false) axes → All HasSmallBounds axes
small_intervals [] none = All-nil HasSmallBounds
small_intervals (axis ∷ axes) none = All-cons HasSmallBounds axis axes (small_interval axis none.0) (small_intervals axes none.1)

pub small_box : (axes : Box) → list_any has_large_bound axes ≡ false → All HasSmallBounds axes
small_box axes none = small_intervals axes (none_passes has_large_bound axes none)

-- a shifted box
pub volume_of-shifted_by : (by : List ℤ) (axes : Box) → volume_of (shifted_by by axes) ≡ volume_of axes
volume_of-shifted_by by axes = volume_of-points (shifted_by by axes) ∙ length-points_of-shifted_by by axes ∙ sym (volume_of-points axes)

pub sound-shifted_by : (by : List ℤ) (axes : Box) → IsSound axes → list_any has_large_bound (shifted_by by axes) ≡ false → IsSound (shifted_by by axes)
sound-shifted_by by axes sound none = record {
  small_bounds = small_box (shifted_by by axes) none;
  ordered = IsOrdered-from_IsIn (shifted_by by axes) _ ((IsShifted-shifted_by by axes (map (λ axis. axis.lo) axes)).0 (IsIn-lows axes sound.ordered));
  few_points = omega (arith, sound.few_points, volume_of-shifted_by by axes);
}

-- the places of the parts of a concat
ordered-begun : (firsts bs : Box) → All IsOrdered bs → All IsOrdered (map (λ x. interval_from x.0 x.1) (zip firsts bs))
ordered-begun [] bs ordered = All-nil IsOrdered
ordered-begun (first ∷ firsts) [] ordered = All-nil IsOrdered
ordered-begun (first ∷ firsts) (b ∷ bs) ordered =
    let here : IsOrdered b = All-head IsOrdered b bs ordered in
    All-cons IsOrdered (interval_from first b) _ (omega (arith, ints, here)) (ordered-begun firsts bs (All-tail IsOrdered b bs ordered))

-- a moved box is ordered where the box is
ordered-moved_after : (n : ℕ) (first before b : Box) → All IsOrdered b → All IsOrdered (moved_after n first before b)
ordered-moved_after n [] before b ordered = All-nil IsOrdered
ordered-moved_after n (first ∷ firsts) [] b ordered = All-nil IsOrdered
ordered-moved_after n (first ∷ firsts) (before ∷ befores) [] ordered = All-nil IsOrdered
ordered-moved_after zero (first ∷ firsts) (before ∷ befores) (b ∷ bs) ordered =
    let here : IsOrdered b = All-head IsOrdered b bs ordered in
    All-cons IsOrdered (interval_after before b) _ (omega (arith, ints, here)) (ordered-begun firsts bs (All-tail IsOrdered b bs ordered))
ordered-moved_after (suc n) (first ∷ firsts) (before ∷ befores) (b ∷ bs) ordered =
    let here : IsOrdered b = All-head IsOrdered b bs ordered in
    All-cons IsOrdered (interval_from first b) _ (omega (arith, ints, here)) (ordered-moved_after n firsts befores bs (All-tail IsOrdered b bs ordered))

ordered-placed_after : (n : ℕ) (first before : Box) (others : List Box) → AllByRecursion (All IsOrdered) others → AllByRecursion (All IsOrdered) (placed_after n first before others)
ordered-placed_after n first before [] ordered = tt
ordered-placed_after n first before (b ∷ bs) ordered =
    (ordered-moved_after n first before b ordered.0, ordered-placed_after n first (moved_after n first before b) bs ordered.1)

ordered-placed_parts : (n : ℕ) (parts : List Box) → AllByRecursion (All IsOrdered) parts → AllByRecursion (All IsOrdered) (placed_parts n parts)
ordered-placed_parts n [] ordered = tt
ordered-placed_parts n (first ∷ others) ordered = (ordered.0, ordered-placed_after n first first others ordered.1)

-- places that are ordered, with no large bound, are firm
firm_places : (places : List Box) → AllByRecursion (All IsOrdered) places → AllByRecursion (λ place. list_any has_large_bound place ≡ false) places → AllByRecursion IsFirm places
firm_places [] ordered none = tt
firm_places (place ∷ places) ordered none =
    (record { small_bounds = small_box place none.0; ordered = ordered.0 }, firm_places places ordered.1 none.1)

-- the hull of firm boxes
firm-hull_of : (a b : Box) → IsFirm a → IsFirm b → IsFirm (hull_of a b)
firm-hull_of a b p q = record {
  small_bounds = HasSmallBounds-hull_of a b p.small_bounds q.small_bounds;
  ordered = IsOrdered-hull_of a b p.ordered q.ordered;
}

-- so is the hull of all places
firm-fold : (first : Box) (others : List Box) → IsFirm first → AllByRecursion IsFirm others → IsFirm (fold hull_of first others)
firm-fold first [] p all = p
firm-fold first (b ∷ others) p all = firm-fold (hull_of first b) others (firm-hull_of first b p all.0) all.1

firm-joined_parts : (places : List Box) → AllByRecursion IsFirm places → IsFirm (joined_parts places)
firm-joined_parts [] all = firm-nil
firm-joined_parts (first ∷ others) all = firm-fold first others all.0 all.1

pub firm-placed_parts : (n : ℕ) (parts : List Box) → AllByRecursion (All IsOrdered) parts → list_any (list_any has_large_bound) (placed_parts n parts) ≡ false
    → IsFirm (joined_parts (placed_parts n parts))
firm-placed_parts n parts ordered none =
    firm-joined_parts (placed_parts n parts)
    (firm_places (placed_parts n parts) (ordered-placed_parts n parts ordered) (none_passes (list_any has_large_bound) (placed_parts n parts) none))
