-- The interval of an operation's result, from those of its operands.
use Rattle.std.proofs.Common.{◌≡◌, ℕ, zero, suc, ℤ, ◌≤ℤ◌, Bool, true, false, List, [], ◌∷◌, sym, subst, arith}
use Rattle.std.specs.Prelude.{neg_ℤ, ◌+ℤ◌, ◌-ℤ◌, if◌then◌else◌, Option, Some, None, slice_get}
use Rattle.std.specs.Map.{lookup}
use Rattle.std.proofs.lemmas.Int.{ints, clamps}
use Rattle.ras_cells.specs.declared.atom.Atom.TheVariants as atoms
use Rattle.ras_cells.specs.Atoms.{IsInRange}
use Rattle.ras_domain.specs.declared.region.Interval.{Interval}
use Rattle.ras_domain.specs.Region.{IsIn, is_empty}
use Rattle.ras_domain.specs.Boxes.{meet_of_axis}
use Rattle.spec_expressions.specs.Tree.{NameOf, is_same_name}
use Rattle.spec_expressions.specs.Shape.{Box}
use Rattle.spec_expressions.specs.Reach.{Boxes, bound_joined, box_named, box_or_none, difference_interval, interval_of_atom, negated_interval, sum_interval, within_wide}
use Rattle.spec_expressions.specs.Fits.{IsBoundedBy, LieWithin}
use Rattle.law_cells.proofs.Types.{some_same}
use Rattle.ras_domain.proofs.BoxTests.{not_fallen}

-- ---- within 64 bits

kept_bounds : (empty : Bool) (axis : Interval) (z : ℤ) → empty ≡ false → axis.lo ≤ℤ z → z ≤ℤ axis.hi → IsBoundedBy (if empty then None else Some axis) z
kept_bounds true axis z some low high = absurd cc
kept_bounds false axis z some low high = (low, high)

met_bounds : (axis wide : Interval) (z : ℤ) → axis.lo ≤ℤ z → z ≤ℤ axis.hi → wide.lo ≤ℤ z → z ≤ℤ wide.hi → ((meet_of_axis axis wide).lo ≤ℤ z) × (z ≤ℤ (meet_of_axis axis wide).hi)
met_bounds axis wide z low high least greatest = (omega (arith, ints, clamps), omega (arith, ints, clamps))

within_wide-bounds : (axis : Interval) (z : ℤ) → (axis.lo ≤ℤ z) × (z ≤ℤ axis.hi) → IsInRange atoms.Wide z → IsBoundedBy (within_wide axis) z
within_wide-bounds axis z between wide =
    let met = met_bounds axis (interval_of_atom atoms.Wide) z between.0 between.1 wide.0 wide.1 in
    let both : Interval = meet_of_axis axis (interval_of_atom atoms.Wide) in
    kept_bounds (is_empty both) both z (not_fallen both.lo z both.hi met.0 met.1) met.0 met.1

pub negated-bounds : (o : Option Interval) (x : ℤ) → IsBoundedBy o x → IsInRange atoms.Wide (neg_ℤ x) → IsBoundedBy (negated_interval o) (neg_ℤ x)
negated-bounds None x bounded wide = absurd bounded
negated-bounds (Some a) x bounded wide =
    within_wide-bounds (record { lo = neg_ℤ a.hi; hi = neg_ℤ a.lo }) (neg_ℤ x)
    (omega (arith, ints, bounded.1), omega (arith, ints, bounded.0)) wide

-- a join of intervals has every result of numbers of both
abbrev pub Joins : (Interval → Interval → Interval) → (ℤ → ℤ → ℤ) → Type 0
Joins join f =
    (a b : Interval) (x y : ℤ) → a.lo ≤ℤ x → x ≤ℤ a.hi → b.lo ≤ℤ y → y ≤ℤ b.hi → ((join a b).lo ≤ℤ f x y) × (f x y ≤ℤ (join a b).hi)

pub joined-bounds : (join : Interval → Interval → Interval) (f : ℤ → ℤ → ℤ) (a b : Option Interval) (x y : ℤ) → Joins join f → IsBoundedBy a x → IsBoundedBy b y
    → IsInRange atoms.Wide (f x y) → IsBoundedBy (bound_joined join a b) (f x y)
joined-bounds join f None b x y joins one two wide = absurd one
joined-bounds join f (Some a) None x y joins one two wide = absurd two
joined-bounds join f (Some a) (Some b) x y joins one two wide =
    within_wide-bounds (join a b) (f x y) (joins a b x y one.0 one.1 two.0 two.1) wide

pub sum-joins : Joins sum_interval (λ x y. x +ℤ y)
sum-joins a b x y low high least greatest = (omega (arith, ints), omega (arith, ints))

pub difference-joins : Joins difference_interval (λ x y. x -ℤ y)
difference-joins a b x y low high least greatest = (omega (arith, ints), omega (arith, ints))

-- ---- coordinates of variables

point-bounds : (axes : Box) (p : List ℤ) (k : ℕ) (z : ℤ) → IsIn p axes → slice_get p k ≡ Some z → IsBoundedBy (slice_get axes k) z
point-bounds [] [] k z within at = absurd cc
point-bounds [] (c ∷ p) k z within at = absurd within
point-bounds (axis ∷ axes) [] k z within at = absurd within
point-bounds (axis ∷ axes) (c ∷ p) zero z within at =
    subst (λ y. (axis.lo ≤ℤ y) × (y ≤ℤ axis.hi)) (some_same c z at) (within.0, within.1)
point-bounds (axis ∷ axes) (c ∷ p) (suc k) z within at = point-bounds axes p k z within.2 at

named-bounds : (same : Bool) (own : Box) (own_point : List ℤ) (boxes : Option Box) (points : Option (List ℤ)) (p : List ℤ) (k : ℕ) (z : ℤ) → IsIn own_point own
    → (points ≡ Some p → IsBoundedBy (slice_get (box_or_none boxes) k) z) → (if same then Some own_point else points) ≡ Some p → slice_get p k ≡ Some z
    → IsBoundedBy (slice_get (box_or_none (if same then Some own else boxes)) k) z
named-bounds true own own_point boxes points p k z within rest found at =
    point-bounds own own_point k z within (subst (λ q. slice_get q k ≡ Some z) (sym (some_same own_point p found)) at)
named-bounds false own own_point boxes points p k z within rest found at = rest found

-- a coordinate of a variable lies in its box
pub coordinate-bounds : (x : NameOf) (boxes : Boxes) (points : List (NameOf × List ℤ)) (p : List ℤ) (k : ℕ) (z : ℤ) → LieWithin boxes points
    → lookup (is_same_name x) points ≡ Some p → slice_get p k ≡ Some z → IsBoundedBy (slice_get (box_named boxes x) k) z
coordinate-bounds x [] [] p k z within found at = absurd cc
coordinate-bounds x [] (point ∷ points) p k z within found at = absurd within
coordinate-bounds x (own ∷ boxes) [] p k z within found at = absurd within
coordinate-bounds x (own ∷ boxes) (point ∷ points) p k z within found at =
    named-bounds (is_same_name x own.0) own.1 point.1 (lookup (is_same_name x) boxes) (lookup (is_same_name x) points) p k z within.1
    (λ later. coordinate-bounds x boxes points p k z within.3 later at)
    (subst (λ name. (if is_same_name x name then Some point.1 else lookup (is_same_name x) points) ≡ Some p) (sym within.0) found) at
