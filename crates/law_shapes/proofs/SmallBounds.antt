-- Numbers and bounds of 32 bits.
use Rattle.std.proofs.Common.{◌≡◌, ℤ, ◌↔◌, true, List, [], ◌∷◌, All, FitsSigned, arith}
use Rattle.std.specs.Int.{w32}
use Rattle.std.proofs.lemmas.Int.{ints}
use Rattle.std.proofs.lemmas.List.Elements.{All-nil, All-cons, All-head, All-tail}
use Rattle.ras_cells.specs.declared.atom.Atom.TheVariants.{Long}
use Rattle.ras_cells.specs.Atoms.{IsInRange}
use Rattle.ras_cells.proofs.Ranges.{IsInRange-is_in_range}
use Rattle.ras_domain.specs.declared.region.Interval.{Interval}
use Rattle.ras_domain.specs.Region.{HasSmallBounds, IsIn}
use Rattle.spec_expressions.specs.Shape.{is_small}

-- the test of a number of 32 bits
pub IsInRange-is_small : (z : ℤ) → is_small z ≡ true ↔ IsInRange Long z
IsInRange-is_small z = IsInRange-is_in_range Long z

-- the two ways to say that bounds have 32 bits
pub Long-FitsSigned : (z : ℤ) → FitsSigned w32 z → IsInRange Long z
Long-FitsSigned z fits = (omega (arith, ints), omega (arith, ints))

pub FitsSigned-Long : (z : ℤ) → IsInRange Long z → FitsSigned w32 z
FitsSigned-Long z within = let low = within.0 in let high = within.1 in omega (arith, ints, low, high)

pub Long-HasSmallBounds : (axis : Interval) → HasSmallBounds axis → IsInRange Long axis.lo × IsInRange Long axis.hi
Long-HasSmallBounds axis small = (Long-FitsSigned axis.lo small.0, Long-FitsSigned axis.hi small.1)

pub HasSmallBounds-Long : (axis : Interval) → IsInRange Long axis.lo → IsInRange Long axis.hi → HasSmallBounds axis
HasSmallBounds-Long axis low high = (FitsSigned-Long axis.lo low, FitsSigned-Long axis.hi high)

-- the coordinates of a point of a box with bounds of 32 bits have 32 bits
pub Long-IsIn : (p : List ℤ) (axes : List Interval) → IsIn p axes → All HasSmallBounds axes → All (IsInRange Long) p
Long-IsIn [] [] within small = All-nil (IsInRange Long)
Long-IsIn [] (axis ∷ axes) within small = absurd within
Long-IsIn (c ∷ p) [] within small = absurd within
Long-IsIn (c ∷ p) (axis ∷ axes) within small =
    let bounds = Long-HasSmallBounds axis (All-head HasSmallBounds axis axes small) in
    All-cons (IsInRange Long) c p
    (omega (arith, ints, within.0, bounds.0.0), omega (arith, ints, within.1, bounds.1.1))
    (Long-IsIn p axes within.2 (All-tail HasSmallBounds axis axes small))
