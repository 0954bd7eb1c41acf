-- A box has at most one fault, and a region none.
use Rattle.std.proofs.Common.{◌≡◌, ◌<◌, ◌<ℤ◌, List, [], length, ◌⊎◌, inl, inr, refl, subst, ap, arith, All}
use Rattle.std.specs.List.{Any}
use Rattle.std.proofs.lemmas.Int.{ints}
use Rattle.ras_domain.specs.declared.region.Interval.{Interval}
use Rattle.ras_domain.specs.declared.region.DomainFault.{DomainFault}
use Rattle.ras_domain.specs.declared.region.DomainFault.TheVariants.{TooManyAxes, BoundOut, Empty, TooLarge}
use Rattle.ras_domain.specs.Region.{HasDomainFault, HasSmallBounds, IsOrdered, IsRegion}

-- where each element has P, none has what P excludes
none_from_All : {X : Type 0} (P Q : X → Type 0) → ((x : X) → P x → Q x → ⊥) → (xs : List X) → All P xs → Any Q xs → ⊥
none_from_All P Q clash xs all any =
    clash any.1 (subst P any.3 (all any.0 any.1 any.2)) any.4

-- small bounds are not out
bounds_in : (axes : List Interval) → All HasSmallBounds axes → Any (λ axis. ¬ HasSmallBounds axis) axes → ⊥
bounds_in = none_from_All HasSmallBounds (λ axis. ¬ HasSmallBounds axis) (λ axis small out. out small)

-- some ordered intervals are not empty
not_empty : (axes : List Interval) → 0 < length axes → All IsOrdered axes → (axes ≡ []) ⊎ Any (λ axis. axis.hi <ℤ axis.lo) axes → ⊥
not_empty axes some ordered (inl none) = absurd (omega (arith, ap length none))
not_empty axes some ordered (inr any) =
    none_from_All IsOrdered (λ axis. axis.hi <ℤ axis.lo) (λ axis low high. absurd (omega (arith, ints, low, high))) axes ordered any

-- two faults of a box are the same
pub HasFault-one : (axes : List Interval) (f g : DomainFault) → HasDomainFault axes f → HasDomainFault axes g → f ≡ g
HasFault-one axes TooManyAxes TooManyAxes h k = refl
HasFault-one axes TooManyAxes BoundOut h k = absurd (omega (arith, h, k.0))
HasFault-one axes TooManyAxes Empty h k = absurd (omega (arith, h, k.0))
HasFault-one axes TooManyAxes TooLarge h k = absurd (omega (arith, h, k.0))
HasFault-one axes BoundOut TooManyAxes h k = absurd (omega (arith, h.0, k))
HasFault-one axes BoundOut BoundOut h k = refl
HasFault-one axes BoundOut Empty h k = absurd (bounds_in axes k.1 h.1)
HasFault-one axes BoundOut TooLarge h k = absurd (bounds_in axes k.1 h.1)
HasFault-one axes Empty TooManyAxes h k = absurd (omega (arith, h.0, k))
HasFault-one axes Empty BoundOut h k = absurd (bounds_in axes h.1 k.1)
HasFault-one axes Empty Empty h k = refl
HasFault-one axes Empty TooLarge h k = absurd (not_empty axes k.2 k.3 h.2)
HasFault-one axes TooLarge TooManyAxes h k = absurd (omega (arith, h.0, k))
HasFault-one axes TooLarge BoundOut h k = absurd (bounds_in axes h.1 k.1)
HasFault-one axes TooLarge Empty h k = absurd (not_empty axes h.2 h.3 k.2)
HasFault-one axes TooLarge TooLarge h k = refl

-- a region has none
pub HasFault-none : (axes : List Interval) (f : DomainFault) → IsRegion axes → HasDomainFault axes f → ⊥
HasFault-none axes TooManyAxes region h = absurd (omega (arith, region.few_axes, h))
HasFault-none axes BoundOut region h = bounds_in axes region.small_bounds h.1
HasFault-none axes Empty region h = not_empty axes region.some_axes region.ordered h.2
HasFault-none axes TooLarge region h = absurd (omega (arith, region.few_points, h.4))
