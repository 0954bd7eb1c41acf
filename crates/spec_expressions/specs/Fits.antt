-- Rows that fit the sources of a statement, and points that lie in the boxes of the variables in scope.
use Rattle.std.specs.Prelude.{◌≡◌, ◌*◌, ◌≤◌, ℤ, ◌≤ℤ◌, List, [], ◌∷◌, map, length, Option, Some, None, All}
use Rattle.ras_cells.specs.declared.cell.Cell.{Cell}
use Rattle.ras_cells.specs.declared.cell.Cell.TheVariants.{Null}
use Rattle.ras_cells.specs.declared.atom.Atom.TheVariants.{Long}
use Rattle.ras_cells.specs.Atoms.{AreInRange, IsInRange}
use Rattle.ras_cells.specs.Laws.{IsCellOf}
use Rattle.ras_cells.specs.Stored.{atoms_of}
use Rattle.ras_domain.specs.declared.TheConstants.{MAX_POINTS}
use Rattle.ras_domain.specs.declared.region.Interval.{Interval}
use Rattle.ras_domain.specs.Boxes.{Covers}
use Rattle.ras_domain.specs.Region.{HasSmallBounds, IsIn, IsOrdered, IsRegion, points_of, volume_of}
use Rattle.ras_syntax.specs.declared.typed.Kind.{Kind}
use Rattle.ras_syntax.specs.declared.typed.Kind.TheVariants as kinds
use Rattle.ras_syntax.specs.declared.typed.CheckedSource.{CheckedSource}
use Rattle.spec_expressions.specs.Tree.{NameOf}
use Rattle.spec_expressions.specs.Database.{Member}
use Rattle.spec_expressions.specs.Shape.{Box, Shape, scalar, array, box}
use Rattle.spec_expressions.specs.Reach.{Boxes}
use Rattle.ras_syntax.specs.declared.limits.TheConstants.{MAX_IDENTIFIER, MAX_STORED_NUMBERS}

-- ---- rows

-- the member of a row that a source goes over: its array is one of the source's set type
pub record IsMemberOf (source : CheckedSource) (member : Member) : Type 0 where
  pub iterator : member.iterator ≡ source.iterator
  pub of : member.of ≡ source.of
  -- an identifier is a number of 64 bits
  pub small_oid : member.oid ≤ MAX_IDENTIFIER
  pub region : IsRegion member.array.domain
  pub axes : length member.array.domain ≡ length source.of.bounds.items
  pub few_numbers : volume_of member.array.domain * length (atoms_of source.of.cell) ≤ MAX_STORED_NUMBERS
  pub each_point : map (λ entry. entry.0) member.array.stored ≡ points_of member.array.domain
  pub in_range : All (λ entry. AreInRange (atoms_of source.of.cell) entry.1) member.array.stored

abbrev pub AreMembersOf : List CheckedSource → List Member → Type 0
AreMembersOf [] [] = Unit {0}
AreMembersOf (source ∷ sources) (member ∷ members) = IsMemberOf source member × AreMembersOf sources members
AreMembersOf [] (member ∷ members) = ⊥
AreMembersOf (source ∷ sources) [] = ⊥

-- the domains of arrays that the sources go over
abbrev pub AreDomainsOf : List CheckedSource → List Box → Type 0
AreDomainsOf [] [] = Unit {0}
AreDomainsOf (source ∷ sources) (domain ∷ domains) =
    IsRegion domain × (length domain ≡ length source.of.bounds.items)
    × (volume_of domain * length (atoms_of source.of.cell) ≤ MAX_STORED_NUMBERS) × AreDomainsOf sources domains
AreDomainsOf [] (domain ∷ domains) = ⊥
AreDomainsOf (source ∷ sources) [] = ⊥

-- ---- variables

-- each variable stands for a point of its box, with coordinates of 32 bits
abbrev pub LieWithin : Boxes → List (NameOf × List ℤ) → Type 0
LieWithin [] [] = Unit {0}
LieWithin (x ∷ boxes) (y ∷ points) =
    (x.0 ≡ y.0) × IsIn y.1 x.1 × All (IsInRange Long) y.1 × LieWithin boxes points
LieWithin [] (y ∷ points) = ⊥
LieWithin (x ∷ boxes) [] = ⊥

-- ---- what an expression gives

-- a box whose intervals have numbers, with bounds of 32 bits, and which has at most 2^24 points
pub record IsSound (axes : Box) : Type 0 where
  pub small_bounds : All HasSmallBounds axes
  pub ordered : All IsOrdered axes
  pub few_points : volume_of axes ≤ MAX_POINTS

-- a shape that an expression of this kind may have: an array has as many axes as its kind, and at most 2^24 stored numbers
abbrev pub IsShapeOf : Kind → Shape → Type 0
IsShapeOf (kinds.Scalar cell) scalar = Unit {0}
IsShapeOf (kinds.Array cell n) (array axes) = (length axes ≡ n) × (volume_of axes * length (atoms_of cell) ≤ MAX_STORED_NUMBERS)
IsShapeOf (kinds.Domain n) (box axes) = length axes ≡ n
IsShapeOf (kinds.Point n) scalar = Unit {0}
IsShapeOf kind shape = ⊥

-- a point at which an expression of this shape has a cell; a scalar has the same one at each
abbrev pub IsPointOf : Shape → List ℤ → Type 0
IsPointOf (array axes) p = IsIn p axes
IsPointOf shape p = Unit {0}

-- a box of such points
abbrev pub IsAround : Shape → Box → Type 0
IsAround (array axes) around = Covers axes around
IsAround shape around = Unit {0}

-- a cell that an expression of this kind may have; a domain and a point have none of their own
abbrev pub IsCellOfKind : Kind → Cell → Type 0
IsCellOfKind (kinds.Scalar type) cell = IsCellOf (atoms_of type) cell
IsCellOfKind (kinds.Array type n) cell = IsCellOf (atoms_of type) cell
IsCellOfKind kind cell = cell ≡ Null

-- a number lies in the interval, if there is one
abbrev pub IsBoundedBy : Option Interval → ℤ → Type 0
IsBoundedBy None z = ⊥
IsBoundedBy (Some axis) z = (axis.lo ≤ℤ z) × (z ≤ℤ axis.hi)
