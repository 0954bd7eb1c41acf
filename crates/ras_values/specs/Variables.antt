-- Where the variable of a name stands among those in scope.
use Rattle.std.specs.Prelude.{◌≡◌, ℕ, ℤ, List, length, reverse, slice_get, Option, Some, None}
use Rattle.std.specs.List.{zip}
use Rattle.std.specs.Map.{lookup}
use Rattle.spec_expressions.specs.Tree.{NameOf, is_same_name}

-- the point at a place, outermost first
abbrev pub point_at_place : Option ℕ → List (List ℤ) → Option (List ℤ)
point_at_place None points = None
point_at_place (Some place) points = slice_get points place

-- whatever points the variables stand for, the innermost one of this name is the one at this place
pub record FindsVariable (name : NameOf) (names : List NameOf) (found : Option ℕ) : Type 0 where
  pub each : (points : List (List ℤ)) → length points ≡ length names → point_at_place found points ≡ lookup (is_same_name name) (reverse (zip names points))
