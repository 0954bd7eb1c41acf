-- Boxes of written domains and offsets, as they are prepared: each where all its parts have values, and else none.
use Rattle.std.specs.Prelude.{ℤ, Bool, true, false, if◌then◌else◌, ◌&&◌, int_le, List, [], ◌∷◌, Option, Some, None, Result, Ok, Err}
use Rattle.ras_domain.specs.declared.region.Interval.{Interval}
use Rattle.spec_expressions.specs.Tree.{Tree, Trees, Pairs, no_trees, trees, no_pairs, pairs}
use Rattle.spec_expressions.specs.Shape.{Box, Bound, ShapeMisfit, is_small, shape_of, static_of}

abbrev pub has_outcome : {A : Type 0} → Result A ShapeMisfit → Bool
has_outcome (Ok a) = true
has_outcome (Err misfit) = false

abbrev pub all_or_none : {A : Type 0} → Option (List A) → List A
all_or_none None = []
all_or_none (Some xs) = xs

-- one more in front, where there is one and where there are the others
abbrev pub one_and_all : {A : Type 0} → Option A → Option (List A) → Option (List A)
one_and_all None xs = None
one_and_all (Some x) None = None
one_and_all (Some x) (Some xs) = Some (x ∷ xs)

-- the interval between two bounds, where both are numbers of 32 bits and don't fall
abbrev pub between_bounds : Bound → Bound → Option Interval
between_bounds (Ok lo) (Ok hi) = if is_small lo && is_small hi && int_le lo hi then Some (record { lo = lo; hi = hi }) else None
between_bounds (Ok lo) (Err fault) = None
between_bounds (Err fault) hi = None

abbrev pub axis_of_bounds : List Box → Tree → Tree → Option Interval
axis_of_bounds domains a b =
    if has_outcome (shape_of domains a) && has_outcome (shape_of domains b) then between_bounds (static_of domains a) (static_of domains b) else None

abbrev pub bounds_between : List Box → Pairs → Option Box
bounds_between domains no_pairs = Some []
bounds_between domains (pairs a b ps) = one_and_all (axis_of_bounds domains a b) (bounds_between domains ps)

abbrev pub value_if_any : Bound → Option ℤ
value_if_any (Ok z) = Some z
value_if_any (Err fault) = None

abbrev pub offset_value : List Box → Tree → Option ℤ
offset_value domains e = if has_outcome (shape_of domains e) then value_if_any (static_of domains e) else None

abbrev pub all_offsets : List Box → Trees → Option (List ℤ)
all_offsets domains no_trees = Some []
all_offsets domains (trees e es) = one_and_all (offset_value domains e) (all_offsets domains es)
