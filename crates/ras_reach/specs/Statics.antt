-- Values of static expressions, written bounds and offsets, as the code finds them.
use Rattle.std.specs.Prelude.{ℤ, not, ◌&&◌, int_lt, if◌then◌else◌, List, [], ◌∷◌, ◌++◌, Option, Some, None, Err, is_ok, slice_get}
use Rattle.std.specs.Result.{result_ok}
use Rattle.ras_cells.specs.declared.cell.CellFault.TheVariants.{Overflow}
use Rattle.ras_domain.specs.declared.region.Interval.{Interval}
use Rattle.ras_syntax.specs.declared.typed.TypedExpr.{TypedExpr}
use Rattle.spec_expressions.specs.Tree.{tree_of, lower, upper}
use Rattle.spec_expressions.specs.Shape.{Box, Bound, is_small, shape_of, side_of, static_of}
use Rattle.ras_reach.specs.declared.forms.PartForm.{PartForm}
use Rattle.ras_reach.specs.declared.forms.PartForm.TheVariants.{Component, Lower, Upper}

-- ---- lists of which one item may be missing

abbrev pub with_found : {A : Type 0} → Option A → Option (List A) → Option (List A)
with_found None others = None
with_found (Some x) None = None
with_found (Some x) (Some xs) = Some (x ∷ xs)

-- what is found of each item, where something is found of all
abbrev pub all_found : {X A : Type 0} → (X → Option A) → List X → Option (List A)
all_found find [] = Some []
all_found find (x ∷ xs) = with_found (find x) (all_found find xs)

-- behind what was found before
abbrev pub all_found_after : {A : Type 0} → List A → Option (List A) → Option (List A)
all_found_after before None = None
all_found_after before (Some others) = Some (before ++ others)

abbrev pub found_or_none : {A : Type 0} → Option (List A) → List A
found_or_none None = []
found_or_none (Some xs) = xs

-- ---- values

-- of a part, by the box of its whole
abbrev pub part_value_of : PartForm → Box → Bound
part_value_of Component axes = Err Overflow
part_value_of Lower axes = side_of lower (slice_get axes 0)
part_value_of Upper axes = side_of upper (slice_get axes 0)

-- of an expression that has a shape
abbrev pub number_found : List Box → TypedExpr → Option ℤ
number_found domains e = if is_ok (shape_of domains (tree_of e)) then result_ok (static_of domains (tree_of e)) else None

-- the interval between two bounds that have values of 32 bits, where it isn't empty
abbrev pub interval_between : Option ℤ → Option ℤ → Option Interval
interval_between None hi = None
interval_between (Some lo) None = None
interval_between (Some lo) (Some hi) = if is_small lo && is_small hi && not (int_lt hi lo) then Some (record { lo = lo; hi = hi }) else None

abbrev pub interval_found : List Box → TypedExpr × TypedExpr → Option Interval
interval_found domains both = interval_between (number_found domains both.0) (number_found domains both.1)
